use Rattle.std.proofs.Common.{◌≡◌, ◌≤◌, length, true, false, cond, Some, None, Ok, Err, ap, sym, ◌∙◌, arith}
use Rattle.std.specs.Ordering.{is_eq}
use Rattle.std.proofs.lemmas.Option.{slice_get_past}
use Rattle.version_store.specs.Index.{keys_at}
use Rattle.version_store.proofs.Keys.{length-keys_at}
use Rattle.version_store.proofs.Places.{search_at}
use Rattle.version_store.proofs.index.search.Goals.{else-place-versions-via-then-place-versions+else-is_eq, else-place-versions-via-else-place-versions}
use Rattle.version_store.proofs.index.search.Goals as goal

pub returns-then-is_eq-clause-place : goal.returns-then-is_eq-clause-place
returns-then-is_eq-clause-place g c =
    let cmp = g.O.Key.Ord.cmp in
    let key = g.S.SearchKey.sought c.args.sought.now in
    let keys = keys_at c.args.entries.now c.args.versions.now in
    let here : is_eq (cmp c.entry_at.result.now.key key) ≡ true = ap is_eq (sym c.compare.ensures) ∙ sym c.is_eq.ensures ∙ c.if-is_eq.true in
    sym (search_at cmp key keys c.place_of-place.result (Some c.entry_at.result.now.key) c.place_of-place.ensures.place c.entry_at.ensures.key ∙ ap (λ b. cond b (Ok c.place_of-place.result) (Err c.place_of-place.result)) here)

pub returns-else-place-versions-clause-place : goal.returns-else-place-versions-clause-place
returns-else-place-versions-clause-place g c =
    let cmp = g.O.Key.Ord.cmp in
    let key = g.S.SearchKey.sought c.args.sought.now in
    let entries = c.args.entries.now in
    let versions = c.args.versions.now in
    let keys = keys_at entries versions in
    let place = c.place_of-place.result in
    elim c.else-place-versions.branch [
      | else-place-versions-via-then-place-versions+else-is_eq w ↦
          let here : is_eq (cmp w.entry_at.result.now.key key) ≡ false = ap is_eq (sym w.compare.ensures) ∙ sym w.is_eq.ensures ∙ w.if-is_eq.false in
          sym (search_at cmp key keys place (Some w.entry_at.result.now.key) c.place_of-place.ensures.place w.entry_at.ensures.key ∙ ap (λ b. cond b (Ok place) (Err place)) here)
      | else-place-versions-via-else-place-versions w ↦
          let past : length keys ≤ place = omega (arith, w.if-place-versions.false, length-keys_at entries versions c.requires.within) in
          sym (search_at cmp key keys place None c.place_of-place.ensures.place (slice_get_past keys place past))
    ]
