use Rattle.std.proofs.Common.{◌≡◌, true, false, sym, ap, ◌∙◌}
use Rattle.std.specs.Ordering.{is_eq}
use Rattle.slot_table.proofs.Place.{read_at, search_found, search_other, search_past}
use Rattle.slot_table.proofs.search.search.Goals.{else-place-rows-via-then-place-rows+else-is_eq, else-place-rows-via-else-place-rows}
use Rattle.slot_table.proofs.search.search.Goals as goal

pub returns-then-is_eq-clause-place : goal.returns-then-is_eq-clause-place
returns-then-is_eq-clause-place g c =
    let total = g.met.R.Key.Ord.total in
    let cmp = g.R.Key.Ord.cmp in
    let key_of = g.R.Keyed.key in
    let rows = c.args.rows.now in
    let key = c.args.key.now in
    let here : is_eq (cmp (key_of c.index-rows-place.result) key) ≡ true =
    ap (λ k. is_eq (cmp k key)) (sym c.key.ensures) ∙ ap is_eq (sym c.cmp.ensures) ∙ sym c.is_eq.ensures ∙ c.if-is_eq.true in
    search_found key_of cmp total rows c.requires key c.place_of-place.result c.index-rows-place.result c.place_of-place.ensures.place
    (read_at rows _ c.index-rows-place.result c.if-place-rows.true c.index-rows-place.is) here

pub returns-else-place-rows-clause-place : goal.returns-else-place-rows-clause-place
returns-else-place-rows-clause-place g c =
    let total = g.met.R.Key.Ord.total in
    let cmp = g.R.Key.Ord.cmp in
    let key_of = g.R.Keyed.key in
    let rows = c.args.rows.now in
    let key = c.args.key.now in
    let place = c.place_of-place.result in
    elim c.else-place-rows.branch [
      | else-place-rows-via-then-place-rows+else-is_eq w ↦
          let other : is_eq (cmp (key_of w.index-rows-place.result) key) ≡ false =
          ap (λ k. is_eq (cmp k key)) (sym w.key.ensures) ∙ ap is_eq (sym w.cmp.ensures) ∙ sym w.is_eq.ensures ∙ w.if-is_eq.false in
          search_other key_of cmp total rows c.requires key place w.index-rows-place.result c.place_of-place.ensures.place
          (read_at rows _ w.index-rows-place.result w.if-place-rows.true w.index-rows-place.is) other
      | else-place-rows-via-else-place-rows w ↦
          search_past key_of cmp total rows c.requires key place c.place_of-place.ensures.place w.if-place-rows.false
    ]
