use Rattle.std.proofs.Common.{take, cond, ap, sym, ◌∙◌}
use Rattle.std.specs.Option.{option_copied}
use Rattle.std.specs.Ordering.{is_eq}
use Rattle.version_store.specs.State.{find, state}
use Rattle.version_store.proofs.Prefix.{find-next}
use Rattle.version_store.proofs.plain.find.Goals.{then-is_eq, else-is_eq}
use Rattle.version_store.proofs.plain.find.Goals as goal

pub loop-entry-preserved : goal.loop-entry-preserved
loop-entry-preserved g c =
    let item = g.O.Item in
    let cmp = g.O.Key.Ord.cmp in
    let entries = c.args.entries.now in
    let key = c.args.key.now in
    let entry = c.entry-item.result in
    let before = find item.key cmp key (state item.key cmp (take c.loop-entry.entry-index entries)) in
    let next = find-next item cmp g.met.O.Key.Ord.total entries c.loop-entry.entry-index entry key c.requires c.loop-entry-test.true c.entry-item.is in
    let test = c.is_eq.ensures ∙ ap is_eq c.cmp.ensures in
    elim c.if-is_eq.branch [
      | then-is_eq w ↦ ap option_copied w.standing-is ∙ w.as_ref-standing.ensures.value ∙ sym (next ∙ ap (λ b. cond b entry.object before) (sym test ∙ w.if-is_eq.true))
      | else-is_eq w ↦ ap option_copied w.standing-is ∙ c.loop-entry.invariant ∙ sym (next ∙ ap (λ b. cond b entry.object before) (sym test ∙ w.if-is_eq.false))
    ]
