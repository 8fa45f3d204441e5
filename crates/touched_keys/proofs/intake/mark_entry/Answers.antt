use Rattle.std.proofs.Common.{◌≡◌, true, sym, ◌∙◌}
use Rattle.touched_keys.specs.Places.{touches_at}
use Rattle.touched_keys.proofs.Adding.{adds_by}
use Rattle.touched_keys.proofs.Taking.{entry_touches}
use Rattle.touched_keys.proofs.intake.mark_entry.Goals as goal

pub returns-in_err-mark_all-clause-adds : goal.returns-in_err-mark_all-clause-adds
returns-in_err-mark_all-clause-adds c =
    adds_by _ (λ pick. touches_at c.args.store.now.entries c.args.place pick ≡ true) _ _
    (λ pick t. sym (entry_touches c.args.store.now.entries c.args.place c.entry_at-entry.result.now c.entry_at-entry.ensures _ _ c.as_ref.ensures.value c.object_before.ensures pick) ∙ t) c.in_err-mark_all.ensures.adds

pub returns-clause-adds : goal.returns-clause-adds
returns-clause-adds c =
    adds_by _ (λ pick. touches_at c.args.store.now.entries c.args.place pick ≡ true) _ _
    (λ pick t. sym (entry_touches c.args.store.now.entries c.args.place c.entry_at-entry.result.now c.entry_at-entry.ensures _ _ c.as_ref.ensures.value c.object_before.ensures pick) ∙ t) c.in_ok-mark_all.ensures.adds

pub returns-clause-all : goal.returns-clause-all
returns-clause-all c = λ pick known t.
    c.in_ok-mark_all.ensures.all pick.controller pick.name known
    (entry_touches c.args.store.now.entries c.args.place c.entry_at-entry.result.now c.entry_at-entry.ensures _ _ c.as_ref.ensures.value c.object_before.ensures pick ∙ t)
