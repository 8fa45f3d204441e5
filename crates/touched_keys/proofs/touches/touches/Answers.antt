use Rattle.touched_keys.proofs.Placed.{placed}
use Rattle.touched_keys.proofs.touches.touches.Goals as goal

pub returns : goal.returns
returns c = placed c.args.store.now.entries c.args.place c.entry_at-entry.result.now c.entry_at-entry.ensures c.args.controller c.args.name.now _ _ _ c.touches_of.ensures c.as_ref-new.ensures.value c.object_before-old.ensures
