use Rattle.std.proofs.Common.{◌≡◌, take}
use Rattle.std.specs.Option.{option_copied}
use Rattle.version_store.specs.State.{find, state}
use Rattle.version_store.proofs.plain.find.Given as goal

abbrev pub invariant-loop-entry : goal.invariant-loop-entry
invariant-loop-entry g l =
    option_copied l.standing ≡ find g.O.Item.key g.O.Key.Ord.cmp l.key (state g.O.Item.key g.O.Key.Ord.cmp (take l.entry-index l.entries))
