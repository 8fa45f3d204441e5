use Rattle.std.proofs.Common.{◌≡◌, ◌⊎◌, true}
use Rattle.resource_types.specs.declared.names.SlotKey.{SlotKey}
use Rattle.resource_types.specs.Lookups.{state}
use Rattle.control_rules.specs.Slots.{is_key}
use Rattle.control_touches.specs.Touches.{is_touched_since}
use Rattle.touched_keys.specs.Marks.{is_marked, Adds}
use Rattle.touched_keys.proofs.intake.mark_entries.Given as goal

-- the keys that the entries up to this place touch are marked
abbrev pub invariant-loop-place : goal.invariant-loop-place
invariant-loop-place l = record {
  adds : Adds (λ pick. is_touched_since l.fn.store.entries l.fn.upto pick ≡ true) l.fn.keys l.keys;
  back : (pick : SlotKey) → is_touched_since l.fn.store.entries l.place pick ≡ true → is_touched_since l.fn.store.entries l.fn.upto pick ≡ true;
  all : (pick : SlotKey) → is_key pick (state l.fn.store.entries) ≡ true → is_touched_since l.fn.store.entries l.fn.upto pick ≡ true
      → (is_marked pick l.keys ≡ true) ⊎ (is_touched_since l.fn.store.entries l.place pick ≡ true);
}
