use Rattle.std.proofs.Common.{◌≡◌, true, ℕ, ◌<◌, Some}
use Rattle.std.specs.Prelude.{slice_get}
use Rattle.resource_types.specs.declared.names.Controller.TheVariants as controller
use Rattle.resource_types.specs.declared.objects.Object.{Object}
use Rattle.control_rules.specs.Slots.{slot_key}
use Rattle.touched_keys.specs.Marks.{is_collector, is_marked, Adds}
use Rattle.touched_keys.proofs.intake.mark_every_collector.Given as goal

-- the Collectors of the Configurations up to this place are marked
abbrev pub invariant-loop-place : goal.invariant-loop-place
invariant-loop-place l = record {
  adds : Adds (λ pick. is_collector pick.controller ≡ true) l.fn.keys l.keys;
  all : (i : ℕ) (o : Object) → i < l.place → slice_get l.configurations i ≡ Some o → is_marked (slot_key controller.Collector o.key.name) l.keys ≡ true;
}
