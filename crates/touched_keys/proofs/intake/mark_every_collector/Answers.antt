use Rattle.std.proofs.Common.{◌≡◌, true, refl, sym, ap, ◌∙◌, arith}
use Rattle.resource_types.specs.declared.names.Controller.TheVariants as controller
use Rattle.resource_types.specs.Lookups.{state}
use Rattle.control_rules.specs.Slots.{slot_key}
use Rattle.touched_keys.specs.Marks.{is_collector, is_marked}
use Rattle.touched_keys.proofs.Adding.{adds_then, adds_mark, mark_here}
use Rattle.touched_keys.proofs.Taking.{collected_next, collected_all}
use Rattle.touched_keys.proofs.intake.mark_every_collector.Goals as goal

pub loop-place-preserved : goal.loop-place-preserved
loop-place-preserved c =
    let pick = slot_key controller.Collector c.at.result.now.key.name in
    let one = adds_mark (λ pick. is_collector pick.controller ≡ true) pick c.loop-place.keys c.mark.new.keys c.in_ok-mark.ensures.ok refl in
    record {
      adds = adds_then (λ pick. is_collector pick.controller ≡ true) _ _ _ c.loop-place.invariant.adds one;
      all =
          collected_next (λ pick. is_collector pick.controller ≡ true) c.walk-configurations.result c.loop-place.place c.at.result.now c.loop-place.keys c.mark.new.keys c.at.ensures one
          (ap (is_marked pick) c.in_ok-mark.ensures.ok ∙ mark_here pick c.loop-place.keys) c.loop-place.invariant.all;
    }

pub returns-clause-all : goal.returns-clause-all
returns-clause-all c =
    collected_all (state c.args.store.now.entries) c.walk-configurations.result c.loop-place.place c.loop-place.keys c.walk-configurations.ensures (omega (arith, c.loop-place-test.false, c.len-place-end.ensures)) c.loop-place.invariant.all
