use Rattle.std.proofs.Common.{Bool, ◌+◌, drop, sym, ap, ◌∙◌}
use Rattle.std.specs.Prelude.{◌||◌}
use Rattle.std.specs.List.{list_any}
use Rattle.resource_types.specs.Lookups.{state, of_kind, in_space, is_naming}
use Rattle.resource_types.proofs.Lists.{any-next}
use Rattle.resource_types.proofs.Ordered.{naming-space}
use Rattle.resource_types.proofs.Spaces.{any-in_space}
use Rattle.resource_types.proofs.lookups.is_target_of.Goals as goal

pub loop-place-init : goal.loop-place-init
loop-place-init c =
    let test = is_naming c.args.kind c.args.name.now in
    ap (list_any test) (c.walk_space-objects.ensures ∙ ap (λ space. in_space space (of_kind c.args.kind (state c.args.store.now.entries))) c.as_str.ensures)
    ∙ any-in_space test c.args.name.now.space (naming-space c.args.kind c.args.name.now) (of_kind c.args.kind (state c.args.store.now.entries))

pub returns-then-is_naming : goal.returns-then-is_naming
returns-then-is_naming c =
    let test = is_naming c.args.kind c.args.name.now in
    let objects = c.walk_space-objects.result in
    ap (λ (b : Bool). b || list_any test (drop (c.loop-place.place + 1) objects)) (sym (sym c.is_naming.ensures ∙ c.if-is_naming.true))
    ∙ sym (any-next test objects c.loop-place.place c.at.result.now c.at.ensures) ∙ c.loop-place.invariant

pub loop-place-preserved : goal.loop-place-preserved
loop-place-preserved c =
    let test = is_naming c.args.kind c.args.name.now in
    let objects = c.walk_space-objects.result in
    ap (λ (b : Bool). b || list_any test (drop (c.loop-place.place + 1) objects)) (sym (sym c.is_naming.ensures ∙ c.if-is_naming.false))
    ∙ sym (any-next test objects c.loop-place.place c.at.result.now c.at.ensures) ∙ c.loop-place.invariant
