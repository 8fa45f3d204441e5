use Rattle.std.proofs.Common.{Bool, None, ◌+◌, drop, ap, ◌∙◌}
use Rattle.std.specs.Prelude.{◌&&◌}
use Rattle.std.specs.Option.{option_copied}
use Rattle.resource_types.specs.declared.names.Kind.TheVariants as kind
use Rattle.resource_types.specs.declared.objects.Object.{Object}
use Rattle.resource_types.specs.Objects.{has_been_ready}
use Rattle.resource_types.specs.Lookups.{state, of_kind, in_space, later, latest_from, is_owned_by}
use Rattle.resource_types.proofs.Exact.{left}
use Rattle.resource_types.proofs.Latest.{latest-next, latest-law}
use Rattle.resource_types.proofs.Ordered.{state-order, owned-kind, owned-space}
use Rattle.resource_types.proofs.Spaces.{latest-in_space}
use Rattle.resource_types.proofs.lookups.newest_ready.Goals as goal

pub loop-place-init : goal.loop-place-init
loop-place-init c =
    let owner = c.args.configuration.now in
    let counts : Object → Bool = (λ r. is_owned_by owner r && has_been_ready r) in
    ap (latest_from counts None) (c.walk_space-revisions.ensures ∙ ap (λ space. in_space space (of_kind kind.Revision (state c.args.store.now.entries))) c.as_str-space.ensures)
    ∙ latest-in_space counts owner.key.name.space (λ r e. owned-space owner r (left (is_owned_by owner r) (has_been_ready r) e)) None (of_kind kind.Revision (state c.args.store.now.entries))

pub loop-place-preserved : goal.loop-place-preserved
loop-place-preserved c =
    let counts : Object → Bool = (λ r. is_owned_by c.args.configuration.now r && has_been_ready r) in
    let revisions = c.walk_space-revisions.result in
    let revision = c.at-revision.result.now in
    let best = option_copied c.loop-place.best in
    ap (λ b. latest_from counts b (drop (c.loop-place.place + 1) revisions)) (c.later-best.ensures ∙ ap (λ (b : Bool). later b best revision) c.owns_ready.ensures)
    ∙ latest-next counts best revisions c.loop-place.place revision c.at-revision.ensures ∙ c.loop-place.invariant

pub returns-clause-latest : goal.returns-clause-latest
returns-clause-latest c =
    let owner = c.args.configuration.now in
    latest-law (λ r. is_owned_by owner r && has_been_ready r) (λ r e. owned-kind owner r (left (is_owned_by owner r) (has_been_ready r) e)) (state c.args.store.now.entries) (state-order c.args.store.now.entries)
