use Rattle.std.proofs.Common.{Bool, None, ◌+◌, drop, ap, ◌∙◌}
use Rattle.std.specs.Option.{option_copied}
use Rattle.resource_types.specs.declared.names.Kind.TheVariants as kind
use Rattle.resource_types.specs.declared.objects.Object.{Object}
use Rattle.resource_types.specs.Lookups.{state, of_kind, in_space, later, latest_from, is_owned_by}
use Rattle.resource_types.proofs.Latest.{latest-next, latest-law}
use Rattle.resource_types.proofs.Ordered.{state-order, owned-kind, owned-space}
use Rattle.resource_types.proofs.Spaces.{latest-in_space}
use Rattle.resource_types.proofs.lookups.newest_owned.Goals as goal

pub loop-place-init : goal.loop-place-init
loop-place-init c =
    let owner = c.args.configuration.now in
    ap (latest_from (is_owned_by owner) None) (c.walk_space-revisions.ensures ∙ ap (λ space. in_space space (of_kind kind.Revision (state c.args.store.now.entries))) c.as_str-space.ensures)
    ∙ latest-in_space (is_owned_by owner) owner.key.name.space (owned-space owner) None (of_kind kind.Revision (state c.args.store.now.entries))

pub loop-place-preserved : goal.loop-place-preserved
loop-place-preserved c =
    let counts : Object → Bool = is_owned_by c.args.configuration.now in
    let revisions = c.walk_space-revisions.result in
    let revision = c.at-revision.result.now in
    let best = option_copied c.loop-place.best in
    ap (λ b. latest_from counts b (drop (c.loop-place.place + 1) revisions)) (c.later-best.ensures ∙ ap (λ (b : Bool). later b best revision) c.owns.ensures)
    ∙ latest-next counts best revisions c.loop-place.place revision c.at-revision.ensures ∙ c.loop-place.invariant

pub returns-clause-latest : goal.returns-clause-latest
returns-clause-latest c =
    latest-law (is_owned_by c.args.configuration.now) (owned-kind c.args.configuration.now) (state c.args.store.now.entries) (state-order c.args.store.now.entries)
