use Rattle.std.proofs.Common.{ap, ◌∙◌}
use Rattle.resource_types.specs.declared.names.Kind.TheVariants as kind
use Rattle.resource_types.specs.Lookups.{in_space, of_kind, state}
use Rattle.revision_gc.proofs.Chosen.{chosen_as}
use Rattle.revision_gc.proofs.collector.collected.Goals as goal

pub returns : goal.returns
returns c =
    let st = state c.args.store.now.entries in
    chosen_as c.args.settings.now st c.args.configuration.now c.args.moment _ _ _ _ _ _ _
    (c.walk_space-revisions.ensures ∙ ap (λ space. in_space space (of_kind kind.Revision st)) c.as_str-space.ensures)
    c.swept-seen.ensures.count c.swept-seen.ensures.stale c.swept-seen.ensures.first
    c.is_there.ensures c.choose-pick.ensures c.picked.ensures
