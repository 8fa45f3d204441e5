use Rattle.std.proofs.Common.{ap, sym, ◌∙◌}
use Rattle.std.specs.Prelude.{◌&&◌, ◌==◌, option_map}
use Rattle.std.specs.Option.{option_copied}
use Rattle.resource_types.specs.declared.names.Kind.TheVariants as kind
use Rattle.resource_types.specs.declared.objects.Object.{Object}
use Rattle.resource_types.specs.Objects.{generation_of}
use Rattle.resource_types.specs.Lookups.{state, find, key_of, is_owned_by, current_revision, version_of}
use Rattle.resource_types.proofs.Spaces.{version-given}
use Rattle.resource_types.proofs.lookups.current.Goals as goal

pub returns : goal.returns
returns c =
    let st = state c.args.store.now.entries in
    let owner = c.args.configuration.now in
    ap (option_map version_of) (ap option_copied (sym c.in_ok-current_revision.was) ∙ c.current_revision.ensures)
    ∙ ap (λ name. option_map version_of (current_revision st owner name)) c.as_str.ensures
    ∙ version-given (find (key_of kind.Revision owner.key.name.space c.args.name.now) st) (λ (r : Object). is_owned_by owner r && (generation_of r.body == owner.meta.stamp.generation))
