use Rattle.std.proofs.Common.{ap, ◌∙◌}
use Rattle.resource_types.specs.Objects.{is_of}
use Rattle.resource_types.specs.Lookups.{is_given}
use Rattle.slot_keys.proofs.Named.{stands_by}
use Rattle.slot_keys.proofs.names.stands.Goals as goal

pub returns-in-Some : goal.returns-in-Some
returns-in-Some c = c.is_of.ensures.value ∙ ap (is_given (is_of c.args.kind)) c.in-Some.ensures.value ∙ stands_by c.args.store.now.entries c.args.kind c.args.name.now _ _ c.as_str.ensures c.as_str-2.ensures

pub returns-in-None : goal.returns-in-None
returns-in-None c = ap (is_given (is_of c.args.kind)) c.in-None.ensures.value ∙ stands_by c.args.store.now.entries c.args.kind c.args.name.now _ _ c.as_str.ensures c.as_str-2.ensures
