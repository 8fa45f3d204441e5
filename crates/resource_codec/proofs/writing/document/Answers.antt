use Rattle.std.proofs.Common.{refl, ap}
use Rattle.resource_codec.specs.Written.{object_of, document_fields, document_members}
use Rattle.resource_codec.proofs.InOrder.{in_order}
use Rattle.resource_codec.proofs.writing.document.Goals as goal

pub returns : goal.returns
unfolding document_members
returns c = rw (c.in_ok-add_json.ensures, c.in_ok-add.ensures, c.in_ok-add_object.ensures, c.in_ok-add_word-2.ensures, c.in_ok-add_word.ensures, c.in_ok-members.ensures) (ap object_of (in_order (document_fields (record { api = c.args.api.now; kind = c.args.kind.now; metadata = c.args.metadata.entries; spec = c.args.spec.entries; status = c.args.status })) refl))
