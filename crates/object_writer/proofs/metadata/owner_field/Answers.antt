use Rattle.std.proofs.Common.{◌≢◌, ◌∙◌, ◌∷◌, [], sym, ap, codes}
use Rattle.std.proofs.lemmas.Result.{on_ok_weaker}
use Rattle.json_tree.specs.declared.value.Json.{Json}
use Rattle.resource_codec.specs.Written.{array_field, object_of}
use Rattle.resource_codec.specs.Objects.{owners_of, owner_members}
use Rattle.object_writer.specs.Tokens.{with_field}
use Rattle.object_writer.proofs.Tokens.{array_behind}
use Rattle.object_writer.proofs.Parts.{nothing_written}
use Rattle.object_writer.proofs.metadata.owner_field.Goals as goal

one : (j : Json) → j ∷ [] ≢ []
one j e = cc

pub returns-in_ok-write_owner-in-Some : goal.returns-in_ok-write_owner-in-Some
returns-in_ok-write_owner-in-Some c =
    let j = object_of (owner_members c.in-Some.owner) in
    let ts = c.args.out.now in
    on_ok_weaker c.close_array.result
    (λ e. e ∙ rw (c.in_ok-write_owner-in-Some.ensures, c.in_ok-open_array-in-Some.ensures, c.in_ok-name-in-Some.ensures)
    (array_behind (codes "ownerReferences") (j ∷ []) ts (one j))
    ∙ ap (λ o. with_field (codes "ownerReferences") (array_field (owners_of o)) ts) (sym c.in-Some.is))
    c.close_array.ensures

pub returns-in-None : goal.returns-in-None
returns-in-None c =
    let ts = c.args.out.now in
    nothing_written (codes "ownerReferences") ts ∙ ap (λ o. with_field (codes "ownerReferences") (array_field (owners_of o)) ts) (sym c.in-None.is)
