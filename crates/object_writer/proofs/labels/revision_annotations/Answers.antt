use Rattle.std.proofs.Common.{◌++◌, ◌∷◌, [], Some, map, refl, ap, ◌∙◌, codes}
use Rattle.std.proofs.lemmas.Result.{on_ok_weaker}
use Rattle.json.specs.Token.{begin_object, end_object}
use Rattle.json_tree.specs.declared.value.Json.{Str}
use Rattle.resource_codec.specs.Written.{text_member}
use Rattle.resource_codec.specs.Objects.{shown_annotations}
use Rattle.object_writer.specs.Tokens.{with_members}
use Rattle.object_writer.specs.Documents.{routes_field}
use Rattle.object_writer.proofs.Left.{texts_present}
use Rattle.object_writer.proofs.Splits.{both_put}
use Rattle.object_writer.proofs.LabelsLemmas.{annotations_put, annotations_some}
use Rattle.object_writer.proofs.labels.revision_annotations.Goals as goal

pub returns : goal.returns
returns c =
    let pins = c.args.pins.now in
    let modified = c.args.modified in
    let own = c.args.annotations.now in
    let t = shown_annotations pins modified own in
    let opened = c.in_ok-open_object.ensures ∙ ap (λ ts. ts ++ begin_object ∷ []) c.in_ok-name.ensures in
    let written = c.in_ok-texts.ensures
    ∙ both_put (codes "serving.knative.dev/routes") (codes "serving.knative.dev/routingStateModified") (routes_field pins) (Some (Str c.as_str.result.now))
    (map text_member c.entries.result.now) (map text_member c.in_ok-rest.rest.now) (map text_member c.in_ok-rest-2.rest.now)
    c.open_object.new.self c.write_routes.new.out c.write_up_to.new.out refl c.in_ok-rest.ensures c.in_ok-rest-2.ensures
    ∙ rw (c.entries.ensures, c.as_str.ensures, c.in_ok-moment.ensures) (ap (λ es. with_members es c.open_object.new.self) (annotations_put pins modified own))
    ∙ ap (with_members (map text_member t.entries)) opened in
    on_ok_weaker c.close_object.result
    (λ e. e ∙ ap (λ ts. ts ++ end_object ∷ []) written ∙ texts_present (codes "annotations") t c.args.out.now (annotations_some pins modified own))
    c.close_object.ensures
