use Rattle.std.proofs.Common.{◌++◌, ◌∷◌, [], Some, map, ap, ◌∙◌, codes}
use Rattle.std.proofs.lemmas.Result.{on_ok_weaker}
use Rattle.json.specs.Token.{begin_object, end_object}
use Rattle.json_tree.specs.declared.value.Json.{Str}
use Rattle.resource_codec.specs.Written.{text_member}
use Rattle.resource_codec.specs.Objects.{shown_labels}
use Rattle.object_writer.specs.Tokens.{with_members}
use Rattle.object_writer.proofs.Left.{texts_present}
use Rattle.object_writer.proofs.Splits.{one_put}
use Rattle.object_writer.proofs.LabelsLemmas.{labels_put, labels_some}
use Rattle.object_writer.proofs.labels.revision_labels.Goals as goal

pub returns : goal.returns
returns c =
    let t = shown_labels c.args.pins.now c.args.labels.now in
    let k = codes "serving.knative.dev/routingState" in
    let opened = c.in_ok-open_object.ensures ∙ ap (λ ts. ts ++ begin_object ∷ []) c.in_ok-name.ensures in
    let written = c.in_ok-texts.ensures
    ∙ one_put k (Some (Str c.routing_state-state.result.now)) (map text_member c.entries.result.now) (map text_member c.in_ok-rest.rest.now) c.open_object.new.self c.write_up_to.new.out c.in_ok-rest.ensures
    ∙ rw (c.entries.ensures, c.routing_state-state.ensures) (ap (λ es. with_members es c.open_object.new.self) (labels_put c.args.pins.now c.args.labels.now))
    ∙ ap (with_members (map text_member t.entries)) opened in
    on_ok_weaker c.close_object.result
    (λ e. e ∙ ap (λ ts. ts ++ end_object ∷ []) written ∙ texts_present (codes "labels") t c.args.out.now (labels_some c.args.pins.now c.args.labels.now))
    c.close_object.ensures
