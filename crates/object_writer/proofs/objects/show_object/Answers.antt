use Rattle.std.proofs.Common.{◌∙◌, ◌++◌, ◌∷◌, [], Some, refl, sym, ap, codes}
use Rattle.std.proofs.lemmas.Result.{on_ok_weaker}
use Rattle.json.specs.Token.{end_object}
use Rattle.resource_types.specs.declared.manifests.ManifestSpec.TheVariants as kind
use Rattle.resource_types.specs.declared.objects.Body.TheVariants as body
use Rattle.resource_codec.specs.Written.{object_of, pod_members, spec_members}
use Rattle.resource_codec.specs.Objects.{body_json, status_json}
use Rattle.object_writer.specs.Tokens.{with_value, with_field}
use Rattle.object_writer.specs.Documents.{body_labels, body_annotations}
use Rattle.object_writer.proofs.Parts.{document_written}
use Rattle.object_writer.proofs.objects.show_object.Goals as goal

pub returns-in_ok-service_spec-in-Service : goal.returns-in_ok-service_spec-in-Service
unfolding body_labels body_annotations
returns-in_ok-service_spec-in-Service c =
    let a = c.in-Service in
    let spec = spec_members (kind.Service a.template a.traffic) in
    on_ok_weaker c.write_tail.result
    (λ e. e ∙ ap (λ x. with_field (codes "status") (Some (status_json a.status)) x ++ end_object ∷ []) (c.in_ok-service_spec-in-Service.ensures ∙ ap (with_value (object_of spec)) c.in_ok-write_head-in-Service.ensures)
    ∙ document_written c.args.object.now (body.Service a.template a.traffic a.status) spec a.status c.args.out.now a.is refl)
    c.write_tail.ensures

pub returns-in_ok-configuration_spec-in-Configuration : goal.returns-in_ok-configuration_spec-in-Configuration
unfolding body_labels body_annotations
returns-in_ok-configuration_spec-in-Configuration c =
    let a = c.in-Configuration in
    let spec = spec_members (kind.Configuration a.template) in
    on_ok_weaker c.write_tail-in-Configuration.result
    (λ e. e ∙ ap (λ x. with_field (codes "status") (Some (status_json a.status)) x ++ end_object ∷ []) (c.in_ok-configuration_spec-in-Configuration.ensures ∙ ap (with_value (object_of spec)) c.in_ok-write_head-in-Configuration.ensures)
    ∙ document_written c.args.object.now (body.Configuration a.template a.status) spec a.status c.args.out.now a.is refl)
    c.write_tail-in-Configuration.ensures

pub returns-in_ok-write_pod-in-Revision : goal.returns-in_ok-write_pod-in-Revision
unfolding body_labels body_annotations
returns-in_ok-write_pod-in-Revision c =
    let a = c.in-Revision in
    let spec = pod_members a.spec in
    on_ok_weaker c.write_tail-in-Revision.result
    (λ e. e ∙ ap (λ x. with_field (codes "status") (Some (status_json a.status)) x ++ end_object ∷ []) (c.in_ok-write_pod-in-Revision.ensures ∙ ap (with_value (object_of spec)) c.in_ok-write_head-in-Revision.ensures)
    ∙ document_written c.args.object.now (body.Revision a.spec a.generation a.pins a.active a.status) spec a.status c.args.out.now a.is refl)
    c.write_tail-in-Revision.ensures

pub returns-in_ok-route_spec-in-Route : goal.returns-in_ok-route_spec-in-Route
unfolding body_labels body_annotations
returns-in_ok-route_spec-in-Route c =
    let a = c.in-Route in
    let spec = spec_members (kind.Route a.traffic) in
    on_ok_weaker c.write_tail-in-Route.result
    (λ e. e ∙ ap (λ x. with_field (codes "status") (Some (status_json a.status)) x ++ end_object ∷ []) (c.in_ok-route_spec-in-Route.ensures ∙ ap (with_value (object_of spec)) c.in_ok-write_head-in-Route.ensures)
    ∙ document_written c.args.object.now (body.Route a.traffic a.status) spec a.status c.args.out.now a.is refl)
    c.write_tail-in-Route.ensures

pub returns-in-Health : goal.returns-in-Health
returns-in-Health c =
    let o = c.args.object.now in
    let ts = c.args.out.now in
    on_ok_weaker c.null.result (λ e. e ∙ ap (λ b. with_value (body_json o b) ts) (sym c.in-Health.is)) c.null.ensures

pub returns-in-Table : goal.returns-in-Table
returns-in-Table c =
    let o = c.args.object.now in
    let ts = c.args.out.now in
    on_ok_weaker c.write_table.result (λ e. e ∙ ap (λ b. with_value (body_json o b) ts) (sym c.in-Table.is)) c.write_table.ensures
