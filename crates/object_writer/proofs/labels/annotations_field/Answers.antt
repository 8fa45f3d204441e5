use Rattle.std.proofs.Common.{ℕ, codes, sym, ap, ◌∙◌}
use Rattle.std.proofs.lemmas.Result.{on_ok_weaker}
use Rattle.resource_codec.specs.Written.{texts_field}
use Rattle.resource_codec.specs.Objects.{shown_annotations}
use Rattle.object_writer.specs.Tokens.{with_field}
use Rattle.object_writer.specs.Documents.{body_annotations}
use Rattle.object_writer.proofs.LabelsLemmas.{own_annotations}
use Rattle.object_writer.proofs.labels.annotations_field.Goals as goal

pub returns-in-Revision : goal.returns-in-Revision
unfolding body_annotations
returns-in-Revision c =
    let o = c.args.object.now in
    on_ok_weaker c.revision_annotations.result
    (λ e. e ∙ ap (λ (m : ℕ). with_field (codes "annotations") (texts_field (shown_annotations c.in-Revision.pins m o.meta.annotations)) c.args.out.now) c.unwrap_or-modified.ensures
    ∙ ap (λ b. with_field (codes "annotations") (texts_field (body_annotations o b)) c.args.out.now) (sym c.in-Revision.is))
    c.revision_annotations.ensures

pub returns-in_default : goal.returns-in_default
returns-in_default c =
    let o = c.args.object.now in
    on_ok_weaker c.texts_field.result
    (λ e. e ∙ ap (λ t. with_field (codes "annotations") (texts_field t) c.args.out.now) (sym (own_annotations o o.body c.in_default.not-Revision)))
    c.texts_field.ensures
