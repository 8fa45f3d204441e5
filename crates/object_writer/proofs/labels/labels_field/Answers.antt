use Rattle.std.proofs.Common.{codes, sym, ap, ◌∙◌}
use Rattle.std.proofs.lemmas.Result.{on_ok_weaker}
use Rattle.resource_codec.specs.Written.{texts_field}
use Rattle.object_writer.specs.Tokens.{with_field}
use Rattle.object_writer.specs.Documents.{body_labels}
use Rattle.object_writer.proofs.LabelsLemmas.{own_labels}
use Rattle.object_writer.proofs.labels.labels_field.Goals as goal

pub returns-in-Revision : goal.returns-in-Revision
unfolding body_labels
returns-in-Revision c =
    let o = c.args.object.now in
    on_ok_weaker c.revision_labels.result
    (λ e. e ∙ ap (λ b. with_field (codes "labels") (texts_field (body_labels o b)) c.args.out.now) (sym c.in-Revision.is))
    c.revision_labels.ensures

pub returns-in_default : goal.returns-in_default
returns-in_default c =
    let o = c.args.object.now in
    on_ok_weaker c.texts_field.result
    (λ e. e ∙ ap (λ t. with_field (codes "labels") (texts_field t) c.args.out.now) (sym (own_labels o o.body c.in_default.not-Revision)))
    c.texts_field.ensures
