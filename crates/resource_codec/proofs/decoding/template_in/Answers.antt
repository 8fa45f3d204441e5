use Rattle.std.proofs.Common.{◌-◌, suc, codes, List, ap, sym, subst, arith}
use Rattle.resource_codec.specs.declared.fields.Field.TheVariants as field
use Rattle.resource_codec.specs.Written.{object_of}
use Rattle.resource_codec.specs.Reading.{Member, entries_of}
use Rattle.resource_codec.specs.Sound.{Fits}
use Rattle.resource_codec.proofs.Inner.{under_inside, rest_inside, maybe_inside, texts_rise}
use Rattle.resource_codec.proofs.decoding.template_in.Goals as goal

pub returns-clause-rest : goal.returns-clause-rest
returns-clause-rest c n sound =
    let outer = c.args.members.now.entries in
    let template = under_inside n field.Template (codes "template") outer c.in_ok-object_under.field-0.now.entries sound c.in_ok-object_under.ensures in
    let pod = under_inside (n - 1) field.TemplateSpec (codes "spec") c.in_ok-object_under.field-0.now.entries c.in_ok-pod.pod.now.entries template.1 c.in_ok-pod.ensures in
    let fits = subst (λ (es : List Member). Fits (suc (n - 1 - 1)) (object_of es)) (sym (ap (λ t. t.entries) c.in_ok-rest.ensures)) (rest_inside (n - 1 - 1) c.in_ok-pod.pod.now.entries pod.1) in
    (omega (arith, template.0, pod.0), record { well = fits.well; deep = omega (arith, fits.deep, pod.0) })

pub returns-clause-rise : goal.returns-clause-rise
returns-clause-rise c n sound =
    let template = (under_inside n field.Template (codes "template") c.args.members.now.entries c.in_ok-object_under.field-0.now.entries sound c.in_ok-object_under.ensures).1 in
    let metadata = maybe_inside (n - 1) field.TemplateMetadata (codes "metadata") c.in_ok-object_under.field-0.now.entries (entries_of c.in_ok-metadata.metadata) template c.in_ok-metadata.ensures in (
      texts_rise (n - 1) field.TemplateLabels (codes "labels") (entries_of c.in_ok-metadata.metadata) c.in_ok-labels.labels metadata c.in_ok-labels.ensures,
      texts_rise (n - 1) field.TemplateAnnotations (codes "annotations") (entries_of c.in_ok-metadata.metadata) c.in_ok-annotations.annotations metadata c.in_ok-annotations.ensures,
    )
