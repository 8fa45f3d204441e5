use Rattle.std.proofs.Common.{◌-◌, codes, arith}
use Rattle.json_tree.specs.Tree.{depth_of}
use Rattle.resource_codec.specs.declared.fields.Field.TheVariants as field
use Rattle.resource_codec.proofs.Inner.{object_inside, under_inside, three_less, texts_rise}
use Rattle.resource_codec.proofs.decoding.decode.Goals as goal

pub returns-clause-rest : goal.returns-clause-rest
returns-clause-rest c well =
    let n = depth_of c.args.json.now in
    let body = object_inside n field.Body c.args.json.now c.in_ok-object.field-0.now.entries (record { well = well; deep = omega arith }) c.in_ok-object.ensures in
    let members = under_inside (n - 1) field.Spec (codes "spec") c.in_ok-object.field-0.now.entries c.in_ok-members.members.now.entries body.1 c.in_ok-members.ensures in
    three_less n c.in_ok-spec.spec body.0 members.0 (c.in_ok-spec.ensures.rest (n - 1 - 1) members.1)

pub returns-clause-rise : goal.returns-clause-rise
returns-clause-rise c well =
    let n = depth_of c.args.json.now in
    let outer = c.in_ok-object.field-0.now.entries in
    let inner = c.in_ok-object_under.field-0.now.entries in
    let body = object_inside n field.Body c.args.json.now outer (record { well = well; deep = omega arith }) c.in_ok-object.ensures in
    let metadata = (under_inside (n - 1) field.Metadata (codes "metadata") outer inner body.1 c.in_ok-object_under.ensures).1 in
    let members = under_inside (n - 1) field.Spec (codes "spec") outer c.in_ok-members.members.now.entries body.1 c.in_ok-members.ensures in (
      texts_rise (n - 1 - 1) field.Labels (codes "labels") inner c.in_ok-labels.labels metadata c.in_ok-labels.ensures,
      (
        texts_rise (n - 1 - 1) field.Annotations (codes "annotations") inner c.in_ok-annotations.annotations metadata c.in_ok-annotations.ensures,
        c.in_ok-spec.ensures.rise (n - 1 - 1) members.1,
      ),
    )
