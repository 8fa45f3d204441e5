use Rattle.std.proofs.Common.{ap, ◌∙◌}
use Rattle.json_tree.specs.declared.value.Json.{Str}
use Rattle.object_writer.specs.Tokens.{with_value}
use Rattle.object_writer.proofs.Tokens.{field_written}
use Rattle.object_writer.proofs.LabelsLemmas.{text_put}
use Rattle.object_writer.proofs.labels.write_up_to.Goals as goal

pub returns : goal.returns
returns c =
    let p = c.place_before-place.ensures in
    let k = c.args.name.now in
    let v = c.args.text.now in
    let mid = c.texts.new.self in
    text_put k v c.args.texts.now c.entries_behind.result.now c.place_before-place.result c.args.out.now mid c.text.new.self
    c.in_ok-texts.ensures p.before p.behind (c.in_ok-text.ensures ∙ ap (with_value (Str v)) c.in_ok-name.ensures ∙ field_written k (Str v) mid) c.entries_behind.ensures
