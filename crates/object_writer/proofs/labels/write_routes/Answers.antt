use Rattle.std.proofs.Common.{◌≡◌, Some, refl, sym, ap, ◌∙◌}
use Rattle.json_tree.specs.declared.value.Json.{Str}
use Rattle.resource_codec.specs.Objects.{joined}
use Rattle.object_writer.specs.Documents.{routes_field}
use Rattle.object_writer.proofs.Left.{unless_empty}
use Rattle.object_writer.proofs.LabelsLemmas.{no_routes, some_routes}
use Rattle.object_writer.proofs.labels.write_routes.Goals as goal

pub returns-then-is_empty : goal.returns-then-is_empty
returns-then-is_empty c = no_routes c.args.pins.now c.args.annotations.now c.args.out.now (c.if-is_empty.ensures.0 refl)

pub returns : goal.returns
returns c =
    let pins = c.args.pins.now in
    let text = c.as_str.ensures ∙ c.in_ok-routes.ensures ∙ ap joined c.as_slice.ensures in
    let routes : routes_field pins ≡ Some (Str c.as_str.result.now) = some_routes pins (unless_empty c.if-is_empty.ensures.1) ∙ ap (λ t. Some (Str t)) (sym text) in
    rw routes c.write_up_to.ensures
