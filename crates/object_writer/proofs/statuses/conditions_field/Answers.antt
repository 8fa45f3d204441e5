use Rattle.std.proofs.Common.{◌+◌, ◌++◌, ◌∷◌, [], map, drop, refl, sym, ap, ◌∙◌, arith}
use Rattle.std.proofs.lemmas.Result.{on_ok_weaker}
use Rattle.json.specs.Token.{key, begin_array, end_array}
use Rattle.resource_codec.specs.Objects.{condition_json}
use Rattle.object_writer.specs.Tokens.{with_values}
use Rattle.object_writer.proofs.Tokens.{array_behind, next_form, last_form}
use Rattle.object_writer.proofs.Left.{array_absent, map_some, unless_empty}
use Rattle.object_writer.proofs.statuses.conditions_field.Goals as goal

pub returns-then-is_empty : goal.returns-then-is_empty
returns-then-is_empty c = array_absent condition_json c.args.name.now c.args.conditions.now c.args.out.now (c.if-is_empty.ensures.0 refl)

pub loop-condition-preserved : goal.loop-condition-preserved
loop-condition-preserved c =
    let l = c.loop-condition in
    let xs = c.as_slice-condition-items.result.now in
    ap (with_values (map condition_json (drop (l.condition-index + 1) xs))) c.in_ok-write_condition.ensures
    ∙ next_form condition_json xs l.condition-index l.out c.condition-item.result c.loop-condition-test.true c.condition-item.is ∙ l.invariant

pub returns : goal.returns
returns c =
    let l = c.loop-condition in
    let xs = c.as_slice-condition-items.result.now in
    let k = c.args.name.now in
    let written = sym (last_form condition_json xs l.condition-index l.out (omega arith)) ∙ l.invariant in
    let opened = c.in_ok-open_array.ensures ∙ ap (λ ts. ts ++ begin_array ∷ []) c.in_ok-name.ensures in
    on_ok_weaker c.close_array.result
    (λ e. e ∙ ap (λ ts. ts ++ end_array ∷ []) (written ∙ ap (with_values (map condition_json xs)) opened)
    ∙ ap (λ ys. with_values (map condition_json ys) ((c.args.out.now ++ key k ∷ []) ++ begin_array ∷ []) ++ end_array ∷ []) c.as_slice-condition-items.ensures
    ∙ array_behind k (map condition_json c.args.conditions.now) c.args.out.now (map_some condition_json c.args.conditions.now (unless_empty c.if-is_empty.ensures.1)))
    c.close_array.ensures
