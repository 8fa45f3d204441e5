use Rattle.std.proofs.Common.{◌+◌, ◌++◌, ◌∷◌, [], codes, map, drop, refl, sym, ap, ◌∙◌, arith}
use Rattle.std.proofs.lemmas.Result.{on_ok_weaker}
use Rattle.json.specs.Token.{key, begin_array, end_array}
use Rattle.resource_codec.specs.Objects.{row_json}
use Rattle.object_writer.specs.Tokens.{with_values}
use Rattle.object_writer.proofs.Tokens.{array_behind, next_form, last_form}
use Rattle.object_writer.proofs.Left.{array_absent, map_some, unless_empty}
use Rattle.object_writer.proofs.tables.rows_field.Goals as goal

pub returns-then-is_empty : goal.returns-then-is_empty
returns-then-is_empty c = array_absent row_json (codes "rows") c.args.rows.now c.args.out.now (c.if-is_empty.ensures.0 refl)

pub loop-row-preserved : goal.loop-row-preserved
loop-row-preserved c =
    let l = c.loop-row in
    let xs = c.as_slice-row-items.result.now in
    ap (with_values (map row_json (drop (l.row-index + 1) xs))) c.in_ok-write_row.ensures
    ∙ next_form row_json xs l.row-index l.out c.row-item.result c.loop-row-test.true c.row-item.is ∙ l.invariant

pub returns : goal.returns
returns c =
    let l = c.loop-row in
    let xs = c.as_slice-row-items.result.now in
    let k = codes "rows" in
    let written = sym (last_form row_json xs l.row-index l.out (omega arith)) ∙ l.invariant in
    let opened = c.in_ok-open_array.ensures ∙ ap (λ ts. ts ++ begin_array ∷ []) c.in_ok-name.ensures in
    on_ok_weaker c.close_array.result
    (λ e. e ∙ ap (λ ts. ts ++ end_array ∷ []) (written ∙ ap (with_values (map row_json xs)) opened)
    ∙ ap (λ ys. with_values (map row_json ys) ((c.args.out.now ++ key k ∷ []) ++ begin_array ∷ []) ++ end_array ∷ []) c.as_slice-row-items.ensures
    ∙ array_behind k (map row_json c.args.rows.now) c.args.out.now (map_some row_json c.args.rows.now (unless_empty c.if-is_empty.ensures.1)))
    c.close_array.ensures
