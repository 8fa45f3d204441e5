use Rattle.std.proofs.Common.{◌+◌, ◌++◌, ◌∷◌, [], map, drop, refl, sym, ap, ◌∙◌, arith}
use Rattle.std.proofs.lemmas.Result.{on_ok_weaker}
use Rattle.json.specs.Token.{key, begin_array, end_array}
use Rattle.resource_codec.specs.Objects.{published_json}
use Rattle.object_writer.specs.Tokens.{with_values}
use Rattle.object_writer.proofs.Tokens.{array_behind, next_form, last_form}
use Rattle.object_writer.proofs.Left.{array_absent, map_some, unless_empty}
use Rattle.object_writer.proofs.targets.published_field.Goals as goal

pub returns-then-is_empty : goal.returns-then-is_empty
returns-then-is_empty c = array_absent published_json c.args.name.now c.args.targets.now c.args.out.now (c.if-is_empty.ensures.0 refl)

pub loop-target-preserved : goal.loop-target-preserved
loop-target-preserved c =
    let l = c.loop-target in
    let xs = c.as_slice-target-items.result.now in
    ap (with_values (map published_json (drop (l.target-index + 1) xs))) c.in_ok-write_published.ensures
    ∙ next_form published_json xs l.target-index l.out c.target-item.result c.loop-target-test.true c.target-item.is ∙ l.invariant

pub returns : goal.returns
returns c =
    let l = c.loop-target in
    let xs = c.as_slice-target-items.result.now in
    let k = c.args.name.now in
    let written = sym (last_form published_json xs l.target-index l.out (omega arith)) ∙ l.invariant in
    let opened = c.in_ok-open_array.ensures ∙ ap (λ ts. ts ++ begin_array ∷ []) c.in_ok-name.ensures in
    on_ok_weaker c.close_array.result
    (λ e. e ∙ ap (λ ts. ts ++ end_array ∷ []) (written ∙ ap (with_values (map published_json xs)) opened)
    ∙ ap (λ ys. with_values (map published_json ys) ((c.args.out.now ++ key k ∷ []) ++ begin_array ∷ []) ++ end_array ∷ []) c.as_slice-target-items.ensures
    ∙ array_behind k (map published_json c.args.targets.now) c.args.out.now (map_some published_json c.args.targets.now (unless_empty c.if-is_empty.ensures.1)))
    c.close_array.ensures
