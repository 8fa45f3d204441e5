use Rattle.std.proofs.Common.{List, ℕ, ◌+◌, ◌++◌, ◌∷◌, [], map, drop, sym, ap, ◌∙◌, arith}
use Rattle.json.specs.Token.{key}
use Rattle.json_tree.specs.declared.value.Json.{Str}
use Rattle.resource_codec.specs.Written.{text_member}
use Rattle.object_writer.specs.Tokens.{with_value, with_members}
use Rattle.object_writer.proofs.Tokens.{field_written, next_member, last_member}
use Rattle.object_writer.proofs.text.JsonText.texts.Goals as goal

pub loop-text-preserved : goal.loop-text-preserved
loop-text-preserved c =
    let l = c.loop-text in
    let xs = c.args.texts.now in
    let e : List ℕ × List ℕ = c.text-item.result in
    ap (with_members (map text_member (drop (l.text-index + 1) xs)))
    (c.in_ok-text.ensures ∙ ap (λ t. with_value (Str t) c.name.new.self) c.as_str-in-loop-text.ensures
    ∙ ap (with_value (Str e.1)) (c.in_ok-name.ensures ∙ ap (λ k. l.self ++ key k ∷ []) c.as_str.ensures)
    ∙ field_written e.0 (Str e.1) l.self)
    ∙ next_member text_member xs l.text-index l.self e c.loop-text-test.true c.text-item.is ∙ l.invariant

pub returns : goal.returns
returns c =
    let l = c.loop-text in
    sym (last_member text_member c.args.texts.now l.text-index l.self (omega arith)) ∙ l.invariant
