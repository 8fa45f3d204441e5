use Rattle.std.proofs.Common.{List, ℕ, ◌+◌, ◌++◌, ◌∷◌, [], drop, sym, ap, ◌∙◌, arith}
use Rattle.std.proofs.lemmas.Result.{on_ok_weaker}
use Rattle.json.specs.Token.{key, end_array, end_object}
use Rattle.json_tree.specs.declared.value.Json.{Json}
use Rattle.object_writer.specs.Tokens.{with_value, with_values, with_members}
use Rattle.object_writer.proofs.Tokens.{array_written, members_written, field_written, next_value, last_value, next_one, last_one}
use Rattle.object_writer.proofs.values.+given.Goals as goal

pub write_value-returns-in_ok-open_array-in-Arr : goal.write_value-returns-in_ok-open_array-in-Arr
write_value-returns-in_ok-open_array-in-Arr t c =
    on_ok_weaker c.write_items.result (λ e.
    e ∙ ap (λ vs. with_values vs c.open_array.new.self ++ end_array ∷ []) c.as_slice.ensures
    ∙ ap (λ ts. with_values c.in-Arr.items ts ++ end_array ∷ []) c.in_ok-open_array-in-Arr.ensures
    ∙ array_written c.in-Arr.items c.args.out.now ∙ ap (λ j. with_value j c.args.out.now) (sym c.in-Arr.is)) c.write_items.ensures

pub write_value-returns-in_ok-write_members-in-Obj : goal.write_value-returns-in_ok-write_members-in-Obj
write_value-returns-in_ok-write_members-in-Obj t c =
    on_ok_weaker c.close_object.result (λ e.
    e ∙ ap (λ ts. ts ++ end_object ∷ []) c.in_ok-write_members-in-Obj.ensures
    ∙ ap (λ es. with_members es c.open_object.new.self ++ end_object ∷ []) c.entries.ensures
    ∙ ap (λ ts. with_members c.in-Obj.members.entries ts ++ end_object ∷ []) c.in_ok-open_object-in-Obj.ensures
    ∙ members_written c.in-Obj.members.entries c.args.out.now ∙ ap (λ j. with_value j c.args.out.now) (sym c.in-Obj.is)) c.close_object.ensures

pub write_items-loop-item-preserved : goal.write_items-loop-item-preserved
write_items-loop-item-preserved t c =
    let l = c.loop-item in
    ap (with_values (drop (l.item-index + 1) c.args.items.now)) c.in_ok-write_value.ensures
    ∙ next_value c.args.items.now l.item-index c.item-item.result l.out (omega arith) c.item-item.is ∙ l.invariant

pub write_items-returns : goal.write_items-returns
write_items-returns t c =
    let l = c.loop-item in
    on_ok_weaker c.close_array.result (λ e.
    e ∙ ap (λ ts. ts ++ end_array ∷ []) (sym (last_value c.args.items.now l.item-index l.out (omega arith)) ∙ l.invariant)) c.close_array.ensures

pub write_members-loop-member-preserved : goal.write_members-loop-member-preserved
write_members-loop-member-preserved t c =
    let l = c.loop-member in
    let e : List ℕ × Json = c.member-item.result in
    ap (with_members (drop (l.member-index + 1) c.args.members.now))
    (c.in_ok-write_value.ensures
    ∙ ap (with_value e.1) (c.in_ok-name.ensures ∙ ap (λ k. l.out ++ key k ∷ []) c.as_str.ensures)
    ∙ field_written e.0 e.1 l.out)
    ∙ next_one c.args.members.now l.member-index e l.out c.loop-member-test.true c.member-item.is ∙ l.invariant

pub write_members-returns : goal.write_members-returns
write_members-returns t c =
    let l = c.loop-member in
    sym (last_one c.args.members.now l.member-index l.out (omega arith)) ∙ l.invariant
