use Rattle.std.proofs.Common.{◌≡◌, ℕ, ℤ, ◌+◌, ◌<◌, [], ◌∷◌, ◌++◌, List, take, drop, length, get_or, true, pos, negsuc, int_lt, SFits, w64, to_z-of_z, Some, decimal, option_map, option_and_then, refl, sym, ap, ap₂, ◌∙◌, subst, arith, rules, append_assoc}
use Rattle.std.proofs.lemmas.List.{take_more, drop_more, drop_all, take_all, take-append-drop}
use Rattle.std.proofs.lemmas.Result.{on_ok_weaker}
use Rattle.std.specs.Fmt.{signed_decimal}
use Rattle.json.specs.Token as Token
use Rattle.json.specs.Token.{begin_array, begin_object, key}
use Rattle.json.specs.Json as json
use Rattle.json.specs.Tree as tree
use Rattle.serde_json.specs.Data as Data
use Rattle.serde_json.specs.Data.{number, negative, array, object, item, put, depth, members_depth}
use Rattle.serde_json.specs.Read.{number_of, of_items, of_members}
use Rattle.serde_json.specs.Written.{outline, members_outline, WritesItems, WritesMembers}
use Rattle.serde_json.proofs.Numbers.{number_of-decimal, number_of-negative}
use Rattle.serde_json.proofs.Texts.{unless_float-number_of}
use Rattle.json_tree.specs.Tree.{data_of, items_data, table_data, is_well, values_are_well, rises}
use Rattle.json_tree.specs.declared.value.Json.{Json}
use Rattle.json_tree.proofs.Facts.{put_last, table_data-push}
use Rattle.json_tree.proofs.Laws.{data_of-Null, data_of-Bool, data_of-Int, data_of-Nat, data_of-Str, data_of-Arr, data_of-object}
use Rattle.json_tree.proofs.write.+write.Goals as goal

pub write_value-returns-in-Null-clause-ok : goal.write_value-returns-in-Null-clause-ok
write_value-returns-in-Null-clause-ok t c =
    let seen = sym (ap data_of c.in-Null.is ∙ data_of-Null) in
    on_ok_weaker c.null.result (λ e. (json.null, e, ap Some seen, omega arith, ap outline seen)) c.null.ensures.ok

pub write_value-returns-in-Bool-clause-ok : goal.write_value-returns-in-Bool-clause-ok
write_value-returns-in-Bool-clause-ok t c =
    let seen = sym (ap data_of c.in-Bool.is ∙ data_of-Bool c.in-Bool.b) in
    on_ok_weaker c.boolean.result (λ e. (json.boolean c.in-Bool.b, e, ap Some seen, omega arith, ap outline seen)) c.boolean.ensures.ok

pub write_value-returns-in-Nat-clause-ok : goal.write_value-returns-in-Nat-clause-ok
write_value-returns-in-Nat-clause-ok t c =
    let seen = sym (ap data_of c.in-Nat.is ∙ data_of-Nat c.in-Nat.n) in
    let read = number_of-decimal c.in-Nat.n (omega arith) in
    on_ok_weaker c.u64.result (λ e. (json.number (decimal c.in-Nat.n), e, ap (option_map number) read ∙ ap Some seen, omega arith, ap json.number (unless_float-number_of _ _ read) ∙ ap outline seen)) c.u64.ensures.ok

below_zero : (z : ℤ) → int_lt z (pos 0) ≡ true → SFits w64 z → number_of (signed_decimal z) ≡ Some (negative z)
below_zero (pos n) e fits = absurd (grind arith)
below_zero (negsuc n) e fits = number_of-negative n (grind arith)

pub write_value-returns-in-Int-clause-ok : goal.write_value-returns-in-Int-clause-ok
write_value-returns-in-Int-clause-ok t c =
    let z = c.in-Int.z in
    let same = ap data_of c.in-Int.is ∙ data_of-Int z in
    let seen = sym same in
    let low : int_lt z (pos 0) ≡ true = subst (λ d. is_well d ≡ true) same c.requires in
    let fits : SFits w64 z = search rules in
    let read = below_zero z low fits in
    let text = ap (λ n. c.args.out.now.tokens ++ Token.number (signed_decimal n) ∷ []) (to_z-of_z fits) in
    on_ok_weaker c.i64.result (λ e. (json.number (signed_decimal z), e ∙ text, ap (option_map number) read ∙ ap Some seen, omega arith, ap json.number (unless_float-number_of _ _ read) ∙ ap outline seen)) c.i64.ensures.ok

pub write_value-returns-in-Str-clause-ok : goal.write_value-returns-in-Str-clause-ok
write_value-returns-in-Str-clause-ok t c =
    let seen = sym (ap data_of c.in-Str.is ∙ data_of-Str c.in-Str.text) in
    let named : c.as_str.result.now ≡ c.in-Str.text = search rules in
    let same = ap Data.string named ∙ seen in
    on_ok_weaker c.string.result (λ e. (json.string c.as_str.result.now, e, ap Some same, omega arith, ap outline same)) c.string.ensures.ok

pub write_value-returns-in_ok-begin_array-in-Arr-clause-ok : goal.write_value-returns-in_ok-begin_array-in-Arr-clause-ok
write_value-returns-in_ok-begin_array-in-Arr-clause-ok t c =
    let same : array (items_data c.as_slice.result.now) ≡ data_of c.args.json.now = ap (λ vs. array (items_data vs)) c.as_slice.ensures ∙ sym (ap data_of c.in-Arr.is ∙ data_of-Arr c.in-Arr.items) in
    let opened : c.begin_array.new.self.tokens ≡ c.args.out.now.tokens ++ begin_array ∷ [] = search rules in
    on_ok_weaker c.write_items.result (λ w. (
      json.array w.0,
      w.1 ∙ ap (λ ts. ts ++ tree.items_tokens w.0) opened ∙ append_assoc _ (begin_array ∷ []) _,
      ap (option_map array) w.2 ∙ ap Some same,
      omega (arith, w.3, ap depth same),
      ap json.array w.4 ∙ ap outline same,
    )) c.write_items.ensures.ok

pub write_value-returns-in_ok-begin_object-in-Obj-clause-ok : goal.write_value-returns-in_ok-begin_object-in-Obj-clause-ok
write_value-returns-in_ok-begin_object-in-Obj-clause-ok t c =
    let same : object (table_data c.entries.result.now) ≡ data_of c.args.json.now = ap (λ es. object (table_data es)) c.entries.ensures ∙ sym (ap data_of c.in-Obj.is ∙ data_of-object c.in-Obj.members) in
    let opened : c.begin_object.new.self.tokens ≡ c.args.out.now.tokens ++ begin_object ∷ [] = search rules in
    on_ok_weaker c.write_members.result (λ w. (
      json.object w.0,
      w.1 ∙ ap (λ ts. ts ++ tree.members_tokens w.0) opened ∙ append_assoc _ (begin_object ∷ []) _,
      ap (option_map object) w.2 ∙ ap Some same,
      omega (arith, w.3, ap depth same),
      ap json.object w.4 ∙ ap outline same,
    )) c.write_members.ensures.ok

pub write_items-loop-item-preserved : goal.write_items-loop-item-preserved
write_items-loop-item-preserved t c =
    let l = c.loop-item in
    let xs = c.args.items.now in
    let x = c.item-item.result in
    let i = l.item-index in
    let here : drop i xs ≡ x ∷ drop (i + 1) xs = drop_more xs i x (omega arith) ∙ ap (λ y. y ∷ drop (i + 1) xs) (sym c.item-item.is) in
    let w = c.in_ok-write_value.ensures.ok in (
      c.write_value.ensures.before ∙ l.invariant.0,
      grind arith,
      λ end rest. l.invariant.2 end (subst (λ ys. WritesItems (items_data ys) l.out.tokens end) (sym here) (
        json.item w.0 rest.0,
        rest.1 ∙ ap (λ ts. ts ++ tree.items_tokens rest.0) w.1 ∙ append_assoc l.out.tokens _ _,
        ap (option_and_then (λ d. option_map (item d) (of_items rest.0))) w.2 ∙ ap (option_map (item (data_of x))) rest.2,
        omega (arith, w.3, rest.3),
        ap₂ json.item w.4 rest.4,
      )),
    )

pub write_items-returns-clause-ok : goal.write_items-returns-clause-ok
write_items-returns-clause-ok t c =
    let l = c.loop-item in
    let xs = c.args.items.now in
    let end = c.end_array.new.self.tokens in
    let none : drop l.item-index xs ≡ [] = drop_all l.item-index xs (omega arith) in
    on_ok_weaker c.end_array.result (λ e. l.invariant.2 end (subst (λ ys. WritesItems (items_data ys) l.out.tokens end) (sym none) (json.no_items, e, refl, omega arith, refl))) c.end_array.ensures.ok

pub write_members-loop-member-preserved : goal.write_members-loop-member-preserved
write_members-loop-member-preserved t c =
    let l = c.loop-member in
    let i = l.member-index in
    let all = c.args.members.now in
    let e : List ℕ × Json = c.member-item.result in
    let within : i < length all = grind arith in
    let here : get_or all i e ≡ e = grind arith in
    let left : drop i all ≡ e ∷ drop (i + 1) all = drop_more all i e within ∙ ap (λ x. x ∷ drop (i + 1) all) here in
    let cut : all ≡ take i all ++ e ∷ drop (i + 1) all = sym (take-append-drop i all) ∙ ap (λ xs. take i all ++ xs) left in
    let more : take (i + 1) all ≡ take i all ++ e ∷ [] = take_more all i e within ∙ ap (λ x. take i all ++ x ∷ []) here in
    let next : table_data (take (i + 1) all) ≡ put e.0 (data_of e.1) (table_data (take i all)) =
    ap table_data more ∙ table_data-push (take i all) e.0 e.1 ∙ sym (put_last (take i all) e (drop (i + 1) all) (data_of e.1) (subst (λ xs. rises (table_data xs) ≡ true) cut c.requires.rises)) in
    let well : values_are_well (table_data (e ∷ drop (i + 1) all)) ≡ true = subst (λ xs. values_are_well (table_data xs) ≡ true) left l.invariant.1 in
    let named : c.key.new.self.tokens ≡ l.out.tokens ++ key e.0 ∷ [] = search rules in
    let w = c.in_ok-write_value.ensures.ok in (
      search rules,
      grind arith,
      λ ms reads shallow same.
          let tokens : l.out.tokens ++ tree.members_tokens (json.member e.0 w.0 ms) ≡ c.write_value.new.out.tokens ++ tree.members_tokens ms =
          sym (ap (λ ts. ts ++ tree.members_tokens ms) (w.1 ∙ ap (λ ts. ts ++ tree.json_tokens w.0) named) ∙ append_assoc _ (tree.json_tokens w.0) _ ∙ append_assoc l.out.tokens (key e.0 ∷ []) _) in
          subst (WritesMembers (table_data all) c.args.out.now.tokens) tokens
          (l.invariant.2 (json.member e.0 w.0 ms) (ap (option_and_then (λ d. of_members ms (put e.0 d (table_data (take i all))))) w.2 ∙ ap (of_members ms) (sym next) ∙ reads)
          (omega (arith, w.3, shallow, ap (λ es. members_depth (table_data es)) left))
          (ap₂ (json.member e.0) w.4 same ∙ ap (λ es. members_outline (table_data es)) (sym left))),
    )

pub write_members-returns-clause-ok : goal.write_members-returns-clause-ok
write_members-returns-clause-ok t c =
    let l = c.loop-member in
    let i = l.member-index in
    let all = c.args.members.now in
    let taken : take i all ≡ all = take_all i all (omega arith) in
    let none : drop i all ≡ [] = drop_all i all (omega arith) in
    on_ok_weaker c.end_object.result (λ e.
    subst (WritesMembers (table_data all) c.args.out.now.tokens) (sym e)
    (l.invariant.2 json.no_members (ap (λ es. Some (table_data es)) taken) (omega arith) (ap (λ es. members_outline (table_data es)) (sym none)))) c.end_object.ensures.ok
