-- The lines of some numbers, and one more.
use Rattle.std.proofs.Common.{◌≡◌, ℕ, zero, suc, ◌+◌, ◌++◌, Option, sym, ap, ◌∙◌, append-nil, arith}
use Rattle.std.proofs.lemmas.List.{append_assoc}
use Rattle.resource_types.specs.declared.specification.Row.{Row}
use Rattle.gateway_command.specs.Texts.{pick_line, picks_text}

pub one_more : (pick : ℕ → Option Row) (first count : ℕ)
    → picks_text pick first (suc count) ≡ picks_text pick first count ++ pick_line (first + count) (pick (first + count))
one_more pick first zero =
    let here : first + 0 ≡ first = omega arith in
    append-nil _ ∙ ap (λ n. pick_line n (pick n)) (sym here)
one_more pick first (suc count) =
    let there : (first + 1) + count ≡ first + suc count = omega arith in
    ap (λ xs. pick_line first (pick first) ++ xs) (one_more pick (first + 1) count)
    ∙ (sym (append_assoc (pick_line first (pick first)) (picks_text pick (first + 1) count) _)
    ∙ ap (λ n. picks_text pick first (suc count) ++ pick_line n (pick n)) there)
