-- The lines of some connections, and of one more.
use Rattle.std.proofs.Common.{◌≡◌, ℕ, ◌+◌, List, [], ◌∷◌, ◌++◌, length, sym, ap, ◌∙◌, arith, append-nil, append_assoc}
use Rattle.connection_loop.specs.Serves.{Served, line, lines_from}

pub lines_more : (number : ℕ) (first : List Served) (last : Served) → lines_from number (first ++ last ∷ []) ≡ lines_from number first ++ line (number + length first) last
lines_more number [] last =
    let same : number ≡ number + 0 = omega arith in
    append-nil (line number last) ∙ ap (λ (n : ℕ). line n last) same
lines_more number (c ∷ first) last =
    let same : number + 1 + length first ≡ number + length (c ∷ first) = omega arith in
    ap (λ (l : List ℕ). line number c ++ l) (lines_more (number + 1) first last ∙ ap (λ (n : ℕ). lines_from (number + 1) first ++ line n last) same)
    ∙ sym (append_assoc (line number c) (lines_from (number + 1) first) (line (number + length (c ∷ first)) last))
