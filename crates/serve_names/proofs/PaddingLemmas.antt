-- Numbers with zeros before them.
use Rattle.std.proofs.Common.{◌≡◌, ◌∙◌, ◌+◌, ◌-◌, ◌/◌, ◌%◌, ◌^◌, ◌<◌, inl, inr, ℕ, ap, ap₂, arith, List, [], ◌∷◌, ◌++◌, replicate, false}
use Rattle.std.proofs.lemmas.List.{append-nil}
use Rattle.std.proofs.lemmas.Fmt.{decimal_digit, decimal_step}
use Rattle.std.proofs.lemmas.Bool.{cases_lt}
use Rattle.std.specs.Fmt.{padded_integral, format_spec, decimal, char_count}
use Rattle.jiff_fmt.specs.Text.{pad2}
use Rattle.serve_names.specs.Padding.{at_least}

pub zero_padded : (width : ℕ) (text : List ℕ) → padded_integral (format_spec 32 0 4 width (2 ^ 64 - 1)) false [] text ≡ at_least width text
unfolding padded_integral char_count
zero_padded width text = ap₂ (λ (n : ℕ) (t : List ℕ). replicate n 48 ++ t) (omega arith) (append-nil text)

pub two_padded : (n : ℕ) → n < 100 → at_least 2 (decimal n) ≡ pad2 n
two_padded n small = elim (cases_lt n 10) [
  | inl lt ↦ ap (at_least 2) (decimal_digit n lt) ∙ ap₂ (λ (a b : ℕ). a ∷ b ∷ []) (omega arith) (omega arith)
  | inr ge ↦ ap (at_least 2) (decimal_step n ge (omega arith) ∙ ap (λ (t : List ℕ). t ++ (48 + n % 10) ∷ []) (decimal_digit (n / 10) (omega arith)))
]
