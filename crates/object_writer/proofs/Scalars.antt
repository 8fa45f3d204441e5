-- The token of each value that has no parts.
use Rattle.std.proofs.Common.{◌≡◌, ℕ, Bool, List, [], ◌∷◌, ◌++◌, sym, ap}
use Rattle.std.specs.Prelude.{decimal, ℤ}
use Rattle.std.specs.Fmt.{signed_decimal}
use Rattle.json.specs.Token as token
use Rattle.json.specs.Token.{Token}
use Rattle.json.specs.Tree.{json_tokens}
use Rattle.serde_json.specs.Written.{outline}
use Rattle.json_tree.specs.declared.value.Json.{Null, Bool as Truth, Int, Nat, Str}
use Rattle.json_tree.proofs.Laws.{data_of-Null, data_of-Bool, data_of-Int, data_of-Nat, data_of-Str}
use Rattle.object_writer.specs.Tokens.{value_tokens, with_value}

pub null_written : (ts : List Token) → ts ++ token.null ∷ [] ≡ with_value Null ts
unfolding with_value value_tokens
null_written ts = ap (λ d. ts ++ json_tokens (outline d)) (sym data_of-Null)

pub truth_written : (b : Bool) (ts : List Token) → ts ++ token.boolean b ∷ [] ≡ with_value (Truth b) ts
unfolding with_value value_tokens
truth_written b ts = ap (λ d. ts ++ json_tokens (outline d)) (sym (data_of-Bool b))

pub signed_written : (z : ℤ) (ts : List Token) → ts ++ token.number (signed_decimal z) ∷ [] ≡ with_value (Int z) ts
unfolding with_value value_tokens
signed_written z ts = ap (λ d. ts ++ json_tokens (outline d)) (sym (data_of-Int z))

pub number_written : (n : ℕ) (ts : List Token) → ts ++ token.number (decimal n) ∷ [] ≡ with_value (Nat n) ts
unfolding with_value value_tokens
number_written n ts = ap (λ d. ts ++ json_tokens (outline d)) (sym (data_of-Nat n))

pub text_written : (s : List ℕ) (ts : List Token) → ts ++ token.string s ∷ [] ≡ with_value (Str s) ts
unfolding with_value value_tokens
text_written s ts = ap (λ d. ts ++ json_tokens (outline d)) (sym (data_of-Str s))
