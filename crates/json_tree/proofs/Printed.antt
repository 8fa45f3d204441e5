-- The text that is printed for the tokens of a value.
use Rattle.std.proofs.Common.{◌≡◌, ℕ, ◌≤◌, false, List, [], Option, Some, option_and_then, sym, ap, ◌∙◌, arith, append-nil}
use Rattle.json.specs.Token.{Token}
use Rattle.json.specs.Lex.{tokens}
use Rattle.json.specs.Print.{print}
use Rattle.json.specs.Json as json
use Rattle.json.proofs.Printed.Trees.{value-json_tokens}
use Rattle.serde_json.specs.Data.{Data, depth}
use Rattle.serde_json.specs.Read.{read, max_depth, of_json}
use Rattle.serde_json.specs.Written.{has_float, compact_text, WritesValue}
use Rattle.serde_json.proofs.Texts.{tokens_from_order, print-outline}

-- the data of what was read, where nothing is left behind it
abbrev whole : Option (json.Json × List Token) → Option Data
whole o = option_and_then of_json (option_and_then (λ p. json.if_last p.0 p.1) o)

module _ (d : Data) (ts : List Token) (text : List ℕ) (written : WritesValue d [] ts) (same : tokens text ≡ ts) where
  -- it reads as the value
  pub read_back : depth d ≤ max_depth → read text ≡ Some d
  read_back shallow =
      ap whole (ap (json.value max_depth) (same ∙ written.1 ∙ sym (append-nil _)) ∙ value-json_tokens written.0 max_depth [] (omega (arith, written.3))) ∙ written.2

  -- and is the compact text, where no number is a float
  pub is_compact : text ≡ print ts → has_float d ≡ false → text ≡ compact_text d
  is_compact printed no_float = printed ∙ ap print (sym same ∙ tokens_from_order text d (written.0, same ∙ written.1, written.4) no_float) ∙ print-outline d
