-- The tokens that are written of JSON values, and of the fields of an object, behind those that stand.
use Rattle.std.specs.Prelude.{◌≡◌, ◌++◌, ℕ, true, List, [], ◌∷◌, Option, Some, None}
use Rattle.std.specs.Ordering.{nat_cmp, is_lt}
use Rattle.std.specs.Cmp.Lexicographic.{slice_cmp}
use Rattle.json.specs.Token.{Token, key}
use Rattle.json.specs.Tree.{json_tokens}
use Rattle.serde_json.specs.Written.{outline}
use Rattle.json_tree.specs.declared.value.Json.{Json}
use Rattle.json_tree.specs.Tree.{data_of, names_of, is_after_all}
use Rattle.resource_codec.specs.Reading.{Member}
use Rattle.resource_codec.specs.Written.{Field, put_field}

-- the tokens of a value
unfoldable pub value_tokens : Json → List Token
value_tokens j = json_tokens (outline (data_of j))

-- the tokens with a value behind them
unfoldable pub with_value : Json → List Token → List Token
with_value j ts = ts ++ value_tokens j

-- the tokens with a field behind them, if it has a value
unfoldable pub with_field : List ℕ → Option Json → List Token → List Token
with_field name None ts = ts
with_field name (Some j) ts = ts ++ key name ∷ value_tokens j

-- the tokens with each of the fields behind them, one after another
abbrev pub with_fields : List Field → List Token → List Token
with_fields [] ts = ts
with_fields (f ∷ fs) ts = with_fields fs (with_field f.0 f.1 ts)

-- the tokens with each of the values behind them, one after another
abbrev pub with_values : List Json → List Token → List Token
with_values [] ts = ts
with_values (j ∷ js) ts = with_values js (with_value j ts)

-- the tokens with each of the members behind them, one after another
abbrev pub with_members : List Member → List Token → List Token
with_members [] ts = ts
with_members (e ∷ es) ts = with_members es (with_field e.0 (Some e.1) ts)

-- ---- members that are written up to a name

-- of the members with a field put among them, all up to the field are written, and the others are left
pub record WritesUpTo (name : List ℕ) (field : Option Json) (members left : List Member) (old new : List Token) : Type 0 where
  pub written : List Member
  pub all : put_field name field members ≡ written ++ left
  pub tokens : new ≡ with_members written old
  pub before : (later : List ℕ) → is_lt (slice_cmp nat_cmp name later) ≡ true → is_after_all later (names_of written) ≡ true
