-- Fields that are left out where they are empty.
use Rattle.std.proofs.Common.{◌≡◌, ◌≢◌, ◌<◌, ◌^◌, ◌==◌, ◌+◌, ◌%◌, ℕ, Bool, true, false, Some, None, List, [], ◌∷◌, ◌++◌, map, length, refl, ◌∙◌, arith}
use Rattle.std.specs.Prelude.{decimal}
use Rattle.std.proofs.lemmas.Fmt.{decimal_by_steps}
use Rattle.json.specs.Token.{Token, key, begin_object, end_object}
use Rattle.json_tree.specs.declared.value.Json.{Json, Bool as Truth, Nat, Str}
use Rattle.json_tree.specs.declared.members.Table.{Table}
use Rattle.resource_codec.specs.Written.{text_field, number_field, truth_field, texts_field, object_field, array_field, text_member}
use Rattle.object_writer.specs.Tokens.{with_value, with_field, with_members}
use Rattle.object_writer.proofs.Tokens.{field_written, members_written, object_behind}

-- ---- texts

pub text_absent : (k t : List ℕ) (ts : List Token) → true ≡ (length t == 0) → ts ≡ with_field k (text_field t) ts
unfolding with_field text_field
text_absent k [] ts e = refl
text_absent k (b ∷ bs) ts e = absurd (grind arith)

pub some_text : (k t : List ℕ) (ts : List Token) → t ≢ [] → with_value (Str t) (ts ++ key k ∷ []) ≡ with_field k (text_field t) ts
unfolding text_field
some_text k [] ts some = absurd (some refl)
some_text k (b ∷ bs) ts some = field_written k (Str (b ∷ bs)) ts

is_some : (t : List ℕ) → false ≡ (length t == 0) → t ≢ []
is_some [] e none = cc
is_some (b ∷ bs) e none = cc

pub text_present : (k t : List ℕ) (ts : List Token) → false ≡ (length t == 0) → with_value (Str t) (ts ++ key k ∷ []) ≡ with_field k (text_field t) ts
text_present k t ts e = some_text k t ts (is_some t e)

-- ---- digits

one_digit : (n : ℕ) → n < 10 → (48 + n) ∷ [] ≢ []
one_digit n lt e = cc

one_more : (ds : List ℕ) (d : ℕ) → ds ++ d ∷ [] ≢ []
one_more [] d e = cc
one_more (b ∷ ds) d e = cc

pub digits_some : (n : ℕ) → n < 2 ^ 64 → decimal n ≢ []
digits_some = decimal_by_steps (λ n ds. ds ≢ []) one_digit (λ n ds many some. one_more ds (48 + n % 10))

-- ---- numbers and truths

pub number_present : (k : List ℕ) (n : ℕ) (ts : List Token) → with_value (Nat n) (ts ++ key k ∷ []) ≡ with_field k (number_field (Some n)) ts
unfolding number_field
number_present k n ts = field_written k (Nat n) ts

pub number_absent : (k : List ℕ) (ts : List Token) → ts ≡ with_field k (number_field None) ts
unfolding with_field number_field
number_absent k ts = refl

pub truth_present : (k : List ℕ) (b : Bool) (ts : List Token) → with_value (Truth b) (ts ++ key k ∷ []) ≡ with_field k (truth_field (Some b)) ts
unfolding truth_field
truth_present k b ts = field_written k (Truth b) ts

pub truth_absent : (k : List ℕ) (ts : List Token) → ts ≡ with_field k (truth_field None) ts
unfolding with_field truth_field
truth_absent k ts = refl

-- ---- objects and arrays

-- a test that is false of the empty list, as it is of this one
pub unless_empty : {A : Type 0} {xs : List A} → (xs ≡ [] → false ≡ true) → xs ≢ []
unless_empty h e = let never : false ≡ true = h e in cc

pub map_some : {A B : Type 0} (f : A → B) (xs : List A) → xs ≢ [] → map f xs ≢ []
map_some f [] some e = absurd (some refl)
map_some f (x ∷ xs) some e = cc

no_texts : (k : List ℕ) (es : List (List ℕ × List ℕ)) (ts : List Token) → es ≡ [] → ts ≡ with_field k (object_field (map text_member es)) ts
unfolding with_field object_field
no_texts k [] ts e = refl
no_texts k (x ∷ es) ts e = absurd cc

pub texts_absent : (k : List ℕ) (t : Table (List ℕ)) (ts : List Token) → t.entries ≡ [] → ts ≡ with_field k (texts_field t) ts
unfolding texts_field
texts_absent k t ts e = no_texts k t.entries ts e

pub texts_present : (k : List ℕ) (t : Table (List ℕ)) (ts : List Token) → t.entries ≢ []
    → with_members (map text_member t.entries) ((ts ++ key k ∷ []) ++ begin_object ∷ []) ++ end_object ∷ [] ≡ with_field k (texts_field t) ts
unfolding texts_field
texts_present k t ts some =
    members_written (map text_member t.entries) (ts ++ key k ∷ []) ∙ object_behind k (map text_member t.entries) ts (map_some text_member t.entries some)

pub array_absent : {A : Type 0} (f : A → Json) (k : List ℕ) (xs : List A) (ts : List Token) → xs ≡ [] → ts ≡ with_field k (array_field (map f xs)) ts
unfolding with_field array_field
array_absent f k [] ts e = refl
array_absent f k (x ∷ xs) ts e = absurd cc
