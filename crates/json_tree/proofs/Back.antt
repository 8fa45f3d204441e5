-- The data of a value gives the value back.
use Rattle.std.proofs.Common.{◌≡◌, ℕ, List, [], ◌∷◌, map, refl, sym, ap, ap₂, subst, ◌∙◌}
use Rattle.serde_json.specs.Data.{Data}
use Rattle.serde_json.specs.View.{items_of}
use Rattle.json_tree.specs.Back.{json_of, list_of, pairs_of}
use Rattle.json_tree.specs.Tree.{data_of, data_step, members_data}
use Rattle.json_tree.specs.declared.value.Json.{Json, Arr, Obj}
use Rattle.json_tree.specs.declared.value.Json.TheOpen.{Json-F}
use Rattle.json_tree.specs.declared.value.Json.TheViews.{roll-Json}
use Rattle.json_tree.specs.declared.value.Json.TheVariants.{rolls-Null, rolls-Bool, rolls-Int, rolls-Nat, rolls-Str, rolls-Arr, rolls-Obj}
use Rattle.json_tree.specs.declared.value.Json.TheFolds.{fold-roll-Json, ind-Json, map-Json}

abbrev IsBack : Json → Type 0
IsBack j = json_of (data_of j) ≡ j

abbrev Held : Type 0
Held = (j : Json) × IsBack j

list_back : (vs : List Held) → list_of (items_of (map data_of (map (λ e. e.0) vs))) ≡ map (λ e. e.0) vs
list_back [] = refl
list_back (v ∷ vs) = ap₂ (λ x xs. x ∷ xs) v.1 (list_back vs)

pairs_back : (ms : List (List ℕ × Held)) → pairs_of (members_data (map (λ (e : List ℕ × Json). (e.0, data_of e.1)) (map (λ (e : List ℕ × Held). (e.0, e.1.0)) ms))) ≡ map (λ (e : List ℕ × Held). (e.0, e.1.0)) ms
pairs_back [] = refl
pairs_back (m ∷ ms) = ap₂ (λ x xs. (m.0, x) ∷ xs) m.1.1 (pairs_back ms)

layer : (y : Json-F Held) → json_of (data_step (map-Json Json Data data_of (map-Json Held Json (λ e. e.0) y))) ≡ roll-Json (map-Json Held Json (λ e. e.0) y)
layer Json-F.Null = sym rolls-Null
layer (Json-F.Bool b) = sym (rolls-Bool b)
layer (Json-F.Int z) = sym (rolls-Int z)
layer (Json-F.Nat n) = sym (rolls-Nat n)
layer (Json-F.Str s) = sym (rolls-Str s)
layer (Json-F.Arr vs) = ap Arr (list_back vs) ∙ sym (rolls-Arr _)
layer (Json-F.Obj m) = ap (λ es. Obj (record { entries = es })) (pairs_back m.entries) ∙ sym (rolls-Obj _)

pub json_of-data_of : (j : Json) → IsBack j
json_of-data_of = ind-Json IsBack (λ x y is.
    ap json_of (fold-roll-Json Data data_step x) ∙ subst (λ z. json_of (data_step (map-Json Json Data data_of z)) ≡ roll-Json z) is (layer y))

-- equal data is of equal values
pub data_tells : (j k : Json) → data_of j ≡ data_of k → j ≡ k
data_tells j k e = sym (json_of-data_of j) ∙ ap json_of e ∙ json_of-data_of k

-- a value is the one that its data is of
pub value_by : (j : Json) (d : Data) → data_of j ≡ d → j ≡ json_of d
value_by j d e = sym (json_of-data_of j) ∙ ap json_of e
