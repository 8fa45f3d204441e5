-- No number of a value is a float.
use Rattle.std.proofs.Common.{◌≡◌, ℕ, false, List, [], ◌∷◌, map, refl, ap, subst, ◌∙◌}
use Rattle.serde_json.specs.Data.{Data}
use Rattle.serde_json.specs.View.{items_of}
use Rattle.serde_json.specs.Written.{has_float, items_have_float, members_have_float}
use Rattle.json_tree.specs.Tree.{data_of, data_step, members_data}
use Rattle.json_tree.specs.declared.value.Json.{Json}
use Rattle.json_tree.specs.declared.value.Json.TheOpen.{Json-F}
use Rattle.json_tree.specs.declared.value.Json.TheFolds.{fold-roll-Json, ind-Json, map-Json}

abbrev IsWhole : Json → Type 0
IsWhole j = has_float (data_of j) ≡ false

abbrev Held : Type 0
Held = (j : Json) × IsWhole j

items_whole : (vs : List Held) → items_have_float (items_of (map data_of (map (λ e. e.0) vs))) ≡ false
items_whole [] = refl
items_whole (v ∷ vs) = rw v.1 (items_whole vs)

members_whole : (ms : List (List ℕ × Held)) → members_have_float (members_data (map (λ (e : List ℕ × Json). (e.0, data_of e.1)) (map (λ (e : List ℕ × Held). (e.0, e.1.0)) ms))) ≡ false
members_whole [] = refl
members_whole (m ∷ ms) = rw m.1.1 (members_whole ms)

layer : (y : Json-F Held) → has_float (data_step (map-Json Json Data data_of (map-Json Held Json (λ e. e.0) y))) ≡ false
layer Json-F.Null = refl
layer (Json-F.Bool b) = refl
layer (Json-F.Int z) = refl
layer (Json-F.Nat n) = refl
layer (Json-F.Str s) = refl
layer (Json-F.Arr vs) = items_whole vs
layer (Json-F.Obj m) = members_whole m.entries

pub has_float-data_of : (j : Json) → IsWhole j
has_float-data_of = ind-Json IsWhole (λ x y is.
    ap has_float (fold-roll-Json Data data_step x) ∙ subst (λ z. has_float (data_step (map-Json Json Data data_of z)) ≡ false) is (layer y))
