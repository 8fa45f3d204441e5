-- Values that are read one after another are what is read of the list.
use Rattle.std.proofs.Common.{◌≡◌, ℕ, ◌+◌, ◌<◌, ◌≤◌, List, [], ◌∷◌, ◌++◌, length, get_or, drop, Option, Some, None, refl, sym, ap, ◌∙◌, append_assoc, append-nil}
use Rattle.std.proofs.lemmas.List.{drop_more, drop_all}
use Rattle.json_tree.specs.declared.value.Json.{Json}
use Rattle.gateway_pick.specs.declared.error.FollowError.{FollowError}
use Rattle.gateway_pick.specs.declared.error.FollowError.TheVariants as error
use Rattle.gateway_pick.specs.Reading.{◌>>=◌, IsRefusal}

abbrev pub with_front : {X : Type 0} → List X → Option (List X) → Option (List X)
with_front front read = read >>= λ xs. Some (front ++ xs)

module _ {X : Type 0} (one : Json → Option X) (all : List Json → Option (List X)) (none : all [] ≡ Some []) (next : (j : Json) (js : List Json) → all (j ∷ js) ≡ (one j >>= λ x. all js >>= λ xs. Some (x ∷ xs))) where
  regroup : (front : List X) (x : X) (r : Option (List X)) → with_front front (r >>= λ xs. Some (x ∷ xs)) ≡ with_front (front ++ x ∷ []) r
  regroup front x (Some xs) = ap Some (sym (append_assoc front (x ∷ []) xs))
  regroup front x None = refl

  pub starts : (r : Option (List X)) → with_front [] r ≡ r
  starts (Some xs) = refl
  starts None = refl

  left : (js : List Json) (i : ℕ) (j : Json) → i < length js → j ≡ get_or js i j → all (drop i js) ≡ (one j >>= λ x. all (drop (i + 1) js) >>= λ xs. Some (x ∷ xs))
  left js i j lt at = ap all (drop_more js i j lt ∙ ap (λ x. x ∷ drop (i + 1) js) (sym at)) ∙ next j (drop (i + 1) js)

  -- one more
  pub goes_on : (front : List X) (i : ℕ) (j : Json) (js : List Json) (x : X) (total : Option (List X)) → i < length js → j ≡ get_or js i j → one j ≡ Some x
      → with_front front (all (drop i js)) ≡ total → with_front (front ++ x ∷ []) (all (drop (i + 1) js)) ≡ total
  goes_on front i j js x total lt at h so_far =
      sym (ap (with_front front) (left js i j lt at ∙ ap (λ o. o >>= λ y. all (drop (i + 1) js) >>= λ xs. Some (y ∷ xs)) h) ∙ regroup front x (all (drop (i + 1) js))) ∙ so_far

  -- one that is none
  pub ends : (e : FollowError) (front : List X) (i : ℕ) (j : Json) (js : List Json) (total : Option (List X)) → i < length js → j ≡ get_or js i j → IsRefusal e (one j)
      → with_front front (all (drop i js)) ≡ total → IsRefusal e total
  ends error.Memory front i j js total lt at h so_far = tt
  ends error.Refused front i j js total lt at h so_far =
      sym so_far ∙ ap (with_front front) (left js i j lt at ∙ ap (λ o. o >>= λ y. all (drop (i + 1) js) >>= λ xs. Some (y ∷ xs)) h)

  pub is_done : (front : List X) (i : ℕ) (js : List Json) (total : Option (List X)) → length js ≤ i → with_front front (all (drop i js)) ≡ total → total ≡ Some front
  is_done front i js total past so_far = sym so_far ∙ ap (with_front front) (ap all (drop_all i js past) ∙ none) ∙ ap Some (append-nil front)
