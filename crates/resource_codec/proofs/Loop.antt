-- Targets that are read one after another are the targets of the list.
use Rattle.std.proofs.Common.{◌≡◌, ℕ, suc, ◌+◌, ◌<◌, ◌≤◌, List, [], ◌∷◌, ◌++◌, length, get_or, drop, Result, Ok, Err, refl, sym, ap, ◌∙◌, append_assoc, arith}
use Rattle.std.proofs.lemmas.List.{append-nil, drop_more, drop_all}
use Rattle.json_tree.specs.declared.value.Json.{Json}
use Rattle.resource_types.specs.declared.specification.Target.{Target}
use Rattle.resource_codec.specs.declared.fields.Field.{Field}
use Rattle.resource_codec.specs.declared.fields.DecodeError.{DecodeError}
use Rattle.resource_codec.specs.declared.fields.DecodeError.TheVariants as error
use Rattle.resource_codec.specs.Reading.{◌>>=◌, IsFault}
use Rattle.resource_codec.specs.Shape.{target_in, targets_in}

abbrev pub with_front : List Target → Result (List Target) Field → Result (List Target) Field
with_front front read = read >>= λ (ts : List Target). Ok (front ++ ts)

regroup : (front : List Target) (t : Target) (r : Result (List Target) Field) → with_front front (r >>= λ (ts : List Target). Ok (t ∷ ts)) ≡ with_front (front ++ t ∷ []) r
regroup front t (Ok ts) = ap Ok (sym (append_assoc front (t ∷ []) ts))
regroup front t (Err e) = refl

pub starts : (r : Result (List Target) Field) → with_front [] r ≡ r
starts (Ok ts) = refl
starts (Err e) = refl

left : (js : List Json) (i : ℕ) (j : Json) → i < length js → j ≡ get_or js i j → drop i js ≡ j ∷ drop (i + 1) js
left js i j lt at = drop_more js i j lt ∙ ap (λ x. x ∷ drop (i + 1) js) (sym at)

-- one target more
pub goes_on : (front : List Target) (i : ℕ) (j : Json) (js : List Json) (t : Target) (total : Result (List Target) Field) → i < length js → j ≡ get_or js i j → target_in i j ≡ Ok t
    → with_front front (targets_in i (drop i js)) ≡ total → with_front (front ++ t ∷ []) (targets_in (i + 1) (drop (i + 1) js)) ≡ total
unfolding targets_in
goes_on front i j js t total lt at h so_far =
    let k : suc i ≡ i + 1 = omega arith in
    let one : with_front front (targets_in i (drop i js)) ≡ with_front (front ++ t ∷ []) (targets_in (i + 1) (drop (i + 1) js)) = rw (left js i j lt at, h, ← k) (regroup front t (targets_in (suc i) (drop (suc i) js))) in
    sym one ∙ so_far

-- a target that is none
pub ends : (e : DecodeError) (front : List Target) (i : ℕ) (j : Json) (js : List Json) (total : Result (List Target) Field) → i < length js → j ≡ get_or js i j → IsFault e (target_in i j)
    → with_front front (targets_in i (drop i js)) ≡ total → IsFault e total
unfolding targets_in
ends error.Memory front i j js total lt at h so_far = tt
ends (error.Shape f) front i j js total lt at h so_far =
    let one : with_front front (targets_in i (drop i js)) ≡ Err f = rw (left js i j lt at, h) refl in
    sym so_far ∙ one

pub is_done : (front : List Target) (i : ℕ) (js : List Json) (total : Result (List Target) Field) → length js ≤ i → with_front front (targets_in i (drop i js)) ≡ total → total ≡ Ok front
unfolding targets_in
is_done front i js total past so_far =
    let none : drop i js ≡ [] = drop_all i js past in
    sym so_far ∙ rw none (ap Ok (append-nil front))
