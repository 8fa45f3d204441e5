-- What tables of rules say, one line and one part at a time.
use Rattle.std.proofs.Common.{◌≡◌, ℕ, suc, ◌+◌, ◌<◌, ◌≤◌, List, [], ◌∷◌, ◌++◌, length, get_or, take, drop, Ok, Err, refl, sym, ap, ◌∙◌, arith}
use Rattle.std.proofs.lemmas.List.{drop_more, drop_all, take_more, length-take}
use Rattle.json_tree.specs.declared.value.Json.{Json}
use Rattle.json_tree.specs.declared.value.Json.TheViews.{out-Json}
use Rattle.resource_types.specs.declared.names.ClientKind.{ClientKind}
use Rattle.resource_types.specs.declared.specification.Target.{Target}
use Rattle.validation.specs.declared.places.Invalid.{Invalid}
use Rattle.validation.specs.declared.places.Place.TheVariants as place
use Rattle.validation.specs.declared.places.Rule.TheVariants as rule
use Rattle.validation.specs.Rules.{◌>>=◌, Verdict, Line, line, verdict_of, first_fault, has_image, container_lines, target_lines, each_target_lines}

by_line : (v rest both last : Verdict) → both ≡ rest >>= (λ (_ : Unit {0}). last) → v >>= (λ (_ : Unit {0}). both) ≡ (v >>= (λ (_ : Unit {0}). rest)) >>= (λ (_ : Unit {0}). last)
by_line (Ok y) rest both last is = is
by_line (Err e) rest both last is = refl

-- a table in two parts: the second part counts where the first says nothing
pub fault_of_both : (xs ys : List Line) → first_fault (xs ++ ys) ≡ first_fault xs >>= (λ (_ : Unit {0}). first_fault ys)
fault_of_both [] ys = refl
fault_of_both (x ∷ xs) ys = by_line (verdict_of x) (first_fault xs) (first_fault (xs ++ ys)) (first_fault ys) (fault_of_both xs ys)

pub then_ok : (first rest total : Verdict) (x : Unit {0}) → first >>= (λ (y : Unit {0}). rest) ≡ total → first ≡ Ok x → rest ≡ total
then_ok (Ok y) rest total x so_far is = so_far
then_ok (Err e) rest total x so_far is = absurd cc

pub then_err : (first rest total : Verdict) (e : Invalid) → first >>= (λ (y : Unit {0}). rest) ≡ total → first ≡ Err e → Err e ≡ total
then_err (Ok y) rest total e so_far is = absurd cc
then_err (Err d) rest total e so_far is = sym is ∙ so_far

left : {A : Type 0} (xs : List A) (i : ℕ) (x : A) → i < length xs → x ≡ get_or xs i x → drop i xs ≡ x ∷ drop (i + 1) xs
left xs i x lt at = drop_more xs i x lt ∙ ap (λ y. y ∷ drop (i + 1) xs) (sym at)

pub container_step : (js : List Json) (i : ℕ) (j : Json) → i < length js → j ≡ get_or js i j
    → verdict_of (line (place.Image i) rule.Image (has_image (out-Json j))) >>= (λ (y : Unit {0}). first_fault (container_lines (i + 1) (drop (i + 1) js))) ≡ first_fault (container_lines i (drop i js))
container_step js i j lt at =
    let next : suc i ≡ i + 1 = omega arith in
    rw (left js i j lt at, ← next) refl

pub containers_done : (js : List Json) (i : ℕ) → length js ≤ i → first_fault (container_lines i (drop i js)) ≡ Ok tt
containers_done js i le = rw (drop_all i js le) refl

module _ (k : ClientKind) (n : List ℕ) (ts : List Target) where
  pub target_step : (i : ℕ) (t : Target) → i < length ts → t ≡ get_or ts i t
      → first_fault (target_lines k n (take i ts) i t) >>= (λ (y : Unit {0}). first_fault (each_target_lines k n (take (i + 1) ts) (drop (i + 1) ts))) ≡ first_fault (each_target_lines k n (take i ts) (drop i ts))
  unfolding each_target_lines
  target_step i t lt at =
      let index : length (take i ts) ≡ i = omega (arith, length-take i ts) in
      let more : take (i + 1) ts ≡ take i ts ++ t ∷ [] = take_more ts i t lt ∙ ap (λ x. take i ts ++ x ∷ []) (sym at) in
      let parts = fault_of_both (target_lines k n (take i ts) i t) (each_target_lines k n (take i ts ++ t ∷ []) (drop (i + 1) ts)) in
      rw (left ts i t lt at, more, index) (sym parts)

  pub targets_done : (i : ℕ) → length ts ≤ i → first_fault (each_target_lines k n (take i ts) (drop i ts)) ≡ Ok tt
  unfolding each_target_lines
  targets_done i le = rw (drop_all i ts le) refl
