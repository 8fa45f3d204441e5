-- Whether a text is among the texts that a list of other things has.
use Rattle.std.proofs.Common.{◌≡◌, ℕ, Bool, true, false, List, [], ◌∷◌, ◌++◌, refl, sym}
use Rattle.std.specs.Prelude.{◌||◌, bytes_eq, cond, map}
use Rattle.std.specs.List.{list_any}
use Rattle.control_rules.specs.Standing.{listed}

-- a choice of true is a disjunction
either : (t a b : Bool) → a ≡ b → cond t true a ≡ (t || b)
either true a b e = refl
either false a b e = e

pub listed_map : {X : Type 0} (text : X → List ℕ) (name : List ℕ) (xs : List X) → list_any (λ x. bytes_eq name (text x)) xs ≡ listed name (map text xs)
unfolding listed
listed_map text name [] = refl
listed_map text name (x ∷ xs) = sym (either (bytes_eq name (text x)) _ _ (sym (listed_map text name xs)))

pub listed_any : (name : List ℕ) (texts : List (List ℕ)) → list_any (λ x. bytes_eq name x) texts ≡ listed name texts
unfolding listed
listed_any name [] = refl
listed_any name (x ∷ xs) = sym (either (bytes_eq name x) _ _ (sym (listed_any name xs)))

pub listed-append : (name : List ℕ) (xs ys : List (List ℕ)) → listed name (xs ++ ys) ≡ (listed name xs || listed name ys)
unfolding listed
listed-append name [] ys = refl
listed-append name (x ∷ xs) ys = go (bytes_eq name x) (listed-append name xs ys)
  where
    go : (t : Bool) → listed name (xs ++ ys) ≡ (listed name xs || listed name ys) → cond t true (listed name (xs ++ ys)) ≡ (cond t true (listed name xs) || listed name ys)
    go true e = refl
    go false e = e
