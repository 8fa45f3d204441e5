-- What is listed once a pin is added or dropped, and that pins rise.
use Rattle.std.proofs.Common.{◌≡◌, ◌⊎◌, inl, inr, ℕ, Bool, true, false, cond, List, [], ◌∷◌, ◌++◌, Some, refl, sym, ap, subst, suc, zero}
use Rattle.std.specs.Prelude.{not, bytes_eq, slice_get}
use Rattle.std.specs.Ordering.{nat_cmp, is_lt}
use Rattle.std.specs.Cmp.Lexicographic.{slice_cmp}
use Rattle.control_rules.specs.Standing.{listed}
use Rattle.control_rules.specs.NextRoute.{add_pin, drop_pin}
use Rattle.control_entries.proofs.Tests.{bytes_self, some_same}
use Rattle.resource_types.proofs.Exact.{bytes-exact}

pub listed_none : (x : List ℕ) → listed x [] ≡ false
unfolding listed
listed_none x = refl

pub listed_first : (x y : List ℕ) (ys : List (List ℕ)) → listed x ys ≡ true → listed x (y ∷ ys) ≡ true
unfolding listed
listed_first x y ys h = go (bytes_eq x y)
  where
    go : (b : Bool) → cond b true (listed x ys) ≡ true
    go true = refl
    go false = h

pub listed_left : (x : List ℕ) (ys zs : List (List ℕ)) → listed x ys ≡ true → listed x (ys ++ zs) ≡ true
unfolding listed
listed_left x [] zs h = absurd cc
listed_left x (y ∷ ys) zs h = go (bytes_eq x y) h (listed_left x ys zs)
  where
    go : (b : Bool) → cond b true (listed x ys) ≡ true → (listed x ys ≡ true → listed x (ys ++ zs) ≡ true) → cond b true (listed x (ys ++ zs)) ≡ true
    go true e ih = refl
    go false e ih = ih e

pub listed_right : (x : List ℕ) (ys zs : List (List ℕ)) → listed x zs ≡ true → listed x (ys ++ zs) ≡ true
listed_right x [] zs h = h
listed_right x (y ∷ ys) zs h = listed_first x y (ys ++ zs) (listed_right x ys zs h)

pub listed_either : (x : List ℕ) (ys zs : List (List ℕ)) → listed x (ys ++ zs) ≡ true → (listed x ys ≡ true) ⊎ (listed x zs ≡ true)
unfolding listed
listed_either x [] zs h = inr h
listed_either x (y ∷ ys) zs h = go (bytes_eq x y) h (listed_either x ys zs)
  where
    go : (b : Bool) → cond b true (listed x (ys ++ zs)) ≡ true → (listed x (ys ++ zs) ≡ true → (listed x ys ≡ true) ⊎ (listed x zs ≡ true))
        → (cond b true (listed x ys) ≡ true) ⊎ (listed x zs ≡ true)
    go true e ih = inl refl
    go false e ih = ih e

-- what is listed has a place, and what has a place is listed
pub listed_at : (x : List ℕ) (ys : List (List ℕ)) → listed x ys ≡ true → (i : ℕ) × (slice_get ys i ≡ Some x)
unfolding listed
listed_at x [] h = absurd cc
listed_at x (y ∷ ys) h = go (bytes_eq x y) refl h (listed_at x ys)
  where
    go : (b : Bool) → bytes_eq x y ≡ b → cond b true (listed x ys) ≡ true → (listed x ys ≡ true → (i : ℕ) × (slice_get ys i ≡ Some x))
        → (i : ℕ) × (slice_get (y ∷ ys) i ≡ Some x)
    go true e k ih = (0, ap Some (sym (bytes-exact x y e)))
    go false e k ih = let (i, f) = ih k in (suc i, f)

pub at_listed : (x : List ℕ) (ys : List (List ℕ)) (i : ℕ) → slice_get ys i ≡ Some x → listed x ys ≡ true
unfolding listed
at_listed x [] i h = absurd cc
at_listed x (y ∷ ys) zero h = rw (subst (λ z. bytes_eq x z ≡ true) (sym (some_same h)) (bytes_self x)) refl
at_listed x (y ∷ ys) (suc i) h = listed_first x y ys (at_listed x ys i h)

-- ---- one pin more

pub listed_added : (x r : List ℕ) (ps : List (List ℕ)) → bytes_eq x r ≡ false → listed x (add_pin r ps) ≡ listed x ps
unfolding listed add_pin
listed_added x r [] h = rw h refl
listed_added x r (p ∷ ps) h = go (is_lt (slice_cmp nat_cmp r p)) (listed_added x r ps h)
  where
    go : (b : Bool) → listed x (add_pin r ps) ≡ listed x ps
        → listed x (cond b (r ∷ p ∷ ps) (p ∷ add_pin r ps)) ≡ cond (bytes_eq x p) true (listed x ps)
    go true ih = rw h refl
    go false ih = ap (λ b. cond (bytes_eq x p) true b) ih

pub listed_adds : (r : List ℕ) (ps : List (List ℕ)) → listed r (add_pin r ps) ≡ true
unfolding listed add_pin
listed_adds r [] = rw (bytes_self r) refl
listed_adds r (p ∷ ps) = go (is_lt (slice_cmp nat_cmp r p)) (listed_adds r ps)
  where
    go : (b : Bool) → listed r (add_pin r ps) ≡ true → listed r (cond b (r ∷ p ∷ ps) (p ∷ add_pin r ps)) ≡ true
    go true ih = rw (bytes_self r) refl
    go false ih = listed_first r p (add_pin r ps) ih

-- ---- one pin less

pub listed_dropped : (x r : List ℕ) (ps : List (List ℕ)) → bytes_eq x r ≡ false → listed x (drop_pin r ps) ≡ listed x ps
unfolding listed drop_pin
listed_dropped x r [] h = refl
listed_dropped x r (p ∷ ps) h = go (bytes_eq p r) refl (listed_dropped x r ps h)
  where
    go : (b : Bool) → bytes_eq p r ≡ b → listed x (drop_pin r ps) ≡ listed x ps
        → listed x (cond (not b) (p ∷ drop_pin r ps) (drop_pin r ps)) ≡ cond (bytes_eq x p) true (listed x ps)
    go true e ih = rw (subst (λ z. bytes_eq x z ≡ false) (sym (bytes-exact p r e)) h) ih
    go false e ih = ap (λ b. cond (bytes_eq x p) true b) ih
