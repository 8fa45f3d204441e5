-- Tests that hold and that don't, and equal texts, names and keys.
use Rattle.std.proofs.Common.{◌≡◌, ◌≢◌, ◌⊎◌, inl, inr, ℕ, suc, ◌≤◌, Bool, true, false, cond, not, ◌&&◌, ◌||◌, List, [], ◌∷◌, ◌++◌, bytes_eq, Option, Some, None, refl, ap, arith}
use Rattle.std.proofs.lemmas.Slice.Eq.{bytes_eq-Decides}
use Rattle.resource_types.specs.declared.names.Kind.{Kind}
use Rattle.resource_types.specs.declared.names.Name.{Name}
use Rattle.resource_types.specs.declared.names.Key.{Key}
use Rattle.resource_types.specs.declared.objects.Object.{Object}
use Rattle.resource_types.proofs.Exact.{left, right, bytes-exact}
use Rattle.control_rules.specs.Standing.{key_at, listed}
use Rattle.control_rules.specs.Slots.{same_name}

-- ---- what is there

pub some_same : {A : Type 0} {a b : A} → Some a ≡ Some b → a ≡ b
some_same e = cc

pub none_some : {A : Type 0} {o : Option A} {a : A} → o ≡ None → o ≡ Some a → ⊥
none_some e f = absurd cc

-- ---- tests

pub both : {a b : Bool} → a ≡ true → b ≡ true → (a && b) ≡ true
both {a = true} e f = f
both {a = false} e f = absurd cc

pub not_both : {b : Bool} → b ≡ true → b ≡ false → ⊥
not_both h k = cc

pub not_true : {b : Bool} → not b ≡ true → b ≡ false
not_true {b = true} h = absurd cc
not_true {b = false} h = refl

pub not_false : {b : Bool} → not b ≡ false → b ≡ true
not_false {b = true} h = refl
not_false {b = false} h = absurd cc

-- what isn't true is false
pub false_from : {b : Bool} → (b ≡ true → ⊥) → b ≡ false
false_from {b = true} h = absurd (h refl)
false_from {b = false} h = refl

pub true_or_false : (b : Bool) → (b ≡ true) ⊎ (b ≡ false)
true_or_false true = inl refl
true_or_false false = inr refl

-- of two tests that don't both hold, the second doesn't where the first does
pub and_false : (a b : Bool) → (a && b) ≡ false → a ≡ true → b ≡ false
and_false true b h e = h
and_false false b h e = absurd cc

pub or_false : {a b : Bool} → (a || b) ≡ false → (a ≡ false) × (b ≡ false)
or_false {a = true} h = absurd cc
or_false {a = false} h = (refl, h)

pub or_cases : {a b : Bool} → (a || b) ≡ true → (a ≡ true) ⊎ (b ≡ true)
or_cases {a = true} h = inl refl
or_cases {a = false} h = inr h

-- ---- numbers

pub at_end : (m n : ℕ) → m ≤ suc n → (m ≡ suc n) ⊎ (m ≤ n)
at_end m n le = grind arith

pub two_ways : (a b : ℕ) → (suc a ≤ b) ⊎ (b ≤ a)
two_ways a b = grind arith

-- ---- texts and names

pub bytes_self : (x : List ℕ) → bytes_eq x x ≡ true
bytes_self x = (bytes_eq-Decides x x).1 refl

pub bytes_apart : (x y : List ℕ) → (x ≢ y) → bytes_eq x y ≡ false
bytes_apart x y h = false_from (λ e. h (bytes-exact x y e))

pub name_exact : (a b : Name) → same_name a b ≡ true → a ≡ b
name_exact a b h = join (bytes-exact _ _ (left _ _ h)) (bytes-exact _ _ (right (bytes_eq a.space b.space) _ h))
  where
    join : a.space ≡ b.space → a.name ≡ b.name → a ≡ b
    join p q = λ i. record { space = p i; name = q i }

pub name_self : (a : Name) → same_name a a ≡ true
name_self a = both (bytes_self a.space) (bytes_self a.name)

-- ---- texts among texts

pub listed_none : (x : List ℕ) → listed x [] ≡ true → ⊥
unfolding listed
listed_none x h = cc

pub listed_right : (x : List ℕ) (xs ys : List (List ℕ)) → listed x ys ≡ true → listed x (xs ++ ys) ≡ true
unfolding listed
listed_right x [] ys h = h
listed_right x (y ∷ xs) ys h = go (bytes_eq x y) (listed_right x xs ys h)
  where
    go : (b : Bool) → listed x (xs ++ ys) ≡ true → cond b true (listed x (xs ++ ys)) ≡ true
    go true ih = refl
    go false ih = ih

-- ---- parts of keys and objects

pub kind_same : {a b : Key} → a ≡ b → a.kind ≡ b.kind
kind_same e = ap (λ (k : Key). k.kind) e

pub name_same : {a b : Key} → a ≡ b → a.name ≡ b.name
name_same e = ap (λ (k : Key). k.name) e

pub body_same : {a b : Object} → a ≡ b → a.body ≡ b.body
body_same e = ap (λ (o : Object). o.body) e

pub owner_same : {a b : Object} → a ≡ b → a.meta.owner ≡ b.meta.owner
owner_same e = ap (λ (o : Object). o.meta.owner) e

pub key_of_kind : (k : Key) (kind : Kind) → k.kind ≡ kind → k ≡ key_at kind k.name
key_of_kind k kind e = λ i. record { kind = e i; name = k.name }
