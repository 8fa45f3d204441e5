-- Rounds of keys, passes and turns over journals of any kind: what each round keeps, a turn keeps, and what the round of a key gives, a turn gives.
use Rattle.std.proofs.Common.{◌≡◌, ◌⊎◌, inl, inr, ℕ, zero, suc, ◌≤◌, List, [], ◌∷◌, subst, arith}

-- a thing is in a list
pub data In {A : Type 0} (a : A) : List A → Type 0 where
  First : {rest : List A} → In a (a ∷ rest)
  Later : {b : A} {rest : List A} → In a rest → In a (b ∷ rest)

-- a round of each of these keys
unfoldable pub rounds : {J K : Type 0} → (K → J → J) → List K → J → J
rounds round [] j = j
rounds round (k ∷ ks) j = rounds round ks (round k j)

-- a pass of each of these controllers
unfoldable pub passes : {J K C : Type 0} → (K → J → J) → (C → J → List K) → List C → J → J
passes round keys [] j = j
passes round keys (c ∷ cs) j = passes round keys cs (rounds round (keys c j) j)

-- so many turns
unfoldable pub repeated : {J : Type 0} → (J → J) → ℕ → J → J
repeated turn zero j = j
repeated turn (suc t) j = repeated turn t (turn j)

-- a turn without entry comes among the first f
pub record Ends {J : Type 0} (turn : J → J) (f : ℕ) (j : J) : Type 0 where
  pub place : ℕ
  pub below : suc place ≤ f
  pub idle : turn (repeated turn place j) ≡ repeated turn place j

module _ {J : Type 0} (turn : J → J) where
  pub ends_later : (f : ℕ) (j : J) → Ends turn f (turn j) → Ends turn (suc f) j
  unfolding repeated
  ends_later f j e = record { place = suc e.place; below = let b = e.below in omega arith; idle = e.idle }

  pub ends_more : (f g : ℕ) (j : J) → f ≤ g → Ends turn f j → Ends turn g j
  ends_more f g j le e = record { place = e.place; below = let b = e.below in omega arith; idle = e.idle }

  pub ends_here : (f : ℕ) (j : J) → turn j ≡ j → Ends turn (suc f) j
  unfolding repeated
  ends_here f j e = record { place = 0; below = omega arith; idle = e }

module _ {J K C : Type 0} (round : K → J → J) (keys : C → J → List K) where
  -- each round keeps it
  abbrev pub Kept : (J → Type 0) → Type 0
  Kept P = (k : K) (j : J) → P j → P (round k j)

  pub rounds_keep : (P : J → Type 0) → Kept P → (ks : List K) (j : J) → P j → P (rounds round ks j)
  unfolding rounds
  rounds_keep P keep [] j h = h
  rounds_keep P keep (k ∷ ks) j h = rounds_keep P keep ks (round k j) (keep k j h)

  pub passes_keep : (P : J → Type 0) → Kept P → (cs : List C) (j : J) → P j → P (passes round keys cs j)
  unfolding passes
  passes_keep P keep [] j h = h
  passes_keep P keep (c ∷ cs) j h = passes_keep P keep cs (rounds round (keys c j) j) (rounds_keep P keep (keys c j) j h)

  -- where P is kept, the round of the key gives Q, and the others keep it
  pub record Gives (P Q : J → Type 0) (key : K) : Type 0 where
    pub keeps : Kept P
    pub own : (j : J) → P j → Q (round key j)
    pub stays : (k : K) (j : J) → P j → Q j → Q (round k j)

  -- both at once
  record Both (P Q : J → Type 0) (j : J) : Type 0 where
    p : P j
    q : Q j

  both_kept : (P Q : J → Type 0) (key : K) → Gives P Q key → Kept (Both P Q)
  both_kept P Q key g k j h = record { p = g.keeps k j h.p; q = g.stays k j h.p h.q }

  pub rounds_own : (P Q : J → Type 0) (key : K) → Gives P Q key → (ks : List K) → In key ks → (j : J) → P j → Q (rounds round ks j)
  unfolding rounds
  rounds_own P Q key g (k ∷ ks) (Later m) j h = rounds_own P Q key g ks m (round k j) (g.keeps k j h)
  rounds_own P Q key g (_ ∷ ks) First j h = (rounds_keep (Both P Q) (both_kept P Q key g) ks (round key j) (record { p = g.keeps key j h; q = g.own j h })).q
  rounds_own P Q key g [] m j h = elim m [ ]

  -- a key that is not among those of its controller is still
  abbrev pub IsKnown : C → K → Type 0
  IsKnown c key = (j : J) → (In key (keys c j)) ⊎ (round key j ≡ j)

  pass_own : (P Q : J → Type 0) (c : C) (key : K) → Gives P Q key → IsKnown c key → (j : J) → P j → Both P Q (rounds round (keys c j) j)
  pass_own P Q c key g known j h = go (known j)
    where
      go : (In key (keys c j)) ⊎ (round key j ≡ j) → Both P Q (rounds round (keys c j) j)
      go (inl m) = record { p = rounds_keep P g.keeps (keys c j) j h; q = rounds_own P Q key g (keys c j) m j h }
      go (inr e) = rounds_keep (Both P Q) (both_kept P Q key g) (keys c j) j (record { p = h; q = subst Q e (g.own j h) })

  pub passes_own : (P Q : J → Type 0) (c : C) (key : K) → Gives P Q key → IsKnown c key → (cs : List C) → In c cs → (j : J) → P j → Q (passes round keys cs j)
  unfolding passes
  passes_own P Q c key g known (d ∷ cs) (Later m) j h = passes_own P Q c key g known cs m (rounds round (keys d j) j) (rounds_keep P g.keeps (keys d j) j h)
  passes_own P Q c key g known (_ ∷ cs) First j h = (passes_keep (Both P Q) (both_kept P Q key g) cs (rounds round (keys c j) j) (pass_own P Q c key g known j h)).q
  passes_own P Q c key g known [] m j h = elim m [ ]
