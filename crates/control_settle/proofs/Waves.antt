-- The number of turns that is enough, where a burden falls with each entry but statuses and pins, and pins and statuses come to rest meanwhile.
use Rattle.std.proofs.Common.{◌≡◌, ◌⊎◌, inl, inr, ℕ, zero, suc, ◌+◌, ◌-◌, ◌*◌, ◌≤◌, List, refl, ◌∙◌, arith}
use Rattle.control_settle.proofs.Machine.{In, passes, repeated, Ends, ends_later, ends_more, ends_here, Kept, passes_keep, Gives, passes_own, IsKnown}
use Rattle.control_entries.proofs.Tests.{two_ways}

module _ {J K C : Type 0} (N : Type 0) (round : K → J → J) (keys : C → J → List K) (order : List C) where
  abbrev pub turn : J → J
  turn j = passes round keys order j

  -- the key of a controller and a name
  pub record Keyed (key : N → K) : Type 0 where
    pub of : C
    pub listed : In of order
    pub known : (n : N) → IsKnown round keys of (key n)

  -- a turn keeps what each round keeps, and gives what the key's own round gives
  pub turn_keeps : (P : J → Type 0) → Kept round keys P → (j : J) → P j → P (turn j)
  turn_keeps P keep j h = passes_keep round keys P keep order j h

  pub turn_gives : (key : N → K) → Keyed key → (n : N) (P Q : J → Type 0) → Gives round keys P Q (key n) → (j : J) → P j → Q (turn j)
  turn_gives key d n P Q g j h = passes_own round keys P Q d.of (key n) g (d.known n) order d.listed j h

  pub turns_keep : (P : J → Type 0) → Kept round keys P → (t : ℕ) (j : J) → P j → P (repeated turn t j)
  unfolding repeated
  turns_keep P keep zero j h = h
  turns_keep P keep (suc t) j h = turns_keep P keep t (turn j) (turn_keeps P keep j h)

  -- ---- a number that its own round lowers, and no round raises, is 0 after so many turns

  pub record Lowers (P : J → Type 0) (key : N → K) (A : N → J → ℕ) : Type 0 where
    pub keeps : Kept round keys P
    pub stays : (k : K) (j : J) → P j → (n : N) → A n (round k j) ≤ A n j
    pub own : (j : J) → P j → (n : N) → A n (round (key n) j) ≤ A n j - 1

  lowers_gives : (P : J → Type 0) (key : N → K) (A : N → J → ℕ) → Lowers P key A → (n : N) (b : ℕ) → Gives round keys (λ j. P j × (A n j ≤ b)) (λ j. A n j ≤ b - 1) (key n)
  lowers_gives P key A l n b = record {
    keeps = λ k j h. (l.keeps k j h.0, let a = l.stays k j h.0 n in let c = h.1 in omega arith);
    own = λ j h. let a = l.own j h.0 n in let c = h.1 in omega arith;
    stays = λ k j h q. let a = l.stays k j h.0 n in omega arith;
  }

  pub lowered : (P : J → Type 0) (key : N → K) (A : N → J → ℕ) → Keyed key → Lowers P key A → (t : ℕ) (j : J) → P j → ((n : N) → A n j ≤ t) → (n : N) → A n (repeated turn t j) ≤ 0
  unfolding repeated
  lowered P key A d l zero j h most n = most n
  lowered P key A d l (suc t) j h most n =
      lowered P key A d l t (turn j) (turn_keeps P l.keeps j h) (λ m. let a : A m (turn j) ≤ suc t - 1 = turn_gives key d m (λ i. P i × (A m i ≤ suc t)) (λ i. A m i ≤ suc t - 1) (lowers_gives P key A l m (suc t)) j (h, most m) in omega arith) n

  -- ---- a burden that no round raises

  module _ (W : J → ℕ) where
    -- the round lowers the burden
    abbrev pub Falls : K → J → Type 0
    Falls k j = suc (W (round k j)) ≤ W j

    -- the burden is below s, or T
    abbrev pub Or : ℕ → J → Type 0 → Type 0
    Or s j T = (suc (W j) ≤ s) ⊎ T

    all_or : (s : ℕ) (j : J) (T : N → Type 0) → ((n : N) → Or s j (T n)) → Or s j ((n : N) → T n)
    all_or s j T h = go (two_ways (W j) s)
      where
        go : (suc (W j) ≤ s) ⊎ (s ≤ W j) → Or s j ((n : N) → T n)
        go (inl lt) = inl lt
        go (inr le) = inr (λ n. elim (h n) [ inl lt ↦ absurd (omega arith) | inr t ↦ t ])

    -- what is left to do at each name, and what is due to be right of each name in turn: RR, then CR, then SR
    pub record Work (Base : J → Type 0) (X : N → J → ℕ) (RR CR SR : N → J → Type 0) (route revision configuration service : N → K) : Type 0 where
      pub keeps : Kept round keys Base
      pub burden : (k : K) (j : J) → Base j → W (round k j) ≤ W j
      pub sum : (k : K) (j : J) → Base j → (r : N) → X r (round k j) + W (round k j) ≤ X r j + W j
      pub own : (j : J) → Base j → (r : N) → (Falls (route r) j) ⊎ (X r (round (route r) j) ≤ X r j - 1)
      pub revision_own : (j : J) → Base j → ((r : N) → X r j ≡ 0) → (n : N) → (Falls (revision n) j) ⊎ RR n (round (revision n) j)
      pub revision_stays : (k : K) (j : J) → Base j → ((r : N) → X r j ≡ 0) → (n : N) → RR n j → (Falls k j) ⊎ RR n (round k j)
      pub configuration_own : (j : J) → Base j → ((r : N) → X r j ≡ 0) → ((n : N) → RR n j) → (n : N) → (Falls (configuration n) j) ⊎ CR n (round (configuration n) j)
      pub configuration_stays : (k : K) (j : J) → Base j → ((r : N) → X r j ≡ 0) → ((n : N) → RR n j) → (n : N) → CR n j → (Falls k j) ⊎ CR n (round k j)
      pub service_own : (j : J) → Base j → ((r : N) → X r j ≡ 0) → ((n : N) → RR n j) → ((n : N) → CR n j) → (n : N) → (Falls (service n) j) ⊎ SR n (round (service n) j)
      pub service_stays : (k : K) (j : J) → Base j → ((r : N) → X r j ≡ 0) → ((n : N) → RR n j) → ((n : N) → CR n j) → (n : N) → SR n j → (Falls k j) ⊎ SR n (round k j)
      pub idle : (k : K) (j : J) → Base j → ((r : N) → X r j ≡ 0) → ((n : N) → RR n j) → ((n : N) → CR n j) → ((n : N) → SR n j) → (Falls k j) ⊎ (round k j ≡ j)

    module _ (Base : J → Type 0) (X : N → J → ℕ) (RR CR SR : N → J → Type 0) (route revision configuration service : N → K)
        (at_route : Keyed route) (at_revision : Keyed revision) (at_configuration : Keyed configuration) (at_service : Keyed service)
        (work : Work Base X RR CR SR route revision configuration service) where
      -- the burden is at most s, and with what is left at a name at most c
      record Level (s c : ℕ) (j : J) : Type 0 where
        base : Base j
        most : W j ≤ s
        sums : (r : N) → X r j + W j ≤ c

      level_kept : (s c : ℕ) → Kept round keys (Level s c)
      level_kept s c k j h = record {
        base = work.keeps k j h.base;
        most = let a = work.burden k j h.base in let b = h.most in omega arith;
        sums = λ r. let a = work.sum k j h.base r in let b = h.sums r in omega arith;
      }

      -- a turn lowers the sum, or the burden
      turn_lowers : (s c : ℕ) → suc s ≤ c → (j : J) → Level s c j → Or s (turn j) (Level s (c - 1) (turn j))
      turn_lowers s c lt j h = go (two_ways (W (turn j)) s)
        where
          after : Level s c (turn j)
          after = turn_keeps (Level s c) (level_kept s c) j h

          least : (r : N) → X r (turn j) + W (turn j) ≤ c
          least r = after.sums r

          gives : (r : N) → Gives round keys (Level s c) (λ i. Or s i (X r i + W i ≤ c - 1)) (route r)
          gives r = record {
            keeps = level_kept s c;
            own = λ i l. by i l (work.own i l.base r);
            stays = λ k i l q. on k i l q;
          }
            where
              by : (i : J) → Level s c i → (Falls (route r) i) ⊎ (X r (round (route r) i) ≤ X r i - 1) → Or s (round (route r) i) (X r (round (route r) i) + W (round (route r) i) ≤ c - 1)
              by i l (inl f) = inl (let m = l.most in omega arith)
              by i l (inr e) = inr (let m = l.most in let b = work.burden (route r) i l.base in let x = l.sums r in omega arith)

              on : (k : K) (i : J) → Level s c i → Or s i (X r i + W i ≤ c - 1) → Or s (round k i) (X r (round k i) + W (round k i) ≤ c - 1)
              on k i l (inl f) = inl (let b = work.burden k i l.base in omega arith)
              on k i l (inr e) = inr (let b = work.sum k i l.base r in omega arith)

          go : (suc (W (turn j)) ≤ s) ⊎ (s ≤ W (turn j)) → Or s (turn j) (Level s (c - 1) (turn j))
          go (inl f) = inl f
          go (inr le) = inr (record {
            base = after.base;
            most = after.most;
            sums = λ r. elim (turn_gives route at_route r (Level s c) (λ i. Or s i (X r i + W i ≤ c - 1)) (gives r) j h) [ inl f ↦ absurd (omega arith) | inr q ↦ q ];
          })

      -- where the burden is still s, nothing is left at any name
      zero_left : (s c : ℕ) → c ≤ s → (j : J) → Level s c j → s ≤ W j → (r : N) → X r j ≡ 0
      zero_left s c le j h at r = let x = h.sums r in omega arith

      -- ---- the waves of statuses

      module _ (s c : ℕ) (le : c ≤ s) where
        fell : (k : K) (j : J) → Level s c j → Falls k j → suc (W (round k j)) ≤ s
        fell k j l f = let m = l.most in omega arith

        less : (k : K) (j : J) → Level s c j → suc (W j) ≤ s → suc (W (round k j)) ≤ s
        less k j l f = let b = work.burden k j l.base in omega arith

        step : (k : K) (j : J) (T : Type 0) → Level s c j → (Falls k j) ⊎ T → Or s (round k j) T
        step k j T l (inl f) = inl (fell k j l f)
        step k j T l (inr t) = inr t

        -- by the burden: below s, or nothing is left
        case : (k : K) (j : J) (T : Type 0) → Level s c j → (((r : N) → X r j ≡ 0) → (Falls k j) ⊎ T) → Or s (round k j) T
        case k j T l h = go (two_ways (W j) s)
          where
            go : (suc (W j) ≤ s) ⊎ (s ≤ W j) → Or s (round k j) T
            go (inl f) = inl (less k j l f)
            go (inr at) = step k j T l (h (zero_left s c le j l at))

        -- what holds of each name stays so
        all_kept : (P : J → Type 0) (T : N → J → Type 0) → ((j : J) → P j → Level s c j) → Kept round keys P → ((k : K) (j : J) → P j → ((r : N) → X r j ≡ 0) → (n : N) → T n j → (Falls k j) ⊎ T n (round k j)) → Kept round keys (λ j. P j × Or s j ((n : N) → T n j))
        all_kept P T level keep stays k j h = (keep k j h.0, go h.1)
          where
            go : Or s j ((n : N) → T n j) → Or s (round k j) ((n : N) → T n (round k j))
            go (inl f) = inl (less k j (level j h.0) f)
            go (inr t) = all_or s (round k j) (λ n. T n (round k j)) (λ n. case k j (T n (round k j)) (level j h.0) (λ z. stays k j h.0 z n (t n)))

        all_given : (P : J → Type 0) (T : N → J → Type 0) (key : N → K) → Keyed key → ((j : J) → P j → Level s c j) → Kept round keys P → ((k : K) (j : J) → P j → ((r : N) → X r j ≡ 0) → (n : N) → T n j → (Falls k j) ⊎ T n (round k j)) → ((j : J) → P j → ((r : N) → X r j ≡ 0) → (n : N) → (Falls (key n) j) ⊎ T n (round (key n) j)) → (j : J) → P j → Or s (turn j) ((n : N) → T n (turn j))
        all_given P T key d level keep stays own j h = all_or s (turn j) (λ n. T n (turn j)) (λ n. turn_gives key d n P (λ i. Or s i (T n i)) (record {
          keeps = keep;
          own = λ i p. case (key n) i (T n (round (key n) i)) (level i p) (λ z. own i p z n);
          stays = λ k i p q. elim q [ inl f ↦ inl (less k i (level i p) f) | inr t ↦ case k i (T n (round k i)) (level i p) (λ z. stays k i p z n t) ];
        }) j h)

        abbrev One : J → Type 0
        One j = Level s c j × Or s j ((n : N) → RR n j)

        abbrev Two : J → Type 0
        Two j = One j × Or s j ((n : N) → CR n j)

        abbrev Three : J → Type 0
        Three j = Two j × Or s j ((n : N) → SR n j)

        one_kept : Kept round keys One
        one_kept = all_kept (Level s c) RR (λ j l. l) (level_kept s c) (λ k j l z n t. work.revision_stays k j l.base z n t)

        one_given : (j : J) → Level s c j → One (turn j)
        one_given j l = (turn_keeps (Level s c) (level_kept s c) j l, all_given (Level s c) RR revision at_revision (λ j l. l) (level_kept s c) (λ k j l z n t. work.revision_stays k j l.base z n t) (λ j l z n. work.revision_own j l.base z n) j l)

        -- with what came before, where the burden is still s
        with_all : (k : K) (j : J) (A T : Type 0) → Level s c j → Or s j A → (A → (Falls k j) ⊎ T) → Or s (round k j) T
        with_all k j A T l (inl f) h = inl (less k j l f)
        with_all k j A T l (inr a) h = step k j T l (h a)

        -- as above, with what came before
        all_kept_with : (P A : J → Type 0) (T : N → J → Type 0) → ((j : J) → P j → Level s c j × Or s j (A j)) → Kept round keys P → ((k : K) (j : J) → Level s c j → A j → ((r : N) → X r j ≡ 0) → (n : N) → T n j → (Falls k j) ⊎ T n (round k j)) → Kept round keys (λ j. P j × Or s j ((n : N) → T n j))
        all_kept_with P A T level keep stays k j h = (keep k j h.0, go h.1)
          where
            go : Or s j ((n : N) → T n j) → Or s (round k j) ((n : N) → T n (round k j))
            go (inl f) = inl (less k j (level j h.0).0 f)
            go (inr t) = all_or s (round k j) (λ n. T n (round k j)) (λ n. by n (two_ways (W j) s))
              where
                by : (n : N) → (suc (W j) ≤ s) ⊎ (s ≤ W j) → Or s (round k j) (T n (round k j))
                by n (inl f) = inl (less k j (level j h.0).0 f)
                by n (inr at) = with_all k j (A j) (T n (round k j)) (level j h.0).0 (level j h.0).1 (λ a. stays k j (level j h.0).0 a (zero_left s c le j (level j h.0).0 at) n (t n))

        all_given_with : (P A : J → Type 0) (T : N → J → Type 0) (key : N → K) → Keyed key → ((j : J) → P j → Level s c j × Or s j (A j)) → Kept round keys P → ((k : K) (j : J) → Level s c j → A j → ((r : N) → X r j ≡ 0) → (n : N) → T n j → (Falls k j) ⊎ T n (round k j)) → ((j : J) → Level s c j → A j → ((r : N) → X r j ≡ 0) → (n : N) → (Falls (key n) j) ⊎ T n (round (key n) j)) → (j : J) → P j → Or s (turn j) ((n : N) → T n (turn j))
        all_given_with P A T key d level keep stays own j h = all_or s (turn j) (λ n. T n (turn j)) (λ n. turn_gives key d n P (λ i. Or s i (T n i)) (record {
          keeps = keep;
          own = λ i p. by (key n) i p (T n (round (key n) i)) (λ a z. own i (level i p).0 a z n);
          stays = λ k i p q. elim q [ inl f ↦ inl (less k i (level i p).0 f) | inr t ↦ by k i p (T n (round k i)) (λ a z. stays k i (level i p).0 a z n t) ];
        }) j h)
          where
            by : (k : K) (i : J) → P i → (U : Type 0) → (A i → ((r : N) → X r i ≡ 0) → (Falls k i) ⊎ U) → Or s (round k i) U
            by k i p U h = go (two_ways (W i) s)
              where
                go : (suc (W i) ≤ s) ⊎ (s ≤ W i) → Or s (round k i) U
                go (inl f) = inl (less k i (level i p).0 f)
                go (inr at) = with_all k i (A i) U (level i p).0 (level i p).1 (λ a. h a (zero_left s c le i (level i p).0 at))

        two_kept : Kept round keys Two
        two_kept = all_kept_with One (λ j. (n : N) → RR n j) CR (λ j o. o) one_kept (λ k j l a z n t. work.configuration_stays k j l.base z a n t)

        two_given : (j : J) → One j → Two (turn j)
        two_given j o = (turn_keeps One one_kept j o, all_given_with One (λ j. (n : N) → RR n j) CR configuration at_configuration (λ j o. o) one_kept (λ k j l a z n t. work.configuration_stays k j l.base z a n t) (λ j l a z n. work.configuration_own j l.base z a n) j o)

        abbrev Rights : J → Type 0
        Rights j = ((n : N) → RR n j) × ((n : N) → CR n j)

        both_or : (j : J) (A B : Type 0) → Or s j A → Or s j B → Or s j (A × B)
        both_or j A B (inl f) b = inl f
        both_or j A B (inr a) (inl f) = inl f
        both_or j A B (inr a) (inr b) = inr (a, b)

        two_rights : (j : J) → Two j → Level s c j × Or s j (Rights j)
        two_rights j h = (h.0.0, both_or j ((n : N) → RR n j) ((n : N) → CR n j) h.0.1 h.1)

        three_kept : Kept round keys Three
        three_kept = all_kept_with Two Rights SR two_rights two_kept (λ k j l a z n t. work.service_stays k j l.base z a.0 a.1 n t)

        three_given : (j : J) → Two j → Three (turn j)
        three_given j o = (turn_keeps Two two_kept j o, all_given_with Two Rights SR service at_service two_rights two_kept (λ k j l a z n t. work.service_stays k j l.base z a.0 a.1 n t) (λ j l a z n. work.service_own j l.base z a.0 a.1 n) j o)

        abbrev Four : J → J → Type 0
        Four i j = Three j × Or s j (j ≡ i)

        four_kept : (i : J) → Kept round keys (Four i)
        four_kept i k j h = (three_kept k j h.0, go h.1)
          where
            go : Or s j (j ≡ i) → Or s (round k j) (round k j ≡ i)
            go (inl f) = inl (less k j h.0.0.0.0 f)
            go (inr e) = by (two_ways (W j) s)
              where
                on : (Falls k j) ⊎ (round k j ≡ j) → Or s (round k j) (round k j ≡ i)
                on (inl f) = inl (fell k j h.0.0.0.0 f)
                on (inr q) = inr (q ∙ e)

                by : (suc (W j) ≤ s) ⊎ (s ≤ W j) → Or s (round k j) (round k j ≡ i)
                by (inl f) = inl (less k j h.0.0.0.0 f)
                by (inr at) = all (both_or j (Rights j) ((n : N) → SR n j) (two_rights j h.0.0).1 h.0.1)
                  where
                    all : Or s j (Rights j × ((n : N) → SR n j)) → Or s (round k j) (round k j ≡ i)
                    all (inl f) = inl (less k j h.0.0.0.0 f)
                    all (inr a) = on (work.idle k j h.0.0.0.0.base (zero_left s c le j h.0.0.0.0 at) a.0.0 a.0.1 a.1)

        four_given : (j : J) → Three j → Or s (turn j) (turn j ≡ j)
        four_given j o = (turn_keeps (Four j) (four_kept j) j (o, inr refl)).1

      -- ---- so many turns are enough

      -- with a burden below s
      abbrev Below : ℕ → Type 0
      Below s = (c : ℕ) (j : J) → Base j → suc (W j) ≤ s → ((r : N) → X r j + W j ≤ c) → Ends turn (c + 5 * s) j

      -- a turn more, where the burden fell
      fallen : (s c : ℕ) → Below s → (j : J) → Level s c j → suc (W j) ≤ s → Ends turn (c + 5 * s) j
      fallen s c below j l f = below c j l.base f l.sums

      waves : (s c : ℕ) → c ≤ s → Below s → (j : J) → Level s c j → Ends turn (4 + (c + 5 * s)) j
      waves s c le below j l = ends_more turn (suc (3 + (c + 5 * s))) (4 + (c + 5 * s)) j (omega arith) (ends_later turn (3 + (c + 5 * s)) j (first (one_given s c le j l)))
        where
          f : ℕ
          f = c + 5 * s

          fourth : (j : J) → Three s c le j → Or s (turn j) (turn j ≡ j) → Ends turn (1 + f) j
          fourth j h (inr e) = ends_more turn 1 (1 + f) j (omega arith) (ends_here turn 0 j e)
          fourth j h (inl fewer) = ends_more turn (suc f) (1 + f) j (omega arith) (ends_later turn f j (fallen s c below (turn j) (turn_keeps (Level s c) (level_kept s c) j h.0.0.0) fewer))

          third : (j : J) → Three s c le j → Ends turn (1 + f) j
          third j h = fourth j h (four_given s c le j h)

          second : (j : J) → Two s c le j → Ends turn (2 + f) j
          second j h = ends_more turn (suc (1 + f)) (2 + f) j (omega arith) (ends_later turn (1 + f) j (third (turn j) (three_given s c le j h)))

          first : One s c le (turn j) → Ends turn (3 + f) (turn j)
          first h = ends_more turn (suc (2 + f)) (3 + f) (turn j) (omega arith) (ends_later turn (2 + f) (turn j) (second (turn (turn j)) (two_given s c le (turn j) h)))

      -- with a burden of s at most, by what is left
      at_level : (s : ℕ) → Below s → (d c : ℕ) → c ≤ d + s → (j : J) → Level s c j → Ends turn (c + 5 * s + 4) j
      at_level s below zero c le j l = ends_more turn _ (c + 5 * s + 4) j (omega arith) (waves s c (omega arith) below j l)
      at_level s below (suc d) c le j l = go (two_ways s c) (λ i h. at_level s below d (c - 1) (omega arith) i h)
        where
          go : (suc s ≤ c) ⊎ (c ≤ s) → ((i : J) → Level s (c - 1) i → Ends turn ((c - 1) + 5 * s + 4) i) → Ends turn (c + 5 * s + 4) j
          go (inr at) later = ends_more turn _ (c + 5 * s + 4) j (omega arith) (waves s c at below j l)
          go (inl more) later = by (turn_lowers s c more j l)
            where
              by : Or s (turn j) (Level s (c - 1) (turn j)) → Ends turn (c + 5 * s + 4) j
              by (inl f) = ends_more turn (suc (c + 5 * s)) (c + 5 * s + 4) j (omega arith) (ends_later turn (c + 5 * s) j (fallen s c below (turn j) (turn_keeps (Level s c) (level_kept s c) j l) f))
              by (inr h) = ends_more turn (suc ((c - 1) + 5 * s + 4)) (c + 5 * s + 4) j (omega arith) (ends_later turn ((c - 1) + 5 * s + 4) j (later (turn j) h))

      below : (s : ℕ) → Below s
      below zero = λ c j base f sums. absurd (omega arith)
      below (suc s) = λ c j base f sums. ends_more turn (c + 5 * s + 4) (c + 5 * suc s) j (omega arith) (at_level s (below s) c c (omega arith) j (record { base = base; most = omega arith; sums = sums }))

      -- where what is left at each name is at most one more than the burden
      pub linear : (j : J) → Base j → ((r : N) → X r j ≤ suc (W j)) → Ends turn (7 * W j + 6) j
      linear j base most = ends_more turn _ (7 * W j + 6) j (omega arith) (below (suc (W j)) (suc (W j + W j)) j base (omega arith) (λ r. let x = most r in omega arith))
