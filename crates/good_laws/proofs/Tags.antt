-- Targets that keep the rules of a Route, with their defaults, are whole, and their tags differ.
use Rattle.std.proofs.Common.{◌≡◌, ◌≢◌, ℕ, zero, suc, ◌<◌, Bool, true, false, ◌||◌, not, List, [], ◌∷◌, ◌++◌, length, map, Option, Some, None, refl, sym, ap, ◌∙◌, subst, arith}
use Rattle.std.specs.Prelude.{IsSome, slice_get, unwrap_or}
use Rattle.std.specs.List.{list_any}
use Rattle.std.proofs.lemmas.Bool.{and_parts, leb-true, eqb-true}
use Rattle.std.proofs.lemmas.Option.{get_or_from_slice_get}
use Rattle.std.proofs.lemmas.Slice.Eq.{bytes_eq-Decides}
use Rattle.resource_types.specs.declared.names.ClientKind.{ClientKind}
use Rattle.resource_types.specs.declared.specification.Target.{Target}
use Rattle.validation.specs.Defaults.{is_empty, default_target}
use Rattle.validation.specs.Rules.{has_tag, target_lines, each_target_lines, traffic_lines}
use Rattle.control_safety.specs.Goods.{AreWellTagged}
use Rattle.validation.proofs.Lines.{AreKept, kept_left, kept_right}

-- ---- tests

is_false : {b : Bool} → not b ≡ true → b ≡ false
is_false {b = true} h = absurd cc
is_false {b = false} h = refl

or_parts : (a b : Bool) → (a || b) ≡ false → (a ≡ false) × (b ≡ false)
or_parts true b h = absurd cc
or_parts false b h = (refl, h)

tagged : (tag : List ℕ) (b : Bool) → tag ≢ [] → (is_empty tag || b) ≡ true → b ≡ true
tagged [] b some h = absurd (some refl)
tagged (x ∷ xs) b some h = h

any_end : (test : Target → Bool) (xs : List Target) (x : Target) → list_any test (xs ++ x ∷ []) ≡ false → (list_any test xs ≡ false) × (test x ≡ false)
any_end test [] x h = (refl, (or_parts (test x) false h).0)
any_end test (y ∷ ys) x h = go (or_parts (test y) (list_any test (ys ++ x ∷ [])) h) (any_end test ys x)
  where
    go : ((test y ≡ false) × (list_any test (ys ++ x ∷ []) ≡ false)) → (list_any test (ys ++ x ∷ []) ≡ false → (list_any test ys ≡ false) × (test x ≡ false))
        → (list_any test (y ∷ ys) ≡ false) × (test x ≡ false)
    go p ih = let q = ih p.1 in (rw p.0 q.0, q.1)

-- ---- tags

module _ (k : ClientKind) (n : List ℕ) where
  once : (earlier : List Target) (i : ℕ) (t : Target) → AreKept (target_lines k n earlier i t) → t.tag ≢ [] → list_any (has_tag t.tag) earlier ≡ false
  unfolding target_lines
  once earlier i t h some = is_false (tagged t.tag _ some h.1.1.1.1.1.1.0)

  -- no target behind has the tag of an earlier one
  not_earlier : (earlier ts : List Target) → AreKept (each_target_lines k n earlier ts) → (b : ℕ) (t : Target) → slice_get ts b ≡ Some t → t.tag ≢ []
      → list_any (has_tag t.tag) earlier ≡ false
  unfolding each_target_lines
  not_earlier earlier [] h b t e some = absurd cc
  not_earlier earlier (x ∷ xs) h zero t e some =
      let same : x ≡ t = cc in
      subst (λ (u : Target). u.tag ≢ [] → list_any (has_tag u.tag) earlier ≡ false) same (once earlier (length earlier) x (kept_left _ _ h)) some
  not_earlier earlier (x ∷ xs) h (suc b) t e some =
      (any_end (has_tag t.tag) earlier x (not_earlier (earlier ++ x ∷ []) xs (kept_right (target_lines k n earlier (length earlier) x) _ h) b t e some)).0

  -- nor that of the first
  not_first : (earlier : List Target) (x : Target) (xs : List Target) → AreKept (each_target_lines k n earlier (x ∷ xs)) → (b : ℕ) (t : Target) → slice_get xs b ≡ Some t → t.tag ≢ []
      → x.tag ≢ t.tag
  unfolding each_target_lines
  not_first earlier x xs h b t e some =
      let f = (any_end (has_tag t.tag) earlier x (not_earlier (earlier ++ x ∷ []) xs (kept_right (target_lines k n earlier (length earlier) x) _ h) b t e some)).1 in
      λ q. (let g = (bytes_eq-Decides x.tag t.tag).1 q in absurd cc)

  tags_differ : (earlier ts : List Target) → AreKept (each_target_lines k n earlier ts) → (a b : ℕ) (s t : Target) → slice_get ts a ≡ Some s → slice_get ts b ≡ Some t
      → s.tag ≢ [] → s.tag ≡ t.tag → a ≡ b
  unfolding each_target_lines
  tags_differ earlier [] h a b s t e f some q = absurd cc
  tags_differ earlier (x ∷ xs) h zero zero s t e f some q = refl
  tags_differ earlier (x ∷ xs) h zero (suc b) s t e f some q =
      let same : x ≡ s = cc in
      absurd (not_first earlier x xs h b t f (subst (λ g. g ≢ []) q some) (ap (λ (u : Target). u.tag) same ∙ q))
  tags_differ earlier (x ∷ xs) h (suc a) zero s t e f some q =
      let same : x ≡ t = cc in
      absurd (not_first earlier x xs h a s e some (ap (λ (u : Target). u.tag) same ∙ sym q))
  tags_differ earlier (x ∷ xs) h (suc a) (suc b) s t e f some q =
      ap suc (tags_differ (earlier ++ x ∷ []) xs (kept_right (target_lines k n earlier (length earlier) x) _ h) a b s t e f some q)

-- ---- percents

filled_given : {A : Type 0} (o : Option A) (d : A) → Some (unwrap_or o d) ≡ o → IsSome o
filled_given None d h = absurd cc
filled_given (Some x) d h = refl

abbrev first_percent : List Target → Option ℕ
first_percent [] = None
first_percent (t ∷ ts) = t.percent

abbrev rest_of : List Target → List Target
rest_of [] = []
rest_of (t ∷ ts) = ts

given_at : (ts : List Target) → map default_target ts ≡ ts → (i : ℕ) → i < length ts → (t : Target) × (slice_get ts i ≡ Some t) × IsSome t.percent
given_at [] h i lt = absurd (omega arith)
given_at (t ∷ ts) h zero lt = (t, refl, filled_given t.percent 0 (ap first_percent h))
given_at (t ∷ ts) h (suc i) lt = given_at ts (ap rest_of h) i (omega arith)

-- ---- the whole

pub well_tagged : (k : ClientKind) (n : List ℕ) (ts : List Target) → AreKept (traffic_lines k n ts) → map default_target ts ≡ ts → AreWellTagged ts
unfolding traffic_lines
well_tagged k n ts (count, rest) full = record {
  whole = record {
    some = leb-true 1 (length ts) (and_parts _ _ count).0;
    few = leb-true (length ts) 16 (and_parts _ _ count).1;
    given = λ i d lt. (let (t, e, g) = given_at ts full i lt in subst (λ (u : Target). IsSome u.percent) (sym (get_or_from_slice_get ts i t d e)) g);
    whole = eqb-true _ 100 (kept_right (each_target_lines k n [] ts) _ rest).0;
  };
  tags = tags_differ k n [] ts (kept_left (each_target_lines k n [] ts) _ rest);
}
