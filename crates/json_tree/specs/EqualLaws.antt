-- Equal values, and the test of them.
use Rattle.std.proofs.Common.{◌≡◌, Bool, true, false, refl, sym, ap, ◌∙◌}
use Rattle.std.specs.Prelude.{◌&&◌, ◌↔◌}
use Rattle.std.specs.Coded.{Coded}
use Rattle.std.specs.Cmp.{IsEquivalence, nat_eq_equiv, both_ways}
use borrow.Author.Tests.{eqb-true}
use base.Stored.{Gv, gnil, gnum, gcons}
use Rattle.json_tree.specs.Equal.{same_code, is_equal}

both : (a b : Bool) → a ≡ true → b ≡ true → (a && b) ≡ true
both a b e f = rw (e, f) refl

left : (a b : Bool) → (a && b) ≡ true → a ≡ true
left true b e = refl
left false b e = e

right : (a b : Bool) → (a && b) ≡ true → b ≡ true
right true b e = e
right false b e = cc

same_code-own : (a : Gv) → same_code a a ≡ true
same_code-own gnil = refl
same_code-own (gnum n) = nat_eq_equiv.refl n
same_code-own (gcons a b) = both (same_code a a) (same_code b b) (same_code-own a) (same_code-own b)

same_code-exact : (a b : Gv) → same_code a b ≡ true → a ≡ b
same_code-exact gnil gnil e = refl
same_code-exact gnil (gnum n) e = cc
same_code-exact gnil (gcons c d) e = cc
same_code-exact (gnum m) gnil e = cc
same_code-exact (gnum m) (gnum n) e = ap gnum (eqb-true m n e)
same_code-exact (gnum m) (gcons c d) e = cc
same_code-exact (gcons a b) gnil e = cc
same_code-exact (gcons a b) (gnum n) e = cc
same_code-exact (gcons a b) (gcons c d) e =
    ap (λ x. gcons x b) (same_code-exact a c (left (same_code a c) (same_code b d) e)) ∙ ap (λ y. gcons c y) (same_code-exact b d (right (same_code a c) (same_code b d) e))

module _ {A : Type 0} (c : Coded A) where
  pub is_equal-own : (a : A) → is_equal c a a ≡ true
  unfolding is_equal
  is_equal-own a = same_code-own (c.code a)

  pub is_equal-exact : (a b : A) → is_equal c a b ≡ true → a ≡ b
  unfolding is_equal
  is_equal-exact a b e = c.inj a b (same_code-exact (c.code a) (c.code b) e)

  pub is_equal-of : (a b : A) → a ≡ b → is_equal c a b ≡ true
  is_equal-of a b e = ap (is_equal c a) (sym e) ∙ is_equal-own a

  -- a test that is true exactly where the two are equal is this one
  pub tells-equal : (t : Bool) (a b : A) → ((t ≡ true) ↔ (a ≡ b)) → t ≡ is_equal c a b
  tells-equal t a b h = both_ways t (is_equal c a b) (λ e. is_equal-of a b (h.0 e)) (λ e. h.1 (is_equal-exact a b e))

  pub is_equal-equivalence : {B : Type 0} (f : B → A) → IsEquivalence (λ a b. is_equal c (f a) (f b))
  is_equal-equivalence f = record {
    refl = λ a. is_equal-own (f a);
    symm = λ a b. both_ways (is_equal c (f a) (f b)) (is_equal c (f b) (f a)) (λ e. is_equal-of (f b) (f a) (sym (is_equal-exact (f a) (f b) e))) (λ e. is_equal-of (f a) (f b) (sym (is_equal-exact (f b) (f a) e)));
    congr = λ a b d e. ap (λ x. is_equal c x (f d)) (is_equal-exact (f a) (f b) e);
  }
