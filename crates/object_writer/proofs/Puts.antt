-- Two puts under names of which one comes before the other, in either order.
use Rattle.std.proofs.Common.{◌≡◌, ◌≢◌, ℕ, List, [], ◌∷◌, nat_cmp, Ordering, Less, Equal, Greater, refl, sym, ap, ◌∙◌}
use Rattle.std.proofs.lemmas.Cmp.{nat_list_cmp_total}
use Rattle.std.proofs.lemmas.Map.Text.{is_eq-slice_cmp}
use Rattle.std.proofs.lemmas.Slice.Eq.{bytes_eq-Decides}
use Rattle.std.specs.Cmp.Lexicographic.{slice_cmp}
use Rattle.std.specs.Ordering.{is_eq, ordering_reverse}
use Rattle.json_tree.specs.Tree.{put_entry}

module _ (a b : List ℕ) (lt : slice_cmp nat_cmp a b ≡ Less) where
  gt : slice_cmp nat_cmp b a ≡ Greater
  gt = nat_list_cmp_total.antisymm b a ∙ ap ordering_reverse lt

  -- the later name comes after what isn't after the earlier one
  later_at : (o : Ordering) (k : List ℕ) → slice_cmp nat_cmp a k ≡ o → o ≢ Less → slice_cmp nat_cmp b k ≡ Greater
  later_at Less k is not = absurd (not refl)
  later_at Equal k is not =
      let same : a ≡ k = (bytes_eq-Decides a k).0 (sym (is_eq-slice_cmp a k) ∙ ap is_eq is) in
      ap (slice_cmp nat_cmp b) (sym same) ∙ gt
  later_at Greater k is not =
      let below : slice_cmp nat_cmp k a ≡ Less = nat_list_cmp_total.antisymm k a ∙ ap ordering_reverse is in
      nat_list_cmp_total.antisymm b k ∙ ap ordering_reverse (nat_list_cmp_total.trans k a b below lt)

  module _ {A : Type 0} (v w : A) where
    before_first : (o : Ordering) (e : List ℕ × A) (es : List (List ℕ × A)) → slice_cmp nat_cmp a e.0 ≡ Less → slice_cmp nat_cmp b e.0 ≡ o
        → put_entry b w (put_entry a v (e ∷ es)) ≡ put_entry a v (put_entry b w (e ∷ es))
    before_first Less e es p q = rw (p, q, gt, lt) refl
    before_first Equal e es p q = rw (p, q, gt, lt) refl
    before_first Greater e es p q = rw (p, q, p, gt) refl

    at_first : (o : Ordering) (e : List ℕ × A) (es : List (List ℕ × A)) → slice_cmp nat_cmp a e.0 ≡ o
        → put_entry b w (put_entry a v es) ≡ put_entry a v (put_entry b w es)
        → put_entry b w (put_entry a v (e ∷ es)) ≡ put_entry a v (put_entry b w (e ∷ es))
    at_first Less e es p rest = before_first _ e es p refl
    at_first Equal e es p rest =
        let q : slice_cmp nat_cmp b e.0 ≡ Greater = later_at Equal e.0 p (λ x. cc) in
        rw (p, q, gt, p) refl
    at_first Greater e es p rest =
        let q : slice_cmp nat_cmp b e.0 ≡ Greater = later_at Greater e.0 p (λ x. cc) in
        rw (p, q, p) (ap (λ xs. e ∷ xs) rest)

    pub either_order : (es : List (List ℕ × A)) → put_entry b w (put_entry a v es) ≡ put_entry a v (put_entry b w es)
    either_order [] = rw (gt, lt) refl
    either_order (e ∷ es) = at_first _ e es refl (either_order es)
