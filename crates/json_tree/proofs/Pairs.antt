-- A pair at its place in a list of pairs.
use Rattle.std.proofs.Common.{◌≡◌, ℕ, suc, ◌+◌, ◌<◌, List, [], ◌∷◌, ◌++◌, length, take, drop, set, Ordering, Greater, nat_cmp, slice_get, Some, sym, ap, ◌∙◌, append_assoc, arith}
use Rattle.std.proofs.lemmas.List.{take_more, drop_more, set_split}
use Rattle.std.proofs.lemmas.Option.{get_or_from_slice_get}
use Rattle.std.specs.Cmp.Lexicographic.{slice_cmp}
use Rattle.std.specs.Ordering.{match_ordering}
use Rattle.json_tree.specs.Tree.{put_entry}

module _ {A : Type 0} (es : List (List ℕ × A)) (i : ℕ) (e : List ℕ × A) (within : i < length es) (here : slice_get es i ≡ Some e) where
  pub left : drop i es ≡ e ∷ drop (i + 1) es
  left = drop_more es i e within ∙ ap (λ x. x ∷ drop (i + 1) es) (get_or_from_slice_get es i e e here)

  pub more : take (i + 1) es ≡ take i es ++ e ∷ []
  more = take_more es i e within ∙ ap (λ x. take i es ++ x ∷ []) (get_or_from_slice_get es i e e here)

  pub put_at : (name : List ℕ) (v : A) (o : Ordering) → slice_cmp nat_cmp name e.0 ≡ o
      → put_entry name v (drop i es) ≡ match_ordering o ((name, v) ∷ e ∷ drop (i + 1) es) ((name, v) ∷ drop (i + 1) es) (e ∷ put_entry name v (drop (i + 1) es))
  put_at name v o is = ap (put_entry name v) left ∙ ap (λ r. match_ordering r ((name, v) ∷ e ∷ drop (i + 1) es) ((name, v) ∷ drop (i + 1) es) (e ∷ put_entry name v (drop (i + 1) es))) is

  pub passes : (name : List ℕ) (v : A) → slice_cmp nat_cmp name e.0 ≡ Greater → take i es ++ put_entry name v (drop i es) ≡ take (i + 1) es ++ put_entry name v (drop (i + 1) es)
  passes name v is = ap (λ xs. take i es ++ xs) (put_at name v Greater is) ∙ sym (append_assoc (take i es) (e ∷ []) _) ∙ ap (λ xs. xs ++ put_entry name v (drop (i + 1) es)) (sym more)

  pub set_here : (y : List ℕ × A) → take i es ++ y ∷ drop (i + 1) es ≡ set es i y
  set_here y = let same : suc i ≡ i + 1 = omega arith in sym (set_split es i y within ∙ ap (λ n. take i es ++ y ∷ drop n es) same)

  pub insert_here : (y : List ℕ × A) → take i es ++ y ∷ e ∷ drop (i + 1) es ≡ take i es ++ y ∷ drop i es
  insert_here y = ap (λ xs. take i es ++ y ∷ xs) (sym left)
