-- Of elements in order of key some are shown, in the same order: to put or to remove one is to put or to remove what is shown of it.
use Rattle.std.proofs.Common.{◌≡◌, List, [], ◌∷◌, map, filter, Bool, true, false, cond, Ordering, refl, sym, ap, ◌∙◌}
use Rattle.std.specs.Cmp.{IsTotalOrder}
use Rattle.std.specs.Ordering.{is_eq}
use Rattle.std.specs.declared.cmp.Ordering.TheVariants.{Less, Equal, Greater}
use Rattle.version_store.specs.State.{put, placed, without}
use Rattle.version_store.specs.Index.{AreInOrder, AreGreater}
use Rattle.version_store.proofs.Keyed.{greater_than_less}

module _ {X K Y N : Type 0} (key_of : X → K) (cmp : K → K → Ordering) (total : IsTotalOrder cmp) (name_of : Y → N) (name_cmp : N → N → Ordering) (shows : X → Bool) (shown : X → Y) where
  abbrev all_shown : List X → List Y
  all_shown xs = map shown (filter shows xs)

  module _ (new : X) (tie : (x : X) → cmp (key_of new) (key_of x) ≡ Equal → shows x ≡ shows new) where
    -- one that isn't shown
    hidden_placed : (x : X) (xs rest : List X) (r : Ordering) → cmp (key_of new) (key_of x) ≡ r → shows new ≡ false → all_shown rest ≡ all_shown xs → all_shown (placed r new x xs rest) ≡ all_shown (x ∷ xs)
    hidden_placed x xs rest Less is hidden same = rw hidden refl
    hidden_placed x xs rest Equal is hidden same = rw (hidden, tie x is ∙ hidden) refl
    hidden_placed x xs rest Greater is hidden same = go (shows x)
      where
        go : (b : Bool) → map shown (cond b (x ∷ filter shows rest) (filter shows rest)) ≡ map shown (cond b (x ∷ filter shows xs) (filter shows xs))
        go true = ap (λ ys. shown x ∷ ys) same
        go false = same

    pub hidden_put : (xs : List X) → shows new ≡ false → all_shown (put key_of cmp new xs) ≡ all_shown xs
    hidden_put [] hidden = rw hidden refl
    hidden_put (x ∷ xs) hidden = hidden_placed x xs (put key_of cmp new xs) (cmp (key_of new) (key_of x)) refl hidden (hidden_put xs hidden)

    -- one that is
    module _ (shown_new : shows new ≡ true) (same_order : (x : X) → shows x ≡ true → cmp (key_of new) (key_of x) ≡ name_cmp (name_of (shown new)) (name_of (shown x))) where
      abbrev put_shown : List Y → List Y
      put_shown ys = put name_of name_cmp (shown new) ys

      in_front : (xs : List X) → AreGreater key_of cmp (key_of new) xs → put_shown (all_shown xs) ≡ shown new ∷ all_shown xs
      in_front [] less = refl
      in_front (x ∷ xs) less = go (in_front xs less.1) (shows x) refl
        where
          go : put_shown (all_shown xs) ≡ shown new ∷ all_shown xs → (b : Bool) → shows x ≡ b → put_shown (map shown (cond b (x ∷ filter shows xs) (filter shows xs))) ≡ shown new ∷ map shown (cond b (x ∷ filter shows xs) (filter shows xs))
          go rest true e = ap (λ r. placed r (shown new) (shown x) (all_shown xs) (put_shown (all_shown xs))) (sym (same_order x e) ∙ less.0)
          go rest false e = rest

      -- where the first one is shown
      shown_placed : (x : X) (xs rest : List X) (r : Ordering) → shows x ≡ true → all_shown rest ≡ put_shown (all_shown xs)
          → all_shown (placed r new x xs rest) ≡ placed r (shown new) (shown x) (all_shown xs) (put_shown (all_shown xs))
      shown_placed x xs rest Less e same = rw (shown_new, e) refl
      shown_placed x xs rest Equal e same = rw shown_new refl
      shown_placed x xs rest Greater e same = rw e (ap (λ ys. shown x ∷ ys) same)

      -- where it isn't
      past_placed : (x : X) (xs rest : List X) (r : Ordering) → cmp (key_of new) (key_of x) ≡ r → shows x ≡ false → AreGreater key_of cmp (key_of x) xs → all_shown rest ≡ put_shown (all_shown xs)
          → all_shown (placed r new x xs rest) ≡ put_shown (all_shown xs)
      past_placed x xs rest Less is e greater same = rw (shown_new, e) (sym (in_front xs (greater_than_less key_of cmp total (key_of new) (key_of x) xs is greater)))
      past_placed x xs rest Equal is e greater same = let other : shows x ≡ true = tie x is ∙ shown_new in absurd cc
      past_placed x xs rest Greater is e greater same = rw e same

      pub shown_put : (xs : List X) → AreInOrder key_of cmp xs → all_shown (put key_of cmp new xs) ≡ put_shown (all_shown xs)
      shown_put [] order = rw shown_new refl
      shown_put (x ∷ xs) order = go (shown_put xs order.1) (shows x) refl
        where
          go : all_shown (put key_of cmp new xs) ≡ put_shown (all_shown xs) → (b : Bool) → shows x ≡ b → all_shown (placed (cmp (key_of new) (key_of x)) new x xs (put key_of cmp new xs)) ≡ put_shown (map shown (cond b (x ∷ filter shows xs) (filter shows xs)))
          go rest true e =
              shown_placed x xs (put key_of cmp new xs) (cmp (key_of new) (key_of x)) e rest
              ∙ ap (λ r. placed r (shown new) (shown x) (all_shown xs) (put_shown (all_shown xs))) (same_order x e)
          go rest false e = past_placed x xs (put key_of cmp new xs) (cmp (key_of new) (key_of x)) refl e order.0 rest

  module _ (gone : K) where
    -- a key of none that is shown
    pub hidden_without : (xs : List X) → ((x : X) → shows x ≡ true → is_eq (cmp (key_of x) gone) ≡ false) → all_shown (without key_of cmp gone xs) ≡ all_shown xs
    hidden_without [] other = refl
    hidden_without (x ∷ xs) other = go (hidden_without xs other) (is_eq (cmp (key_of x) gone)) refl (shows x) refl
      where
        go : all_shown (without key_of cmp gone xs) ≡ all_shown xs → (t : Bool) → is_eq (cmp (key_of x) gone) ≡ t → (b : Bool) → shows x ≡ b → all_shown (cond t (without key_of cmp gone xs) (x ∷ without key_of cmp gone xs)) ≡ map shown (cond b (x ∷ filter shows xs) (filter shows xs))
        go rest true is true e = let no : is_eq (cmp (key_of x) gone) ≡ false = other x e in absurd cc
        go rest true is false e = rest
        go rest false is true e = rw e (ap (λ ys. shown x ∷ ys) rest)
        go rest false is false e = rw e rest

    -- and of one that may be
    pub shown_without : (name : N) (xs : List X) → ((x : X) → shows x ≡ true → cmp (key_of x) gone ≡ name_cmp (name_of (shown x)) name) → all_shown (without key_of cmp gone xs) ≡ without name_of name_cmp name (all_shown xs)
    shown_without name [] same_order = refl
    shown_without name (x ∷ xs) same_order = go (shown_without name xs same_order) (is_eq (cmp (key_of x) gone)) refl (shows x) refl
      where
        go : all_shown (without key_of cmp gone xs) ≡ without name_of name_cmp name (all_shown xs) → (t : Bool) → is_eq (cmp (key_of x) gone) ≡ t → (b : Bool) → shows x ≡ b
            → all_shown (cond t (without key_of cmp gone xs) (x ∷ without key_of cmp gone xs)) ≡ without name_of name_cmp name (map shown (cond b (x ∷ filter shows xs) (filter shows xs)))
        go rest true is true e =
            let same : is_eq (name_cmp (name_of (shown x)) name) ≡ true = ap is_eq (sym (same_order x e)) ∙ is in
            rw same rest
        go rest true is false e = rest
        go rest false is true e =
            let same : is_eq (name_cmp (name_of (shown x)) name) ≡ false = ap is_eq (sym (same_order x e)) ∙ is in
            rw (e, same) (ap (λ ys. shown x ∷ ys) rest)
        go rest false is false e = rw e rest
