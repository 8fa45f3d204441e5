-- What is found, put and removed at the place that a search finds.
use Rattle.std.proofs.Common.{◌≡◌, ℕ, List, [], ◌∷◌, map, Some, None, Ok, Err, Ordering, refl, sym, ap, subst, ◌∙◌, insert, remove, set}
use Rattle.std.specs.Prelude.{slice_get}
use Rattle.std.specs.Cmp.{IsTotalOrder}
use Rattle.std.specs.declared.cmp.Ordering.TheVariants.{Equal}
use Rattle.std.proofs.lemmas.Cmp.{alike_right}
use Rattle.version_store.specs.State.{find, put, without}
use Rattle.version_store.specs.Index.{AreInOrder, searched, search_in, found, put_at, removed_at}
use Rattle.std.specs.Option.{IfSome}
use Rattle.version_store.proofs.Standing.{find_key}
use Rattle.version_store.proofs.Keyed.{find-search, put-search, without-search, order-put, order-without}

-- keys that tie are searched for alike
search-alike : {K : Type 0} (cmp : K → K → Ordering) → IsTotalOrder cmp → (a b : K) → cmp a b ≡ Equal → (keys : List K) → search_in cmp a keys ≡ search_in cmp b keys
search-alike cmp total a b e [] = refl
search-alike cmp total a b e (k ∷ keys) = ap (λ r. searched r (search_in cmp a keys)) (alike_right total a b k e) ∙ ap (searched (cmp k b)) (search-alike cmp total a b e keys)

-- equal keys are searched for alike in equal rows
pub search-equal : {X K : Type 0} (key_of : X → K) (cmp : K → K → Ordering) (a b : K) (xs ys : List X) → a ≡ b → xs ≡ ys → search_in cmp a (map key_of xs) ≡ search_in cmp b (map key_of ys)
search-equal key_of cmp a b xs ys key rows = ap (λ k. search_in cmp k (map key_of xs)) key ∙ ap (λ zs. search_in cmp b (map key_of zs)) rows

module _ {X K : Type 0} (key_of : X → K) (cmp : K → K → Ordering) (total : IsTotalOrder cmp) (xs : List X) (ordered : AreInOrder key_of cmp xs) where
  pub found_at : (key : K) (p : ℕ) (x : X) → Ok p ≡ search_in cmp key (map key_of xs) → slice_get xs p ≡ Some x → find key_of cmp key xs ≡ Some x
  found_at key p x e at = find-search key_of cmp total key xs ordered ∙ ap (found xs) (sym e) ∙ at

  pub found_nowhere : (key : K) (p : ℕ) → Err p ≡ search_in cmp key (map key_of xs) → find key_of cmp key xs ≡ None
  found_nowhere key p e = find-search key_of cmp total key xs ordered ∙ ap (found xs) (sym e)

  -- put over the element of a key that ties
  pub put_over : (key : K) (new : X) (p : ℕ) → cmp (key_of new) key ≡ Equal → Ok p ≡ search_in cmp key (map key_of xs) → set xs p new ≡ put key_of cmp new xs
  put_over key new p tie e = ap (put_at new xs) (e ∙ sym (search-alike cmp total (key_of new) key tie (map key_of xs))) ∙ sym (put-search key_of cmp total new xs)

  -- put where no element of the key is
  pub put_new : (new : X) (p : ℕ) → Err p ≡ search_in cmp (key_of new) (map key_of xs) → insert xs p new ≡ put key_of cmp new xs
  put_new new p e = ap (put_at new xs) e ∙ sym (put-search key_of cmp total new xs)

  pub removed : (key : K) (p : ℕ) → Ok p ≡ search_in cmp key (map key_of xs) → remove xs p ≡ without key_of cmp key xs
  removed key p e = ap (removed_at xs) e ∙ sym (without-search key_of cmp total key xs ordered)

  pub removed_not : (key : K) (p : ℕ) → Err p ≡ search_in cmp key (map key_of xs) → xs ≡ without key_of cmp key xs
  removed_not key p e = ap (removed_at xs) e ∙ sym (without-search key_of cmp total key xs ordered)

  -- a put and a removal keep the order
  pub ordered_put : (new : X) (ys : List X) → ys ≡ put key_of cmp new xs → AreInOrder key_of cmp ys
  ordered_put new ys e = subst (AreInOrder key_of cmp) (sym e) (order-put key_of cmp total new xs ordered)

  pub ordered_without : (key : K) (ys : List X) → ys ≡ without key_of cmp key xs → AreInOrder key_of cmp ys
  ordered_without key ys e = subst (AreInOrder key_of cmp) (sym e) (order-without key_of cmp total key xs ordered)

  -- a change of the element that is found, which keeps its key, puts it
  pub changed_there : (key : K) (p : ℕ) (x : X) (change : X → X) → ((y : X) → key_of (change y) ≡ key_of y) → Ok p ≡ search_in cmp key (map key_of xs) → slice_get xs p ≡ Some x
      → IfSome (find key_of cmp key xs) (λ y. set xs p (change x) ≡ put key_of cmp (change y) xs)
  changed_there key p x change keeps e at =
      let is = found_at key p x e at in
      let tie : cmp (key_of (change x)) key ≡ Equal = ap (λ k. cmp k key) (keeps x) ∙ find_key key_of cmp total key xs x is in
      subst (λ o. IfSome o (λ y. set xs p (change x) ≡ put key_of cmp (change y) xs)) (sym is) (put_over key (change x) p tie e)

  pub ordered_there : (key : K) (p : ℕ) (x : X) (change : X → X) → ((y : X) → key_of (change y) ≡ key_of y) → Ok p ≡ search_in cmp key (map key_of xs) → slice_get xs p ≡ Some x
      → AreInOrder key_of cmp (set xs p (change x))
  ordered_there key p x change keeps e at =
      let is = found_at key p x e at in
      let tie : cmp (key_of (change x)) key ≡ Equal = ap (λ k. cmp k key) (keeps x) ∙ find_key key_of cmp total key xs x is in
      ordered_put (change x) (set xs p (change x)) (put_over key (change x) p tie e)
