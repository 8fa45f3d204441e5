-- Names may be put in order one before the other.
use Rattle.std.proofs.Common.{◌≡◌, List, [], ◌∷◌, Ordering, refl, sym, ap, ◌∙◌}
use Rattle.std.specs.Ordering.{ordering_reverse}
use Rattle.std.specs.declared.cmp.Ordering.TheVariants.{Less, Equal, Greater}
use Rattle.resource_types.specs.declared.names.Name.{Name}
use Rattle.resource_types.specs.contracts.names.NameOrd.TheImpl as name_order
use Rattle.resource_types.specs.contracts.names.NameOrd.TheImpl.Laws as name_laws
use Rattle.resource_types.proofs.Exact.{name-exact}
use Rattle.slot_keys.specs.Routed.{put_name}

module _ (n m : Name) (less : name_order.ghosts.cmp n m ≡ Less) where
  turned : name_order.ghosts.cmp m n ≡ Greater
  turned = name_laws.total-law.antisymm m n ∙ ap ordering_reverse less

  less_swaps : (xs : List Name) → put_name n (put_name m xs) ≡ put_name m (put_name n xs)
  less_swaps [] = rw (less, turned) refl
  less_swaps (x ∷ xs) = go (name_order.ghosts.cmp m x) refl (name_order.ghosts.cmp n x) refl (less_swaps xs)
    where
      go : (r : Ordering) → name_order.ghosts.cmp m x ≡ r → (s : Ordering) → name_order.ghosts.cmp n x ≡ s → put_name n (put_name m xs) ≡ put_name m (put_name n xs)
          → put_name n (put_name m (x ∷ xs)) ≡ put_name m (put_name n (x ∷ xs))
      go Less e s f ih = let g : name_order.ghosts.cmp n x ≡ Less = name_laws.total-law.trans n m x less e in rw (e, g, less, turned, e) refl
      go Equal e s f ih = let g : name_order.ghosts.cmp n x ≡ Less = ap (name_order.ghosts.cmp n) (sym (name-exact m x e)) ∙ less in rw (e, g, less, turned, e) refl
      go Greater e Less f ih = rw (e, f, turned, e) refl
      go Greater e Equal f ih = rw (e, f, turned) refl
      go Greater e Greater f ih = rw (e, f, e) (ap (λ ys. x ∷ ys) ih)

pub put_swaps : (n m : Name) (xs : List Name) → put_name n (put_name m xs) ≡ put_name m (put_name n xs)
put_swaps n m xs = go (name_order.ghosts.cmp n m) refl
  where
    go : (r : Ordering) → name_order.ghosts.cmp n m ≡ r → put_name n (put_name m xs) ≡ put_name m (put_name n xs)
    go Less e = less_swaps n m e xs
    go Equal e = ap (λ k. put_name k (put_name m xs)) (name-exact n m e) ∙ ap (λ k. put_name m (put_name k xs)) (sym (name-exact n m e))
    go Greater e = sym (less_swaps m n (name_laws.total-law.antisymm m n ∙ ap ordering_reverse e) xs)
