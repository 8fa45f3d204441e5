-- Names in their order.
use Rattle.std.proofs.Common.{◌≡◌, ℕ, Bool, true, false, List, [], ◌∷◌, nat_cmp, Ordering, Less, Equal, Greater, refl, sym, ap, ◌∙◌}
use Rattle.std.proofs.lemmas.Cmp.{nat_list_cmp_total}
use Rattle.std.proofs.lemmas.Map.Text.{is_eq-slice_cmp}
use Rattle.std.proofs.lemmas.Slice.Eq.{bytes_eq-Decides}
use Rattle.std.specs.Cmp.Lexicographic.{slice_cmp}
use Rattle.std.specs.Ordering.{is_lt, is_eq, ordering_reverse}
use Rattle.std.specs.Str.{bytes_eq}
use Rattle.std.specs.Prelude.{◌&&◌}
use Rattle.json_tree.specs.Tree.{is_before_all}

pub own_name : (k : List ℕ) → bytes_eq k k ≡ true
own_name k = (bytes_eq-Decides k k).1 refl

pub same_name : (k l : List ℕ) → bytes_eq k l ≡ true → k ≡ l
same_name k l e = (bytes_eq-Decides k l).0 e

pub equal_name : (k l : List ℕ) → slice_cmp nat_cmp k l ≡ Equal → bytes_eq l k ≡ true
equal_name k l e = (bytes_eq-Decides l k).1 (sym ((bytes_eq-Decides k l).0 (sym (is_eq-slice_cmp k l) ∙ ap is_eq e)))

pub less_of : (o : Ordering) → is_lt o ≡ true → o ≡ Less
less_of Less h = refl
less_of Equal h = absurd cc
less_of Greater h = absurd cc

pub less_apart : (k l : List ℕ) → is_lt (slice_cmp nat_cmp k l) ≡ true → bytes_eq k l ≡ false
less_apart k l h = sym (is_eq-slice_cmp k l) ∙ ap is_eq (less_of _ h)

pub greater_of : (k l : List ℕ) → is_lt (slice_cmp nat_cmp k l) ≡ true → slice_cmp nat_cmp l k ≡ Greater
greater_of k l h = nat_list_cmp_total.antisymm l k ∙ ap ordering_reverse (less_of _ h)

pub less_back : (k l : List ℕ) → is_lt (slice_cmp nat_cmp k l) ≡ true → bytes_eq l k ≡ false
less_back k l h = sym (is_eq-slice_cmp l k) ∙ ap is_eq (greater_of k l h)

pub trans : (a k l : List ℕ) → is_lt (slice_cmp nat_cmp a k) ≡ true → is_lt (slice_cmp nat_cmp k l) ≡ true → is_lt (slice_cmp nat_cmp a l) ≡ true
trans a k l h m = ap is_lt (nat_list_cmp_total.trans a k l (less_of _ h) (less_of _ m))

pub both : (b c : Bool) → (b && c) ≡ true → (b ≡ true) × (c ≡ true)
both true c h = (refl, h)
both false c h = absurd cc

pub and : (b c : Bool) → b ≡ true → c ≡ true → (b && c) ≡ true
and true c h m = m
and false c h m = absurd cc

pub before_all : (a k : List ℕ) (ns : List (List ℕ)) → is_lt (slice_cmp nat_cmp a k) ≡ true → is_before_all k ns ≡ true → is_before_all a ns ≡ true
before_all a k [] h b = refl
before_all a k (n ∷ ns) h b =
    let parts = both (is_lt (slice_cmp nat_cmp k n)) (is_before_all k ns) b in
    and _ _ (trans a k n h parts.0) (before_all a k ns h parts.1)

pub equal_of : (k l : List ℕ) → bytes_eq l k ≡ true → slice_cmp nat_cmp k l ≡ Equal
equal_of k l e = go (slice_cmp nat_cmp k l) (is_eq-slice_cmp k l ∙ (bytes_eq-Decides k l).1 (sym (same_name l k e)))
  where
    go : (o : Ordering) → is_eq o ≡ true → o ≡ Equal
    go Less h = absurd cc
    go Equal h = refl
    go Greater h = absurd cc

pub less_from : (k l : List ℕ) → slice_cmp nat_cmp k l ≡ Greater → is_lt (slice_cmp nat_cmp l k) ≡ true
less_from k l e = ap is_lt (nat_list_cmp_total.antisymm l k ∙ ap ordering_reverse e)

pub greater_apart : (k l : List ℕ) → slice_cmp nat_cmp k l ≡ Greater → bytes_eq l k ≡ false
greater_apart k l e = less_apart l k (less_from k l e)
