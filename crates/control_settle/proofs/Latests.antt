-- The latest of the Revisions that count stays, where another one comes, changes or goes.
use Rattle.std.proofs.Common.{◌≡◌, ◌≢◌, ◌⊎◌, inl, inr, ℕ, ◌≤◌, Bool, true, false, cond, ◌&&◌, [], ◌∷◌, Option, Some, None, Ordering, refl, sym, ap, ◌∙◌, subst, arith, nat_lt}
use Rattle.std.specs.List.{filter}
use Rattle.std.specs.Ordering.{is_eq, ordering_reverse}
use Rattle.std.specs.declared.cmp.Ordering.TheVariants.{Less, Equal, Greater}
use Rattle.std.proofs.lemmas.Bool.Decides.{nat_tests}
use Rattle.version_store.specs.State as store
use Rattle.version_store.proofs.Keyed.{find_greater, greater_than_less}
use Rattle.resource_types.specs.declared.names.Kind.TheVariants as kind
use Rattle.resource_types.specs.declared.names.Key.{Key}
use Rattle.resource_types.specs.declared.objects.Object.{Object}
use Rattle.resource_types.specs.contracts.names.KeyOrd.TheImpl as key_order
use Rattle.resource_types.specs.contracts.names.KeyOrd.TheImpl.Laws as key_laws
use Rattle.resource_types.specs.Objects.{same_kind, generation_of}
use Rattle.resource_types.specs.Lookups.{State, find, is_newer, later, latest_from, latest}
use Rattle.resource_types.proofs.Exact.{key-exact}
use Rattle.control_entries.proofs.Changes.{Change}
use Rattle.control_entries.proofs.Tests.{some_same}
use Rattle.control_entries.proofs.Standing.{key_self, key_tied}
use Rattle.control_entries.specs.Ground.{IsOrdered}
use Rattle.control_settle.proofs.Lists.{without, put}

-- what is asked of the latest: its key and its generation
abbrev pub seen : Object → Key × ℕ
seen o = (o.key, generation_of o.body)

abbrev pub view : Option Object → Option (Key × ℕ)
view None = None
view (Some o) = Some (seen o)

module _ (counts : Object → Bool) where
  newer_same : (a b : Option Object) (x : Object) → view a ≡ view b → is_newer a x ≡ is_newer b x
  newer_same None None x e = refl
  newer_same None (Some b) x e = absurd cc
  newer_same (Some a) None x e = absurd cc
  newer_same (Some a) (Some b) x e = ap (λ g. nat_lt g (generation_of x.body)) (generations e)
    where
      generations : Some (seen a) ≡ Some (seen b) → generation_of a.body ≡ generation_of b.body
      generations e = ap (λ (p : Key × ℕ). p.1) (some_same e)

  later_same : (t : Bool) (a b : Option Object) (x : Object) → view a ≡ view b → view (later t a x) ≡ view (later t b x)
  later_same t a b x e = rw (newer_same a b x e) (go (t && is_newer b x))
    where
      go : (u : Bool) → view (cond u (Some x) a) ≡ view (cond u (Some x) b)
      go true = refl
      go false = e

  -- the list decides, by the best so far
  pub from_same : (a b : Option Object) (xs : State) → view a ≡ view b → view (latest_from counts a xs) ≡ view (latest_from counts b xs)
  from_same a b [] e = e
  from_same a b (x ∷ xs) e = from_same (later (counts x) a x) (later (counts x) b x) xs (later_same (counts x) a b x e)

  -- ---- a put

  -- what is put counts as what stands under its key, and not where nothing stands
  pub record Fits (x : Object) (st : State) : Type 0 where
    pub new : find x.key st ≡ None → counts x ≡ false
    pub old : (o : Object) → find x.key st ≡ Some o → (counts x ≡ counts o) × ((counts x ≡ true) → generation_of x.body ≡ generation_of o.body)

  replaced_same : (t : Bool) (a b : Option Object) (x y : Object) → view a ≡ view b → x.key ≡ y.key → ((t ≡ true) → generation_of x.body ≡ generation_of y.body) → view (later t a x) ≡ view (later t b y)
  replaced_same false a b x y e key g = e
  replaced_same true a b x y e key g = ap (λ u. view (cond u (Some x) a)) (newer_same a b x e ∙ same b) ∙ go (is_newer b y)
    where
      same : (b : Option Object) → is_newer b x ≡ is_newer b y
      same None = refl
      same (Some p) = ap (nat_lt (generation_of p.body)) (g refl)

      go : (u : Bool) → view (cond u (Some x) a) ≡ view (cond u (Some y) b)
      go true = λ i. Some (key i, g refl i)
      go false = e

  put_case : (x y : Object) (ys : State) → IsOrdered (y ∷ ys) → Fits x (y ∷ ys) → ((a b : Option Object) → view a ≡ view b → Fits x ys → view (latest_from counts a (put x ys)) ≡ view (latest_from counts b ys)) → (a b : Option Object) → view a ≡ view b
      → (r : Ordering) → key_order.ghosts.cmp x.key y.key ≡ r → view (latest_from counts a (store.placed r x y ys (put x ys))) ≡ view (latest_from counts b (y ∷ ys))
  put_case x y ys order fits ih a b e Less q =
      let none : find x.key (y ∷ ys) ≡ None = find_greater (λ (o : Object). o.key) key_order.ghosts.cmp key_laws.total-law x.key (y ∷ ys) (q, greater_than_less (λ (o : Object). o.key) key_order.ghosts.cmp key_laws.total-law x.key y.key ys q order.0) in
      ap (λ t. view (latest_from counts (later t a x) (y ∷ ys))) (fits.new none) ∙ from_same a b (y ∷ ys) e
  put_case x y ys order fits ih a b e Equal q =
      let key : x.key ≡ y.key = key-exact x.key y.key q in
      let found : find x.key (y ∷ ys) ≡ Some y = ap (λ k. find k (y ∷ ys)) key ∙ ap (λ t. cond t (Some y) (find y.key ys)) (key_self y.key) in
      let same = fits.old y found in
      from_same (later (counts x) a x) (later (counts y) b y) ys (replaced_same (counts x) a b x y e key same.1 ∙ ap (λ t. view (later t b y)) same.0)
  put_case x y ys order fits ih a b e Greater q =
      let back : key_order.ghosts.cmp y.key x.key ≡ Less = key_laws.total-law.antisymm y.key x.key ∙ ap ordering_reverse q in
      let skip : find x.key (y ∷ ys) ≡ find x.key ys = ap (λ r. cond (is_eq r) (Some y) (find x.key ys)) back in
      ih (later (counts y) a y) (later (counts y) b y) (later_same (counts y) a b y e) (record { new = λ f. fits.new (skip ∙ f); old = λ o f. fits.old o (skip ∙ f) })

  pub put_same : (x : Object) (st : State) → IsOrdered st → Fits x st → (a b : Option Object) → view a ≡ view b → view (latest_from counts a (put x st)) ≡ view (latest_from counts b st)
  put_same x [] order fits a b e = ap (λ t. view (later t a x)) (fits.new refl) ∙ e
  put_same x (y ∷ ys) order fits a b e = put_case x y ys order fits (λ a b e f. put_same x ys order.1 f a b e) a b e (key_order.ghosts.cmp x.key y.key) refl

  -- ---- a removal

  abbrev Below : Option Object → Object → Type 0
  Below None y = Unit {0}
  Below (Some b) y = generation_of b.body ≤ generation_of y.body

  below_newer : (b : Option Object) (y z : Object) → Below b y → nat_lt (generation_of y.body) (generation_of z.body) ≡ true → is_newer b z ≡ true
  below_newer None y z h e = refl
  below_newer (Some b) y z h e = grind (arith, nat_tests)

  newer_below : (b : Option Object) (y : Object) → is_newer b y ≡ true → Below b y
  newer_below None y e = tt
  newer_below (Some b) y e = grind (arith, nat_tests)

  not_newer : (y z : Object) → nat_lt (generation_of y.body) (generation_of z.body) ≡ false → generation_of z.body ≤ generation_of y.body
  not_newer y z e = grind (arith, nat_tests)

  -- from y on the latest is y, or the one that it is from one below y
  pub with_or_without : (b : Option Object) (y : Object) (zs : State) → Below b y → (latest_from counts (Some y) zs ≡ Some y) ⊎ (latest_from counts (Some y) zs ≡ latest_from counts b zs)
  with_or_without b y [] h = inl refl
  with_or_without b y (z ∷ zs) h = go (counts z) (nat_lt (generation_of y.body) (generation_of z.body)) refl (λ c k. with_or_without c y zs k)
    where
      go : (t u : Bool) → nat_lt (generation_of y.body) (generation_of z.body) ≡ u → ((c : Option Object) → Below c y → (latest_from counts (Some y) zs ≡ Some y) ⊎ (latest_from counts (Some y) zs ≡ latest_from counts c zs))
          → (latest_from counts (cond (t && u) (Some z) (Some y)) zs ≡ Some y) ⊎ (latest_from counts (cond (t && u) (Some z) (Some y)) zs ≡ latest_from counts (cond (t && is_newer b z) (Some z) b) zs)
      go false u e ih = ih b h
      go true true e ih = inr (ap (λ v. latest_from counts (cond v (Some z) b) zs) (sym (below_newer b y z h e)))
      go true false e ih = by (is_newer b z)
        where
          by : (v : Bool) → (latest_from counts (Some y) zs ≡ Some y) ⊎ (latest_from counts (Some y) zs ≡ latest_from counts (cond v (Some z) b) zs)
          by true = ih (Some z) (not_newer y z e)
          by false = ih b h

  -- the latest isn't the one of the key
  abbrev pub IsOther : Key → Option Object → Type 0
  IsOther k o = (p : Object) → o ≡ Some p → p.key ≢ k

  pub without_same : (k : Key) (st : State) (b : Option Object) → IsOther k (latest_from counts b st) → latest_from counts b (without k st) ≡ latest_from counts b st
  without_same k [] b other = refl
  without_same k (y ∷ ys) b other = go (is_eq (key_order.ghosts.cmp y.key k)) refl (λ c o. without_same k ys c o)
    where
      go : (t : Bool) → is_eq (key_order.ghosts.cmp y.key k) ≡ t → ((c : Option Object) → IsOther k (latest_from counts c ys) → latest_from counts c (without k ys) ≡ latest_from counts c ys)
          → latest_from counts b (cond t (without k ys) (y ∷ without k ys)) ≡ latest_from counts (later (counts y) b y) ys
      go false e ih = ih (later (counts y) b y) other
      go true e ih = by (counts y && is_newer b y) refl other
        where
          by : (t : Bool) → (counts y && is_newer b y) ≡ t → IsOther k (latest_from counts (cond t (Some y) b) ys) → latest_from counts b (without k ys) ≡ latest_from counts (cond t (Some y) b) ys
          by false f o = ih b o
          by true f o = on (with_or_without b y ys (newer_below b y (newer (counts y) (is_newer b y) f)))
            where
              newer : (t u : Bool) → (t && u) ≡ true → u ≡ true
              newer true u g = g
              newer false u g = absurd cc

              on : (latest_from counts (Some y) ys ≡ Some y) ⊎ (latest_from counts (Some y) ys ≡ latest_from counts b ys) → latest_from counts b (without k ys) ≡ latest_from counts (Some y) ys
              on (inl g) = absurd (o y g (key_tied y.key k e))
              on (inr g) = ih b (subst (IsOther k) g o) ∙ sym g

-- ---- of the Revisions of a state

filtered : (counts test : Object → Bool) (b : Option Object) (xs : State) → latest_from counts b (filter test xs) ≡ latest_from (λ o. test o && counts o) b xs
filtered counts test b [] = refl
filtered counts test b (x ∷ xs) = go (test x) (λ c. filtered counts test c xs)
  where
    go : (t : Bool) → ((c : Option Object) → latest_from counts c (filter test xs) ≡ latest_from (λ o. test o && counts o) c xs) → latest_from counts b (cond t (x ∷ filter test xs) (filter test xs)) ≡ latest_from (λ o. test o && counts o) (later (t && counts x) b x) xs
    go true ih = ih (later (counts x) b x)
    go false ih = ih b

-- the same of those that count
abbrev pub of_these : (Object → Bool) → Object → Bool
of_these counts o = same_kind o.key.kind kind.Revision && counts o

pub latest_is : (counts : Object → Bool) (st : State) → latest counts st ≡ latest_from (of_these counts) None st
latest_is counts st = filtered counts (λ (o : Object). same_kind o.key.kind kind.Revision) None st

pub latest_put : (counts : Object → Bool) (k : Key) (x : Object) (a b : State) → Change k (Some x) a b → Fits (of_these counts) x a → view (latest counts b) ≡ view (latest counts a)
latest_put counts k x a b h fits =
    ap view (latest_is counts b) ∙ ap (λ st. view (latest_from (of_these counts) None st)) h.is ∙ put_same (of_these counts) x a h.ordered fits None None refl ∙ ap view (sym (latest_is counts a))

pub latest_removed : (counts : Object → Bool) (k : Key) (a b : State) → Change k None a b → IsOther counts k (latest counts a) → latest counts b ≡ latest counts a
latest_removed counts k a b h other =
    latest_is counts b ∙ ap (latest_from (of_these counts) None) h.is ∙ without_same (of_these counts) k a None (subst (IsOther counts k) (latest_is counts a) other) ∙ sym (latest_is counts a)
