-- The rows and the targets of a Table: how they divide the traffic, and what they name.
use Rattle.std.proofs.Common.{◌≡◌, ◌≢◌, ◌⊎◌, inl, inr, ℕ, zero, suc, ◌+◌, Bool, true, false, cond, List, [], ◌∷◌, ◌++◌, length, Some, refl, sym, ap, ◌∙◌, subst, arith}
use Rattle.std.specs.Prelude.{slice_get, map, not, bytes_eq, ◌==◌}
use Rattle.std.specs.List.{filter, sum_by}
use Rattle.std.proofs.lemmas.List.Sums.{sum_by-cons, sum_by-append}
use Rattle.std.proofs.lemmas.Bool.{eqb-true}
use Rattle.resource_types.specs.declared.names.Name.{Name}
use Rattle.resource_types.specs.declared.specification.Row.{Row}
use Rattle.resource_types.specs.declared.specification.Target.{Target}
use Rattle.resource_types.specs.declared.objects.Object.{Object}
use Rattle.resource_types.specs.Lookups.{is_empty}
use Rattle.control_rules.specs.Standing.{listed, published_of}
use Rattle.control_rules.specs.Resolution.{Meant, row_of, raised, add_share, shares_from, default_rows, tagged_rows, assigned_rows, published_target, assigned_targets, percent_of, host_of}
use Rattle.control_rules.specs.NextRoute.{table_of}
use Rattle.control_rules.specs.Safe.{IsDivided}
use Rattle.control_safety.specs.Goods.{AreWellTagged}
use Rattle.control_entries.proofs.Tests.{some_same}
use Rattle.control_entries.proofs.Lists.{filter_at, at_filter, map_at, at_map}
use Rattle.control_safety.proofs.Pins.{listed_either, listed_at, at_listed}

-- ---- two lists, one behind the other

get_left : {X : Type 0} (xs ys : List X) (i : ℕ) (x : X) → slice_get xs i ≡ Some x → slice_get (xs ++ ys) i ≡ Some x
get_left [] ys i x h = absurd cc
get_left (z ∷ xs) ys zero x h = h
get_left (z ∷ xs) ys (suc i) x h = get_left xs ys i x h

get_right : {X : Type 0} (xs ys : List X) (k : ℕ) (y : X) → slice_get ys k ≡ Some y → (i : ℕ) × (slice_get (xs ++ ys) i ≡ Some y)
get_right [] ys k y h = (k, h)
get_right (x ∷ xs) ys k y h = let (i, e) = get_right xs ys k y h in (suc i, e)

-- in the first, or in the second, whose places go on
data IsIn {X : Type 0} (xs ys : List X) (i : ℕ) (z : X) : Type 0 where
  InFirst : slice_get xs i ≡ Some z → IsIn xs ys i z
  InSecond : (k : ℕ) → i ≡ length xs + k → slice_get ys k ≡ Some z → IsIn xs ys i z

get_either : {X : Type 0} (xs ys : List X) (i : ℕ) (z : X) → slice_get (xs ++ ys) i ≡ Some z → IsIn xs ys i z
get_either [] ys i z h = InSecond i (omega arith) h
get_either (x ∷ xs) ys zero z h = InFirst h
get_either (x ∷ xs) ys (suc i) z h = go (get_either xs ys i z h)
  where
    go : IsIn xs ys i z → IsIn (x ∷ xs) ys (suc i) z
    go (InFirst e) = InFirst e
    go (InSecond k q e) = InSecond k (omega arith) e

-- what has one place among those that pass a test has one place behind the filter
once_filter : {X : Type 0} (test : X → Bool) (key : X → List ℕ) (xs : List X)
    → ((a b : ℕ) (x y : X) → slice_get xs a ≡ Some x → slice_get xs b ≡ Some y → test x ≡ true → key x ≡ key y → a ≡ b)
    → (a b : ℕ) (x y : X) → slice_get (filter test xs) a ≡ Some x → slice_get (filter test xs) b ≡ Some y → key x ≡ key y → a ≡ b
once_filter test key [] once a b x y p q e = absurd cc
once_filter {X} test key (z ∷ xs) once a b x y p q e = go (test z) refl a b p q (once_filter test key xs (λ a b x y p q t e. (let s = once (suc a) (suc b) x y p q t e in let r : a ≡ b = omega arith in r)))
  where
    go : (t : Bool) → test z ≡ t → (a b : ℕ) → slice_get (cond t (z ∷ filter test xs) (filter test xs)) a ≡ Some x
        → slice_get (cond t (z ∷ filter test xs) (filter test xs)) b ≡ Some y
        → ((a b : ℕ) (x y : X) → slice_get (filter test xs) a ≡ Some x → slice_get (filter test xs) b ≡ Some y → key x ≡ key y → a ≡ b) → a ≡ b
    go false t a b p q ih = ih a b x y p q e
    go true t zero zero p q ih = refl
    go true t zero (suc b) p q ih =
        (let (s, k, f) = filter_at test xs b y q in absurd (let r = once 0 (suc k) x y p f (subst (λ w. test w ≡ true) (some_same p) t) e in omega arith))
    go true t (suc a) zero p q ih = (let (s, k, f) = filter_at test xs a x p in absurd (let r = once (suc k) 0 x y f q s e in omega arith))
    go true t (suc a) (suc b) p q ih = ap suc (ih a b x y p q e)

-- ---- the default rows

module _ (P : List ℕ → ℕ → Type 0) where
  -- a row without a tag, of a Revision that is so
  abbrev pub IsPlain : Row → Type 0
  IsPlain row = (P row.revision row.uid) × (row.tag ≡ [])

  abbrev pub ArePlain : List Row → Type 0
  ArePlain rows = (i : ℕ) (row : Row) → slice_get rows i ≡ Some row → IsPlain row

  plain_more : (row : Row) (rows : List Row) → IsPlain row → ArePlain rows → ArePlain (row ∷ rows)
  plain_more row rows h all zero x e = subst IsPlain (some_same e) h
  plain_more row rows h all (suc i) x e = all i x e

  plain_share : (host : List ℕ) (m : Meant) (rows : List Row) → P m.name m.uid → ArePlain rows → ArePlain (add_share host m rows)
  unfolding add_share
  plain_share host m [] h all = plain_more (row_of [] host (percent_of m.target) m) [] (h, refl) (λ i x e. absurd cc)
  plain_share host m (row ∷ rows) h all = go (bytes_eq row.revision m.name) (plain_share host m rows h (λ i x e. all (suc i) x e))
    where
      go : (b : Bool) → ArePlain (add_share host m rows) → ArePlain (cond b (raised (percent_of m.target) row ∷ rows) (row ∷ add_share host m rows))
      go true ih = plain_more (raised (percent_of m.target) row) rows (all 0 row refl) (λ i x e. all (suc i) x e)
      go false ih = plain_more row (add_share host m rows) (all 0 row refl) ih

  plain_shares : (host : List ℕ) (rows : List Row) (ms : List Meant) → ArePlain rows
      → ((i : ℕ) (m : Meant) → slice_get ms i ≡ Some m → P m.name m.uid) → ArePlain (shares_from host rows ms)
  unfolding shares_from
  plain_shares host rows [] all h = all
  plain_shares host rows (m ∷ ms) all h = plain_shares host (add_share host m rows) ms (plain_share host m rows (h 0 m refl) all) (λ i x e. h (suc i) x e)

  plain_default : (host : List ℕ) (ms : List Meant) → ((i : ℕ) (m : Meant) → slice_get ms i ≡ Some m → P m.name m.uid)
      → ArePlain (default_rows host ms)
  plain_default host ms h i row e =
      (let (t, k, f) = filter_at (λ (row : Row). not (row.percent == 0)) (shares_from host [] ms) i row e in plain_shares host [] ms (λ i x e. absurd cc) h k row f)

-- ---- sums

abbrev percent : Row → ℕ
percent row = row.percent

abbrev share : Meant → ℕ
share m = percent_of m.target

sum_share : (host : List ℕ) (m : Meant) (rows : List Row) → sum_by percent (add_share host m rows) ≡ sum_by percent rows + share m
unfolding add_share
sum_share host m [] = omega (arith, sum_by-cons percent (row_of [] host (percent_of m.target) m) [])
sum_share host m (row ∷ rows) = go (bytes_eq row.revision m.name) (sum_share host m rows)
  where
    go : (b : Bool) → sum_by percent (add_share host m rows) ≡ sum_by percent rows + share m
        → sum_by percent (cond b (raised (percent_of m.target) row ∷ rows) (row ∷ add_share host m rows)) ≡ sum_by percent (row ∷ rows) + share m
    go true ih = omega (arith, sum_by-cons percent (raised (percent_of m.target) row) rows, sum_by-cons percent row rows)
    go false ih = omega (arith, sum_by-cons percent row (add_share host m rows), sum_by-cons percent row rows, ih)

sum_shares : (host : List ℕ) (rows : List Row) (ms : List Meant) → sum_by percent (shares_from host rows ms) ≡ sum_by percent rows + sum_by share ms
unfolding shares_from
sum_shares host rows [] = omega arith
sum_shares host rows (m ∷ ms) = omega (arith, sum_shares host (add_share host m rows) ms, sum_share host m rows, sum_by-cons share m ms)

sum_nonzero : (rows : List Row) → sum_by percent (filter (λ (row : Row). not (row.percent == 0)) rows) ≡ sum_by percent rows
sum_nonzero [] = refl
sum_nonzero (row ∷ rows) = go (row.percent == 0) refl (sum_nonzero rows)
  where
    go : (b : Bool) → (row.percent == 0) ≡ b → sum_by percent (filter (λ (row : Row). not (row.percent == 0)) rows) ≡ sum_by percent rows
        → sum_by percent (cond (not b) (row ∷ filter (λ (row : Row). not (row.percent == 0)) rows) (filter (λ (row : Row). not (row.percent == 0)) rows)) ≡ sum_by percent (row ∷ rows)
    go true e ih = omega (arith, sum_by-cons percent row rows, eqb-true row.percent 0 e, ih)
    go false e ih = omega (arith, sum_by-cons percent row (filter (λ (row : Row). not (row.percent == 0)) rows), sum_by-cons percent row rows, ih)

sum_targets : (ms : List Meant) (ts : List Target) → map (λ (m : Meant). m.target) ms ≡ ts → sum_by share ms ≡ sum_by percent_of ts
sum_targets ms ts e = go ms ∙ ap (sum_by percent_of) e
  where
    go : (ms : List Meant) → sum_by share ms ≡ sum_by percent_of (map (λ (m : Meant). m.target) ms)
    go [] = refl
    go (m ∷ ms) = omega (arith, sum_by-cons share m ms, sum_by-cons percent_of m.target (map (λ (m : Meant). m.target) ms), go ms)

-- ---- rows with and without a tag

abbrev is_untagged : Row → Bool
is_untagged row = is_empty row.tag

filter_both : (xs ys : List Row) → filter is_untagged (xs ++ ys) ≡ filter is_untagged xs ++ filter is_untagged ys
filter_both [] ys = refl
filter_both (x ∷ xs) ys = go (is_untagged x) (filter_both xs ys)
  where
    go : (b : Bool) → filter is_untagged (xs ++ ys) ≡ filter is_untagged xs ++ filter is_untagged ys
        → cond b (x ∷ filter is_untagged (xs ++ ys)) (filter is_untagged (xs ++ ys)) ≡ cond b (x ∷ filter is_untagged xs) (filter is_untagged xs) ++ filter is_untagged ys
    go true ih = ap (λ z. x ∷ z) ih
    go false ih = ih

filter_all : (xs : List Row) → ((i : ℕ) (x : Row) → slice_get xs i ≡ Some x → is_untagged x ≡ true) → filter is_untagged xs ≡ xs
filter_all [] h = refl
filter_all (x ∷ xs) h = rw (h 0 x refl) (ap (λ z. x ∷ z) (filter_all xs (λ i y e. h (suc i) y e)))

filter_no : (xs : List Row) → ((i : ℕ) (x : Row) → slice_get xs i ≡ Some x → is_untagged x ≡ false) → filter is_untagged xs ≡ []
filter_no [] h = refl
filter_no (x ∷ xs) h = rw (h 0 x refl) (filter_no xs (λ i y e. h (suc i) y e))

abbrev is_tagged : Meant → Bool
is_tagged m = not (is_empty m.target.tag)

abbrev tagged_row : Name → List ℕ → Meant → Row
tagged_row r domain m = row_of m.target.tag (host_of m.target.tag r domain) 100 m

not_empty : (xs : List ℕ) → not (is_empty xs) ≡ true → (is_empty xs ≡ false) × (xs ≢ [])
not_empty [] h = absurd cc
not_empty (x ∷ xs) h = (refl, λ e. cc)

tagged_from : (xs : List ℕ) → (xs ≢ []) → not (is_empty xs) ≡ true
tagged_from [] h = absurd (h refl)
tagged_from (x ∷ xs) h = refl

-- a row with a tag is the one of a target with this tag
tagged_at : (r : Name) (domain : List ℕ) (ms : List Meant) (i : ℕ) (row : Row) → slice_get (tagged_rows r domain ms) i ≡ Some row
    → (m : Meant) × (slice_get (filter is_tagged ms) i ≡ Some m) × (tagged_row r domain m ≡ row)
tagged_at r domain ms i row e = map_at (tagged_row r domain) (filter is_tagged ms) i row e

tagged_tag : (r : Name) (domain : List ℕ) (ms : List Meant) (i : ℕ) (row : Row) → slice_get (tagged_rows r domain ms) i ≡ Some row
    → is_untagged row ≡ false
tagged_tag r domain ms i row e =
    (let (m, f, s) = tagged_at r domain ms i row e in
    let (t, k, g) = filter_at is_tagged ms i m f in
    subst (λ (z : Row). is_untagged z ≡ false) s (not_empty m.target.tag t).0)

plain_tag : (host : List ℕ) (ms : List Meant) (i : ℕ) (row : Row) → slice_get (default_rows host ms) i ≡ Some row → row.tag ≡ []
plain_tag host ms i row e = (plain_default (λ a b. Unit {0}) host ms (λ i m f. tt) i row e).1

-- ---- the Table

-- what the rows and the targets name, a target means, with the rows' uids
module _ (P : List ℕ → ℕ → Type 0) (r : Name) (domain : List ℕ) (ms : List Meant) (h : (i : ℕ) (m : Meant) → slice_get ms i ≡ Some m → P m.name m.uid) where
  pub rows_are : (i : ℕ) (row : Row) → slice_get (assigned_rows r domain ms) i ≡ Some row → P row.revision row.uid
  unfolding assigned_rows
  rows_are i row e = go (get_either (default_rows (host_of [] r domain) ms) (tagged_rows r domain ms) i row e)
    where
      go : IsIn (default_rows (host_of [] r domain) ms) (tagged_rows r domain ms) i row → P row.revision row.uid
      go (InFirst f) = (plain_default P (host_of [] r domain) ms h i row f).0
      go (InSecond k q f) =
          (let (m, g, s) = tagged_at r domain ms k row f in
          let (t, l, x) = filter_at is_tagged ms k m g in
          subst (λ (z : Row). P z.revision z.uid) s (h l m x))

pub names_are : (Q : List ℕ → Type 0) (r : Name) (domain : List ℕ) (o : Object) (ms : List Meant)
    → ((i : ℕ) (m : Meant) → slice_get ms i ≡ Some m → Q m.name) → (x : List ℕ) → listed x (published_of (table_of r domain o ms)) ≡ true → Q x
names_are Q r domain o ms h x l = go (listed_either x _ _ l)
  where
    rows : (i : ℕ) × (slice_get (map (λ (row : Row). row.revision) (assigned_rows r domain ms)) i ≡ Some x) → Q x
    rows (i, e) = (let (row, f, s) = map_at (λ (row : Row). row.revision) (assigned_rows r domain ms) i x e in subst Q s (rows_are (λ a b. Q a) r domain ms h i row f))

    targets : (i : ℕ) × (slice_get (map (λ (t : Target). t.revision) (assigned_targets r domain ms)) i ≡ Some x) → Q x
    targets (i, e) =
        (let (t, f, s) = map_at (λ (t : Target). t.revision) (assigned_targets r domain ms) i x e in
        let (m, g, u) = map_at (published_target r domain) ms i t f in
        subst Q (ap (λ (z : Target). z.revision) u ∙ s) (h i m g))

    go : (listed x (map (λ (row : Row). row.revision) (assigned_rows r domain ms)) ≡ true) ⊎ (listed x (map (λ (t : Target). t.revision) (assigned_targets r domain ms)) ≡ true)
        → Q x
    go (inl k) = rows (listed_at x _ k)
    go (inr k) = targets (listed_at x _ k)

-- the rows divide the traffic of targets that are told
pub divided : (r : Name) (domain : List ℕ) (ms : List Meant) (ts : List Target) → map (λ (m : Meant). m.target) ms ≡ ts → AreWellTagged ts
    → IsDivided (assigned_rows r domain ms) (assigned_targets r domain ms)
unfolding assigned_rows
divided r domain ms ts same told = record {
  whole =
      ap (sum_by percent) (filter_both plain tagged ∙ ap (λ z. z ++ filter is_untagged tagged) (filter_all plain (λ i x e. ap is_empty (plain_tag host ms i x e))) ∙ ap (λ z. plain ++ z) (filter_no tagged (tagged_tag r domain ms)))
      ∙ omega (arith, sum_by-append percent plain [], sum_nonzero (shares_from host [] ms), sum_shares host [] ms, sum_targets ms ts same, told.whole.whole);
  hundred = λ i row e tag. hundred i row tag (get_either plain tagged i row e);
  once = λ a b x y p q tag e. once a b x y tag e (get_either plain tagged a x p) (get_either plain tagged b y q);
  each = λ i t e tag. (let (m, f, s) = map_at (published_target r domain) ms i t e in
      let tagged_m : is_tagged m ≡ true = tagged_from m.target.tag (λ z. tag (sym (ap (λ (w : Target). w.tag) s) ∙ z)) in
      let (k, g) = at_filter is_tagged ms i m f tagged_m in
      let (l, x) = get_right plain tagged k (tagged_row r domain m) (at_map (tagged_row r domain) (filter is_tagged ms) k m g) in
      at_listed t.tag (map (λ (row : Row). row.tag) (plain ++ tagged)) l (at_map (λ (row : Row). row.tag) (plain ++ tagged) l (tagged_row r domain m) x ∙ ap (λ (w : Target). Some w.tag) s));
}
  where
    host : List ℕ
    host = host_of [] r domain

    plain : List Row
    plain = default_rows (host_of [] r domain) ms

    tagged : List Row
    tagged = tagged_rows r domain ms

    hundred : (i : ℕ) (row : Row) → (row.tag ≢ []) → IsIn plain tagged i row → row.percent ≡ 100
    hundred i row tag (InFirst e) = absurd (tag (plain_tag host ms i row e))
    hundred i row tag (InSecond k q e) = (let (m, f, s) = tagged_at r domain ms k row e in sym (ap percent s))

    apart : (a b : ℕ) (x y : Meant) → slice_get ms a ≡ Some x → slice_get ms b ≡ Some y → is_tagged x ≡ true → x.target.tag ≡ y.target.tag → a ≡ b
    apart a b x y p q t e =
        told.tags a b x.target y.target (subst (λ z. slice_get z a ≡ Some x.target) same (at_map (λ (m : Meant). m.target) ms a x p)) (subst (λ z. slice_get z b ≡ Some y.target) same (at_map (λ (m : Meant). m.target) ms b y q)) (not_empty x.target.tag t).1 e

    once : (a b : ℕ) (x y : Row) → (x.tag ≢ []) → x.tag ≡ y.tag → IsIn plain tagged a x → IsIn plain tagged b y → a ≡ b
    once a b x y tag e (InFirst p) z = absurd (tag (plain_tag host ms a x p))
    once a b x y tag e (InSecond k s p) (InFirst q) = absurd (tag (e ∙ plain_tag host ms b y q))
    once a b x y tag e (InSecond k s p) (InSecond l t q) =
        (let (m, f, u) = tagged_at r domain ms k x p in
        let (n, g, w) = tagged_at r domain ms l y q in
        let places : k ≡ l = once_filter is_tagged (λ (z : Meant). z.target.tag) ms apart k l m n f g (ap (λ (z : Row). z.tag) u ∙ e ∙ sym (ap (λ (z : Row). z.tag) w)) in
        let r : a ≡ b = omega arith in r)
