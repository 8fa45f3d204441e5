-- Of a hundred places each row has as many as its percent, and the percents of a host's rows are a hundred.
use Rattle.std.proofs.Common.{◌≡◌, ℕ, ◌+◌, ◌-◌, ◌<◌, ◌≤◌, List, [], ◌∷◌, ◌++◌, Bool, true, false, cond, not, ◌&&◌, ◌||◌, ◌==◌, replicate, Option, Some, is_some, sum_by, refl, sym, ap, ap₂, subst, ◌∙◌, inl, inr, arith, zero-add}
use Rattle.std.specs.Prelude.{◌⊎◌, nat_lt}
use Rattle.std.specs.List.{filter, list_all, list_any}
use Rattle.std.specs.Str.{bytes_eq}
use Rattle.std.proofs.lemmas.List.Sums.{sum_by-cons}
use Rattle.std.proofs.lemmas.Slice.Eq.{bytes_eq-Decides}
use Rattle.std.proofs.lemmas.Bool.Decides.{nat_tests}
use borrow.Author.Tests.{eqb-true}
use Rattle.resource_types.specs.declared.specification.Row.{Row}
use Rattle.gateway_pick.specs.Rules.{has_no_tag, has_good_percent, agree, all_agree, percent_without_tag, are_rows}
use Rattle.gateway_pick.specs.Picks.{is_for, row_at, along, shares}
use Rattle.gateway_pick.proofs.Along.{along-same, along-one, along-append, along-later}

-- the percents of rows, together
abbrev pub percents : List Row → ℕ
percents rows = sum_by (λ row. row.percent) rows

-- ---- places

lt_true : (a b : ℕ) → a < b → nat_lt a b ≡ true
lt_true a b h = grind (arith, nat_tests)

lt_false : (a b : ℕ) → b ≤ a → nat_lt a b ≡ false
lt_false a b h = grind (arith, nat_tests)

module _ (row : Row) (rows : List Row) where
  pub first_row : (place : ℕ) → place < row.percent → row_at place (row ∷ rows) ≡ Some row
  first_row place h = ap (λ b. cond b (Some row) (row_at (place - row.percent) rows)) (lt_true place row.percent h)

  pub later_row : (place : ℕ) → row.percent ≤ place → row_at place (row ∷ rows) ≡ row_at (place - row.percent) rows
  later_row place h = ap (λ b. cond b (Some row) (row_at (place - row.percent) rows)) (lt_false place row.percent h)

-- the places below the percents of rows are shared among them
pub places_shared : (rows : List Row) → along (λ place. row_at place rows) 0 (percents rows) ≡ shares rows
places_shared [] = refl
places_shared (row ∷ rows) =
    let give : ℕ → Option Row = λ place. row_at place (row ∷ rows) in
    let front : along give 0 row.percent ≡ replicate row.percent (Some row) =
    along-same give (λ k. Some row) 0 row.percent (λ k low high. first_row row rows k (omega (arith, high))) ∙ along-one (Some row) 0 row.percent in
    let behind : along give (0 + row.percent) (percents rows) ≡ shares rows =
    along-later give 0 row.percent (percents rows)
    ∙ along-same (λ k. give (k + row.percent)) (λ k. row_at k rows) 0 (percents rows)
    (λ k low high. later_row row rows (k + row.percent) (omega arith) ∙ ap (λ p. row_at p rows) {x = k + row.percent - row.percent} {y = k} (omega arith))
    ∙ places_shared rows in
    ap (along give 0) (sum_by-cons (λ r. r.percent) row rows) ∙ along-append give 0 row.percent (percents rows) ∙ ap₂ (λ a b. a ++ b) front behind

-- a place below the percents of rows belongs to one
pub place_taken : (rows : List Row) (place : ℕ) → place < percents rows → is_some (row_at place rows) ≡ true
place_taken [] place h = absurd (omega (arith, h))
place_taken (row ∷ rows) place h = go (λ p less. place_taken rows p less) (nat_lt place row.percent) refl
  where
    go : ((p : ℕ) → p < percents rows → is_some (row_at p rows) ≡ true) → (b : Bool) → nat_lt place row.percent ≡ b → is_some (cond b (Some row) (row_at (place - row.percent) rows)) ≡ true
    go again true e = refl
    go again false e =
        let sum = sum_by-cons (λ r. r.percent) row rows in
        let least : row.percent ≤ place = grind (arith, nat_tests) in
        again (place - row.percent) (omega (arith, sum, h, least))

-- ---- the rows of a host

both : (a b : Bool) → (a && b) ≡ true → (a ≡ true) × (b ≡ true)
both true b e = (refl, e)
both false b e = cc

module _ (host : List ℕ) where
  abbrev rows_of : List Row → List Row
  rows_of rows = filter (is_for host) rows

  -- the row has no tag, and the host
  abbrev is_whole : Row → Bool
  is_whole row = has_no_tag row && is_for host row

  -- where one row without tag has the host, so have all without tag, and no other
  module _ (one : Row) (plain : has_no_tag one ≡ true) (here : is_for host one ≡ true) where
    whole_one : (row : Row) → agree one row ≡ true → (is_for host row ≡ has_no_tag row)
    whole_one row e = go (has_no_tag row) refl (subst (λ t. cond (t && has_no_tag row) (bytes_eq one.host row.host && not (bytes_eq one.revision row.revision)) (not (bytes_eq one.tag row.tag) && not (bytes_eq one.host row.host)) ≡ true) plain e)
      where
        hosts : one.host ≡ host
        hosts = (bytes_eq-Decides one.host host).0 here

        go : (t : Bool) → has_no_tag row ≡ t → cond (true && t) (bytes_eq one.host row.host && not (bytes_eq one.revision row.revision)) (not (bytes_eq one.tag row.tag) && not (bytes_eq one.host row.host)) ≡ true → is_for host row ≡ t
        go true is e =
            let same : one.host ≡ row.host = (bytes_eq-Decides one.host row.host).0 (both _ _ e).0 in
            (bytes_eq-Decides row.host host).1 (sym same ∙ hosts)
        go false is e =
            let other : not (bytes_eq one.host row.host) ≡ true = (both _ _ e).1 in
            apart (bytes_eq row.host host) refl other
          where
            apart : (b : Bool) → bytes_eq row.host host ≡ b → not (bytes_eq one.host row.host) ≡ true → b ≡ false
            apart false f other = refl
            apart true f other =
                let same : bytes_eq one.host row.host ≡ true = (bytes_eq-Decides one.host row.host).1 (hosts ∙ sym ((bytes_eq-Decides row.host host).0 f)) in
                cc

    pub whole_sum : (rows : List Row) → list_all (agree one) rows ≡ true → percents (rows_of rows) ≡ sum_by percent_without_tag rows
    whole_sum [] e = refl
    whole_sum (row ∷ rows) e =
        let parts = both (agree one row) (list_all (agree one) rows) e in
        let rest = whole_sum rows parts.1 in
        let is = whole_one row parts.0 in
        rw is (go (has_no_tag row) refl rest)
      where
        go : (t : Bool) → has_no_tag row ≡ t → percents (rows_of rows) ≡ sum_by percent_without_tag rows → percents (cond t (row ∷ rows_of rows) (rows_of rows)) ≡ sum_by percent_without_tag (row ∷ rows)
        go true f rest = sum_by-cons (λ r. r.percent) row (rows_of rows) ∙ ap₂ (λ a b. a + b) (ap (λ t. cond t row.percent 0) (sym f)) rest ∙ sym (sum_by-cons percent_without_tag row rows)
        go false f rest = rest ∙ sym (zero-add _) ∙ ap (λ a. a + sum_by percent_without_tag rows) (ap (λ t. cond t row.percent 0) (sym f)) ∙ sym (sum_by-cons percent_without_tag row rows)

  -- where a row with a tag has the host, no other row has
  module _ (one : Row) (tagged : has_no_tag one ≡ false) (here : is_for host one ≡ true) where
    no_other : (row : Row) → agree one row ≡ true → is_for host row ≡ false
    no_other row e = go (is_for host row) refl (subst (λ t. cond (t && has_no_tag row) (bytes_eq one.host row.host && not (bytes_eq one.revision row.revision)) (not (bytes_eq one.tag row.tag) && not (bytes_eq one.host row.host)) ≡ true) tagged e)
      where
        go : (b : Bool) → is_for host row ≡ b → (not (bytes_eq one.tag row.tag) && not (bytes_eq one.host row.host)) ≡ true → b ≡ false
        go false f e = refl
        go true f e =
            let other : not (bytes_eq one.host row.host) ≡ true = (both _ _ e).1 in
            let same : bytes_eq one.host row.host ≡ true = (bytes_eq-Decides one.host row.host).1 ((bytes_eq-Decides one.host host).0 here ∙ sym ((bytes_eq-Decides row.host host).0 f)) in
            cc

    pub alone : (rows : List Row) → list_all (agree one) rows ≡ true → rows_of rows ≡ []
    alone [] e = refl
    alone (row ∷ rows) e =
        let parts = both (agree one row) (list_all (agree one) rows) e in
        rw (no_other row parts.0) (alone rows parts.1)

  -- where a row without tag has another host, no row without tag has this one
  module _ (one : Row) (plain : has_no_tag one ≡ true) (elsewhere : is_for host one ≡ false) where
    not_whole : (row : Row) → agree one row ≡ true → is_whole row ≡ false
    not_whole row e = go (has_no_tag row) refl (is_for host row) refl (subst (λ t. cond (t && has_no_tag row) (bytes_eq one.host row.host && not (bytes_eq one.revision row.revision)) (not (bytes_eq one.tag row.tag) && not (bytes_eq one.host row.host)) ≡ true) plain e)
      where
        go : (t : Bool) → has_no_tag row ≡ t → (b : Bool) → is_for host row ≡ b → cond (true && has_no_tag row) (bytes_eq one.host row.host && not (bytes_eq one.revision row.revision)) (not (bytes_eq one.tag row.tag) && not (bytes_eq one.host row.host)) ≡ true → (t && b) ≡ false
        go false is b f e = refl
        go true is false f e = refl
        go true is true f e =
            let e' : (bytes_eq one.host row.host && not (bytes_eq one.revision row.revision)) ≡ true = rw is at e in
            let same : one.host ≡ row.host = (bytes_eq-Decides one.host row.host).0 (both _ _ e').0 in
            let mine : is_for host one ≡ true = (bytes_eq-Decides one.host host).1 (same ∙ (bytes_eq-Decides row.host host).0 f) in
            cc

    pub none_whole : (rows : List Row) → list_all (agree one) rows ≡ true → list_any is_whole rows ≡ false
    none_whole [] e = refl
    none_whole (row ∷ rows) e =
        let parts = both (agree one row) (list_all (agree one) rows) e in
        rw (not_whole row parts.0) (none_whole rows parts.1)

  -- The percents of the host's rows: there is no row; or they come to 100; or one of them has no tag, and they are the rows without tag.
  abbrev Shared : List Row → Type 0
  Shared rows = (rows_of rows ≡ [])
      ⊎ ((percents (rows_of rows) ≡ 100) ⊎ ((list_any is_whole rows ≡ true) × (percents (rows_of rows) ≡ sum_by percent_without_tag rows)))

  full_percent : (row : Row) → has_no_tag row ≡ false → has_good_percent row ≡ true → row.percent ≡ 100
  full_percent row tagged good =
      let full : (has_no_tag row || (row.percent == 100)) ≡ true = (both _ _ (both _ _ good).1).1 in
      let hundred : (row.percent == 100) ≡ true = rw tagged at full in
      eqb-true row.percent 100 hundred

  here_shared : (row : Row) (rows : List Row) (t : Bool) → has_no_tag row ≡ t → is_for host row ≡ true → has_good_percent row ≡ true → list_all (agree row) rows ≡ true → Shared (row ∷ rows)
  here_shared row rows true plain here good agreed =
      let whole : list_any is_whole (row ∷ rows) ≡ true = rw (plain, here) refl in
      let sum : percents (row ∷ rows_of rows) ≡ sum_by percent_without_tag (row ∷ rows) =
      sum_by-cons (λ r. r.percent) row (rows_of rows)
      ∙ ap₂ (λ a b. a + b) (ap (λ t. cond t row.percent 0) (sym plain)) (whole_sum row plain here rows agreed)
      ∙ sym (sum_by-cons percent_without_tag row rows) in
      inr (inr (whole, rw here sum))
  here_shared row rows false tagged here good agreed =
      let sum : percents (row ∷ rows_of rows) ≡ 100 = ap (λ rs. percents (row ∷ rs)) (alone row tagged here rows agreed) ∙ zero-add row.percent ∙ full_percent row tagged good in
      inr (inl (rw here sum))

  elsewhere_shared : (row : Row) (rows : List Row) (t : Bool) → has_no_tag row ≡ t → is_for host row ≡ false → list_all (agree row) rows ≡ true → Shared rows → Shared (row ∷ rows)
  elsewhere_shared row rows t is away agreed (inl none) = inl (rw away none)
  elsewhere_shared row rows t is away agreed (inr (inl hundred)) = inr (inl (rw away hundred))
  elsewhere_shared row rows true plain away agreed (inr (inr (some, sum))) =
      let none : list_any is_whole rows ≡ false = none_whole row plain away rows agreed in
      absurd (two none some)
    where
      two : {b : Bool} → b ≡ false → b ≡ true → ⊥
      two e f = cc
  elsewhere_shared row rows false tagged away agreed (inr (inr (some, sum))) =
      let more : sum_by percent_without_tag (row ∷ rows) ≡ sum_by percent_without_tag rows =
      sum_by-cons percent_without_tag row rows ∙ ap (λ t. cond t row.percent 0 + sum_by percent_without_tag rows) tagged ∙ zero-add _ in
      let some' : list_any is_whole (row ∷ rows) ≡ true = rw tagged some in
      inr (inr (some', rw away (sum ∙ sym more)))

  shared : (rows : List Row) → list_all has_good_percent rows ≡ true → all_agree rows ≡ true → Shared rows
  shared [] good agreed = inl refl
  shared (row ∷ rows) good agreed =
      let goods = both (has_good_percent row) (list_all has_good_percent rows) good in
      let agrees = both (list_all (agree row) rows) (all_agree rows) agreed in
      go (is_for host row) refl goods.0 agrees.0 (shared rows goods.1 agrees.1)
    where
      go : (b : Bool) → is_for host row ≡ b → has_good_percent row ≡ true → list_all (agree row) rows ≡ true → Shared rows → Shared (row ∷ rows)
      go true here good agreed rest = here_shared row rows (has_no_tag row) refl here good agreed
      go false away good agreed rest = elsewhere_shared row rows (has_no_tag row) refl away agreed rest

  -- where a Table has a row with the host, its rows with the host have all percents together
  pub hundred_percent : (rows : List Row) → are_rows rows ≡ true → list_any (is_for host) rows ≡ true → percents (rows_of rows) ≡ 100
  hundred_percent rows good some =
      let parts = both _ _ good in
      let more = both _ _ parts.1 in
      elim (shared rows parts.0 more.1) [
        | inl none ↦ absurd (not_none rows none some)
        | inr found ↦ elim found [
          | inl hundred ↦ hundred
          | inr whole ↦ whole.1 ∙ eqb-true (sum_by percent_without_tag rows) 100 more.0
        ]
      ]
    where
      not_none : (rs : List Row) → rows_of rs ≡ [] → list_any (is_for host) rs ≡ true → ⊥
      not_none [] none some = cc
      not_none (r ∷ rs) none some = go (λ n s. not_none rs n s) (is_for host r) refl none some
        where
          go : (rows_of rs ≡ [] → list_any (is_for host) rs ≡ true → ⊥) → (b : Bool) → is_for host r ≡ b → cond b (r ∷ rows_of rs) (rows_of rs) ≡ [] → (b || list_any (is_for host) rs) ≡ true → ⊥
          go again true e none some = cc
          go again false e none some = again none some
