-- The civil date of a day, by counting and by the calendar.
use Rattle.std.proofs.Common.{◌≡◌, ◌∙◌, ◌+◌, ◌/◌, ◌%◌, ◌<◌, ◌≤◌, inl, inr, ℕ, Bool, true, false, zero, suc, cond, pos, refl, sym, ap, subst, arith, List, [], ◌∷◌, ◌++◌}
use Rattle.std.proofs.lemmas.Bool.{cases_lt, cases_eq, leb-true, leb-false, le-leb, both_ways}
use Rattle.jiff_core.specs.declared.civil.date.Date.{Date}
use Rattle.jiff_core.specs.Calendar.{day_count, days_in_month, days_in_year}
use Rattle.jiff_core.specs.Date.{epoch_day}
use Rattle.jiff_core.proofs.DateLemmas.{epoch_day_injective}
use Rattle.jiff_core.proofs.CalendarLemmas.{days_from_civil-day_count, day_count-epoch, day_count-next_year, day_count-end, day_count-next_month, day_count-last_of_year, day_count-day}
use Rattle.jiff_core.proofs.SignedLemmas.{signed_arith}
use Rattle.jiff_fmt.specs.Text.{date_text, year_text, pad2}
use Rattle.serve_names.specs.Moments.{IsMomentText, moment_bytes, day_bytes, clock_text, last_moment, last_such, has_begun, year_of, month_of, monthday_of}

-- the greatest number of which p is true: it is at least any other, and of none above it p is true
pub record IsLast (p : ℕ → Bool) (n k last : ℕ) : Type 0 where
  holds : p last ≡ true
  least : k ≤ last
  most : last ≤ n
  above : (j : ℕ) → last < j → j ≤ n → p j ≡ false

last_is : (p : ℕ → Bool) (n k : ℕ) → 0 < k → k ≤ n → p k ≡ true → IsLast p n k (last_such p n)
unfolding last_such
last_is p zero k some le e = absurd (omega arith)
last_is p (suc n) k some le e = go (p (suc n)) refl (λ below. last_is p n k some below e)
  where
    go : (t : Bool) → p (suc n) ≡ t → (k ≤ n → IsLast p n k (last_such p n)) → IsLast p (suc n) k (cond t (suc n) (last_such p n))
    go true is lower = record { holds = is; least = le; most = omega arith; above = λ j lt most. absurd (omega arith) }
    go false is lower = elim (cases_eq k (suc n)) [
      | inl same ↦ absurd (both_ways (p (suc n)) is (ap p (sym same) ∙ e))
      | inr apart ↦
          let before = lower (omega arith) in
          let most = before.most in
          record {
            holds = before.holds;
            least = before.least;
            most = omega arith;
            above = λ j lt le2. elim (cases_eq j (suc n)) [
              | inl same ↦ ap p same ∙ is
              | inr other ↦ before.above j lt (omega arith)
            ];
          }
    ]

-- a year and a month with the day in it
pub record IsPlace (day year month : ℕ) : Type 0 where
  year_from : 1970 ≤ year
  year_to : year ≤ 9999
  month_from : 1 ≤ month
  month_to : month ≤ 12
  begun : day_count (pos year) month 1 ≤ 4371953 + day
  within : 4371953 + day < day_count (pos year) month 1 + days_in_month (pos year) month

begins : (day year month : ℕ) → has_begun day year month ≡ true → day_count (pos year) month 1 ≤ 4371953 + day
begins day year month e =
    let le = leb-true _ _ e in
    omega (arith, day_count-epoch)

not_begun : (day year month : ℕ) → has_begun day year month ≡ false → 4371953 + day < day_count (pos year) month 1
not_begun day year month e =
    let lt = leb-false _ _ e in
    omega (arith, day_count-epoch)

year_place : (day : ℕ) → IsLast (λ year. has_begun day year 1) 9999 1970 (year_of day)
unfolding year_of
year_place day = last_is (λ year. has_begun day year 1) 9999 1970 (omega arith) (omega arith) (le-leb _ _ (omega arith))

in_year : (day : ℕ) → day ≤ 2932896 → 4371953 + day < day_count (pos (year_of day)) 1 1 + days_in_year (pos (year_of day))
in_year day small =
    let is = year_place day in
    let y = year_of day in
    let most = is.most in
    let next : day_count (pos (y + 1)) 1 1 ≡ day_count (pos y) 1 1 + days_in_year (pos y) = day_count-next_year (pos y) (pos (y + 1)) (omega (arith, signed_arith)) refl in
    elim (cases_lt y 9999) [
      | inl lt ↦ let no = not_begun day (y + 1) 1 (is.above (y + 1) (omega arith) (omega arith)) in omega arith
      | inr ge ↦
          let last : y + 1 ≡ 10000 = omega arith in
          let end : day_count (pos (y + 1)) 1 1 ≡ 7304850 = ap (λ (n : ℕ). day_count (pos n) 1 1) last ∙ day_count-end in
          omega arith
    ]

month_place : (day : ℕ) → IsLast (λ month. has_begun day (year_of day) month) 12 1 (month_of day)
unfolding month_of
month_place day = last_is (λ month. has_begun day (year_of day) month) 12 1 (omega arith) (omega arith) (year_place day).holds

place_of : (day : ℕ) → day ≤ 2932896 → IsPlace day (year_of day) (month_of day)
place_of day small =
    let year = year_place day in
    let month = month_place day in
    let y = year_of day in
    let m = month_of day in
    let from = month.least in
    let to = month.most in
    record {
      year_from = year.least;
      year_to = year.most;
      month_from = month.least;
      month_to = month.most;
      begun = begins day y m month.holds;
      within = elim (cases_lt m 12) [
        | inl lt ↦
            let no = not_begun day y (m + 1) (month.above (m + 1) (omega arith) (omega arith)) in
            let next = day_count-next_month (pos y) m from in
            omega arith
        | inr ge ↦
            let last : 12 ≡ m = omega arith in
            subst (λ (n : ℕ). 4371953 + day < day_count (pos y) n 1 + days_in_month (pos y) n) last (december day small)
      ];
    }
  where
    december : (day : ℕ) → day ≤ 2932896 → 4371953 + day < day_count (pos (year_of day)) 12 1 + days_in_month (pos (year_of day)) 12
    december day small =
        let y = year_of day in
        let all = in_year day small in
        let end = day_count-last_of_year (pos y) in
        let same = day_count-day (pos y) 12 31 1 (omega arith) (omega arith) in
        omega arith

-- the date of a day
pub record IsDateOf (day : ℕ) (date : Date) : Type 0 where
  epoch : epoch_day date ≡ pos day
  year : date.year ≡ pos (year_of day)
  month : date.month ≡ month_of day
  monthday : date.day ≡ monthday_of day

pub date_of : (day : ℕ) → day ≤ 2932896 → (date : Date) × IsDateOf day date
unfolding monthday_of
date_of day small =
    let place = place_of day small in
    let y = year_of day in
    let m = month_of day in
    let d = monthday_of day in
    let year_from = place.year_from in
    let year_to = place.year_to in
    let month_from = place.month_from in
    let month_to = place.month_to in
    let begun = place.begun in
    let within = place.within in
    let is : d + day_count (pos y) m 1 ≡ 4371953 + day + 1 = omega (arith, day_count-epoch) in
    let first : 1 ≤ d = omega arith in
    let last : d ≤ days_in_month (pos y) m = omega arith in
    let same = day_count-day (pos y) m d 1 first (omega arith) in
    let epoch = days_from_civil-day_count (pos y) m d in
    let date : Date = record {
      year = pos y;
      month = m;
      day = d;
      year_in = (omega (arith, signed_arith), omega (arith, signed_arith));
      month_in = (month_from, month_to);
      day_in = (first, last);
    } in
    (date, record { epoch = omega (arith, signed_arith); year = refl; month = refl; monthday = refl })

-- the text of such a date
text_of_date : (day : ℕ) (date : Date) → IsDateOf day date → date_text date ≡ day_bytes day
text_of_date day date is = λ i. year_text (is.year i) ++ 45 ∷ [] ++ pad2 (is.month i) ++ 45 ∷ [] ++ pad2 (is.monthday i)

whole_days : (n : ℕ) → n ≤ last_moment → n / 86400 ≤ 2932896
whole_days n le = omega arith

pub moment_has : (n : ℕ) → n ≤ last_moment → IsMomentText n (moment_bytes n)
unfolding moment_bytes
moment_has n le =
    let found = date_of (n / 86400) (whole_days n le) in
    (found.0, found.1.epoch, ap (λ (t : List ℕ). t ++ clock_text (n % 86400)) (sym (text_of_date (n / 86400) found.0 found.1)))

pub moment_is : (n : ℕ) (bytes : List ℕ) → n ≤ last_moment → IsMomentText n bytes → bytes ≡ moment_bytes n
unfolding moment_bytes
moment_is n bytes le text =
    let found = date_of (n / 86400) (whole_days n le) in
    let same = epoch_day_injective text.0 found.0 (text.1 ∙ sym found.1.epoch) in
    let is : IsDateOf (n / 86400) text.0 = record {
      epoch = text.1;
      year = same.0 ∙ found.1.year;
      month = same.1 ∙ found.1.month;
      monthday = same.2 ∙ found.1.monthday;
    } in
    text.2 ∙ ap (λ (t : List ℕ). t ++ clock_text (n % 86400)) (text_of_date (n / 86400) text.0 is)
