-- The fields of a moment's text, both ways.
use Rattle.std.proofs.Common.{◌≡◌, ◌∙◌, ◌+◌, ◌*◌, ◌/◌, ◌%◌, ◌<◌, ◌≤◌, ℕ, ℤ, pos, negsuc, ◌<ℤ◌, refl, sym, ap, ap₂, subst, arith, List, [], ◌∷◌, ◌++◌, length}
use Rattle.jiff_core.specs.declared.civil.date.Date.{Date}
use Rattle.jiff_core.specs.Date.{epoch_day, IsYmd}
use Rattle.jiff_core.proofs.DateLemmas.{civil, epoch_day_range}
use Rattle.jiff_core.proofs.CalendarLemmas.{days_from_civil-day_count, day_count-epoch, day_count-lt_year, days_in_month_bounds}
use Rattle.jiff_core.proofs.SignedLemmas.{signed_arith}
use Rattle.jiff_fmt.specs.Text.{date_text, year_text, pad2, pad4}
use Rattle.serve_names.specs.Moments.{IsMomentText, moment_bytes, clock_text, last_moment}
use Rattle.serve_names.proofs.DayLemmas.{moment_has}
use Rattle.serve_names.specs.Fields.{pair_of, fields_of, fields_text, AreSmall}
use Rattle.serve_names.specs.declared.fields.Fields.{Fields}

pair_back : (a : ℕ) → pair_of (48 + a / 10) (48 + a % 10) ≡ a
pair_back a = omega arith

year_back : (a : ℕ) → pair_of (48 + a / 100 / 10) (48 + a / 100 % 10) * 100 + pair_of (48 + a % 100 / 10) (48 + a % 100 % 10) ≡ a
year_back a = ap₂ (λ (h l : ℕ). h * 100 + l) (pair_back (a / 100)) (pair_back (a % 100)) ∙ omega arith

-- the fields are read back from what they write
pub fields_back : (f : Fields) → fields_of (fields_text f) ≡ f
fields_back f = λ i. record {
  year = year_back f.year i;
  month = pair_back f.month i;
  day = pair_back f.day i;
  hour = pair_back f.hour i;
  minute = pair_back f.minute i;
  second = pair_back f.second i;
}

-- a date from 1970 on has a year of four digits
pub year_of : (d : Date) (k : ℕ) → epoch_day d ≡ pos k → (y : ℕ) × (d.year ≡ pos y) × (y < 10000)
year_of d k e = go d.year refl
  where
    go : (z : ℤ) → d.year ≡ z → (y : ℕ) × (d.year ≡ pos y) × (y < 10000)
    go (pos y) is =
        let within = rw is at d.year_in in
        (y, is, omega (arith, signed_arith))
    go (negsuc y) is =
        let early : d.year <ℤ pos 1970 = rw is (omega (arith, signed_arith)) in
        let before = day_count-lt_year d.year d.month d.day (pos 1970) 1 1 (civil d) (omega arith) early in
        absurd (omega (arith, signed_arith, days_from_civil-day_count d.year d.month d.day, day_count-epoch))

-- the clock's fields make the second of the day
abbrev pub clock_fields : ℕ → ℕ → ℕ → ℕ → Fields
clock_fields s y m d = record { year = y; month = m; day = d; hour = s / 3600; minute = s / 60 % 60; second = s % 60 }

pub moment_fields : (n : ℕ) (bytes : List ℕ) → (text : IsMomentText n bytes) → (f : Fields) × AreSmall f × (bytes ≡ fields_text f)
    × IsYmd (pos f.year) (pos f.month) (pos f.day) text.0 × (f.hour * 3600 + f.minute * 60 + f.second ≡ n % 86400)
moment_fields n bytes text =
    let d = text.0 in
    let year = year_of d (n / 86400) text.1 in
    let s = n % 86400 in
    let month = d.month_in in
    let day = d.day_in in
    let days = days_in_month_bounds d.year d.month in
    let written : date_text d ++ clock_text s ≡ fields_text (clock_fields s year.0 d.month d.day) =
    ap (λ (z : ℤ). (year_text z ++ 45 ∷ [] ++ pad2 d.month ++ 45 ∷ [] ++ pad2 d.day) ++ clock_text s) year.1 in (
      clock_fields s year.0 d.month d.day,
      (year.2, omega arith, omega arith, omega arith, omega arith, omega arith),
      text.2 ∙ written,
      (year.1, refl, refl),
      omega arith,
    )

-- and what they write is the text of that moment
pub moment_from : (f : Fields) (d : Date) (k : ℕ) → AreSmall f → IsYmd (pos f.year) (pos f.month) (pos f.day) d → epoch_day d ≡ pos k
    → let n = k * 86400 + f.hour * 3600 + f.minute * 60 + f.second in (n ≤ last_moment) × IsMomentText n (fields_text f)
moment_from f d k small ymd e =
    let n = k * 86400 + f.hour * 3600 + f.minute * 60 + f.second in
    let range = epoch_day_range d in
    let least : k ≤ 2932896 = omega (arith, signed_arith) in
    let days : n / 86400 ≡ k = omega arith in
    let s : n % 86400 ≡ f.hour * 3600 + f.minute * 60 + f.second = omega arith in
    let hour : n % 86400 / 3600 ≡ f.hour = omega arith in
    let minute : n % 86400 / 60 % 60 ≡ f.minute = omega arith in
    let second : n % 86400 % 60 ≡ f.second = omega arith in
    let month : d.month ≡ f.month = cc in
    let day : d.day ≡ f.day = cc in
    let date : date_text d ≡ pad4 f.year ++ 45 ∷ [] ++ pad2 f.month ++ 45 ∷ [] ++ pad2 f.day =
    λ i. year_text (ymd.0 i) ++ 45 ∷ [] ++ pad2 (month i) ++ 45 ∷ [] ++ pad2 (day i) in
    let clock : clock_text (n % 86400) ≡ 84 ∷ (pad2 f.hour ++ (58 ∷ (pad2 f.minute ++ (58 ∷ (pad2 f.second ++ 90 ∷ []))))) =
    λ i. 84 ∷ (pad2 (hour i) ++ (58 ∷ (pad2 (minute i) ++ (58 ∷ (pad2 (second i) ++ 90 ∷ []))))) in
    (omega arith, (d, e ∙ ap pos (sym days), sym (ap₂ (λ (a b : List ℕ). a ++ b) date clock)))

-- what is read of a moment's text
pub record IsReadBack (n : ℕ) (bytes : List ℕ) (f : Fields) : Type 0 where
  pub small : AreSmall f
  pub written : bytes ≡ fields_text f
  pub date : Date
  pub ymd : IsYmd (pos f.year) (pos f.month) (pos f.day) date
  pub epoch : epoch_day date ≡ pos (n / 86400)
  pub second : f.hour * 3600 + f.minute * 60 + f.second ≡ n % 86400

pub read_back : (n : ℕ) (bytes : List ℕ) (f : Fields) → n ≤ last_moment → bytes ≡ moment_bytes n → f ≡ fields_of bytes → IsReadBack n bytes f
read_back n bytes f le e is =
    let text : IsMomentText n bytes = subst (IsMomentText n) (sym e) (moment_has n le) in
    let m = moment_fields n bytes text in
    let same : m.0 ≡ f = sym (is ∙ ap fields_of m.2 ∙ fields_back m.0) in
    subst (IsReadBack n bytes) same (record { small = m.1; written = m.2; date = text.0; ymd = m.3; epoch = text.1; second = m.4 })

pub moment_length : (n : ℕ) (bytes : List ℕ) → n ≤ last_moment → bytes ≡ moment_bytes n → length bytes ≡ 20
moment_length n bytes le e =
    let m = moment_fields n bytes (subst (IsMomentText n) (sym e) (moment_has n le)) in
    ap length m.2
