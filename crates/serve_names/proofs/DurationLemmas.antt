-- What a duration's parts write is what is read of them, and the other way round.
use Rattle.std.proofs.Common.{◌≡◌, ◌∙◌, ◌+◌, ◌*◌, ◌≤◌, ◌==◌, ◌&&◌, inl, inr, ℕ, Bool, true, false, suc, cond, refl, sym, ap, arith, List, [], ◌∷◌, ◌++◌, length, take, drop, get_or, Option, Some, None, nat_lt, nat_le}
use Rattle.std.proofs.lemmas.List.{append-nil, append_assoc, length-append, nil_from_length, take_at, drop_at, get_or_at, drop_more, take-append-drop}
use Rattle.std.proofs.lemmas.Bool.{and_parts, and_from, eqb-true, leb-true, ltb-true, lt-ltb, le-leb, eq-eqb}
use Rattle.std.specs.Prelude.{IfSome}
use Rattle.std.specs.List.{list_all}
use Rattle.std.specs.Str.Parse.{digits_value}
use Rattle.serve_names.specs.Counts.{count_of, is_count, is_digit}
use Rattle.serve_names.specs.Durations.{IsPart, IsDuration, run_of, has_part, part_of, after_part, total_of, is_duration, duration_of}
use Rattle.serve_names.specs.Moments.{last_moment}
use Rattle.serve_names.proofs.Runs.{count_here}

pub record IsCount (digits : List ℕ) (number : ℕ) : Type 0 where
  some : 1 ≤ length digits
  few : length digits ≤ 10
  all : list_all is_digit digits ≡ true
  value : digits_value 10 digits ≡ number

counted : (digits : List ℕ) (number : ℕ) → count_of digits ≡ Some number → IsCount digits number
counted digits number e = go (is_count digits) refl e
  where
    go : (t : Bool) → is_count digits ≡ t → cond t (Some (digits_value 10 digits)) None ≡ Some number → IsCount digits number
    go false is e = absurd (cc)
    go true is e =
        let one = and_parts _ _ is in
        let two = and_parts _ _ one.1 in
        record { some = leb-true 1 (length digits) one.0; few = leb-true (length digits) 10 two.0; all = two.1; value = cc }

-- the digits before a byte that is none
run_to : (digits : List ℕ) (other : ℕ) (rest : List ℕ) → list_all is_digit digits ≡ true → is_digit other ≡ false → run_of (digits ++ other ∷ rest) ≡ length digits
run_to [] other rest all not_digit = rw not_digit refl
run_to (b ∷ bs) other rest all not_digit =
    let parts = and_parts (is_digit b) (list_all is_digit bs) all in
    let step : 1 + run_of (bs ++ other ∷ rest) ≡ suc (length bs) = omega (arith, run_to bs other rest parts.1 not_digit) in
    rw parts.0 step

-- another unit than the one that is asked for
other_part : (unit other : ℕ) (digits rest : List ℕ) (number : ℕ) → count_of digits ≡ Some number → is_digit other ≡ false → (other == unit) ≡ false → has_part unit (digits ++ other ∷ rest) ≡ false
other_part unit other digits rest number count not_digit apart =
    let is = counted digits number count in
    let run = run_to digits other rest is.all not_digit in
    let here : get_or (digits ++ other ∷ rest) (run_of (digits ++ other ∷ rest)) 0 ≡ other = rw run (get_or_at digits other rest 0 (length digits) refl) in
    let last : (get_or (digits ++ other ∷ rest) (run_of (digits ++ other ∷ rest)) 0 == unit) ≡ false = ap (λ (b : ℕ). b == unit) here ∙ apart in
    go (nat_lt 0 (run_of (digits ++ other ∷ rest))) (nat_le (run_of (digits ++ other ∷ rest)) 10) (nat_lt (run_of (digits ++ other ∷ rest)) (length (digits ++ other ∷ rest))) _ last
  where
    go : (a b c d : Bool) → d ≡ false → (a && (b && (c && d))) ≡ false
    go false b c d e = refl
    go true false c d e = refl
    go true true false d e = refl
    go true true true d e = e

this_part : (unit : ℕ) (digits rest : List ℕ) (number : ℕ) → count_of digits ≡ Some number → is_digit unit ≡ false
    → (has_part unit (digits ++ unit ∷ rest) ≡ true) × (run_of (digits ++ unit ∷ rest) ≡ length digits)
this_part unit digits rest number count not_digit =
    let is = counted digits number count in
    let text = digits ++ unit ∷ rest in
    let run = run_to digits unit rest is.all not_digit in
    let here : get_or text (run_of text) 0 ≡ unit = rw run (get_or_at digits unit rest 0 (length digits) refl) in
    let size : length text ≡ length digits + suc (length rest) = length-append digits (unit ∷ rest) in
    let some = is.some in
    let few = is.few in (
      and_from _ _ (lt-ltb 0 (run_of text) (omega arith))
          (and_from _ _ (le-leb (run_of text) 10 (omega arith)) (and_from _ _ (lt-ltb (run_of text) (length text) (omega arith)) (eq-eqb _ unit here))),
      run,
    )

-- a part stands before the rest, and is read
first_part : (unit number : ℕ) (text rest : List ℕ) → IsPart unit number text → is_digit unit ≡ false → has_part unit rest ≡ false
    → (part_of unit (text ++ rest) ≡ number) × (after_part unit (text ++ rest) ≡ rest)
first_part unit number text rest (inl e) not_digit none =
    let same : text ++ rest ≡ rest = ap (λ (t : List ℕ). t ++ rest) e.0 in (
      ap (part_of unit) same ∙ ap (λ (b : Bool). cond b (digits_value 10 (take (run_of rest) rest)) 0) none ∙ sym e.1,
      ap (after_part unit) same ∙ ap (λ (b : Bool). cond b (drop (run_of rest + 1) rest) rest) none,
    )
first_part unit number text rest (inr e) not_digit none =
    let digits = e.0 in
    let all : List ℕ = digits ++ unit ∷ rest in
    let same : text ++ rest ≡ all = ap (λ (t : List ℕ). t ++ rest) e.1.0 ∙ append_assoc digits (unit ∷ []) rest in
    let has = this_part unit digits rest number e.1.1 not_digit in
    let is = counted digits number e.1.1 in
    let front : take (run_of all) all ≡ digits = rw has.1 (take_at digits (unit ∷ rest) (length digits) refl) in
    let pushed : all ≡ (digits ++ unit ∷ []) ++ rest = sym (append_assoc digits (unit ∷ []) rest) in
    let back : drop (run_of all + 1) all ≡ rest = rw has.1 (ap (drop (length digits + 1)) pushed ∙ drop_at (digits ++ unit ∷ []) rest (length digits + 1) (length-append digits (unit ∷ []))) in (
      ap (part_of unit) same ∙ ap (λ (b : Bool). cond b (digits_value 10 (take (run_of all) all)) 0) has.0 ∙ ap (digits_value 10) front ∙ is.value,
      ap (after_part unit) same ∙ ap (λ (b : Bool). cond b (drop (run_of all + 1) all) all) has.0 ∙ back,
    )

not_first : (unit other number : ℕ) (text rest : List ℕ) → IsPart other number text → is_digit other ≡ false → (other == unit) ≡ false → has_part unit rest ≡ false → has_part unit (text ++ rest) ≡ false
not_first unit other number text rest (inl e) not_digit apart none = ap (λ (t : List ℕ). has_part unit (t ++ rest)) e.0 ∙ none
not_first unit other number text rest (inr e) not_digit apart none =
    ap (λ (t : List ℕ). has_part unit (t ++ rest)) e.1.0 ∙ ap (has_part unit) (append_assoc e.0 (other ∷ []) rest) ∙ other_part unit other e.0 rest number e.1.1 not_digit apart

pub duration_finds : (n : ℕ) (bytes : List ℕ) → IsDuration n bytes → duration_of bytes ≡ Some n
unfolding duration_of
duration_finds n bytes d =
    let s = d.seconds_text in
    let ms = d.minutes_text ++ s in
    let end : s ++ [] ≡ s = append-nil s in
    let seconds = rw end at (first_part 115 d.seconds s [] d.has_seconds refl refl) in
    let no_minutes = rw end at (not_first 109 115 d.seconds s [] d.has_seconds refl refl refl) in
    let none = rw end at (not_first 104 115 d.seconds s [] d.has_seconds refl refl refl) in
    let minutes = first_part 109 d.minutes d.minutes_text s d.has_minutes refl no_minutes in
    let no_hours = not_first 104 109 d.minutes d.minutes_text s d.has_minutes refl refl none in
    let hours = first_part 104 d.hours d.hours_text ms d.has_hours refl no_hours in
    let h : part_of 104 bytes ≡ d.hours = ap (part_of 104) d.joined ∙ hours.0 in
    let after_h : after_part 104 bytes ≡ ms = ap (after_part 104) d.joined ∙ hours.1 in
    let m : part_of 109 (after_part 104 bytes) ≡ d.minutes = ap (part_of 109) after_h ∙ minutes.0 in
    let after_m : after_part 109 (after_part 104 bytes) ≡ s = ap (after_part 109) after_h ∙ minutes.1 in
    let sec : part_of 115 (after_part 109 (after_part 104 bytes)) ≡ d.seconds = ap (part_of 115) after_m ∙ seconds.0 in
    let after_s : after_part 115 (after_part 109 (after_part 104 bytes)) ≡ [] = ap (after_part 115) after_m ∙ seconds.1 in
    let total : total_of bytes ≡ n = (λ i. h i * 3600 + m i * 60 + sec i) ∙ sym d.sum in
    let some = d.some in
    let within = d.within in
    let is : is_duration bytes ≡ true =
    and_from _ _ (lt-ltb 0 (length bytes) some) (and_from _ _ (ap (λ (t : List ℕ). length t == 0) after_s) (le-leb (total_of bytes) last_moment (omega arith))) in
    ap (λ (b : Bool). cond b (Some (total_of bytes)) None) is ∙ ap Some total

-- the bytes are a part, or none, and what is left of them
cut : (unit : ℕ) (bytes : List ℕ) → (text : List ℕ) × (IsPart unit (part_of unit bytes) text × (bytes ≡ text ++ after_part unit bytes))
cut unit bytes = go (has_part unit bytes) refl
  where
    go : (t : Bool) → has_part unit bytes ≡ t → (text : List ℕ) × (IsPart unit (part_of unit bytes) text × (bytes ≡ text ++ after_part unit bytes))
    go false is = ([], (inl (refl, ap (λ (b : Bool). cond b (digits_value 10 (take (run_of bytes) bytes)) 0) is), sym (ap (λ (b : Bool). cond b (drop (run_of bytes + 1) bytes) bytes) is)))
    go true is =
        let one = and_parts _ _ is in
        let two = and_parts _ _ one.1 in
        let three = and_parts _ _ two.1 in
        let some = ltb-true 0 (run_of bytes) one.0 in
        let few = leb-true (run_of bytes) 10 two.0 in
        let less = ltb-true (run_of bytes) (length bytes) three.0 in
        let unit_is : get_or bytes (run_of bytes) 0 ≡ unit = eqb-true _ unit three.1 in
        let digits = take (run_of bytes) bytes in
        let rest = drop (run_of bytes + 1) bytes in
        let number : part_of unit bytes ≡ digits_value 10 digits = ap (λ (b : Bool). cond b (digits_value 10 digits) 0) is in
        let after : after_part unit bytes ≡ rest = ap (λ (b : Bool). cond b rest bytes) is in
        let whole : bytes ≡ digits ++ unit ∷ rest =
        sym (take-append-drop (run_of bytes) bytes) ∙ ap (λ (t : List ℕ). digits ++ t) (drop_more bytes (run_of bytes) 0 less ∙ ap (λ (b : ℕ). b ∷ rest) unit_is) in (
          digits ++ unit ∷ [],
          (
            inr (digits, (refl, count_here bytes some few less ∙ ap Some (sym number))),
            whole ∙ sym (append_assoc digits (unit ∷ []) rest) ∙ ap (λ (t : List ℕ). (digits ++ unit ∷ []) ++ t) (sym after),
          ),
        )

pub duration_found : (n : ℕ) (bytes : List ℕ) → duration_of bytes ≡ Some n → IsDuration n bytes
unfolding duration_of
duration_found n bytes e = go (is_duration bytes) refl e
  where
    go : (t : Bool) → is_duration bytes ≡ t → cond t (Some (total_of bytes)) None ≡ Some n → IsDuration n bytes
    go false is e = absurd (cc)
    go true is e =
        let one = and_parts _ _ is in
        let two = and_parts _ _ one.1 in
        let total : total_of bytes ≡ n = cc in
        let hours = cut 104 bytes in
        let minutes = cut 109 (after_part 104 bytes) in
        let seconds = cut 115 (after_part 109 (after_part 104 bytes)) in
        let none : after_part 115 (after_part 109 (after_part 104 bytes)) ≡ [] = nil_from_length _ (eqb-true _ 0 two.0) in
        let last : after_part 109 (after_part 104 bytes) ≡ seconds.0 = seconds.1.1 ∙ ap (λ (t : List ℕ). seconds.0 ++ t) none ∙ append-nil seconds.0 in
        let small = leb-true (total_of bytes) last_moment two.1 in
        record {
          hours = part_of 104 bytes;
          minutes = part_of 109 (after_part 104 bytes);
          seconds = part_of 115 (after_part 109 (after_part 104 bytes));
          hours_text = hours.0;
          minutes_text = minutes.0;
          seconds_text = seconds.0;
          has_hours = hours.1.0;
          has_minutes = minutes.1.0;
          has_seconds = seconds.1.0;
          joined = hours.1.1 ∙ ap (λ (t : List ℕ). hours.0 ++ t) (minutes.1.1 ∙ ap (λ (t : List ℕ). minutes.0 ++ t) last);
          some = ltb-true 0 (length bytes) one.0;
          sum = sym total;
          within = omega arith;
        }

pub duration_if : (bytes : List ℕ) (o : Option ℕ) → o ≡ duration_of bytes → IfSome o (λ n. IsDuration n bytes)
duration_if bytes (Some n) e = duration_found n bytes (sym e)
duration_if bytes None e = tt
