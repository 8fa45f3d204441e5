-- Numbers in hexadecimal digits, written and read.
use Rattle.std.proofs.Common.{◌≡◌, ◌∙◌, ◌+◌, ◌-◌, ◌*◌, ◌/◌, ◌%◌, ◌^◌, ◌<◌, ◌≤◌, ◌==◌, ◌||◌, ◌⊎◌, inl, inr, ℕ, Bool, true, false, not, zero, suc, cond, refl, sym, ap, ap₂, subst, arith, List, [], ◌∷◌, ◌++◌, length, take, drop, get_or, replicate, nat_le, pow-suc}
use Rattle.std.proofs.lemmas.List.{append_assoc, length-append, length-replicate, take-append-drop, take_at, drop_at, take_more, take_all, replicate_more, length_push}
use Rattle.std.proofs.lemmas.Bool.{cases_lt, and_parts, and_from, or_cases, or_left, or_right, leb-true, eqb-true, eqb-false, le-leb, eq-eqb, ne_eqb}
use Rattle.std.proofs.lemmas.Bool.Decides.{nat_tests}
use Rattle.std.proofs.lemmas.Fmt.{hex_one_digit, digits_is_IsNumeral}
use Rattle.std.proofs.lemmas.Int.Digits.{digits_value_more, digits_value-lt}
use Rattle.std.proofs.lemmas.Str.Parse.{digits_value-take-le}
use Rattle.std.proofs.Math.Nat.{pow-le-pow_right}
use Rattle.std.specs.Char.{digit_value}
use Rattle.std.specs.Fmt.{digits, digits_onto, digit_glyph}
use Rattle.std.specs.List.{list_all}
use Rattle.std.specs.Str.Parse.{digits_value, AllDigits}
use Rattle.serve_names.specs.Padding.{at_least}
use Rattle.serve_names.specs.Uids.{is_hex_digit, is_hex_number, prefix, uid_bytes}

hex_small : (b : ℕ) → is_hex_digit b ≡ true → digit_value b < 16
hex_small b e = elim (or_cases _ _ e) [
  | inl one ↦ let parts = and_parts _ _ one in let low = leb-true 48 b parts.0 in let high = leb-true b 57 parts.1 in grind (arith, nat_tests)
  | inr two ↦ let parts = and_parts _ _ two in let low = leb-true 97 b parts.0 in let high = leb-true b 102 parts.1 in grind (arith, nat_tests)
]

hex_glyph : (b : ℕ) → is_hex_digit b ≡ true → digit_glyph false (digit_value b) ≡ b
hex_glyph b e = elim (or_cases _ _ e) [
  | inl one ↦ let parts = and_parts _ _ one in let low = leb-true 48 b parts.0 in let high = leb-true b 57 parts.1 in grind (arith, nat_tests)
  | inr two ↦ let parts = and_parts _ _ two in let low = leb-true 97 b parts.0 in let high = leb-true b 102 parts.1 in grind (arith, nat_tests)
]

glyph_hex : (d : ℕ) → d < 16 → is_hex_digit (digit_glyph false d) ≡ true
glyph_hex d small = elim (cases_lt d 10) [
  | inl lt ↦ let is : digit_glyph false d ≡ 48 + d = grind (arith, nat_tests) in rw is (or_left _ _ (and_from _ _ (le-leb 48 (48 + d) (omega arith)) (le-leb (48 + d) 57 (omega arith))))
  | inr ge ↦ let is : digit_glyph false d ≡ 87 + d = grind (arith, nat_tests) in rw is (or_right _ _ (and_from _ _ (le-leb 97 (87 + d) (omega arith)) (le-leb (87 + d) 102 (omega arith))))
]

-- what digits come before is left behind them
onto_append : (k n : ℕ) (acc : List ℕ) → digits_onto k 16 false n acc ≡ digits_onto k 16 false n [] ++ acc
onto_append zero n acc = refl
onto_append (suc k) n acc = go (n / 16 == 0) (λ more. onto_append k (n / 16) more)
  where
    go : (t : Bool) → ((more : List ℕ) → digits_onto k 16 false (n / 16) more ≡ digits_onto k 16 false (n / 16) [] ++ more)
        → cond t (digit_glyph false (n % 16) ∷ acc) (digits_onto k 16 false (n / 16) (digit_glyph false (n % 16) ∷ acc))
        ≡ cond t (digit_glyph false (n % 16) ∷ []) (digits_onto k 16 false (n / 16) (digit_glyph false (n % 16) ∷ [])) ++ acc
    go true lower = refl
    go false lower =
        lower (digit_glyph false (n % 16) ∷ acc)
        ∙ sym (append_assoc (digits_onto k 16 false (n / 16) []) (digit_glyph false (n % 16) ∷ []) acc)
        ∙ ap (λ (t : List ℕ). t ++ acc) (sym (lower (digit_glyph false (n % 16) ∷ [])))

-- more room than the digits need changes nothing
onto_room : (k n : ℕ) (acc : List ℕ) → 0 < k → n < 16 ^ k → digits_onto k 16 false n acc ≡ digits_onto (suc k) 16 false n acc
onto_room zero n acc some small = absurd (omega arith)
onto_room (suc k) n acc some small = go (n / 16 == 0) refl (onto_room k (n / 16) (digit_glyph false (n % 16) ∷ acc))
  where
    room : (j m : ℕ) → m < 16 ^ j → 0 < m → 0 < j
    room zero m less more = absurd (omega arith)
    room (suc j) m less more = omega arith

    go : (t : Bool) → (n / 16 == 0) ≡ t
        → (0 < k → n / 16 < 16 ^ k → digits_onto k 16 false (n / 16) (digit_glyph false (n % 16) ∷ acc) ≡ digits_onto (suc k) 16 false (n / 16) (digit_glyph false (n % 16) ∷ acc))
        → cond t (digit_glyph false (n % 16) ∷ acc) (digits_onto k 16 false (n / 16) (digit_glyph false (n % 16) ∷ acc))
        ≡ cond t (digit_glyph false (n % 16) ∷ acc) (digits_onto (suc k) 16 false (n / 16) (digit_glyph false (n % 16) ∷ acc))
    go true is lower = refl
    go false is lower =
        let apart = eqb-false (n / 16) 0 is in
        let bound : n < 16 ^ k * 16 = rw (← pow-suc) small in
        let less : n / 16 < 16 ^ k = omega arith in
        lower (room k (n / 16) less (omega arith)) less

pub hex_step : (n : ℕ) → 16 ≤ n → n < 2 ^ 64 → digits 16 false n ≡ digits 16 false (n / 16) ++ digit_glyph false (n % 16) ∷ []
unfolding digits
hex_step n large small =
    let apart : n / 16 ≡ 0 → ⊥ = λ e. omega arith in
    let g : List ℕ = digit_glyph false (n % 16) ∷ [] in
    let first : digits_onto 64 16 false n [] ≡ digits_onto 63 16 false (n / 16) g = ap (λ (b : Bool). cond b g (digits_onto 63 16 false (n / 16) g)) (ne_eqb (n / 16) 0 apart) in
    first ∙ onto_append 63 (n / 16) g ∙ ap (λ (t : List ℕ). t ++ g) (onto_room 63 (n / 16) [] (omega arith) (omega arith))

-- the digits of a number below 16 ^ k
pub record IsWritten (k n : ℕ) (ds : List ℕ) : Type 0 where
  some : 0 < length ds
  few : length ds ≤ k
  all : list_all is_hex_digit ds ≡ true
  lead : 0 < n → get_or ds 0 0 ≡ 48 → ⊥

list_all-append : (p : ℕ → Bool) (xs ys : List ℕ) → list_all p xs ≡ true → list_all p ys ≡ true → list_all p (xs ++ ys) ≡ true
list_all-append p [] ys e f = f
list_all-append p (x ∷ xs) ys e f = let parts = and_parts (p x) (list_all p xs) e in and_from _ _ parts.0 (list_all-append p xs ys parts.1 f)

first_append : (xs ys : List ℕ) → 0 < length xs → get_or (xs ++ ys) 0 0 ≡ get_or xs 0 0
first_append [] ys some = absurd (omega arith)
first_append (x ∷ xs) ys some = refl

glyph_zero : (d : ℕ) → d < 16 → digit_glyph false d ≡ 48 → d ≡ 0
glyph_zero d small e = elim (cases_lt d 10) [
  | inl lt ↦ let is : digit_glyph false d ≡ 48 + d = grind (arith, nat_tests) in omega arith
  | inr ge ↦ let is : digit_glyph false d ≡ 87 + d = grind (arith, nat_tests) in omega arith
]

pub written : (k n : ℕ) → 0 < k → n < 16 ^ k → n < 2 ^ 64 → IsWritten k n (digits 16 false n)
written zero n some room small = absurd (omega arith)
written (suc k) n some room small = elim (cases_lt n 16) [
  | inl lt ↦
      let is = hex_one_digit false n lt in
      rw is (record {
        some = omega arith;
        few = omega arith;
        all = and_from _ _ (glyph_hex n lt) refl;
        lead = λ more e. omega (arith, glyph_zero n lt e);
      })
  | inr ge ↦
      let bound : n < 16 ^ k * 16 = rw (← pow-suc) room in
      let less : n / 16 < 16 ^ k = omega arith in
      let front = written k (n / 16) (from k (n / 16) less (omega arith)) less (omega arith) in
      let last : n % 16 < 16 = omega arith in
      let size = length_push (digits 16 false (n / 16)) (digit_glyph false (n % 16)) in
      let has = front.some in
      let fits = front.few in
      rw (hex_step n ge small) (record {
        some = omega arith;
        few = omega arith;
        all = list_all-append is_hex_digit (digits 16 false (n / 16)) (digit_glyph false (n % 16) ∷ []) front.all (and_from _ _ (glyph_hex (n % 16) last) refl);
        lead = λ more e. front.lead (omega arith) (sym (first_append (digits 16 false (n / 16)) (digit_glyph false (n % 16) ∷ []) has) ∙ e);
      })
]
  where
    from : (k m : ℕ) → m < 16 ^ k → 0 < m → 0 < k
    from zero m less some = absurd (omega arith)
    from (suc k) m less some = omega arith

-- zeros before digits change no number
zeros_value : (m : ℕ) (ds : List ℕ) → digits_value 16 (replicate m 48 ++ ds) ≡ digits_value 16 ds
zeros_value zero ds = refl
zeros_value (suc m) ds = zeros_value m ds

zeros_hex : (m : ℕ) → list_all is_hex_digit (replicate m 48) ≡ true
zeros_hex zero = refl
zeros_hex (suc m) = zeros_hex m

pub all_hex : (bytes : List ℕ) → list_all is_hex_digit bytes ≡ true → AllDigits 16 bytes
all_hex [] e = tt
all_hex (b ∷ bs) e = let parts = and_parts (is_hex_digit b) (list_all is_hex_digit bs) e in (hex_small b parts.0, all_hex bs parts.1)

hex_at : (bytes : List ℕ) (i : ℕ) → list_all is_hex_digit bytes ≡ true → i < length bytes → is_hex_digit (get_or bytes i 0) ≡ true
hex_at [] i e lt = absurd (omega arith)
hex_at (b ∷ bs) zero e lt = (and_parts (is_hex_digit b) (list_all is_hex_digit bs) e).0
hex_at (b ∷ bs) (suc i) e lt = hex_at bs i (and_parts (is_hex_digit b) (list_all is_hex_digit bs) e).1 (omega arith)

pub hex_below : (bytes : List ℕ) → list_all is_hex_digit bytes ≡ true → length bytes ≤ 16 → digits_value 16 bytes < 2 ^ 64
hex_below bytes e few =
    let own = digits_value-lt 16 bytes (all_hex bytes e) in
    let more : 16 ^ length bytes ≤ 16 ^ 16 = pow-le-pow_right (omega arith) few in
    omega arith

pub record IsStep (bytes : List ℕ) (i number : ℕ) : Type 0 where
  pub digit : is_hex_digit (get_or bytes i 0) ≡ true
  pub small : digit_value (get_or bytes i 0) < 16
  pub value : digits_value 16 (take (i + 1) bytes) ≡ number * 16 + digit_value (get_or bytes i 0)
  pub fits : number * 16 + digit_value (get_or bytes i 0) < 2 ^ 64

-- one digit more
pub hex_more : (bytes : List ℕ) (i number : ℕ) → list_all is_hex_digit bytes ≡ true → length bytes ≤ 16 → i < length bytes → number ≡ digits_value 16 (take i bytes) → IsStep bytes i number
hex_more bytes i number e few lt is =
    let digit = hex_at bytes i e lt in
    let more = digits_value_more 16 bytes i lt in
    let below = digits_value-take-le 16 bytes (i + 1) (omega arith) in
    let small = hex_below bytes e few in
    record { digit = digit; small = hex_small (get_or bytes i 0) digit; value = rw is more; fits = rw is (omega arith) }

at_least_push : (i : ℕ) (text : List ℕ) (c : ℕ) → at_least (i + 1) (text ++ c ∷ []) ≡ at_least i text ++ c ∷ []
at_least_push i text c =
    let size = length_push text c in
    ap (λ (m : ℕ). replicate m 48 ++ (text ++ c ∷ [])) {x = i + 1 - length (text ++ c ∷ [])} {y = i - length text} (omega arith)
    ∙ sym (append_assoc (replicate (i - length text) 48) text (c ∷ []))

at_least_zero : (i c : ℕ) → 0 < i → at_least (i + 1) (c ∷ []) ≡ at_least i (48 ∷ []) ++ c ∷ []
at_least_zero i c some =
    ap (λ (m : ℕ). replicate m 48 ++ c ∷ []) {x = i + 1 - 1} {y = i - 1 + 1} (omega arith)
    ∙ ap (λ (t : List ℕ). t ++ c ∷ []) (sym (replicate_more (i - 1) 48))

-- what stands before a digit: nothing, or the digits of the number so far
abbrev Before : ℕ → ℕ → List ℕ → Type 0
Before i v front = ((i ≡ 0) × (v ≡ 0) × (front ≡ [])) ⊎ ((0 < i) × (at_least i (digits 16 false v) ≡ front))

digit_behind : (i v w c : ℕ) (front : List ℕ) → w < 16 → digit_glyph false w ≡ c → v * 16 + w < 2 ^ 64 → Before i v front
    → at_least (i + 1) (digits 16 false (v * 16 + w)) ≡ front ++ c ∷ []
digit_behind i v w c front small glyph fits (inl none) =
    let n : v * 16 + w ≡ w = let zero_is = none.1 in omega arith in
    let one : digits 16 false (v * 16 + w) ≡ c ∷ [] = ap (digits 16 false) n ∙ hex_one_digit false w small ∙ ap (λ (d : ℕ). d ∷ []) glyph in
    ap (at_least (i + 1)) one ∙ ap (λ (m : ℕ). at_least (m + 1) (c ∷ [])) none.0 ∙ ap (λ (t : List ℕ). t ++ c ∷ []) (sym none.2)
digit_behind i v w c front small glyph fits (inr before) = elim (cases_lt 0 v) [
  | inl more ↦
      let n : ℕ = v * 16 + w in
      let back : digits 16 false (n / 16) ≡ digits 16 false v = ap (digits 16 false) {x = n / 16} {y = v} (omega arith) in
      let last : digit_glyph false (n % 16) ≡ c = ap (digit_glyph false) {x = n % 16} {y = w} (omega arith) ∙ glyph in
      ap (at_least (i + 1)) (hex_step n (omega arith) fits ∙ ap₂ (λ (t : List ℕ) (d : ℕ). t ++ d ∷ []) back last)
      ∙ at_least_push i (digits 16 false v) c ∙ ap (λ (t : List ℕ). t ++ c ∷ []) before.1
  | inr none ↦
      let n : v * 16 + w ≡ w = omega arith in
      let zero_is : v ≡ 0 = omega arith in
      let one : digits 16 false (v * 16 + w) ≡ c ∷ [] = ap (digits 16 false) n ∙ hex_one_digit false w small ∙ ap (λ (d : ℕ). d ∷ []) glyph in
      let nought : digits 16 false v ≡ 48 ∷ [] = ap (digits 16 false) zero_is ∙ hex_one_digit false 0 (omega arith) in
      ap (at_least (i + 1)) one ∙ at_least_zero i c before.0 ∙ ap (λ (t : List ℕ). at_least i t ++ c ∷ []) (sym nought) ∙ ap (λ (t : List ℕ). t ++ c ∷ []) before.1
]

one_more : (bytes : List ℕ) (i : ℕ) → list_all is_hex_digit bytes ≡ true → length bytes ≤ 16 → i < length bytes → Before i (digits_value 16 (take i bytes)) (take i bytes)
    → at_least (i + 1) (digits 16 false (digits_value 16 (take (i + 1) bytes))) ≡ take (i + 1) bytes
one_more bytes i e few lt before =
    let step = hex_more bytes i (digits_value 16 (take i bytes)) e few lt refl in
    let c : ℕ = get_or bytes i 0 in
    ap (λ (n : ℕ). at_least (i + 1) (digits 16 false n)) step.value
    ∙ digit_behind i (digits_value 16 (take i bytes)) (digit_value c) c (take i bytes) step.small (hex_glyph c step.digit) step.fits before
    ∙ sym (take_more bytes i 0 lt)

-- the digits are those that their number is written in, with zeros before it to their count
pub rewritten : (bytes : List ℕ) (i : ℕ) → list_all is_hex_digit bytes ≡ true → length bytes ≤ 16 → i < length bytes
    → at_least (i + 1) (digits 16 false (digits_value 16 (take (i + 1) bytes))) ≡ take (i + 1) bytes
rewritten bytes zero e few lt = one_more bytes zero e few lt (inl (refl, refl, refl))
rewritten bytes (suc i) e few lt =
    let again = subst (λ (m : ℕ). at_least m (digits 16 false (digits_value 16 (take m bytes))) ≡ take m bytes) {x = i + 1} {y = suc i} (omega arith) (rewritten bytes i e few (omega arith)) in
    one_more bytes (suc i) e few lt (inr (omega arith, again))

pub number_found : (bytes : List ℕ) → is_hex_number bytes ≡ true → bytes ≡ at_least 12 (digits 16 false (digits_value 16 bytes))
number_found bytes e =
    let one = and_parts _ _ e in
    let two = and_parts _ _ one.1 in
    let three = and_parts _ _ two.1 in
    let least = leb-true 12 (length bytes) one.0 in
    let few = leb-true (length bytes) 16 two.0 in
    let last : length bytes - 1 + 1 ≡ length bytes = omega arith in
    let n : ℕ = digits_value 16 bytes in
    let again : at_least (length bytes) (digits 16 false n) ≡ bytes =
    subst (λ (t : List ℕ). at_least (length bytes) (digits 16 false (digits_value 16 t)) ≡ t) (take_all (length bytes) bytes (omega arith))
    (subst (λ (m : ℕ). at_least m (digits 16 false (digits_value 16 (take m bytes))) ≡ take m bytes) last (rewritten bytes (length bytes - 1) three.0 few (omega arith))) in
    elim (or_cases _ _ three.1) [
      | inl twelve ↦ sym (subst (λ (m : ℕ). at_least m (digits 16 false n) ≡ bytes) (eqb-true (length bytes) 12 twelve) again)
      | inr lead ↦ no_zero bytes (digits 16 false n) least (apart _ lead) again
    ]
  where
    apart : (b : Bool) → not b ≡ true → b ≡ false
    apart true e = sym e
    apart false e = refl

    no_zero : (bytes text : List ℕ) → 12 ≤ length bytes → (get_or bytes 0 0 == 48) ≡ false → at_least (length bytes) text ≡ bytes → bytes ≡ at_least 12 text
    no_zero bytes text least lead again = go (length bytes - length text) refl
      where
        go : (m : ℕ) → length bytes - length text ≡ m → bytes ≡ at_least 12 text
        go zero is =
            let same : text ≡ bytes = ap (λ (m : ℕ). replicate m 48 ++ text) (sym is) ∙ again in
            let size : length text ≡ length bytes = ap length same in
            sym same ∙ ap (λ (m : ℕ). replicate m 48 ++ text) {x = 0} {y = 12 - length text} (omega arith)
        go (suc m) is =
            let front : get_or bytes 0 0 ≡ 48 = ap (λ (t : List ℕ). get_or t 0 0) (sym again) ∙ ap (λ (k : ℕ). get_or (replicate k 48 ++ text) 0 0) is in
            absurd (eqb-false _ 48 lead front)

pub record IsRead (n : ℕ) (bytes : List ℕ) : Type 0 where
  pub number : is_hex_number bytes ≡ true
  pub value : digits_value 16 bytes ≡ n

-- a number of more than one digit is not 0
positive : (n : ℕ) → 1 < length (digits 16 false n) → 0 < n
positive n long = elim (cases_lt 0 n) [
  | inl more ↦ more
  | inr none ↦ let one = ap length (hex_one_digit false n (omega arith)) in absurd (omega arith)
]

lead : (n : ℕ) → IsWritten 16 n (digits 16 false n) → length (at_least 12 (digits 16 false n)) ≡ 12 - length (digits 16 false n) + length (digits 16 false n)
    → (length (at_least 12 (digits 16 false n)) == 12 || not (get_or (at_least 12 (digits 16 false n)) 0 0 == 48)) ≡ true
lead n is size = elim (cases_lt 12 (length (digits 16 false n))) [
  | inl long ↦
      let ds : List ℕ = digits 16 false n in
      let same : at_least 12 ds ≡ ds = ap (λ (m : ℕ). replicate m 48 ++ ds) {x = 12 - length ds} {y = 0} (omega arith) in
      let apart : get_or (at_least 12 ds) 0 0 ≡ 48 → ⊥ = λ e. is.lead (positive n (omega arith)) (ap (λ (t : List ℕ). get_or t 0 0) (sym same) ∙ e) in
      or_right (length (at_least 12 ds) == 12) (not (get_or (at_least 12 ds) 0 0 == 48)) (ap not (ne_eqb (get_or (at_least 12 ds) 0 0) 48 apart))
  | inr short ↦ or_left (length (at_least 12 (digits 16 false n)) == 12) (not (get_or (at_least 12 (digits 16 false n)) 0 0 == 48)) (eq-eqb (length (at_least 12 (digits 16 false n))) 12 (omega arith))
]

pub number_finds : (n : ℕ) → n < 2 ^ 64 → IsRead n (at_least 12 (digits 16 false n))
number_finds n small =
    let is = written 16 n (omega arith) (omega arith) small in
    let ds : List ℕ = digits 16 false n in
    let some = is.some in
    let few = is.few in
    let zeros : ℕ = 12 - length ds in
    let text : List ℕ = at_least 12 ds in
    let size : length text ≡ zeros + length ds = length-append (replicate zeros 48) ds ∙ ap (λ (m : ℕ). m + length ds) (length-replicate zeros 48) in
    let all : list_all is_hex_digit text ≡ true = list_all-append is_hex_digit (replicate zeros 48) ds (zeros_hex zeros) is.all in
    let tail = and_from (list_all is_hex_digit text) (length text == 12 || not (get_or text 0 0 == 48)) all (lead n is size) in
    let most = and_from (nat_le (length text) 16) _ (le-leb (length text) 16 (omega arith)) tail in
    record {
      number = and_from (nat_le 12 (length text)) _ (le-leb 12 (length text) (omega arith)) most;
      value = zeros_value zeros ds ∙ (digits_is_IsNumeral 16 false (omega arith) (omega arith) n (omega arith)).1;
    }

-- a uid's bytes are the prefix and its number
pub uid_found : (bytes : List ℕ) → take 24 bytes ≡ prefix → is_hex_number (drop 24 bytes) ≡ true → bytes ≡ uid_bytes (digits_value 16 (drop 24 bytes))
unfolding uid_bytes
uid_found bytes front number =
    sym (take-append-drop 24 bytes) ∙ ap₂ (λ (a b : List ℕ). a ++ b) front (number_found (drop 24 bytes) number)

pub record IsUid (n : ℕ) (bytes : List ℕ) : Type 0 where
  pub size : 24 ≤ length bytes
  pub front : take 24 bytes ≡ prefix
  pub number : is_hex_number (drop 24 bytes) ≡ true
  pub value : digits_value 16 (drop 24 bytes) ≡ n

pub uid_finds : (n : ℕ) (bytes : List ℕ) → n < 2 ^ 64 → bytes ≡ uid_bytes n → IsUid n bytes
unfolding uid_bytes
uid_finds n bytes small e =
    let text : List ℕ = at_least 12 (digits 16 false n) in
    let read = number_finds n small in
    let back : drop 24 bytes ≡ text = ap (drop 24) e ∙ drop_at prefix text 24 refl in
    record {
      size = omega (arith, ap length e, length-append prefix text);
      front = ap (take 24) e ∙ take_at prefix text 24 refl;
      number = ap is_hex_number back ∙ read.number;
      value = ap (digits_value 16) back ∙ read.value;
    }
