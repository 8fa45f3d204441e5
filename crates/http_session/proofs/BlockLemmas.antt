use Rattle.std.proofs.Common.{◌≡◌, ◌≢◌, ℕ, ◌+◌, ◌<◌, ◌≤◌, List, [], ◌∷◌, ◌++◌, length, drop, get_or, refl, arith, true, false, Option, Some, None, ap, ◌∙◌, add-one, drop-cons, suc, length-drop}
use Rattle.std.proofs.lemmas.List.{drop_all, drop-drop, drop-append-le}
use Rattle.std.specs.Prelude.{◌==◌, ◌&&◌, nat_lt, cond, Bool}
use Rattle.std.specs.Option.{option_map}
use Rattle.http_session.specs.Block.{empty_line_len, blank_len, head_len, head_at}

pub blank_len-stop : (bytes : List ℕ) → empty_line_len bytes ≡ 0 → blank_len bytes ≡ 0
blank_len-stop [] h = refl
blank_len-stop (a ∷ []) h = h
blank_len-stop (a ∷ b ∷ bytes) h = grind arith

pub blank_len-step : (bytes : List ℕ) → 0 < empty_line_len bytes
    → blank_len bytes ≡ empty_line_len bytes + blank_len (drop (empty_line_len bytes) bytes)
blank_len-step [] h = refl
blank_len-step (a ∷ []) h = grind arith
blank_len-step (a ∷ b ∷ bytes) h = grind arith

-- where the head from i on ends, as an index
abbrev pub end_from : List ℕ → ℕ → Option ℕ
end_from bytes i = option_map (λ n. i + n) (head_len (drop i bytes))

shift : (i : ℕ) (n : Option ℕ) → option_map (λ n. i + n) (option_map suc n) ≡ option_map (λ n. i + 1 + n) n
shift i None = refl
shift i (Some n) = ap Some (omega arith)

head_len-hit : (a : ℕ) (bytes : List ℕ) → a ≡ 10 → 0 < empty_line_len bytes
    → head_len (a ∷ bytes) ≡ Some (suc (empty_line_len bytes))
head_len-hit a bytes h e = grind arith

head_len-byte : (a : ℕ) (bytes : List ℕ) → a ≢ 10 → head_len (a ∷ bytes) ≡ option_map suc (head_len bytes)
head_len-byte a bytes h = grind arith

head_len-line : (a : ℕ) (bytes : List ℕ) → empty_line_len bytes ≡ 0 → head_len (a ∷ bytes) ≡ option_map suc (head_len bytes)
head_len-line a bytes h = grind arith

at_index : (bytes : List ℕ) (i : ℕ) → i < length bytes → drop i bytes ≡ get_or bytes i 0 ∷ drop (i + 1) bytes
at_index bytes i h = rw (add-one, drop-cons bytes i 0) refl

pub end_from-hit : (bytes : List ℕ) (i : ℕ) → i < length bytes → get_or bytes i 0 ≡ 10
    → 0 < empty_line_len (drop (i + 1) bytes) → end_from bytes i ≡ Some (i + 1 + empty_line_len (drop (i + 1) bytes))
end_from-hit bytes i h a e =
    ap (λ xs. option_map (λ n. i + n) (head_len xs)) (at_index bytes i h)
    ∙ ap (λ n. option_map (λ n. i + n) n) (head_len-hit (get_or bytes i 0) (drop (i + 1) bytes) a e) ∙ ap Some (omega arith)

pub end_from-byte : (bytes : List ℕ) (i : ℕ) → i < length bytes → get_or bytes i 0 ≢ 10
    → end_from bytes i ≡ end_from bytes (i + 1)
end_from-byte bytes i h a =
    ap (λ xs. option_map (λ n. i + n) (head_len xs)) (at_index bytes i h)
    ∙ ap (λ n. option_map (λ n. i + n) n) (head_len-byte (get_or bytes i 0) (drop (i + 1) bytes) a)
    ∙ shift i (head_len (drop (i + 1) bytes))

pub end_from-line : (bytes : List ℕ) (i : ℕ) → i < length bytes → empty_line_len (drop (i + 1) bytes) ≡ 0
    → end_from bytes i ≡ end_from bytes (i + 1)
end_from-line bytes i h e =
    ap (λ xs. option_map (λ n. i + n) (head_len xs)) (at_index bytes i h)
    ∙ ap (λ n. option_map (λ n. i + n) n) (head_len-line (get_or bytes i 0) (drop (i + 1) bytes) e)
    ∙ shift i (head_len (drop (i + 1) bytes))

pub end_from-past : (bytes : List ℕ) (i : ℕ) → length bytes ≤ i → end_from bytes i ≡ None
end_from-past bytes i h = ap (λ xs. option_map (λ n. i + n) (head_len xs)) (drop_all i bytes h)

pub blank_len-more : (bytes : List ℕ) (at n : ℕ) → n ≡ empty_line_len (drop at bytes) → 0 < n
    → blank_len bytes ≡ at + blank_len (drop at bytes) → blank_len bytes ≡ at + n + blank_len (drop (at + n) bytes)
blank_len-more bytes at n e some so =
    let step : blank_len (drop at bytes) ≡ n + blank_len (drop n (drop at bytes)) = rw e (blank_len-step (drop at bytes) (omega arith)) in
    let join : drop n (drop at bytes) ≡ drop (at + n) bytes = drop-drop n at bytes in
    let same : blank_len (drop n (drop at bytes)) ≡ blank_len (drop (at + n) bytes) = ap blank_len join in
    omega arith

-- ---- what follows changes nothing

kept_suc : (x y : Option ℕ) → ((m : ℕ) → x ≡ Some m → y ≡ Some m) → (n : ℕ) → option_map suc x ≡ Some n → option_map suc y ≡ Some n
kept_suc None y k n h = cc
kept_suc (Some m) y k n h = ap (option_map suc) (k m refl) ∙ h

two : (s t u : Bool) (later : Option ℕ) (n : ℕ)
    → cond (s && nat_lt 0 (cond t 1 0)) (Some (suc (cond t 1 0))) (option_map suc (cond (t && false) (Some 1) None)) ≡ Some n
    → cond (s && nat_lt 0 (cond t 1 (cond u 2 0))) (Some (suc (cond t 1 (cond u 2 0)))) (option_map suc later) ≡ Some n
two true true u later n h = h
two true false u later n h = absurd (cc)
two false true u later n h = absurd (cc)
two false false u later n h = absurd (cc)

pub head_len-append : (bytes more : List ℕ) (n : ℕ) → head_len bytes ≡ Some n → head_len (bytes ++ more) ≡ Some n
head_len-append [] more n h = cc
head_len-append (a ∷ []) more n h = absurd (grind arith)
head_len-append (a ∷ b ∷ []) [] n h = h
head_len-append (a ∷ b ∷ []) (m ∷ more) n h = two (a == 10) (b == 10) ((b == 13) && (m == 10)) (head_len (b ∷ m ∷ more)) n h
head_len-append (a ∷ b ∷ d ∷ bytes) more n h =
    let t = (a == 10) && nat_lt 0 (empty_line_len (b ∷ d ∷ bytes)) in
    let goal = elim t as (λ t. cond t (Some (suc (empty_line_len (b ∷ d ∷ bytes)))) (option_map suc (head_len (b ∷ d ∷ bytes))) ≡ Some n
    → cond t (Some (suc (empty_line_len (b ∷ d ∷ bytes)))) (option_map suc (head_len (b ∷ d ∷ (bytes ++ more)))) ≡ Some n)
    [ true ↦ λ h. h | false ↦ kept_suc _ _ (head_len-append (b ∷ d ∷ bytes) more) n ] in
    goal h

pub blank_len-append : (bytes more : List ℕ) (n : ℕ) → head_len (drop (blank_len bytes) bytes) ≡ Some n
    → blank_len (bytes ++ more) ≡ blank_len bytes
blank_len-append [] more n h = cc
blank_len-append (a ∷ []) more n h = absurd (grind arith)
blank_len-append (a ∷ b ∷ bytes) more n h =
    let P : Bool → Bool → Type 0 = λ s t.
    head_len (drop (cond s (suc (blank_len (b ∷ bytes))) (cond t (suc (suc (blank_len bytes))) 0)) (a ∷ b ∷ bytes)) ≡ Some n
    → cond s (suc (blank_len (b ∷ (bytes ++ more)))) (cond t (suc (suc (blank_len (bytes ++ more)))) 0)
    ≡ cond s (suc (blank_len (b ∷ bytes))) (cond t (suc (suc (blank_len bytes))) 0) in
    let t = (a == 13) && (b == 10) in
    let goal = elim (a == 10) as (λ s. P s t) [
      | true ↦ λ h. ap suc (blank_len-append (b ∷ bytes) more n h)
      | false ↦ elim t as (λ t. P false t) [
        | true ↦ λ h. ap suc (ap suc (blank_len-append bytes more n h))
        | false ↦ λ h. refl
      ]
    ] in
    goal h

pub empty_line_len-le : (bytes : List ℕ) → empty_line_len bytes ≤ length bytes
empty_line_len-le [] = omega arith
empty_line_len-le (a ∷ []) = grind arith
empty_line_len-le (a ∷ b ∷ bytes) = grind arith

pub blank_len-le : (bytes : List ℕ) → blank_len bytes ≤ length bytes
blank_len-le [] = omega arith
blank_len-le (a ∷ []) = grind arith
blank_len-le (a ∷ b ∷ bytes) =
    let one = blank_len-le (b ∷ bytes) in
    let two = blank_len-le bytes in
    let P : Bool → Bool → Type 0 = λ s t.
    cond s (suc (blank_len (b ∷ bytes))) (cond t (suc (suc (blank_len bytes))) 0) ≤ length (a ∷ b ∷ bytes) in
    let t = (a == 13) && (b == 10) in
    elim (a == 10) as (λ s. P s t) [ true ↦ omega arith | false ↦ elim t as (λ t. P false t) [ true ↦ omega arith | false ↦ omega arith ] ]

pub head_len-le : (bytes : List ℕ) (n : ℕ) → head_len bytes ≡ Some n → n ≤ length bytes
head_len-le [] n h = absurd (cc)
head_len-le (a ∷ bytes) n h =
    let le = empty_line_len-le bytes in
    let t = (a == 10) && nat_lt 0 (empty_line_len bytes) in
    let goal = elim t as (λ t. cond t (Some (suc (empty_line_len bytes))) (option_map suc (head_len bytes)) ≡ Some n → n ≤ length (a ∷ bytes)) [
      | true ↦ λ h. le_from_some (suc (empty_line_len bytes)) n _ h (omega arith)
      | false ↦ le_from_suc (head_len bytes) n (length bytes) (head_len-le bytes)
    ] in
    goal h
  where
    le_from_some : (m n k : ℕ) → Some m ≡ Some n → m ≤ k → n ≤ k
    le_from_some m n k e h = let same : m ≡ n = cc in omega arith

    le_from_suc : (x : Option ℕ) (n k : ℕ) → ((m : ℕ) → x ≡ Some m → m ≤ k) → option_map suc x ≡ Some n → n ≤ suc k
    le_from_suc None n k f h = absurd (cc)
    le_from_suc (Some m) n k f h = let le = f m refl in let same : suc m ≡ n = cc in omega arith

some_map : (x : Option ℕ) (f : ℕ → ℕ × ℕ) (p : ℕ × ℕ) → option_map f x ≡ Some p → (n : ℕ) × (x ≡ Some n) × (f n ≡ p)
some_map None f p h = absurd (cc)
some_map (Some n) f p h = (n, refl, (cc))

pub head_at-append : (bytes more : List ℕ) (place : ℕ × ℕ) → head_at bytes ≡ Some place → head_at (bytes ++ more) ≡ Some place
head_at-append bytes more place h =
    let f = some_map (head_len (drop (blank_len bytes) bytes)) (λ n. (blank_len bytes, blank_len bytes + n)) place h in
    let blank = blank_len-append bytes more f.0 f.1 in
    rw (blank, drop-append-le (blank_len bytes) bytes more (blank_len-le bytes), head_len-append (drop (blank_len bytes) bytes) more f.0 f.1)
    (ap Some f.2)

pub head_at-le : (bytes : List ℕ) (place : ℕ × ℕ) → head_at bytes ≡ Some place → (place.0 ≤ place.1) × (place.1 ≤ length bytes)
head_at-le bytes place h =
    let f = some_map (head_len (drop (blank_len bytes) bytes)) (λ n. (blank_len bytes, blank_len bytes + n)) place h in
    let le = head_len-le (drop (blank_len bytes) bytes) f.0 f.1 in
    let first : blank_len bytes ≡ place.0 = λ i. (f.2 i).0 in
    let second : blank_len bytes + f.0 ≡ place.1 = λ i. (f.2 i).1 in
    let blank = blank_len-le bytes in
    (omega arith, omega (arith, length-drop (blank_len bytes) bytes))

pub ruleset block_lemmas = (blank_len-stop, blank_len-step, end_from-hit, end_from-byte, end_from-line, end_from-past)
