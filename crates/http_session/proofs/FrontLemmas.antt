use Rattle.std.proofs.Common.{◌≡◌, ℕ, ◌<◌, ◌≤◌, List, ◌++◌, length, take, drop, refl, arith, true, false, Option, Some, None, ap, ◌∙◌, sym, subst, length-append}
use Rattle.std.proofs.lemmas.Bool.{leb-true, le-leb}
use Rattle.std.proofs.lemmas.List.{take-append-le, drop-append-le}
use Rattle.std.specs.Prelude.{Bool, nat_lt, nat_le, count_by, ◌==◌, Result, Ok, Err, IsTrue, IsUtf8}
use Rattle.std.proofs.lemmas.Bool.Decides.{nat_tests}
use Rattle.std.proofs.lemmas.List.Elements.{All-weaker}
use Rattle.std.proofs.lemmas.Str.{IsUtf8-from_ascii}
use Rattle.std.proofs.lemmas.Str.Ascii.{IsAscii-from_all}
use Rattle.httparse.specs.Grammar.{RequestHead, is_token_byte, IsToken}
use Rattle.http_session.specs.declared.head.Head.{Head}
use Rattle.http_session.specs.declared.report.HeadFault.{HeadFault}
use Rattle.http_session.specs.Head.{Describes}
use Rattle.http_session.specs.Stream.{Front, whole, bad, clean, cut, asked_of, with_body, with_head, IsFrontOfBlock}

pub lines_few : (n : ℕ) → n ≤ 66 → nat_lt 66 n ≡ false
lines_few n h = grind arith

pub front_from : (head after : List ℕ) (read : Head) (h : RequestHead) (body : Result ℕ HeadFault) (front : Front)
    → count_by (λ b. b == 10) head ≤ 66 → Describes head read h → read.body ≡ body → front ≡ with_body h after body
    → IsFrontOfBlock head after front
front_from head after read h body front few d is e =
    rw (lines_few _ few) (Some h, d.is_head, e ∙ ap (with_body h after) (sym is ∙ d.body))

pub cut_when : (h : RequestHead) (after : List ℕ) (n : ℕ) → length after < n → cut ≡ with_body h after (Ok n)
cut_when h after n short = let t : nat_le n (length after) ≡ false = grind arith in rw t refl

pub whole_when : (h : RequestHead) (after : List ℕ) (n : ℕ) → n ≤ length after
    → whole (asked_of h (take n after)) (drop n after)
    ≡ with_body h after (Ok n)
whole_when h after n long = let t : nat_le n (length after) ≡ true = grind arith in rw t refl

-- the method of a head is a text
token_is_ascii : (b : ℕ) → IsTrue (is_token_byte b) → b < 128
unfolding is_token_byte
token_is_ascii b token = grind (arith, nat_tests)

pub token_text : (bytes : List ℕ) → IsToken bytes → IsUtf8 bytes
token_text bytes token =
    IsUtf8-from_ascii bytes (IsAscii-from_all bytes (All-weaker (λ b. IsTrue (is_token_byte b)) (λ b. b < 128) token_is_ascii bytes token.1))

-- ---- what follows changes nothing

-- the front with more bytes behind it
abbrev pub extended : Front → List ℕ → Front
extended (whole asked rest) more = whole asked (rest ++ more)
extended (bad fault) more = bad fault
extended clean more = clean
extended cut more = cut

-- more bytes change nothing
abbrev pub IsSettled : Front → Type 0
IsSettled (whole asked rest) = Unit {0}
IsSettled (bad fault) = Unit {0}
IsSettled clean = ⊥
IsSettled cut = ⊥

with_body-append : (h : RequestHead) (after more : List ℕ) (body : Result ℕ HeadFault)
    → IsSettled (with_body h after body) → with_body h (after ++ more) body ≡ extended (with_body h after body) more
with_body-append h after more (Err fault) settled = refl
with_body-append h after more (Ok n) settled = by_test (nat_le n (length after)) refl
  where
    by_test : (t : Bool) → nat_le n (length after) ≡ t
        → with_body h (after ++ more) (Ok n) ≡ extended (with_body h after (Ok n)) more
    by_test true fits =
        let le : n ≤ length after = leb-true n (length after) fits in
        let also : nat_le n (length (after ++ more)) ≡ true = le-leb n (length (after ++ more)) (omega (arith, length-append after more)) in
        rw (fits, also, take-append-le n after more le, drop-append-le n after more le) refl
    by_test false not = absurd (rw not at settled)

with_head-append : (parsed : Option RequestHead) (after more : List ℕ)
    → IsSettled (with_head parsed after) → with_head parsed (after ++ more) ≡ extended (with_head parsed after) more
with_head-append None after more settled = refl
with_head-append (Some h) after more settled = with_body-append h after more _ settled

pub block-append : (head after more : List ℕ) (front : Front) → IsSettled front
    → IsFrontOfBlock head after front → IsFrontOfBlock head (after ++ more) (extended front more)
block-append head after more front settled is = by_test (nat_lt 66 (count_by (λ b. b == 10) head)) refl
  where
    by_test : (t : Bool) → nat_lt 66 (count_by (λ b. b == 10) head) ≡ t → IsFrontOfBlock head (after ++ more) (extended front more)
    by_test true many = rw many (let e = (rw many at is) in ap (λ f. extended f more) e)
    by_test false few =
        let e = (rw few at is) in
        let settled_too : IsSettled (with_head e.0 after) = subst IsSettled e.2 settled in
        rw few (e.0, e.1, ap (λ f. extended f more) e.2 ∙ sym (with_head-append e.0 after more settled_too))
