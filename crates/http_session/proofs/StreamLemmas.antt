use Rattle.std.proofs.Common.{◌≡◌, ℕ, ◌-◌, ◌≤◌, List, [], ◌∷◌, ◌++◌, length, take, drop, refl, arith, true, false, Option, Some, None, ap, ◌∙◌, suc, zero, sym, subst, length-append, length-take, length-drop}
use Rattle.std.specs.Prelude.{cond, Bool, nat_le, ◌==◌, slice_range}
use Rattle.std.proofs.lemmas.Bool.{leb-true, le-leb}
use Rattle.std.proofs.lemmas.List.{take-append-le, drop-append-le, take_all}
use Rattle.http_session.specs.declared.report.HeadFault.TheVariants.{HeadTooLarge}
use Rattle.http_session.specs.Block.{head_at, blank_len}
use Rattle.http_session.specs.declared.message.Asked.{Asked}
use Rattle.http_session.specs.declared.stream.StreamEnd.{StreamEnd}
use Rattle.http_session.specs.declared.stream.StreamEnd.TheVariants.{Closed}
use Rattle.http_session.specs.Stream.{Front, whole, bad, clean, cut, without_block, IsFront, IsFrontOfBlock, EndsAs, IsStream, Reads, BeginsWith}
use Rattle.http_session.specs.declared.front.Next.{Next}
use Rattle.http_session.specs.declared.front.Next.TheVariants as next
use Rattle.http_session.specs.Front.{Awaits, AwaitsBody}
use Rattle.http_session.proofs.FrontLemmas.{extended, IsSettled, block-append}
use Rattle.http_session.proofs.BlockLemmas.{head_at-append, head_at-le}

not_settled : (t : Bool) (front : Front) → IsSettled front → front ≡ cond t clean cut → ⊥
not_settled true front settled e = subst IsSettled e settled
not_settled false front settled e = subst IsSettled e settled

-- the first bytes of more bytes
take-more : (n : ℕ) (bytes more : List ℕ) → take n (bytes ++ more) ≡ take n bytes ++ take (n - length bytes) more
take-more n [] more = let e : n - 0 ≡ n = omega arith in rw (e, take_all {A = ℕ} n [] (omega arith)) refl
take-more zero (b ∷ bytes) more = let e : 0 - length (b ∷ bytes) ≡ 0 = omega arith in rw e refl
take-more (suc n) (b ∷ bytes) more =
    let e : suc n - length (b ∷ bytes) ≡ n - length bytes = omega arith in
    rw e (ap (λ xs. b ∷ xs) (take-more n bytes more))

front_of_some : (bytes : List ℕ) (place : ℕ × ℕ) (front : Front) → head_at (take 8192 bytes) ≡ Some place
    → IsFront bytes front → IsFrontOfBlock (slice_range bytes place.0 place.1) (drop place.1 bytes) front
front_of_some bytes place front e is = rw e at is

front_of_none : (bytes : List ℕ) (front : Front) → head_at (take 8192 bytes) ≡ None → IsFront bytes front → front ≡ without_block bytes
front_of_none bytes front e is = rw e at is

slice-append : (bytes more : List ℕ) (i j : ℕ) → i ≤ j → j ≤ length bytes → slice_range (bytes ++ more) i j ≡ slice_range bytes i j
slice-append bytes more i j ij jn =
    rw (drop-append-le i bytes more (omega arith)) (take-append-le (j - i) (drop i bytes) more (omega (arith, length-drop i bytes)))

pub IsFront-append : (bytes more : List ℕ) (front : Front) → IsSettled front → IsFront bytes front → IsFront (bytes ++ more) (extended front more)
IsFront-append bytes more front settled is = by_head (head_at (take 8192 bytes)) refl
  where
    by_head : (found : Option (ℕ × ℕ)) → head_at (take 8192 bytes) ≡ found → IsFront (bytes ++ more) (extended front more)
    by_head None none =
        by_len (nat_le 8192 (length bytes)) refl
      where
        by_len : (t : Bool) → nat_le 8192 (length bytes) ≡ t → IsFront (bytes ++ more) (extended front more)
        by_len true long =
            let e = front_of_none bytes front none is in
            let le : 8192 ≤ length bytes = leb-true 8192 (length bytes) long in
            let also : nat_le 8192 (length (bytes ++ more)) ≡ true = le-leb 8192 (length (bytes ++ more)) (omega (arith, length-append bytes more)) in
            let is_bad : front ≡ bad HeadTooLarge = e ∙ (rw long refl) in
            rw (take-append-le 8192 bytes more le, none, also) (ap (λ f. extended f more) is_bad)
        by_len false short =
            let e = front_of_none bytes front none is in
            absurd (not_settled (blank_len bytes == length bytes) front settled (e ∙ (rw short refl)))
    by_head (Some place) some =
        let block = front_of_some bytes place front some is in
        let le = head_at-le (take 8192 bytes) place some in
        let fits : place.1 ≤ length bytes = omega (arith, length-take 8192 bytes, le.1) in
        let still : head_at (take 8192 (bytes ++ more)) ≡ Some place = rw (take-more 8192 bytes more) (head_at-append (take 8192 bytes) (take (8192 - length bytes) more) place some) in
        rw (still, slice-append bytes more place.0 place.1 le.0 fits, drop-append-le place.1 bytes more fits)
        (block-append (slice_range bytes place.0 place.1) (drop place.1 bytes) more front settled block)

-- ---- streams

pub Reads-append : (bytes : List ℕ) (asked : List Asked) (rest more : List ℕ) → Reads bytes asked rest → Reads (bytes ++ more) asked (rest ++ more)
Reads-append bytes [] rest more r = ap (λ xs. xs ++ more) r
Reads-append bytes (q ∷ asked) rest more r =
    (r.0 ++ more, IsFront-append bytes more (whole q r.0) tt r.1, r.2, Reads-append r.0 asked rest more r.3)

pub Reads-push : (bytes : List ℕ) (asked : List Asked) (rest : List ℕ) (q : Asked) (left : List ℕ) → Reads bytes asked rest
    → IsFront rest (whole q left) → q.closes ≡ false → Reads bytes (asked ++ q ∷ []) left
Reads-push bytes [] rest q left r front open_ = (left, subst (λ (xs : List ℕ). IsFront xs (whole q left)) (sym r) front, open_, refl)
Reads-push bytes (p ∷ asked) rest q left r front open_ = (r.0, r.1, r.2, Reads-push r.0 asked rest q left r.3 front open_)

pub IsStream-ends : (bytes : List ℕ) (asked : List Asked) (rest : List ℕ) (end : StreamEnd) → Reads bytes asked rest
    → EndsAs rest end → IsStream bytes asked end
IsStream-ends bytes [] rest end r ends = subst (λ (xs : List ℕ). EndsAs xs end) (sym r) ends
IsStream-ends bytes (p ∷ asked) rest end r ends = (r.0, r.1, rw r.2 (IsStream-ends r.0 asked rest end r.3 ends))

pub IsStream-closes : (bytes : List ℕ) (asked : List Asked) (rest : List ℕ) (q : Asked) (left : List ℕ) → Reads bytes asked rest
    → IsFront rest (whole q left) → q.closes ≡ true → IsStream bytes (asked ++ q ∷ []) Closed
IsStream-closes bytes [] rest q left r front shut =
    (left, subst (λ (xs : List ℕ). IsFront xs (whole q left)) (sym r) front, rw shut (refl, refl))
IsStream-closes bytes (p ∷ asked) rest q left r front shut = (r.0, r.1, rw r.2 (IsStream-closes r.0 asked rest q left r.3 front shut))

pub BeginsWith-reads : (bytes : List ℕ) (asked : List Asked) (rest : List ℕ) → Reads bytes asked rest → BeginsWith bytes asked rest
BeginsWith-reads bytes [] rest r = r
BeginsWith-reads bytes (p ∷ asked) rest r = (r.0, r.1, BeginsWith-reads r.0 asked rest r.3)

pub BeginsWith-push : (bytes : List ℕ) (asked : List Asked) (rest : List ℕ) (q : Asked) (left : List ℕ) → BeginsWith bytes asked rest
    → IsFront rest (whole q left) → BeginsWith bytes (asked ++ q ∷ []) left
BeginsWith-push bytes [] rest q left r front = (left, subst (λ (xs : List ℕ). IsFront xs (whole q left)) (sym r) front, refl)
BeginsWith-push bytes (p ∷ asked) rest q left r front = (r.0, r.1, BeginsWith-push r.0 asked rest q left r.2 front)

-- ---- a body that is not whole

cut_of_block : (bytes more : List ℕ) (place : ℕ × ℕ) → head_at (take 8192 bytes) ≡ Some place
    → IsFrontOfBlock (slice_range bytes place.0 place.1) (drop place.1 bytes ++ more) cut → IsFront (bytes ++ more) cut
cut_of_block bytes more place some block =
    let le = head_at-le (take 8192 bytes) place some in
    let fits : place.1 ≤ length bytes = omega (arith, length-take 8192 bytes, le.1) in
    let still : head_at (take 8192 (bytes ++ more)) ≡ Some place = rw (take-more 8192 bytes more) (head_at-append (take 8192 bytes) (take (8192 - length bytes) more) place some) in
    rw (still, slice-append bytes more place.0 place.1 le.0 fits, drop-append-le place.1 bytes more fits) block

pub Awaits-block : (bytes : List ℕ) (start end : ℕ) (next : Next) → head_at (take 8192 bytes) ≡ Some (start, end)
    → AwaitsBody (slice_range bytes start end) end (length bytes) next → Awaits bytes next
Awaits-block bytes start end (next.Whole found) some a = tt
Awaits-block bytes start end (next.Bad fault) some a = tt
Awaits-block bytes start end next.Clean some a = tt
Awaits-block bytes start end next.Cut some a = tt
Awaits-block bytes start end (next.Awaits n) some a = record {
  missing = a.missing;
  fits = a.fits;
  cuts = λ more few.
      let le = head_at-le (take 8192 bytes) (start, end) some in
      cut_of_block bytes more (start, end) some
      (a.cuts (drop end bytes ++ more) (omega (arith, few, le.1, length-take 8192 bytes, length-append (drop end bytes) more, length-drop end bytes)));
}

-- ---- a stream that is read at once

pub Reads-more : (bytes rest left left' : List ℕ) (asked asked' : List Asked) (p q : Asked) → Reads bytes asked rest → IsFront rest (whole p left)
    → p.closes ≡ false → q ≡ p → asked' ≡ asked ++ q ∷ [] → left' ≡ left → Reads bytes asked' left'
Reads-more bytes rest left left' asked asked' p q r front open_ same pushed moved =
    let e : asked' ≡ asked ++ p ∷ [] = pushed ∙ ap (λ (x : Asked). asked ++ x ∷ []) same in
    rw (e, moved) (Reads-push bytes asked rest p left r front open_)

pub IsStream-shut : (bytes rest left : List ℕ) (asked asked' : List Asked) (p q : Asked) → Reads bytes asked rest → IsFront rest (whole p left)
    → p.closes ≡ true → q ≡ p → asked' ≡ asked ++ q ∷ [] → IsStream bytes asked' Closed
IsStream-shut bytes rest left asked asked' p q r front shut same pushed =
    let e : asked' ≡ asked ++ p ∷ [] = pushed ∙ ap (λ (x : Asked). asked ++ x ∷ []) same in
    rw e (IsStream-closes bytes asked rest p left r front shut)
