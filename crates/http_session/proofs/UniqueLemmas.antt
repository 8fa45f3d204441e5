-- One list of bytes has one stream, and what follows a refused head or a request that closes changes nothing.
use Rattle.std.proofs.Common.{◌≡◌, ℕ, List, [], ◌∷◌, ◌++◌, take, drop, refl, true, false, Option, Some, None, ap, ◌∙◌, sym, subst}
use Rattle.std.specs.Prelude.{Bool, nat_lt, count_by, ◌==◌, slice_range}
use Rattle.httparse.specs.Grammar.{RequestHead}
use Rattle.httparse.proofs.GrammarLemmas.{request_unique}
use Rattle.http_session.specs.Block.{head_at}
use Rattle.http_session.specs.declared.message.Asked.{Asked}
use Rattle.http_session.specs.declared.stream.StreamEnd.{StreamEnd}
use Rattle.http_session.specs.declared.stream.StreamEnd.TheVariants.{Clean, Closed, Cut, Bad}
use Rattle.http_session.specs.Stream.{Front, whole, bad, clean, cut, with_head, ParsesTo, IsFront, IsFrontOfBlock, EndsAs, IsStream}
use Rattle.http_session.proofs.StreamLemmas.{IsFront-append}

ParsesTo-unique : (bytes : List ℕ) (p q : Option RequestHead) → ParsesTo bytes p → ParsesTo bytes q → p ≡ q
ParsesTo-unique bytes None None x y = refl
ParsesTo-unique bytes None (Some h) x y = absurd (x h y)
ParsesTo-unique bytes (Some h) None x y = absurd (y h x)
ParsesTo-unique bytes (Some h) (Some k) x y = ap Some (request_unique bytes h k [] [] x.reads y.reads).0

block-unique : (head after : List ℕ) (f g : Front) → IsFrontOfBlock head after f → IsFrontOfBlock head after g → f ≡ g
block-unique head after f g x y = by_test (nat_lt 66 (count_by (λ b. b == 10) head)) refl
  where
    by_test : (t : Bool) → nat_lt 66 (count_by (λ b. b == 10) head) ≡ t → f ≡ g
    by_test true many = let a = (rw many at x) in let b = (rw many at y) in a ∙ sym b
    by_test false few =
        let a = (rw few at x) in
        let b = (rw few at y) in
        a.2 ∙ ap (λ (p : Option RequestHead). with_head p after) (ParsesTo-unique head a.0 b.0 a.1 b.1) ∙ sym b.2

pub IsFront-unique : (bytes : List ℕ) (f g : Front) → IsFront bytes f → IsFront bytes g → f ≡ g
IsFront-unique bytes f g x y = by_head (head_at (take 8192 bytes)) refl
  where
    by_head : (found : Option (ℕ × ℕ)) → head_at (take 8192 bytes) ≡ found → f ≡ g
    by_head None none = let a = (rw none at x) in let b = (rw none at y) in a ∙ sym b
    by_head (Some place) some =
        let a = (rw some at x) in
        let b = (rw some at y) in
        block-unique (slice_range bytes place.0 place.1) (drop place.1 bytes) f g a b

end_of_front : Front → Option StreamEnd
end_of_front (whole asked rest) = None
end_of_front (bad fault) = Some (Bad fault)
end_of_front clean = Some Clean
end_of_front cut = Some Cut

front_of_end : (bytes : List ℕ) (end : StreamEnd) → EndsAs bytes end → (front : Front) × IsFront bytes front × (end_of_front front ≡ Some end)
unfolding end_of_front
front_of_end bytes Clean x = (clean, x, refl)
front_of_end bytes Closed x = absurd x
front_of_end bytes Cut x = (cut, x, refl)
front_of_end bytes (Bad fault) x = (bad fault, x, refl)

not_whole : (bytes : List ℕ) (end : StreamEnd) (asked : Asked) (rest : List ℕ) → EndsAs bytes end → IsFront bytes (whole asked rest) → ⊥
unfolding end_of_front
not_whole bytes end asked rest x y =
    let f = front_of_end bytes end x in
    let same : f.0 ≡ whole asked rest = IsFront-unique bytes f.0 (whole asked rest) f.1 y in
    let e : None ≡ Some end = sym (ap end_of_front same) ∙ f.2 in
    cc

rest_of : Front → List ℕ
rest_of (whole asked rest) = rest
rest_of (bad fault) = []
rest_of clean = []
rest_of cut = []

-- one list of bytes has at most one stream
pub IsStream-unique : (bytes : List ℕ) (qs rs : List Asked) (e f : StreamEnd) → IsStream bytes qs e → IsStream bytes rs f → (qs ≡ rs) × (e ≡ f)
IsStream-unique bytes [] [] e f x y =
    let a = front_of_end bytes e x in
    let b = front_of_end bytes f y in
    let same : a.0 ≡ b.0 = IsFront-unique bytes a.0 b.0 a.1 b.1 in
    let ends : Some e ≡ Some f = sym a.2 ∙ ap end_of_front same ∙ b.2 in
    (refl, (cc))
IsStream-unique bytes [] (r ∷ rs) e f x y = absurd (not_whole bytes e r y.0 x y.1)
IsStream-unique bytes (q ∷ qs) [] e f x y = absurd (not_whole bytes f q x.0 y x.1)
IsStream-unique bytes (q ∷ qs) (r ∷ rs) e f x y =
    let same : whole q x.0 ≡ whole r y.0 = IsFront-unique bytes (whole q x.0) (whole r y.0) x.1 y.1 in
    let first : q ≡ r = cc in
    let rest : x.0 ≡ y.0 = cc in
    by_close (λ a b. IsStream-unique x.0 qs rs e f a b) q.closes refl first rest
  where
    by_close : (IsStream x.0 qs e → IsStream x.0 rs f → (qs ≡ rs) × (e ≡ f)) → (t : Bool) → q.closes ≡ t → q ≡ r → x.0 ≡ y.0 → (q ∷ qs ≡ r ∷ rs) × (e ≡ f)
    by_close again true shut first rest =
        let also : r.closes ≡ true = sym (ap (λ (a : Asked). a.closes) first) ∙ shut in
        let a = (rw shut at x.2) in
        let b = (rw also at y.2) in
        ((cc (first, a.0, b.0)), a.1 ∙ sym b.1)
    by_close again false open_ first rest =
        let also : r.closes ≡ false = sym (ap (λ (a : Asked). a.closes) first) ∙ open_ in
        let a = (rw open_ at x.2) in
        let b = (rw also at y.2) in
        let moved : IsStream x.0 rs f = subst (λ (xs : List ℕ). IsStream xs rs f) (sym rest) b in
        let ih = again a moved in
        ((cc (first, ih.0)), ih.1)

-- the end is known, whatever follows
abbrev pub IsFinal : StreamEnd → Type 0
IsFinal Clean = ⊥
IsFinal Cut = ⊥
IsFinal Closed = Unit {0}
IsFinal (Bad fault) = Unit {0}

ends-append : (bytes more : List ℕ) (e : StreamEnd) → IsFinal e → EndsAs bytes e → EndsAs (bytes ++ more) e
ends-append bytes more Clean final x = absurd final
ends-append bytes more Cut final x = absurd final
ends-append bytes more Closed final x = absurd x
ends-append bytes more (Bad fault) final x = IsFront-append bytes more (bad fault) tt x

-- what follows a refused head, or a request that asks for close, changes nothing
pub IsStream-append : (bytes more : List ℕ) (qs : List Asked) (e : StreamEnd) → IsFinal e → IsStream bytes qs e → IsStream (bytes ++ more) qs e
IsStream-append bytes more [] e final x = ends-append bytes more e final x
IsStream-append bytes more (q ∷ qs) e final x = by_close (λ a. IsStream-append x.0 more qs e final a) q.closes refl
  where
    by_close : (IsStream x.0 qs e → IsStream (x.0 ++ more) qs e) → (t : Bool) → q.closes ≡ t → IsStream (bytes ++ more) (q ∷ qs) e
    by_close again true shut =
        let a = (rw shut at x.2) in (x.0 ++ more, IsFront-append bytes more (whole q x.0) tt x.1, rw shut a)
    by_close again false open_ =
        let a = (rw open_ at x.2) in
        (x.0 ++ more, IsFront-append bytes more (whole q x.0) tt x.1, rw open_ (again a))
