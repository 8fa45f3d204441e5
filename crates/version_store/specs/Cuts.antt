-- Cuts of the keys, and spans of keys: those of a kind, and of these those behind a key.
use Rattle.std.specs.Prelude.{◌≡◌, Bool, true, false, if◌then◌else◌, refl}
use Rattle.std.proofs.Common.{sym, ap, ◌∙◌}
use Rattle.std.proofs.lemmas.Cmp.{alike_right}
use Rattle.std.specs.Ordering.{is_lt, is_le, ordering_reverse}
use Rattle.std.specs.declared.cmp.Ordering.{Ordering}
use Rattle.std.specs.declared.cmp.Ordering.TheVariants.{Less, Equal, Greater}
use Rattle.std.specs.Cmp.{IsTotalOrder}
use Rattle.version_store.specs.Laws.{IsBeforeCut, IsSpan, KeepsKindsTogether}

pub lt-true : (r : Ordering) → is_lt r ≡ true → r ≡ Less
lt-true Less e = refl
lt-true Equal e = cc
lt-true Greater e = cc

-- where a key is by its kind, and by whether it is at most the key that those of the kind are to be behind
abbrev pub side_behind : Ordering → Bool → Ordering
side_behind Less up_to = Less
side_behind Equal up_to = if up_to then Less else Equal
side_behind Greater up_to = Greater

greater_of : (r : Ordering) (up_to : Bool) → side_behind r up_to ≡ Greater → r ≡ Greater
greater_of Less up_to e = cc
greater_of Equal true e = cc
greater_of Equal false e = cc
greater_of Greater up_to e = refl

behind-le : (r : Ordering) → side_behind Equal (is_le r) ≡ Less → is_le r ≡ true
behind-le Less e = refl
behind-le Equal e = refl
behind-le Greater e = cc

-- the keys less than one
pub before_key : {K : Type 0} (cmp : K → K → Ordering) → IsTotalOrder cmp → (key : K) → IsBeforeCut cmp (λ k. is_lt (cmp k key))
before_key cmp total key a b e h = ap is_lt (total.trans a b key e (lt-true _ h))

module _ {K : Type 0} (cmp : K → K → Ordering) (side : K → Ordering) (span : IsSpan cmp side) where
  -- the keys before a span
  pub below_span : IsBeforeCut cmp (λ k. is_lt (side k))
  below_span a b e h = ap is_lt (span.before a b e (lt-true _ h))

  up_to_by : (a b : K) → cmp a b ≡ Less → (r : Ordering) → side a ≡ r → is_le (side b) ≡ true → is_le r ≡ true
  up_to_by a b e Less f h = refl
  up_to_by a b e Equal f h = refl
  up_to_by a b e Greater f h = let g : side b ≡ Greater = span.behind a b e f in absurd cc

  -- the keys before a span and in it
  pub up_to_span : IsBeforeCut cmp (λ k. is_le (side k))
  up_to_span a b e h = up_to_by a b e (side a) refl h

module _ {K D : Type 0} (cmp : K → K → Ordering) (total : IsTotalOrder cmp) (kind_of : K → D) (kind_cmp : D → D → Ordering) (kinds : IsTotalOrder kind_cmp) (together : KeepsKindsTogether cmp kind_of kind_cmp) where
  not_both : (a b : K) → cmp a b ≡ Less → cmp b a ≡ Less → ⊥
  not_both a b e f = let g : cmp b a ≡ Greater = total.antisymm b a ∙ ap ordering_reverse e in cc

  -- of two keys in order, the first is not of a greater kind
  pub not_greater : (a b : K) → cmp a b ≡ Less → kind_cmp (kind_of a) (kind_of b) ≡ Greater → ⊥
  not_greater a b e g = not_both a b e (together b a (kinds.antisymm (kind_of b) (kind_of a) ∙ ap ordering_reverse g))

  less_by : (a b : K) (kind : D) → cmp a b ≡ Less → kind_cmp (kind_of b) kind ≡ Less → (r : Ordering) → kind_cmp (kind_of a) (kind_of b) ≡ r → kind_cmp (kind_of a) kind ≡ Less
  less_by a b kind e h Less f = kinds.trans (kind_of a) (kind_of b) kind f h
  less_by a b kind e h Equal f = kinds.congr (kind_of a) (kind_of b) kind f ∙ h
  less_by a b kind e h Greater f = absurd (not_greater a b e f)

  pub kind_less : (a b : K) (kind : D) → cmp a b ≡ Less → kind_cmp (kind_of b) kind ≡ Less → kind_cmp (kind_of a) kind ≡ Less
  kind_less a b kind e h = less_by a b kind e h (kind_cmp (kind_of a) (kind_of b)) refl

  tied_by : (a b : K) (kind : D) → cmp a b ≡ Less → kind_cmp (kind_of b) kind ≡ Equal → (r : Ordering) → kind_cmp (kind_of a) (kind_of b) ≡ r → is_le (kind_cmp (kind_of a) kind) ≡ true
  tied_by a b kind e h Less f = ap is_le (sym (alike_right kinds (kind_of b) kind (kind_of a) h) ∙ f)
  tied_by a b kind e h Equal f = ap is_le (sym (alike_right kinds (kind_of b) kind (kind_of a) h) ∙ f)
  tied_by a b kind e h Greater f = absurd (not_greater a b e f)

  behind_by : (a b : K) (kind : D) → cmp a b ≡ Less → kind_cmp (kind_of a) kind ≡ Greater → (r : Ordering) → kind_cmp (kind_of b) kind ≡ r → r ≡ Greater
  behind_by a b kind e g Less f = let h : kind_cmp (kind_of a) kind ≡ Less = kind_less a b kind e f in absurd cc
  behind_by a b kind e g Equal f = let h : is_le (kind_cmp (kind_of a) kind) ≡ true = tied_by a b kind e f (kind_cmp (kind_of a) (kind_of b)) refl in absurd cc
  behind_by a b kind e g Greater f = refl

  -- the keys of a kind
  pub kind_span : (kind : D) → IsSpan cmp (λ k. kind_cmp (kind_of k) kind)
  kind_span kind = record {
    before = λ a b e h. kind_less a b kind e h;
    behind = λ a b e g. behind_by a b kind e g (kind_cmp (kind_of b) kind) refl;
  }

  later_by : (a b key : K) → cmp a b ≡ Less → (r : Ordering) → cmp b key ≡ r → is_le r ≡ true → is_le (cmp a key) ≡ true
  later_by a b key e Less f h = ap is_le (total.trans a b key e f)
  later_by a b key e Equal f h = ap is_le (sym (alike_right total b key a f) ∙ e)
  later_by a b key e Greater f h = cc

  before_by : (a b key : K) (kind : D) → cmp a b ≡ Less → (q r : Ordering) → kind_cmp (kind_of b) kind ≡ q → kind_cmp (kind_of a) kind ≡ r
      → side_behind q (is_le (cmp b key)) ≡ Less → side_behind r (is_le (cmp a key)) ≡ Less
  before_by a b key kind e q Less f g h = refl
  before_by a b key kind e Less Equal f g h = let l : kind_cmp (kind_of a) kind ≡ Less = kind_less a b kind e f in absurd cc
  before_by a b key kind e Equal Equal f g h = rw (later_by a b key e (cmp b key) refl (behind-le (cmp b key) h)) refl
  before_by a b key kind e Greater Equal f g h = absurd cc
  before_by a b key kind e q Greater f g h = let l : q ≡ Greater = sym f ∙ (kind_span kind).behind a b e g in absurd (by_greater q l h)
    where
      by_greater : (q : Ordering) → q ≡ Greater → side_behind q (is_le (cmp b key)) ≡ Less → ⊥
      by_greater Less l h = cc
      by_greater Equal l h = cc
      by_greater Greater l h = cc

  -- of the keys of a kind, those behind one
  pub behind_span : (kind : D) (key : K) → IsSpan cmp (λ k. side_behind (kind_cmp (kind_of k) kind) (is_le (cmp k key)))
  behind_span kind key = record {
    before = λ a b e h. before_by a b key kind e (kind_cmp (kind_of b) kind) (kind_cmp (kind_of a) kind) refl refl h;
    behind = λ a b e g. ap (λ r. side_behind r (is_le (cmp b key))) ((kind_span kind).behind a b e (greater_of (kind_cmp (kind_of a) kind) (is_le (cmp a key)) g));
  }
