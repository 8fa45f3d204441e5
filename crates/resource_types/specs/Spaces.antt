-- The keys of a kind in a namespace stand next to each other.
use Rattle.std.specs.Prelude.{◌≡◌, ℕ, List, []}
use Rattle.std.proofs.Common.{refl, sym, ap, ◌∙◌}
use Rattle.std.specs.Ordering.{nat_cmp, on, ordering_reverse, ordering_then, then_cmp}
use Rattle.std.specs.declared.cmp.Ordering.{Ordering}
use Rattle.std.specs.declared.cmp.Ordering.TheVariants.{Less, Equal, Greater}
use Rattle.std.specs.Cmp.{IsTotalOrder}
use Rattle.std.specs.Cmp.Lexicographic.{slice_cmp, nat_list_cmp_total}
use Rattle.std.proofs.lemmas.Cmp.{on_total, then_total}
use Rattle.version_store.specs.Laws.{IsSpan}
use Rattle.resource_types.specs.declared.names.Kind.{Kind}
use Rattle.resource_types.specs.declared.names.Key.{Key}
use Rattle.resource_types.specs.contracts.names.KindOrd.TheImpl as kind_order
use Rattle.resource_types.specs.contracts.names.KindOrd.TheImpl.Laws as kind_laws
use Rattle.resource_types.specs.contracts.names.KeyOrd.TheImpl as key_order

-- the order of texts
abbrev pub text_cmp : List ℕ → List ℕ → Ordering
text_cmp = slice_cmp nat_cmp

-- where a key is by its kind and then by its namespace
abbrev pub space_side : Kind → List ℕ → Key → Ordering
space_side kind space key = ordering_then (kind_order.ghosts.cmp key.kind kind) (text_cmp key.name.space space)

module _ {K : Type 0} (cmp coarse : K → K → Ordering) (total : IsTotalOrder coarse) (coarser : (a b : K) → cmp a b ≡ Less → coarse a b ≡ Greater → ⊥) (key : K) where
  before_by : (a b : K) → cmp a b ≡ Less → coarse b key ≡ Less → (r : Ordering) → coarse a b ≡ r → coarse a key ≡ Less
  before_by a b e h Less f = total.trans a b key f h
  before_by a b e h Equal f = total.congr a b key f ∙ h
  before_by a b e h Greater f = absurd (coarser a b e f)

  behind_by : (a b : K) → cmp a b ≡ Less → coarse a key ≡ Greater → (r : Ordering) → coarse a b ≡ r → coarse b key ≡ Greater
  behind_by a b e h Less f =
      let below : coarse key a ≡ Less = total.antisymm key a ∙ ap ordering_reverse h in
      total.antisymm b key ∙ ap ordering_reverse (total.trans key a b below f)
  behind_by a b e h Equal f = sym (total.congr a b key f) ∙ h
  behind_by a b e h Greater f = absurd (coarser a b e f)

  -- what a coarser order holds to be one stands together
  pub coarse_span : IsSpan cmp (λ k. coarse k key)
  coarse_span = record {
    before = λ a b e h. before_by a b e h (coarse a b) refl;
    behind = λ a b e h. behind_by a b e h (coarse a b) refl;
  }

abbrev by_kind : Key → Key → Ordering
by_kind = on (λ (k : Key). k.kind) kind_order.ghosts.cmp

abbrev by_space : Key → Key → Ordering
by_space = on (λ (k : Key). k.name.space) text_cmp

not_less : (kinds spaces names : Ordering) → ordering_then kinds (ordering_then spaces names) ≡ Less → ordering_then kinds spaces ≡ Greater → ⊥
not_less Less spaces names e f = cc
not_less Equal Less names e f = cc
not_less Equal Equal names e f = cc
not_less Equal Greater names e f = cc
not_less Greater spaces names e f = cc

space_coarser : (a b : Key) → key_order.ghosts.cmp a b ≡ Less → then_cmp by_kind by_space a b ≡ Greater → ⊥
space_coarser a b e f = not_less (kind_order.ghosts.cmp a.kind b.kind) (text_cmp a.name.space b.name.space) (text_cmp a.name.name b.name.name) e f

pub space_span : (kind : Kind) (space : List ℕ) → IsSpan key_order.ghosts.cmp (space_side kind space)
space_span kind space =
    coarse_span key_order.ghosts.cmp (then_cmp by_kind by_space) (then_total (on_total (λ (k : Key). k.kind) kind_laws.total-law) (on_total (λ (k : Key). k.name.space) nat_list_cmp_total)) space_coarser
    (record { kind = kind; name = record { space = space; name = [] } })
