-- The shares of targets, one after another, and their sum.
use Rattle.std.proofs.Common.{◌≡◌, ℕ, ◌+◌, ◌<◌, ◌≤◌, List, [], ◌∷◌, length, drop, get_or, Bool, true, false, arith, refl, sym, ap, ◌∙◌}
use Rattle.std.specs.Prelude.{sum_by, bytes_eq, cond}
use Rattle.std.proofs.lemmas.List.{drop_more, drop_all}
use Rattle.std.proofs.lemmas.List.Sums.{sum_by-cons}
use Rattle.resource_types.specs.declared.specification.Target.{Target}
use Rattle.resource_types.specs.declared.specification.Row.{Row}
use Rattle.control_rules.specs.declared.traffic.Found.{Found}
use Rattle.control_rules.specs.declared.traffic.Found.TheVariants as found
use Rattle.control_rules.specs.Resolution.{Meant, meaning, percent_of, raised, add_share, with_meant, meant_of, shares_from}
use Rattle.traffic_resolver.specs.Pairs.{pair_percent}

abbrev pub row_percent : Row → ℕ
row_percent row = row.percent

-- a share more raises the sum by its percent
pub sum_share : (host : List ℕ) (m : Meant) (rows : List Row) → sum_by row_percent (add_share host m rows) ≡ sum_by row_percent rows + percent_of m.target
unfolding add_share
sum_share host m [] = omega arith
sum_share host m (row ∷ rows) = go (bytes_eq row.revision m.name) (sum_share host m rows)
  where
    go : (t : Bool) → sum_by row_percent (add_share host m rows) ≡ sum_by row_percent rows + percent_of m.target
        → sum_by row_percent (cond t (raised (percent_of m.target) row ∷ rows) (row ∷ add_share host m rows)) ≡ sum_by row_percent (row ∷ rows) + percent_of m.target
    go true e = omega (arith, sum_by-cons row_percent (raised (percent_of m.target) row) rows, sum_by-cons row_percent row rows)
    go false e = omega (arith, sum_by-cons row_percent row (add_share host m rows), sum_by-cons row_percent row rows)

-- a target before the others
pub share_before : (host : List ℕ) (rows : List Row) (t : Target) (f : Found) (ms : List Meant) → shares_from host rows (with_meant t f ms) ≡ shares_from host (shares_from host rows (with_meant t f [])) ms
unfolding shares_from
share_before host rows t found.ConfigurationAbsent ms = refl
share_before host rows t found.ConfigurationUnready ms = refl
share_before host rows t found.RevisionAbsent ms = refl
share_before host rows t found.RevisionUnready ms = refl
share_before host rows t (found.Ready name uid) ms = refl

-- a target that is ready
pub share_ready : (host : List ℕ) (rows : List Row) (t : Target) (f : Found) (name : List ℕ) (uid : ℕ) → f ≡ found.Ready name uid → shares_from host rows (with_meant t f []) ≡ add_share host (meaning t name uid) rows
unfolding shares_from
share_ready host rows t f name uid e = rw e refl

-- one that is not
pub share_unready : (host : List ℕ) (rows : List Row) (t : Target) (f : Found) → ((name : List ℕ) (uid : ℕ) → f ≡ found.Ready name uid → ⊥) → shares_from host rows (with_meant t f []) ≡ rows
unfolding shares_from
share_unready host rows t found.ConfigurationAbsent h = refl
share_unready host rows t found.ConfigurationUnready h = refl
share_unready host rows t found.RevisionAbsent h = refl
share_unready host rows t found.RevisionUnready h = refl
share_unready host rows t (found.Ready name uid) h = absurd (h name uid refl)

-- the shares so far, and those to come
pub record AreShared (host : List ℕ) (pairs : List (Target × Found)) (place : ℕ) (rows : List Row) : Type 0 where
  pub so_far : shares_from host rows (meant_of (drop place pairs)) ≡ shares_from host [] (meant_of pairs)
  pub within : sum_by row_percent rows + sum_by pair_percent (drop place pairs) ≤ sum_by pair_percent pairs

module _ (host : List ℕ) (pairs : List (Target × Found)) (place : ℕ) (rows : List Row) (h : AreShared host pairs place rows) where
  pub shared_next : (p : Target × Found) (after : List Row) → place < length pairs → p ≡ get_or pairs place p → after ≡ shares_from host rows (with_meant p.0 p.1 [])
      → sum_by row_percent after ≤ sum_by row_percent rows + percent_of p.0 → AreShared host pairs (place + 1) after
  unfolding meant_of
  shared_next p after lt e made sum =
      let here : drop place pairs ≡ p ∷ drop (place + 1) pairs = drop_more pairs place p lt ∙ ap (λ q. q ∷ drop (place + 1) pairs) (sym e) in
      let total : sum_by pair_percent (drop place pairs) ≡ percent_of p.0 + sum_by pair_percent (drop (place + 1) pairs) = ap (sum_by pair_percent) here ∙ sum_by-cons pair_percent p (drop (place + 1) pairs) in
      let before = h.within in
      record {
        so_far =
            ap (λ rs. shares_from host rs (meant_of (drop (place + 1) pairs))) made
            ∙ sym (share_before host rows p.0 p.1 (meant_of (drop (place + 1) pairs)))
            ∙ ap (λ ps. shares_from host rows (meant_of ps)) (sym here) ∙ h.so_far;
        within = omega arith;
      }

  pub room_for : (p : Target × Found) → place < length pairs → p ≡ get_or pairs place p → sum_by row_percent rows + percent_of p.0 ≤ sum_by pair_percent pairs
  room_for p lt e =
      let here : drop place pairs ≡ p ∷ drop (place + 1) pairs = drop_more pairs place p lt ∙ ap (λ q. q ∷ drop (place + 1) pairs) (sym e) in
      let total : sum_by pair_percent (drop place pairs) ≡ percent_of p.0 + sum_by pair_percent (drop (place + 1) pairs) = ap (sum_by pair_percent) here ∙ sum_by-cons pair_percent p (drop (place + 1) pairs) in
      let before = h.within in
      omega arith

  pub shared_all : length pairs ≤ place → rows ≡ shares_from host [] (meant_of pairs)
  unfolding meant_of shares_from
  shared_all le = ap (λ ps. shares_from host rows (meant_of ps)) (sym (drop_all place pairs le)) ∙ h.so_far
