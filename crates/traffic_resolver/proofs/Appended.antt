-- What each target that is ready adds, one after another.
use Rattle.std.proofs.Common.{◌≡◌, ℕ, ◌+◌, ◌<◌, ◌≤◌, List, [], ◌∷◌, ◌++◌, length, drop, get_or, Bool, true, false, append_assoc, append-nil, arith, refl, sym, ap, ◌∙◌}
use Rattle.std.specs.Prelude.{map, filter, not, cond}
use Rattle.std.specs.List.{zip}
use Rattle.std.proofs.lemmas.List.{drop_more, drop_all}
use Rattle.resource_types.specs.declared.names.Name.{Name}
use Rattle.resource_types.specs.declared.specification.Target.{Target}
use Rattle.resource_types.specs.Lookups.{is_empty}
use Rattle.control_rules.specs.declared.traffic.Found.{Found}
use Rattle.control_rules.specs.declared.traffic.Found.TheVariants as found
use Rattle.control_rules.specs.Resolution.{Meant, meaning, row_of, host_of, with_meant, meant_of, tagged_rows, assigned_targets}
use Rattle.traffic_resolver.proofs.Zips.{zip_long, pair_within, pair_at}

-- what a target adds comes before what the others do
abbrev pub Adds : {X : Type 0} → (List Meant → List X) → Type 0
Adds g = (t : Target) (f : Found) (ms : List Meant) → g (with_meant t f ms) ≡ g (with_meant t f []) ++ g ms

-- the items so far, and those to come
pub record IsAppended {X : Type 0} (g : List Meant → List X) (start : List X) (pairs : List (Target × Found)) (place : ℕ) (items : List X) : Type 0 where
  pub so_far : items ++ g (meant_of (drop place pairs)) ≡ start ++ g (meant_of pairs)

module _ {X : Type 0} (g : List Meant → List X) (start : List X) (ts : List Target) (fs : List Found) (long : length fs ≡ length ts) (place : ℕ) (items : List X) (h : IsAppended g start (zip ts fs) place items) where
  pub appended_next : Adds g → (t : Target) (f : Found) (after : List X) → place < length ts → t ≡ get_or ts place t → f ≡ get_or fs place f → after ≡ items ++ g (with_meant t f [])
      → IsAppended g start (zip ts fs) (place + 1) after
  unfolding meant_of
  appended_next adds t f after lt at_t at_f made =
      let pairs = zip ts fs in
      let p : Target × Found = (t, f) in
      let here : drop place pairs ≡ p ∷ drop (place + 1) pairs =
      drop_more pairs place p (pair_within ts fs long place t f lt) ∙ ap (λ q. q ∷ drop (place + 1) pairs) (sym (pair_at ts fs long place t f lt at_t at_f)) in
      let rest = meant_of (drop (place + 1) pairs) in
      record {
        so_far =
            ap (λ xs. xs ++ g rest) made
            ∙ append_assoc items (g (with_meant p.0 p.1 [])) (g rest)
            ∙ ap (λ xs. items ++ xs) (sym (adds p.0 p.1 rest))
            ∙ ap (λ ps. items ++ g (meant_of ps)) (sym here)
            ∙ h.so_far;
      }

  pub appended_all : g [] ≡ [] → length ts ≤ place → items ≡ start ++ g (meant_of (zip ts fs))
  unfolding meant_of
  appended_all none le =
      let pairs = zip ts fs in
      let same = zip_long ts fs long in
      sym (append-nil items) ∙ ap (λ xs. items ++ xs) (sym none) ∙ ap (λ ps. items ++ g (meant_of ps)) (sym (drop_all place pairs (omega arith))) ∙ h.so_far

pub targets_add : (r : Name) (domain : List ℕ) → Adds (assigned_targets r domain)
targets_add r domain t found.ConfigurationAbsent ms = refl
targets_add r domain t found.ConfigurationUnready ms = refl
targets_add r domain t found.RevisionAbsent ms = refl
targets_add r domain t found.RevisionUnready ms = refl
targets_add r domain t (found.Ready name uid) ms = refl

pub tags_add : (r : Name) (domain : List ℕ) → Adds (tagged_rows r domain)
tags_add r domain t found.ConfigurationAbsent ms = refl
tags_add r domain t found.ConfigurationUnready ms = refl
tags_add r domain t found.RevisionAbsent ms = refl
tags_add r domain t found.RevisionUnready ms = refl
tags_add r domain t (found.Ready name uid) ms = go (not (is_empty t.tag))
  where
    go : (test : Bool) → map (λ (m : Meant). row_of m.target.tag (host_of m.target.tag r domain) 100 m) (cond test (meaning t name uid ∷ filter (λ (m : Meant). not (is_empty m.target.tag)) ms) (filter (λ (m : Meant). not (is_empty m.target.tag)) ms))
        ≡ map (λ (m : Meant). row_of m.target.tag (host_of m.target.tag r domain) 100 m) (cond test (meaning t name uid ∷ []) []) ++ tagged_rows r domain ms
    go true = refl
    go false = refl
