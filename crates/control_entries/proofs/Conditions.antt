-- Conditions by name: those of a status differ in name, and a time changes neither name nor truth.
use Rattle.std.proofs.Common.{◌≡◌, ℕ, zero, suc, Bool, true, false, cond, List, [], ◌∷◌, Option, Some, None, refl, sym, ap, ◌∙◌, subst}
use Rattle.std.specs.Prelude.{◌&&◌, ◌==◌, ◌++◌, codes, not, slice_get}
use Rattle.resource_types.specs.declared.conditions.CondName.{CondName}
use Rattle.resource_types.specs.declared.conditions.CondName.TheVariants as condition
use Rattle.resource_types.specs.declared.conditions.Truth.{Truth}
use Rattle.resource_types.specs.declared.conditions.Truth.TheVariants as truth
use Rattle.resource_types.specs.declared.conditions.Condition.{Condition}
use Rattle.resource_types.specs.declared.specification.Target.{Target}
use Rattle.resource_types.specs.contracts.conditions.CondName as name_row
use Rattle.resource_types.specs.contracts.conditions.Truth as truth_row
use Rattle.resource_types.specs.contracts.conditions.CondNamePartialEq.TheImpl as condition_eq
use Rattle.resource_types.specs.contracts.conditions.TruthPartialEq.TheImpl as truth_eq
use Rattle.conditions.specs.Fold.{fold_of}
use Rattle.conditions.specs.Times.{settled}
use Rattle.control_rules.specs.declared.traffic.Named.TheVariants as named
use Rattle.control_rules.specs.declared.traffic.Resolved.{Resolved}
use Rattle.control_rules.specs.declared.traffic.Resolved.TheVariants.{Assigned, Missing, Unready}
use Rattle.control_rules.specs.Statuses.{stated, Reported, told_or, condition_in, Child, revision_status, configuration_status}
use Rattle.control_rules.specs.TrafficStatuses.{route_status, Sight, sight_condition, observed_condition, configurations_condition, routes_condition, service_status}
use Rattle.control_entries.proofs.Tests.{some_same, not_both, not_true}
use Rattle.resource_types.proofs.Exact.{left, right}
use denote.Enum.Bare.{same_true, true_same}

-- ---- names and truths

pub same_name : CondName → CondName → Bool
same_name a b = condition_eq.ghosts.eq a b

pub name_exact : (a b : CondName) → condition_eq.ghosts.eq a b ≡ true → a ≡ b
name_exact a b e = same_true name_row.the_type tt a b e

pub name_own : (a : CondName) → condition_eq.ghosts.eq a a ≡ true
name_own a = true_same name_row.the_type a a refl

pub truth_exact : (a b : Truth) → truth_eq.ghosts.eq a b ≡ true → a ≡ b
truth_exact a b e = same_true truth_row.the_type tt a b e

pub truth_own : (a : Truth) → truth_eq.ghosts.eq a a ≡ true
truth_own a = true_same truth_row.the_type a a refl

-- ---- conditions that differ in name

-- conditions of one name stand at one place
abbrev pub AreApart : List Condition → Type 0
AreApart cs = (a b : ℕ) (c d : Condition) → slice_get cs a ≡ Some c → slice_get cs b ≡ Some d → c.name ≡ d.name → a ≡ b

abbrev pub is_apart : CondName → List Condition → Bool
is_apart x [] = true
is_apart x (c ∷ cs) = not (condition_eq.ghosts.eq x c.name) && is_apart x cs

abbrev pub are_apart : List Condition → Bool
are_apart [] = true
are_apart (c ∷ cs) = is_apart c.name cs && are_apart cs

apart_at : (x : CondName) (cs : List Condition) (i : ℕ) (c : Condition) → is_apart x cs ≡ true → slice_get cs i ≡ Some c → x ≡ c.name → ⊥
apart_at x [] i c t h e = cc
apart_at x (d ∷ cs) zero c t h e =
    not_both (subst (λ z. condition_eq.ghosts.eq x z ≡ true) (e ∙ sym (ap (λ (z : Condition). z.name) (some_same h))) (name_own x)) (not_true (left _ _ t))
apart_at x (d ∷ cs) (suc i) c t h e = apart_at x cs i c (right _ _ t) h e

pub apart_from : (cs : List Condition) → are_apart cs ≡ true → AreApart cs
apart_from [] t a b c d p q e = absurd cc
apart_from (x ∷ cs) t zero zero c d p q e = refl
apart_from (x ∷ cs) t zero (suc b) c d p q e = absurd (apart_at x.name cs b d (left _ _ t) q (ap (λ (z : Condition). z.name) (some_same p) ∙ e))
apart_from (x ∷ cs) t (suc a) zero c d p q e = absurd (apart_at x.name cs a c (left _ _ t) p (ap (λ (z : Condition). z.name) (some_same q) ∙ sym e))
apart_from (x ∷ cs) t (suc a) (suc b) c d p q e = ap suc (apart_from cs (right (is_apart x.name cs) _ t) a b c d p q e)

is_apart-timed : (old : List Condition) (x : CondName) (cs : List Condition) (now : ℕ) → is_apart x (settled old cs now) ≡ is_apart x cs
is_apart-timed old x [] now = refl
is_apart-timed old x (c ∷ cs) now = ap (λ b. not (condition_eq.ghosts.eq x c.name) && b) (is_apart-timed old x cs now)

pub are_apart-timed : (old cs : List Condition) (now : ℕ) → are_apart (settled old cs now) ≡ are_apart cs
are_apart-timed old [] now = refl
are_apart-timed old (c ∷ cs) now = λ i. is_apart-timed old c.name cs now i && are_apart-timed old cs now i

-- ---- the statuses of the controllers

pub apart_revision : (generation : ℕ) (h : Option Reported) → are_apart (revision_status generation h).conditions ≡ true
unfolding revision_status
apart_revision generation None = refl
apart_revision generation (Some h) = refl

pub apart_configuration : (generation : ℕ) (created ready name : List ℕ) (child : Child)
    → are_apart (configuration_status generation created ready name child).conditions ≡ true
unfolding configuration_status
apart_configuration generation created ready name child = refl

pub apart_route : (generation : ℕ) (host : List ℕ) (resolved : Resolved) (published : Option (List Target))
    → are_apart (route_status generation host resolved published).conditions ≡ true
unfolding route_status
apart_route generation host (Assigned rows targets) None = refl
apart_route generation host (Assigned rows targets) (Some ts) = refl
apart_route generation host (Missing place named.Configuration name) None = refl
apart_route generation host (Missing place named.Configuration name) (Some ts) = refl
apart_route generation host (Missing place named.Revision name) None = refl
apart_route generation host (Missing place named.Revision name) (Some ts) = refl
apart_route generation host (Unready place named.Configuration name) None = refl
apart_route generation host (Unready place named.Configuration name) (Some ts) = refl
apart_route generation host (Unready place named.Revision name) None = refl
apart_route generation host (Unready place named.Revision name) (Some ts) = refl

told_name : (name : CondName) (otherwise : Condition) (c : Option Condition) → otherwise.name ≡ name → (told_or name otherwise c).name ≡ name
told_name name otherwise None e = e
told_name name otherwise (Some c) e = refl

sight_name : (name : CondName) (reason what : List ℕ) (s : Option Sight) → (sight_condition name reason what s).name ≡ name
sight_name name reason what None = refl
sight_name name reason what (Some s) = go s.owned
  where
    seen : (b : Bool) (t : List ℕ)
        → (cond b (told_or name (stated name truth.Unknown [] []) (condition_in condition.Ready s.status)) (stated name truth.Unknown (codes "OutOfDate") t)).name ≡ name
    seen true t = told_name name _ (condition_in condition.Ready s.status) refl
    seen false t = refl

    go : (b : Bool)
        → (cond b (observed_condition name (what ++ codes " is not observed yet") s) (stated name truth.False (codes "NotOwned") (what ++ codes " is not owned by this service"))).name ≡ name
    go true = seen (s.status.observed == s.generation) _
    go false = refl

three_apart : (a b c : Condition) → a.name ≡ condition.ConfigurationsReady → b.name ≡ condition.Ready → c.name ≡ condition.RoutesReady
    → are_apart (a ∷ b ∷ c ∷ []) ≡ true
three_apart a b c p q r = λ i. (not (condition_eq.ghosts.eq (p i) (q i)) && (not (condition_eq.ghosts.eq (p i) (r i)) && true)) && ((not (condition_eq.ghosts.eq (q i) (r i)) && true) && (true && true))

pub apart_service : (generation : ℕ) (name : List ℕ) (c r : Option Sight) → are_apart (service_status generation name c r).conditions ≡ true
unfolding service_status
apart_service generation name c r =
    three_apart (configurations_condition name c) (fold_of (configurations_condition name c ∷ routes_condition name r ∷ [])) (routes_condition name r)
    (sight_name condition.ConfigurationsReady (codes "ConfigurationMissing") (codes "configuration " ++ name) c) refl (sight_name condition.RoutesReady (codes "RouteMissing") (codes "route " ++ name) r)
