-- What targets come to has its reason: the first target that isn't ready, or that all are.
use Rattle.std.proofs.Common.{◌≡◌, ℕ, suc, ◌+◌, List, [], ◌∷◌, take, All, Option, Some, None, arith, refl, sym, ap, subst, ◌∙◌}
use Rattle.std.specs.Prelude.{slice_get}
use Rattle.std.proofs.lemmas.Option.{slice_get_within}
use Rattle.std.proofs.lemmas.List.Elements.{All-nil, All-cons}
use Rattle.resource_types.specs.declared.names.Name.{Name}
use Rattle.resource_types.specs.declared.specification.Row.{Row}
use Rattle.resource_types.specs.declared.specification.Target.{Target}
use Rattle.control_rules.specs.declared.traffic.Found.{Found}
use Rattle.control_rules.specs.declared.traffic.Found.TheVariants as found
use Rattle.control_rules.specs.declared.traffic.Named.{Named}
use Rattle.control_rules.specs.declared.traffic.Resolved.{Resolved}
use Rattle.control_rules.specs.declared.traffic.Resolved.TheVariants.{Assigned, Missing, Unready}
use Rattle.control_rules.specs.Resolution.{hindrance, first_hindrance, hindered_or, resolved}
use Rattle.traffic_resolver.specs.Causes.{IsReady, AreReady, IsFirst, lacking, unready, HasCause}

abbrev PairReady : Target × Found → Type 0
PairReady p = IsReady p.1

-- the pair at the place is the first that isn't ready, and is hindered so, where the first of all has the start
record IsHindered (start : ℕ) (pairs : List (Target × Found)) (i : ℕ) (h : Resolved) : Type 0 where
  pub pair : Target × Found
  pub at : slice_get pairs i ≡ Some pair
  pub earlier : AreReady (take i pairs)
  pub here : hindrance (start + i) pair.0 pair.1 ≡ Some h

at_once : (start : ℕ) (t : Target) (f : Found) (ps : List (Target × Found)) (h : Resolved) → hindrance start t f ≡ Some h → IsHindered start ((t, f) ∷ ps) 0 h
at_once start t f ps h e =
    let same : start ≡ start + 0 = omega arith in
    record { pair = (t, f); at = refl; earlier = All-nil PairReady; here = subst (λ (n : ℕ). hindrance n t f ≡ Some h) same e }

later : (start : ℕ) (t : Target) (f : Found) (ps : List (Target × Found)) (i : ℕ) (h : Resolved) → IsReady f → IsHindered (start + 1) ps i h → IsHindered start ((t, f) ∷ ps) (suc i) h
later start t f ps i h ready rest =
    let same : (start + 1) + i ≡ start + suc i = omega arith in
    record { pair = rest.pair; at = rest.at; earlier = All-cons PairReady (t, f) (take i ps) ready rest.earlier; here = subst (λ (n : ℕ). hindrance n rest.pair.0 rest.pair.1 ≡ Some h) same rest.here }

hindered_at : (start : ℕ) (pairs : List (Target × Found)) (h : Resolved) → first_hindrance start pairs ≡ Some h → (i : ℕ) × IsHindered start pairs i h
unfolding first_hindrance
hindered_at start [] h e = absurd cc
hindered_at start ((t, found.ConfigurationAbsent) ∷ ps) h e = (0, at_once start t found.ConfigurationAbsent ps h e)
hindered_at start ((t, found.ConfigurationUnready) ∷ ps) h e = (0, at_once start t found.ConfigurationUnready ps h e)
hindered_at start ((t, found.RevisionAbsent) ∷ ps) h e = (0, at_once start t found.RevisionAbsent ps h e)
hindered_at start ((t, found.RevisionUnready) ∷ ps) h e = (0, at_once start t found.RevisionUnready ps h e)
hindered_at start ((t, found.Ready name uid) ∷ ps) h e =
    let rest = hindered_at (start + 1) ps h e in
    (suc rest.0, later start t (found.Ready name uid) ps rest.0 h tt rest.1)

ready_all : (start : ℕ) (pairs : List (Target × Found)) → first_hindrance start pairs ≡ None → AreReady pairs
unfolding first_hindrance
ready_all start [] e = All-nil PairReady
ready_all start ((t, found.ConfigurationAbsent) ∷ ps) e = absurd cc
ready_all start ((t, found.ConfigurationUnready) ∷ ps) e = absurd cc
ready_all start ((t, found.RevisionAbsent) ∷ ps) e = absurd cc
ready_all start ((t, found.RevisionUnready) ∷ ps) e = absurd cc
ready_all start ((t, found.Ready name uid) ∷ ps) e = All-cons PairReady (t, found.Ready name uid) ps tt (ready_all (start + 1) ps e)

-- ---- which hindrance is which

missing_place : (n place : ℕ) (kind : Named) (name : List ℕ) (t : Target) (f : Found) → hindrance n t f ≡ Some (Missing place kind name) → place ≡ n
missing_place n place kind name t found.ConfigurationAbsent e = cc
missing_place n place kind name t found.ConfigurationUnready e = absurd cc
missing_place n place kind name t found.RevisionAbsent e = cc
missing_place n place kind name t found.RevisionUnready e = absurd cc
missing_place n place kind name t (found.Ready x uid) e = absurd cc

missing_cause : (n place : ℕ) (kind : Named) (name : List ℕ) (t : Target) (f : Found) → hindrance n t f ≡ Some (Missing place kind name) → lacking t f ≡ Some (kind, name)
missing_cause n place kind name t found.ConfigurationAbsent e = cc
missing_cause n place kind name t found.ConfigurationUnready e = absurd cc
missing_cause n place kind name t found.RevisionAbsent e = cc
missing_cause n place kind name t found.RevisionUnready e = absurd cc
missing_cause n place kind name t (found.Ready x uid) e = absurd cc

unready_place : (n place : ℕ) (kind : Named) (name : List ℕ) (t : Target) (f : Found) → hindrance n t f ≡ Some (Unready place kind name) → place ≡ n
unready_place n place kind name t found.ConfigurationAbsent e = absurd cc
unready_place n place kind name t found.ConfigurationUnready e = cc
unready_place n place kind name t found.RevisionAbsent e = absurd cc
unready_place n place kind name t found.RevisionUnready e = cc
unready_place n place kind name t (found.Ready x uid) e = absurd cc

unready_cause : (n place : ℕ) (kind : Named) (name : List ℕ) (t : Target) (f : Found) → hindrance n t f ≡ Some (Unready place kind name) → unready t f ≡ Some (kind, name)
unready_cause n place kind name t found.ConfigurationAbsent e = absurd cc
unready_cause n place kind name t found.ConfigurationUnready e = cc
unready_cause n place kind name t found.RevisionAbsent e = absurd cc
unready_cause n place kind name t found.RevisionUnready e = cc
unready_cause n place kind name t (found.Ready x uid) e = absurd cc

assigns_never : (n : ℕ) (t : Target) (f : Found) (rows : List Row) (targets : List Target) → hindrance n t f ≡ Some (Assigned rows targets) → ⊥
assigns_never n t found.ConfigurationAbsent rows targets e = absurd cc
assigns_never n t found.ConfigurationUnready rows targets e = absurd cc
assigns_never n t found.RevisionAbsent rows targets e = absurd cc
assigns_never n t found.RevisionUnready rows targets e = absurd cc
assigns_never n t (found.Ready name uid) rows targets e = absurd cc

-- no hindrance is `Assigned`
never_assigned : (start : ℕ) (pairs : List (Target × Found)) (rows : List Row) (targets : List Target) → first_hindrance start pairs ≡ Some (Assigned rows targets) → ⊥
never_assigned start pairs rows targets e =
    let w = hindered_at start pairs (Assigned rows targets) e in
    assigns_never (start + w.0) w.1.pair.0 w.1.pair.1 rows targets w.1.here

-- ---- the first of all

module _ (pairs : List (Target × Found)) (place : ℕ) (kind : Named) (name : List ℕ) where
  first_at : (cause : Target → Found → Option (Named × List ℕ)) (h : Resolved) (i : ℕ) (w : IsHindered 0 pairs i h) → place ≡ 0 + i → cause w.pair.0 w.pair.1 ≡ Some (kind, name) → IsFirst cause pairs place kind name
  first_at cause h i w e g =
      let same : i ≡ place = omega arith in
      subst (λ (n : ℕ). IsFirst cause pairs n kind name) same
      (record { earlier = w.earlier; within = slice_get_within pairs i w.pair w.at; here = rw w.at g })

  pub first_missing : first_hindrance 0 pairs ≡ Some (Missing place kind name) → IsFirst lacking pairs place kind name
  first_missing e =
      let w = hindered_at 0 pairs (Missing place kind name) e in
      first_at lacking (Missing place kind name) w.0 w.1 (missing_place (0 + w.0) place kind name w.1.pair.0 w.1.pair.1 w.1.here) (missing_cause (0 + w.0) place kind name w.1.pair.0 w.1.pair.1 w.1.here)

  pub first_unready : first_hindrance 0 pairs ≡ Some (Unready place kind name) → IsFirst unready pairs place kind name
  first_unready e =
      let w = hindered_at 0 pairs (Unready place kind name) e in
      first_at unready (Unready place kind name) w.0 w.1 (unready_place (0 + w.0) place kind name w.1.pair.0 w.1.pair.1 w.1.here) (unready_cause (0 + w.0) place kind name w.1.pair.0 w.1.pair.1 w.1.here)

-- ---- the reason of an answer

module _ (r : Name) (domain : List ℕ) (pairs : List (Target × Found)) (answer : Resolved) (is : answer ≡ resolved r domain pairs) where
  -- an answer that isn't `Assigned` is the first hindrance
  hindrance_of : (o : Option Resolved) (rows : List Row) (targets : List Target) (h : Resolved) → ((rs : List Row) (ts : List Target) → h ≡ Assigned rs ts → ⊥) → h ≡ hindered_or o (Assigned rows targets) → o ≡ Some h
  hindrance_of None rows targets h not e = absurd (not rows targets e)
  hindrance_of (Some other) rows targets h not e = ap (λ (x : Resolved). Some x) (sym e)

  assigned_of : (o : Option Resolved) (assigned h : Resolved) → ((x : Resolved) → o ≡ Some x → x ≡ h → ⊥) → h ≡ hindered_or o assigned → o ≡ None
  assigned_of None assigned h not e = refl
  assigned_of (Some other) assigned h not e = absurd (not other refl (sym e))

  missing_reason : (place : ℕ) (kind : Named) (name : List ℕ) → answer ≡ Missing place kind name → IsFirst lacking pairs place kind name
  unfolding resolved
  missing_reason place kind name e =
      first_missing pairs place kind name (hindrance_of (first_hindrance 0 pairs) _ _ (Missing place kind name) (λ rs ts g. absurd cc) (sym e ∙ is))

  unready_reason : (place : ℕ) (kind : Named) (name : List ℕ) → answer ≡ Unready place kind name → IsFirst unready pairs place kind name
  unfolding resolved
  unready_reason place kind name e =
      first_unready pairs place kind name (hindrance_of (first_hindrance 0 pairs) _ _ (Unready place kind name) (λ rs ts g. absurd cc) (sym e ∙ is))

  assigned_reason : (rows : List Row) (targets : List Target) → answer ≡ Assigned rows targets → AreReady pairs
  unfolding resolved
  assigned_reason rows targets e =
      ready_all 0 pairs (assigned_of (first_hindrance 0 pairs) _ (Assigned rows targets) (λ x g same. never_assigned 0 pairs rows targets (g ∙ ap (λ (y : Resolved). Some y) same)) (sym e ∙ is))

pub has_cause : (r : Name) (domain : List ℕ) (pairs : List (Target × Found)) (answer : Resolved) → answer ≡ resolved r domain pairs → HasCause pairs answer
has_cause r domain pairs (Assigned rows targets) e = assigned_reason r domain pairs (Assigned rows targets) e rows targets refl
has_cause r domain pairs (Missing place kind name) e = missing_reason r domain pairs (Missing place kind name) e place kind name refl
has_cause r domain pairs (Unready place kind name) e = unready_reason r domain pairs (Unready place kind name) e place kind name refl
