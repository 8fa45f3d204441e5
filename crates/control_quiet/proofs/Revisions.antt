-- Where the statuses of Revisions are right, what counts as ready by them is what counts by the reports.
use Rattle.std.proofs.Common.{◌≡◌, ℕ, Bool, true, false, not, ◌&&◌, ◌||◌, [], ◌∷◌, cond, Option, Some, None, refl, ap, ◌∙◌}
use Rattle.std.specs.Prelude.{map, slice_get}
use Rattle.std.specs.List.{list_any, filter}
use Rattle.resource_types.specs.declared.names.Kind.TheVariants as kind
use Rattle.resource_types.specs.declared.names.Name.{Name}
use Rattle.resource_types.specs.declared.conditions.CondName.TheVariants as condition
use Rattle.resource_types.specs.declared.conditions.Truth.{Truth}
use Rattle.resource_types.specs.declared.conditions.Truth.TheVariants as truth
use Rattle.resource_types.specs.declared.objects.Object.{Object}
use Rattle.resource_types.specs.contracts.conditions.TruthPartialEq.TheImpl as truth_eq
use Rattle.resource_types.specs.Objects.{has_been_ready, has_condition, status_of}
use Rattle.resource_types.specs.Lookups.{State, of_kind, given, is_owned_by, is_free, is_called, later, latest_from, latest_created}
use Rattle.resource_types.proofs.Exact.{left}
use Rattle.conditions.specs.Fold.{fold_truth}
use Rattle.control_rules.specs.declared.settings.GcSettings.{GcSettings}
use Rattle.control_rules.specs.Standing.{standing}
use Rattle.control_rules.specs.Collection.{latest_been, is_candidate, candidates, candidate_of, collected_place, collection_choice}
use Rattle.control_rules.specs.Statuses.{stated, Reported, reported_of, ever_of, revision_status}
use Rattle.control_rules.specs.Readings.{revision_status_in}
use Rattle.control_rules.specs.Differences.{untimed}
use Rattle.control_rules.specs.Steps.{says_ready}
use Rattle.control_rules.specs.Final.{was_ready, is_ready}
use Rattle.control_entries.specs.Ground.{IsOrdered}
use Rattle.control_entries.proofs.Each.{Each, each_by}
use Rattle.control_entries.proofs.Standing.{IsFound, kind_found, standing_own}
use Rattle.control_quiet.proofs.Conditions.{is_such, has-untimed}

-- the status of each Revision is the one that follows of its reports, apart from times
abbrev pub AreRevisionsRight : State → Type 0
AreRevisionsRight st = (n : Name) (v : Object) → standing kind.Revision n st ≡ Some v → untimed (status_of v.body) ≡ revision_status_in st v

-- ---- what a new status says

been_in : (b : Bool) → (truth_eq.ghosts.eq (cond b truth.True truth.False) truth.True || false) ≡ b
been_in true = refl
been_in false = refl

said_been : (generation : ℕ) (h : Option Reported)
    → list_any (is_such condition.HasBeenReady truth.True) (revision_status generation h).conditions ≡ ever_of h
unfolding revision_status
said_been generation None = refl
said_been generation (Some h) = been_in h.ever

fold_of_truths : (p q : Truth)
    → truth_eq.ghosts.eq (fold_truth (stated condition.Ready p [] [] ∷ stated condition.Ready q [] [] ∷ [])) truth.True ≡ (truth_eq.ghosts.eq p truth.True && truth_eq.ghosts.eq q truth.True)
fold_of_truths truth.True truth.True = refl
fold_of_truths truth.True truth.False = refl
fold_of_truths truth.True truth.Unknown = refl
fold_of_truths truth.False truth.True = refl
fold_of_truths truth.False truth.False = refl
fold_of_truths truth.False truth.Unknown = refl
fold_of_truths truth.Unknown truth.True = refl
fold_of_truths truth.Unknown truth.False = refl
fold_of_truths truth.Unknown truth.Unknown = refl

or_false : (b : Bool) → (b || false) ≡ b
or_false true = refl
or_false false = refl

said_ready : (generation : ℕ) (h : Option Reported)
    → list_any (is_such condition.Ready truth.True) (revision_status generation h).conditions ≡ says_ready h
unfolding revision_status
said_ready generation None = refl
said_ready generation (Some h) = or_false _ ∙ fold_of_truths h.resources.truth h.container.truth

module _ (st : State) (right : AreRevisionsRight st) where
  pub been-is : (n : Name) (v : Object) → standing kind.Revision n st ≡ Some v → has_been_ready v ≡ was_ready st v
  been-is n v e = has-untimed condition.HasBeenReady truth.True v
      ∙ ap (λ s. list_any (is_such condition.HasBeenReady truth.True) s.conditions) (right n v e)
      ∙ said_been v.meta.stamp.generation (reported_of st v)

  pub good-is : (n : Name) (v : Object) → standing kind.Revision n st ≡ Some v → has_condition condition.Ready truth.True v ≡ is_ready st v
  good-is n v e = has-untimed condition.Ready truth.True v ∙ ap (λ s. list_any (is_such condition.Ready truth.True) s.conditions) (right n v e)
      ∙ said_ready v.meta.stamp.generation (reported_of st v)

  -- ---- the latest ready Revision of a Configuration, and what is collected

  counts-same : (c v : Object) → IsFound st v → (is_owned_by c v && has_been_ready v) ≡ (is_owned_by c v && was_ready st v)
  counts-same c v found = go (is_owned_by c v) refl
    where
      go : (b : Bool) → is_owned_by c v ≡ b → (b && has_been_ready v) ≡ (b && was_ready st v)
      go false e = refl
      go true e = been-is v.key.name v (standing_own kind.Revision st v found (left _ _ (left _ _ e)))

  latest_from-same : (p q : Object → Bool) (best : Option Object) (xs : State) → Each (λ v. p v ≡ q v) xs
      → latest_from p best xs ≡ latest_from q best xs
  latest_from-same p q best [] h = refl
  latest_from-same p q best (x ∷ xs) h = ap (λ b. latest_from p (later b best x) xs) h.0 ∙ latest_from-same p q (later (q x) best x) xs h.1

  module _ (ordered : IsOrdered st) where
    pub latest-is : (c : Object) → latest_been has_been_ready st c ≡ latest_been (was_ready st) st c
    latest-is c = latest_from-same (λ v. is_owned_by c v && has_been_ready v) (λ v. is_owned_by c v && was_ready st v) None (of_kind kind.Revision st)
        (each_by (IsFound st) _ (of_kind kind.Revision st) (counts-same c) (kind_found kind.Revision st ordered))

    candidates-is : (c : Object) → candidates has_been_ready st c ≡ candidates (was_ready st) st c
    unfolding candidates is_candidate
    candidates-is c = ap
        (λ l. filter (λ v. (is_owned_by c v && is_free st v.key.name) && not (is_called v.key.name.name (latest_created st c) || is_called v.key.name.name l)) (of_kind kind.Revision st))
        (latest-is c)

    pub choice-is : (gc : GcSettings) (c : Object) (now : ℕ)
        → collection_choice has_been_ready gc st c now ≡ collection_choice (was_ready st) gc st c now
    unfolding collection_choice
    choice-is gc c now = ap (λ vs. given (collected_place gc now (map candidate_of vs)) (slice_get vs)) (candidates-is c)
