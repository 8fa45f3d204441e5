-- Each position of a lawful journal is safe.
use Rattle.std.proofs.Common.{◌≡◌, ◌⊎◌, inl, inr, ℕ, suc, ◌≤◌, Bool, true, List, [], length, Option, Some, None, sym, ap, ◌∙◌, subst, arith}
use Rattle.std.specs.Prelude.{slice_get, map}
use Rattle.std.proofs.lemmas.Bool.{false≢true}
use Rattle.resource_types.specs.declared.names.Kind.TheVariants as kind
use Rattle.resource_types.specs.declared.names.Name.{Name}
use Rattle.resource_types.specs.declared.conditions.CondName.TheVariants as condition
use Rattle.resource_types.specs.declared.conditions.Truth.TheVariants as truth
use Rattle.resource_types.specs.declared.specification.Row.{Row}
use Rattle.resource_types.specs.declared.specification.Target.{Target}
use Rattle.resource_types.specs.declared.objects.Body.{Body}
use Rattle.resource_types.specs.declared.objects.Body.TheVariants.{Table}
use Rattle.resource_types.specs.declared.objects.Object.{Object}
use Rattle.resource_types.specs.declared.manifests.Manifest.{Manifest}
use Rattle.resource_types.specs.Objects.{has_been_ready, has_condition}
use Rattle.resource_types.specs.Lookups.{Journal}
use Rattle.control_rules.specs.declared.settings.Settings.{Settings}
use Rattle.control_rules.specs.Standing.{beside, listed, standing, pins_at, published_of, published_at, traffic_at, read}
use Rattle.control_rules.specs.Statuses.{ever_of}
use Rattle.control_rules.specs.Slots.{ObjectEntry, state_at}
use Rattle.control_rules.specs.Lawful.{IsLawful}
use Rattle.control_rules.specs.Safe.{WasReported, rows_of}
use Rattle.control_rules.specs.Facts.{IsWellReported}
use Rattle.control_entries.proofs.Lists.{at_map}
use Rattle.control_safety.proofs.Pins.{listed_left, at_listed, listed_none}
use Rattle.control_safety.proofs.Reports.{reported_later, reported_at, well_reported}
use Rattle.control_safety.proofs.Since.{pinned_stands, uid_next}

-- what a Table's row names, the Table names
row_named : (b : Body) (i : ℕ) (row : Row) → slice_get (rows_of b) i ≡ Some row → listed row.revision (published_of b) ≡ true
row_named (Table route rows targets) i row e =
    listed_left row.revision (map (λ (r : Row). r.revision) rows) (map (λ (t : Target). t.revision) targets)
    (at_listed row.revision (map (λ (r : Row). r.revision) rows) i (at_map (λ (r : Row). r.revision) rows i row e))
row_named _ i row e = absurd cc

-- of one Route: what its Table names at the position is safe
pub record TableIsSafe (j : Journal) (n : ℕ) (r : Name) : Type 0 where
  pub published : (x : List ℕ) → listed x (published_at (state_at j n) r) ≡ true → listed r.name (pins_at (state_at j n) (beside r x)) ≡ true
  pub same : (t : Object) (i : ℕ) (row : Row) (v : Object) → standing kind.Table r (state_at j n) ≡ Some t → slice_get (rows_of t.body) i ≡ Some row
      → standing kind.Revision (beside r row.revision) (state_at j n) ≡ Some v → row.uid ≡ v.meta.stamp.uid
  pub reported : (x : List ℕ) (v : Object) → listed x (published_at (state_at j n) r) ≡ true
      → standing kind.Revision (beside r x) (state_at j n) ≡ Some v → WasReported j n v.meta.stamp.uid

-- and so is what its status names
abbrev pub StatusIsSafe : Journal → ℕ → Name → Type 0
StatusIsSafe j n r = (x : List ℕ) → listed x (traffic_at (state_at j n) r) ≡ true → listed r.name (pins_at (state_at j n) (beside r x)) ≡ true

pub published_in : Option Object → List (List ℕ)
published_in w = read [] published_of w

-- no Table is safe
pub no_table_safe : (j : Journal) (n : ℕ) (r : Name) → standing kind.Table r (state_at j n) ≡ None → TableIsSafe j n r
no_table_safe j n r none = record {
  published = λ x l. absurd (nothing x l);
  same = λ t i row v h e at. absurd cc;
  reported = λ x v l at. absurd (nothing x l);
}
  where
    nothing : (x : List ℕ) → listed x (published_at (state_at j n) r) ≡ true → ⊥
    nothing x l = false≢true (sym (listed_none x) ∙ ap (listed x) (sym (ap (λ w. read [] published_of w) none)) ∙ l)

module _ {is_good : Manifest → Bool} {settings : Settings} {j : Journal} (lawful : IsLawful is_good settings j) where
  -- a Table that stays is safe while the pins of what it names stay
  pub table_kept : (n : ℕ) (e : ObjectEntry) → slice_get j n ≡ Some e → (r : Name)
      → standing kind.Table r (state_at j (suc n)) ≡ standing kind.Table r (state_at j n)
      → ((x : List ℕ) → listed x (published_at (state_at j n) r) ≡ true → listed r.name (pins_at (state_at j n) (beside r x)) ≡ true → listed r.name (pins_at (state_at j (suc n)) (beside r x)) ≡ true)
      → TableIsSafe j n r → TableIsSafe j (suc n) r
  table_kept n e g r same up was = record {
    published = λ x l. up x (before x l) (was.published x (before x l));
    same = λ t i row v h f at.
        (let l : listed row.revision (published_at (state_at j n) r) ≡ true = named t h row (row_named t.body i row f) in
        let (o, now) = pinned_stands (state_at j n) (beside r row.revision) r.name (was.published row.revision l) in
        was.same t i row o (sym same ∙ h) f now ∙ sym (uid_next lawful n e g (beside r row.revision) o v now at));
    reported = λ x v l at.
        (let (o, now) = pinned_stands (state_at j n) (beside r x) r.name (was.published x (before x l)) in
        subst (WasReported j (suc n)) (sym (uid_next lawful n e g (beside r x) o v now at)) (reported_later j n (suc n) o.meta.stamp.uid (omega arith) (was.reported x o (before x l) now)));
  }
    where
      before : (x : List ℕ) → listed x (published_at (state_at j (suc n)) r) ≡ true → listed x (published_at (state_at j n) r) ≡ true
      before x l = ap (λ w. listed x (read [] published_of w)) (sym same) ∙ l

      named : (t : Object) → standing kind.Table r (state_at j (suc n)) ≡ Some t → (row : Row) → listed row.revision (published_of t.body) ≡ true
          → listed row.revision (published_at (state_at j n) r) ≡ true
      named t h row l = ap (λ w. listed row.revision (read [] published_of w)) (sym same ∙ h) ∙ l

  -- what was once ready, or is ready, was reported
  pub ready_reported : (n : ℕ) → n ≤ length j → (v : Name) (o : Object) → standing kind.Revision v (state_at j n) ≡ Some o
      → (has_been_ready o ≡ true) ⊎ (has_condition condition.Ready truth.True o ≡ true) → WasReported j n o.meta.stamp.uid
  ready_reported n len v o at h = well.ever v o.meta.stamp.uid (ap ever_of (sym (reported_at (state_at j n) v o at)) ∙ well.been v o at (go h))
    where
      well : IsWellReported j n
      well = well_reported lawful n len

      go : (has_been_ready o ≡ true) ⊎ (has_condition condition.Ready truth.True o ≡ true) → has_been_ready o ≡ true
      go (inl e) = e
      go (inr e) = well.ready v o at e
