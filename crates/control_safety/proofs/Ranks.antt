-- What the proof that settles end asks besides: no Revision is ahead of its Configuration, and no Health of the journal.
use Rattle.std.proofs.Common.{◌≡◌, ℕ, zero, suc, ◌≤◌, Bool, true, cond, length, Option, Some, None, refl, sym, ap, ◌∙◌, arith}
use Rattle.std.specs.Prelude.{slice_get}
use Rattle.std.proofs.lemmas.Bool.{ne_eqb}
use Rattle.resource_types.specs.declared.names.Kind.TheVariants as kind
use Rattle.resource_types.specs.declared.names.Name.{Name}
use Rattle.resource_types.specs.declared.names.Actor.TheVariants.{Reporter}
use Rattle.resource_types.specs.declared.metadata.Owner.{Owner}
use Rattle.resource_types.specs.declared.objects.Body.{Body}
use Rattle.resource_types.specs.declared.objects.Body.TheVariants.{Service, Configuration, Revision, Route, Health, Table}
use Rattle.resource_types.specs.declared.objects.Object.{Object}
use Rattle.resource_types.specs.declared.manifests.Manifest.{Manifest}
use Rattle.resource_types.specs.Objects.{generation_of}
use Rattle.resource_types.specs.Lookups.{Journal, find, is_owned_by}
use Rattle.control_rules.specs.declared.settings.Settings.{Settings}
use Rattle.control_rules.specs.Standing.{key_at, standing}
use Rattle.control_rules.specs.Statuses.{reported_by, reported_in}
use Rattle.control_rules.specs.Slots.{ObjectEntry, state_at}
use Rattle.control_rules.specs.Lawful.{Reports, IsLawful}
use Rattle.control_rules.specs.FurtherFacts.{Stood, WasMade}
use Rattle.control_entries.proofs.Tests.{some_same}
use Rattle.control_entries.proofs.Lists.{get_some}
use Rattle.control_entries.proofs.Standing.{stands, of_kind_some}
use Rattle.control_entries.proofs.Positions.{at_standing}
use Rattle.control_entries.proofs.Stamps.{numbered, stood}
use Rattle.control_entries.proofs.Entries.{health_entry}
use Rattle.control_safety.proofs.Owners.{revision_made}
use Rattle.control_safety.proofs.Kin.{one_key, distinct_generations}
use Rattle.control_safety.proofs.Owned.{Owns, owns}

-- the uid that a Health speaks of
abbrev health_uid : Body → ℕ
health_uid (Service template traffic status) = 0
health_uid (Configuration template status) = 0
health_uid (Revision spec generation pins active status) = 0
health_uid (Route traffic status) = 0
health_uid (Health uid resources container ever) = uid
health_uid (Table route rows targets) = 0

-- of a greater uid it says nothing
silent : (n : ℕ) (b : Body) → health_uid b ≤ n → reported_by (suc n) b ≡ None
silent n (Health uid resources container ever) le =
    ap (λ t. cond t (Some (record { resources = resources; container = container; ever = ever })) None) (ne_eqb uid (suc n) (λ e. omega arith))
silent n (Service template traffic status) le = refl
silent n (Configuration template status) le = refl
silent n (Revision spec generation pins active status) le = refl
silent n (Route traffic status) le = refl
silent n (Table route rows targets) le = refl

module _ {is_good : Manifest → Bool} {settings : Settings} {j : Journal} (lawful : IsLawful is_good settings j) where
  -- two Revisions that one Configuration owns differ in generation
  pub owned_apart : (n : ℕ) → n ≤ length j → (c : Object) (l m : Name) (v w : Object) → standing kind.Revision l (state_at j n) ≡ Some v
      → standing kind.Revision m (state_at j n) ≡ Some w
      → is_owned_by c v ≡ true → is_owned_by c w ≡ true → generation_of v.body ≡ generation_of w.body → l ≡ m
  owned_apart n len c l m v w at bt a b g =
      (let x : Owns c v = owns c v a in let y : Owns c w = owns c w b in distinct_generations lawful n len l m v w x.owner y.owner at bt x.is y.is (x.uid ∙ sym y.uid) g)

  -- no Revision is of a later generation than its Configuration
  pub owned_below : (n : ℕ) → n ≤ length j → (k m : Name) (c v : Object) → standing kind.Configuration k (state_at j n) ≡ Some c
      → standing kind.Revision m (state_at j n) ≡ Some v → is_owned_by c v ≡ true
      → generation_of v.body ≤ c.meta.stamp.generation
  owned_below n len k m c v at bt own =
      (let x = was.generation in let y = ap (λ (z : Object). z.meta.stamp.generation) same in let z = made.generation in omega arith)
    where
      made : WasMade j n v
      made = revision_made lawful n m v len bt

      parts : Owns c v
      parts = owns c v own

      uid : made.maker.meta.stamp.uid ≡ c.meta.stamp.uid
      uid = ap (λ (z : Owner). z.uid) (some_same (sym made.owner ∙ parts.is)) ∙ parts.uid

      there : find (key_at kind.Configuration made.name) (state_at j made.place) ≡ Some made.maker
      there = (stands kind.Configuration made.name (state_at j made.place) made.maker made.stands).found

      here : find (key_at kind.Configuration k) (state_at j n) ≡ Some c
      here = (stands kind.Configuration k (state_at j n) c at).found

      place : key_at kind.Configuration made.name ≡ key_at kind.Configuration k
      place = one_key lawful made.place n (key_at kind.Configuration made.name) (key_at kind.Configuration k) made.maker c (let b = made.before in omega arith) len there here uid

      was : Stood j made.place (key_at kind.Configuration k) c
      was = stood lawful n len (key_at kind.Configuration k) c here made.place
          (let b = made.before in let w = numbered lawful made.place (omega arith) (key_at kind.Configuration made.name) made.maker there in let x = w.uid in let y = w.version in let z = uid in omega arith)
          (let b = made.before in omega arith)

      same : was.then ≡ made.maker
      same = some_same (sym was.stands ∙ ap (λ z. find z (state_at j made.place)) (sym place) ∙ there)

  health_uids : (n : ℕ) → n ≤ length j → (v : Name) (h : Object) → standing kind.Health v (state_at j n) ≡ Some h → health_uid h.body ≤ n
  health_uids zero len v h at = absurd (let z = (stands kind.Health v (state_at j 0) h at).found in cc)
  health_uids (suc n) len v h at = go (get_some j n (omega arith)) (λ p s. health_uids n (omega arith) v p s)
    where
      go : ((e : ObjectEntry) × (slice_get j n ≡ Some e)) → ((p : Object) → standing kind.Health v (state_at j n) ≡ Some p → health_uid p.body ≤ n)
          → health_uid h.body ≤ suc n
      go (e, g) ih = at_standing j lawful.stamps n e g kind.Health v (λ w. w ≡ Some h → health_uid h.body ≤ suc n)
          (λ k s. new (health_entry lawful n e g v k) (of_kind_some kind.Health e.object h s))
          (λ _ s. (let x = ih h s in omega arith))
          at
        where
          new : ((e.actor ≡ Reporter) × Reports (state_at j n) e) → e.object ≡ Some h → health_uid h.body ≤ suc n
          new (a, r) s =
              (let is : health_uid h.body ≡ r.revision.meta.stamp.uid = ap (λ (z : Object). health_uid z.body) (some_same (sym s ∙ r.puts)) in
              let w = numbered lawful n (omega arith) (key_at kind.Revision e.key.name) r.revision (stands kind.Revision e.key.name (state_at j n) r.revision r.stands).found in
              let x = w.uid in let y = w.version in omega arith)

  -- no Health is of a uid to come
  pub none_ahead : (n : ℕ) → n ≤ length j → (v : Name) → reported_in (suc n) (standing kind.Health v (state_at j n)) ≡ None
  none_ahead n len v = go (standing kind.Health v (state_at j n)) refl
    where
      go : (w : Option Object) → standing kind.Health v (state_at j n) ≡ w → reported_in (suc n) w ≡ None
      go None e = refl
      go (Some h) e = silent n h.body (health_uids n len v h e)
