-- Reports stand behind readiness.
use Rattle.std.proofs.Common.{◌≡◌, ◌⊎◌, inl, inr, ℕ, zero, suc, ◌≤◌, Bool, true, false, cond, List, [], ◌∷◌, length, Option, Some, None, refl, sym, ap, ◌∙◌, subst, arith}
use Rattle.std.specs.Prelude.{slice_get, ◌&&◌, ◌||◌, ◌==◌}
use Rattle.std.specs.List.{list_any}
use Rattle.std.proofs.lemmas.Bool.{eqb-true, eq-eqb, false≢true}
use Rattle.version_store.specs.declared.item.Stamp.{Stamp}
use Rattle.resource_types.specs.declared.names.Kind.TheVariants as kind
use Rattle.resource_types.specs.declared.names.Name.{Name}
use Rattle.resource_types.specs.declared.names.Actor.TheVariants.{Reporter}
use Rattle.resource_types.specs.declared.names.Key.{Key}
use Rattle.resource_types.specs.declared.conditions.CondName.{CondName}
use Rattle.resource_types.specs.declared.conditions.CondName.TheVariants as condition
use Rattle.resource_types.specs.declared.conditions.Truth.{Truth}
use Rattle.resource_types.specs.declared.conditions.Truth.TheVariants as truth
use Rattle.resource_types.specs.declared.conditions.Part.{Part}
use Rattle.resource_types.specs.declared.conditions.Condition.{Condition}
use Rattle.resource_types.specs.declared.status.ObjectStatus.{ObjectStatus}
use Rattle.resource_types.specs.declared.objects.Body.{Body}
use Rattle.resource_types.specs.declared.objects.Body.TheVariants.{Health}
use Rattle.resource_types.specs.declared.objects.Object.{Object}
use Rattle.resource_types.specs.declared.manifests.Manifest.{Manifest}
use Rattle.resource_types.specs.contracts.conditions.CondNamePartialEq.TheImpl as condition_eq
use Rattle.resource_types.specs.contracts.conditions.TruthPartialEq.TheImpl as truth_eq
use Rattle.resource_types.specs.Objects.{kind_of_body, status_of, has_condition, has_been_ready}
use Rattle.resource_types.specs.Spec.{stamped}
use Rattle.resource_types.specs.Lookups.{Journal, State, find}
use Rattle.conditions.specs.Times.{settled}
use Rattle.control_rules.specs.declared.settings.Settings.{Settings}
use Rattle.control_rules.specs.Standing.{key_at, of_its_kind, standing}
use Rattle.control_rules.specs.Statuses.{Reported, reported_by, reported_in, reported_of, ever_of, revision_status}
use Rattle.control_rules.specs.Readings.{revision_status_in}
use Rattle.control_rules.specs.Differences.{timed, rebodied}
use Rattle.control_rules.specs.Slots.{ObjectEntry, state_at}
use Rattle.control_rules.specs.Steps.{are_true, says_ready, is_ever, health_of}
use Rattle.control_rules.specs.Lawful.{Reports, IsLawful}
use Rattle.control_rules.specs.Safe.{WasReported}
use Rattle.control_rules.specs.Facts.{IsWellReported}
use Rattle.control_rules.specs.FurtherFacts.{Stood}
use Rattle.control_entries.proofs.Tests.{some_same, at_end, or_cases, not_both, name_same}
use Rattle.control_entries.proofs.Lists.{get_some, get_below, along}
use Rattle.control_entries.proofs.Standing.{stands, standing_none, of_kind_some}
use Rattle.control_entries.proofs.Positions.{at_standing}
use Rattle.control_entries.proofs.Stamps.{put_over, numbered, stood}
use Rattle.control_entries.proofs.Bodies.{status-with_status, status-with_pins}
use Rattle.control_entries.proofs.Entries.{health_entry}
use Rattle.control_entries.proofs.Puts.{RevisionPut, PutMade, PutStated, PutPinned, PutUnpinned, revision_put}
use Rattle.control_entries.proofs.Sound.{standing_at}

-- ---- what a status says of a Revision

-- whether a status has the condition with the truth
abbrev pub says : CondName → Truth → List Condition → Bool
says name t cs = list_any (λ (c : Condition). condition_eq.ghosts.eq c.name name && truth_eq.ghosts.eq c.truth t) cs

-- times change no truth
pub says-timed : (name : CondName) (t : Truth) (old new : List Condition) (now : ℕ) → says name t (settled old new now) ≡ says name t new
says-timed name t old [] now = refl
says-timed name t old (c ∷ cs) now = ap (λ b. (condition_eq.ghosts.eq c.name name && truth_eq.ghosts.eq c.truth t) || b) (says-timed name t old cs now)

-- a Revision's status has been ready exactly where its Health says so
pub been_is : (generation : ℕ) (h : Option Reported) → says condition.HasBeenReady truth.True (revision_status generation h).conditions ≡ ever_of h
unfolding revision_status
been_is generation None = refl
been_is generation (Some h) = go h.ever
  where
    go : (b : Bool) → (truth_eq.ghosts.eq (cond b truth.True truth.False) truth.True || false) ≡ b
    go true = refl
    go false = refl

-- it is ready only where the Health says that both parts are in order
ready_parts : (generation : ℕ) (a b : Truth) (p q r s : List ℕ) (ever : Bool)
    → says condition.Ready truth.True (revision_status generation (Some (record { resources = record { truth = a; reason = p; message = q }; container = record { truth = b; reason = r; message = s }; ever = ever }))).conditions ≡ true
    → (truth_eq.ghosts.eq a truth.True && truth_eq.ghosts.eq b truth.True) ≡ true
unfolding revision_status
ready_parts generation truth.True truth.True p q r s ever k = refl
ready_parts generation truth.True truth.False p q r s ever k = absurd (false≢true k)
ready_parts generation truth.True truth.Unknown p q r s ever k = absurd (false≢true k)
ready_parts generation truth.False truth.True p q r s ever k = absurd (false≢true k)
ready_parts generation truth.False truth.False p q r s ever k = absurd (false≢true k)
ready_parts generation truth.False truth.Unknown p q r s ever k = absurd (false≢true k)
ready_parts generation truth.Unknown truth.True p q r s ever k = absurd (false≢true k)
ready_parts generation truth.Unknown truth.False p q r s ever k = absurd (false≢true k)
ready_parts generation truth.Unknown truth.Unknown p q r s ever k = absurd (false≢true k)

pub ready_is : (generation : ℕ) (h : Option Reported) → says condition.Ready truth.True (revision_status generation h).conditions ≡ true
    → says_ready h ≡ true
unfolding revision_status
ready_is generation None e = absurd cc
ready_is generation (Some h) e =
    ready_parts generation h.resources.truth h.container.truth h.resources.reason h.resources.message h.container.reason h.container.message h.ever e

-- ---- reports

pub reported_later : (j : Journal) (m n uid : ℕ) → m ≤ n → WasReported j m uid → WasReported j n uid
reported_later j m n uid le r = record { place = r.place; entry = r.entry; object = r.object; resources = r.resources; container = r.container; ever = r.ever; before = let b = r.before in omega arith; is = r.is; by = r.by; puts = r.puts; body = r.body; ready = r.ready }

-- what a Health of the uid says of a uid: nothing of another one
reported_own : (uid : ℕ) (resources container : Part) (ever : Bool)
    → reported_by uid (Health uid resources container ever) ≡ Some (record { resources = resources; container = container; ever = ever })
reported_own uid resources container ever = rw (eq-eqb uid uid refl) refl

reported_same : (of_uid uid : ℕ) (resources container : Part) (ever : Bool) (f : Option Reported → Bool) → f None ≡ false
    → f (reported_by uid (Health of_uid resources container ever)) ≡ true
    → (of_uid ≡ uid) × (f (Some (record { resources = resources; container = container; ever = ever })) ≡ true)
reported_same of_uid uid resources container ever f none h = go (of_uid == uid) refl h
  where
    go : (b : Bool) → (of_uid == uid) ≡ b → f (cond b (Some (record { resources = resources; container = container; ever = ever })) None) ≡ true
        → (of_uid ≡ uid) × (f (Some (record { resources = resources; container = container; ever = ever })) ≡ true)
    go true e k = (eqb-true of_uid uid e, k)
    go false e k = absurd (not_both k none)

-- what is reported of the Revision of the name
pub reported_at : (st : State) (v : Name) (o : Object) → standing kind.Revision v st ≡ Some o
    → reported_of st o ≡ reported_in o.meta.stamp.uid (standing kind.Health v st)
unfolding reported_of
reported_at st v o h = ap (λ (k : Key). reported_in o.meta.stamp.uid (standing kind.Health k.name st)) (stands kind.Revision v st o h).key

or_right : (a : Bool) → (a || true) ≡ true
or_right true = refl
or_right false = refl

module _ {is_good : Manifest → Bool} {settings : Settings} {j : Journal} (lawful : IsLawful is_good settings j) where
  abbrev ever_at : Name → ℕ → ℕ → Bool
  ever_at v uid n = ever_of (reported_in uid (standing kind.Health v (state_at j n)))

  -- the Health that a report puts
  report_stands : (n : ℕ) (e : ObjectEntry) (v : Name) → e.key ≡ key_at kind.Health v → (r : Reports (state_at j n) e)
      → of_its_kind kind.Health e.object ≡ Some (stamped (health_of e.key.name r.revision.meta.stamp.uid r.resources r.container (find e.key (state_at j n))) r.stamp)
  report_stands n e v k r = ap (of_its_kind kind.Health) r.puts

  -- the old Health under the entry's key, as one that stands
  old_health : (n : ℕ) → n ≤ length j → (e : ObjectEntry) (v : Name) → e.key ≡ key_at kind.Health v → (uid : ℕ)
      → reported_in uid (find e.key (state_at j n)) ≡ reported_in uid (standing kind.Health v (state_at j n))
  old_health n len e v k uid = ap (λ z. reported_in uid (find z (state_at j n))) k ∙ go (find (key_at kind.Health v) (state_at j n)) refl
    where
      go : (w : Option Object) → find (key_at kind.Health v) (state_at j n) ≡ w
          → reported_in uid (find (key_at kind.Health v) (state_at j n)) ≡ reported_in uid (standing kind.Health v (state_at j n))
      go None a = ap (reported_in uid) a ∙ sym (ap (reported_in uid) (standing_none kind.Health v (state_at j n) a))
      go (Some h) a = ap (reported_in uid) a ∙ sym (ap (reported_in uid) (standing_at lawful n len kind.Health v h a))

  -- ---- `ever` stays while its Revision stands

  pub ever_stays : (i : ℕ) (e : ObjectEntry) → slice_get j i ≡ Some e → (v : Name) (o : Object) → standing kind.Revision v (state_at j i) ≡ Some o
      → ever_at v o.meta.stamp.uid i ≡ true → ever_at v o.meta.stamp.uid (suc i) ≡ true
  ever_stays i e g v o at h =
      at_standing j lawful.stamps i e g kind.Health v (λ w. ever_of (reported_in o.meta.stamp.uid w) ≡ true)
      (λ k. new k (health_entry lawful i e g v k))
      (λ _. h)
    where
      len : i ≤ length j
      len = (let b = get_below j i e g in omega arith)

      new : e.key ≡ key_at kind.Health v → ((e.actor ≡ Reporter) × Reports (state_at j i) e)
          → ever_of (reported_in o.meta.stamp.uid (of_its_kind kind.Health e.object)) ≡ true
      new k (a, r) =
          (let name : e.key.name ≡ v = name_same k in
          let same : r.revision ≡ o = some_same (sym r.stands ∙ ap (λ z. standing kind.Revision z (state_at j i)) name ∙ at) in
          let was : ever_of (reported_in r.revision.meta.stamp.uid (find e.key (state_at j i))) ≡ true = subst (λ (z : Object). ever_of (reported_in z.meta.stamp.uid (find e.key (state_at j i))) ≡ true) (sym same) (ap ever_of (old_health i len e v k o.meta.stamp.uid) ∙ h) in
          rw (report_stands i e v k r) (subst (λ (z : Object). ever_of (reported_by z.meta.stamp.uid (Health r.revision.meta.stamp.uid r.resources r.container (is_ever r.revision.meta.stamp.uid r.resources r.container (find e.key (state_at j i))))) ≡ true) same
          (ap ever_of (reported_own r.revision.meta.stamp.uid r.resources r.container _) ∙ ap (λ b. are_true r.resources r.container || b) was ∙ or_right (are_true r.resources r.container))))

  -- ---- one entry more

  ever_step : (n : ℕ) (e : ObjectEntry) → slice_get j n ≡ Some e → IsWellReported j n → (v : Name) (uid : ℕ) → ever_at v uid (suc n) ≡ true
      → WasReported j (suc n) uid
  ever_step n e g was v uid =
      at_standing j lawful.stamps n e g kind.Health v (λ w. ever_of (reported_in uid w) ≡ true → WasReported j (suc n) uid)
      (λ k. new k (health_entry lawful n e g v k))
      (λ _ h. reported_later j n (suc n) uid (omega arith) (was.ever v uid h))
    where
      len : n ≤ length j
      len = (let b = get_below j n e g in omega arith)

      new : e.key ≡ key_at kind.Health v → ((e.actor ≡ Reporter) × Reports (state_at j n) e)
          → ever_of (reported_in uid (of_its_kind kind.Health e.object)) ≡ true → WasReported j (suc n) uid
      new k (a, r) h =
          (let t = reported_same r.revision.meta.stamp.uid uid r.resources r.container (is_ever r.revision.meta.stamp.uid r.resources r.container (find e.key (state_at j n))) ever_of refl (subst (λ w. ever_of (reported_in uid w) ≡ true) (report_stands n e v k r) h) in
          from t.0 (or_cases t.1))
        where
          from : r.revision.meta.stamp.uid ≡ uid
              → (are_true r.resources r.container ≡ true) ⊎ (ever_of (reported_in r.revision.meta.stamp.uid (find e.key (state_at j n))) ≡ true)
              → WasReported j (suc n) uid
          from u (inl b) = record {
            place = n;
            entry = e;
            object = stamped (health_of e.key.name r.revision.meta.stamp.uid r.resources r.container (find e.key (state_at j n))) r.stamp;
            resources = r.resources;
            container = r.container;
            ever = is_ever r.revision.meta.stamp.uid r.resources r.container (find e.key (state_at j n));
            before = omega arith;
            is = g;
            by = a;
            puts = r.puts;
            body = ap (λ z. Health z r.resources r.container (is_ever r.revision.meta.stamp.uid r.resources r.container (find e.key (state_at j n)))) u;
            ready = b;
          }
          from u (inr b) =
              reported_later j n (suc n) uid (omega arith) (was.ever v uid (sym (ap ever_of (old_health n len e v k uid)) ∙ subst (λ z. ever_of (reported_in z (find e.key (state_at j n))) ≡ true) u b))

  both_step : (n : ℕ) (e : ObjectEntry) → slice_get j n ≡ Some e → IsWellReported j n → (v : Name) (uid : ℕ)
      → says_ready (reported_in uid (standing kind.Health v (state_at j (suc n)))) ≡ true → ever_at v uid (suc n) ≡ true
  both_step n e g was v uid =
      at_standing j lawful.stamps n e g kind.Health v (λ w. says_ready (reported_in uid w) ≡ true → ever_of (reported_in uid w) ≡ true)
      (λ k. new k (health_entry lawful n e g v k))
      (λ _. was.both v uid)
    where
      new : e.key ≡ key_at kind.Health v → ((e.actor ≡ Reporter) × Reports (state_at j n) e)
          → says_ready (reported_in uid (of_its_kind kind.Health e.object)) ≡ true
          → ever_of (reported_in uid (of_its_kind kind.Health e.object)) ≡ true
      new k (a, r) h =
          (let t = reported_same r.revision.meta.stamp.uid uid r.resources r.container (is_ever r.revision.meta.stamp.uid r.resources r.container (find e.key (state_at j n))) says_ready refl (subst (λ w. says_ready (reported_in uid w) ≡ true) (report_stands n e v k r) h) in
          rw (report_stands n e v k r) (subst (λ z. ever_of (reported_by z (Health r.revision.meta.stamp.uid r.resources r.container (is_ever r.revision.meta.stamp.uid r.resources r.container (find e.key (state_at j n))))) ≡ true) t.0
          (ap ever_of (reported_own r.revision.meta.stamp.uid r.resources r.container _) ∙ ap (λ b. b || ever_of (reported_in r.revision.meta.stamp.uid (find e.key (state_at j n)))) t.1)))

  -- what `HasBeenReady` True of a put Revision rests on: the old status, or the Health at the look
  been_step : (n : ℕ) (e : ObjectEntry) → slice_get j n ≡ Some e → ((m : ℕ) → m ≤ n → IsWellReported j m) → (v : Name) (o : Object)
      → standing kind.Revision v (state_at j (suc n)) ≡ Some o → has_been_ready o ≡ true → ever_at v o.meta.stamp.uid (suc n) ≡ true
  been_step n e g was v o =
      at_standing j lawful.stamps n e g kind.Revision v (λ w. w ≡ Some o → has_been_ready o ≡ true → ever_at v o.meta.stamp.uid (suc n) ≡ true)
      (λ k s t. new k (of_kind_some kind.Revision e.object o s) (revision_put lawful n e g v k o (of_kind_some kind.Revision e.object o s)) t)
      (λ _ s t. ever_stays n e g v o s (ap ever_of (sym (reported_at (state_at j n) v o s)) ∙ (was n (omega arith)).been v o s t))
    where
      len : n ≤ length j
      len = (let b = get_below j n e g in omega arith)

      new : e.key ≡ key_at kind.Revision v → e.object ≡ Some o → RevisionPut j n e v o → has_been_ready o ≡ true
          → ever_at v o.meta.stamp.uid (suc n) ≡ true
      new k s x t = from x
        where
          -- with `ever` of the one that stands
          over : (old : Object) → standing kind.Revision v (state_at j n) ≡ Some old → ever_at v old.meta.stamp.uid n ≡ true
              → ever_at v o.meta.stamp.uid (suc n) ≡ true
          over old at h = subst (λ u. ever_at v u (suc n) ≡ true) (sym uid) (ever_stays n e g v old at h)
            where
              uid : o.meta.stamp.uid ≡ old.meta.stamp.uid
              uid = ap (λ (z : Stamp). z.uid) (put_over lawful n e g o old s (subst (λ z. find z (state_at j n) ≡ Some old) (sym k) (stands kind.Revision v (state_at j n) old at).found))

          kept : (old : Object) (b : Body) → standing kind.Revision v (state_at j n) ≡ Some old → status_of b ≡ status_of old.body
              → o ≡ stamped (rebodied old b) o.meta.stamp → ever_at v o.meta.stamp.uid (suc n) ≡ true
          kept old b at same is =
              over old at (ap ever_of (sym (reported_at (state_at j n) v old at)) ∙ (was n (omega arith)).been v old at (ap (λ (z : ObjectStatus). says condition.HasBeenReady truth.True z.conditions) (sym (ap (λ (z : Object). status_of z.body) is ∙ same)) ∙ t))

          from : RevisionPut j n e v o → ever_at v o.meta.stamp.uid (suc n) ≡ true
          from (PutMade m c a b at named none is) = absurd (false≢true (ap has_been_ready (sym is) ∙ t))
          from (PutPinned r old a b near at lacks is) = kept old _ at (status-with_pins _ _ old.body) is
          from (PutUnpinned r old a b near at spare is) = kept old _ at (status-with_pins _ _ old.body) is
          from (PutStated old a b at then is) = over old at (since_look (ap ever_of (sym (reported_at (state_at j e.seen) v old then)) ∙ ever_then))
            where
              fits : kind_of_body old.body ≡ kind.Revision
              fits = (stands kind.Revision v (state_at j n) old at).fits

              ever_then : ever_of (reported_of (state_at j e.seen) old) ≡ true
              ever_then =
                  sym (been_is old.meta.stamp.generation (reported_of (state_at j e.seen) old))
                  ∙ sym (says-timed condition.HasBeenReady truth.True (status_of old.body).conditions (revision_status_in (state_at j e.seen) old).conditions e.read_at)
                  ∙ ap (λ (z : ObjectStatus). says condition.HasBeenReady truth.True z.conditions)
                  (sym (ap (λ (z : Object). status_of z.body) is ∙ status-with_status (timed (status_of old.body) (revision_status_in (state_at j e.seen) old) e.read_at) old.body (λ q. let z = sym fits ∙ q in cc, λ q. let z = sym fits ∙ q in cc)))
                  ∙ t

              -- the Revision stood between the look and the entry, with this uid
              between : (i : ℕ) → e.seen ≤ i → i ≤ n → Stood j i (key_at kind.Revision v) old
              between i p q = stood lawful n len (key_at kind.Revision v) old (stands kind.Revision v (state_at j n) old at).found i
                  (let w = numbered lawful e.seen (let l = len in omega arith) (key_at kind.Revision v) old (stands kind.Revision v (state_at j e.seen) old then).found in let x = w.uid in let y = w.version in omega arith) q

              since_look : ever_at v old.meta.stamp.uid e.seen ≡ true → ever_at v old.meta.stamp.uid n ≡ true
              since_look = along j (λ i. ever_at v old.meta.stamp.uid i ≡ true) e.seen n b len
                  (λ i f p q h k. (let z = between i p (omega arith) in
                  let there = standing_at lawful i (let l = len in omega arith) kind.Revision v z.then z.stands in
                  subst (λ u. ever_at v u (suc i) ≡ true) z.uid (ever_stays i f h v z.then there (subst (λ u. ever_at v u i ≡ true) (sym z.uid) k))))

  -- a status that says `Ready` True says `HasBeenReady` True
  ready_step : (n : ℕ) (e : ObjectEntry) → slice_get j n ≡ Some e → ((m : ℕ) → m ≤ n → IsWellReported j m) → (v : Name) (o : Object)
      → standing kind.Revision v (state_at j (suc n)) ≡ Some o → has_condition condition.Ready truth.True o ≡ true → has_been_ready o ≡ true
  ready_step n e g was v o =
      at_standing j lawful.stamps n e g kind.Revision v (λ w. w ≡ Some o → has_condition condition.Ready truth.True o ≡ true → has_been_ready o ≡ true)
      (λ k s t. from t (revision_put lawful n e g v k o (of_kind_some kind.Revision e.object o s)))
      (λ _ s t. (was n (omega arith)).ready v o s t)
    where
      len : n ≤ length j
      len = (let b = get_below j n e g in omega arith)

      kept : (old : Object) (b : Body) → has_condition condition.Ready truth.True o ≡ true → standing kind.Revision v (state_at j n) ≡ Some old
          → status_of b ≡ status_of old.body → o ≡ stamped (rebodied old b) o.meta.stamp → has_been_ready o ≡ true
      kept old b t at same is =
          (let status : status_of o.body ≡ status_of old.body = ap (λ (z : Object). status_of z.body) is ∙ same in
          ap (λ (z : ObjectStatus). says condition.HasBeenReady truth.True z.conditions) status
          ∙ (was n (omega arith)).ready v old at (ap (λ (z : ObjectStatus). says condition.Ready truth.True z.conditions) (sym status) ∙ t))

      from : has_condition condition.Ready truth.True o ≡ true → RevisionPut j n e v o → has_been_ready o ≡ true
      from t (PutMade m c a b at named none is) = absurd (false≢true (ap (has_condition condition.Ready truth.True) (sym is) ∙ t))
      from t (PutPinned r old a b near at lacks is) = kept old _ t at (status-with_pins _ _ old.body) is
      from t (PutUnpinned r old a b near at spare is) = kept old _ t at (status-with_pins _ _ old.body) is
      from t (PutStated old a b at then is) = whole
        where
          fits : kind_of_body old.body ≡ kind.Revision
          fits = (stands kind.Revision v (state_at j n) old at).fits

          new : ObjectStatus
          new = revision_status old.meta.stamp.generation (reported_of (state_at j e.seen) old)

          status : status_of o.body ≡ timed (status_of old.body) (revision_status old.meta.stamp.generation (reported_of (state_at j e.seen) old)) e.read_at
          status = ap (λ (z : Object). status_of z.body) is
              ∙ status-with_status (timed (status_of old.body) (revision_status_in (state_at j e.seen) old) e.read_at) old.body (λ q. let z = sym fits ∙ q in cc, λ q. let z = sym fits ∙ q in cc)

          told : (name : CondName)
              → has_condition name truth.True o ≡ says name truth.True (revision_status old.meta.stamp.generation (reported_of (state_at j e.seen) old)).conditions
          told name = ap (λ (z : ObjectStatus). says name truth.True z.conditions) status
              ∙ says-timed name truth.True (status_of old.body).conditions (revision_status old.meta.stamp.generation (reported_of (state_at j e.seen) old)).conditions e.read_at

          ever : ever_of (reported_of (state_at j e.seen) old) ≡ true
          ever =
              (let health = reported_at (state_at j e.seen) v old then in
              ap ever_of health
              ∙ (was e.seen b).both v old.meta.stamp.uid (ap says_ready (sym health) ∙ ready_is old.meta.stamp.generation (reported_of (state_at j e.seen) old) (sym (told condition.Ready) ∙ t)))

          whole : has_been_ready o ≡ true
          whole = told condition.HasBeenReady ∙ been_is old.meta.stamp.generation (reported_of (state_at j e.seen) old) ∙ ever

  reported_upto : (n : ℕ) → n ≤ length j → (m : ℕ) → m ≤ n → IsWellReported j m
  unfolding standing
  reported_upto zero len m le =
      subst (IsWellReported j) (let e : 0 ≡ m = omega arith in e) (record { ever = λ v uid h. absurd (false≢true h); both = λ v uid h. absurd (false≢true h); been = λ v o h t. absurd cc; ready = λ v o h t. absurd cc })
  reported_upto (suc n) len m le = go (at_end m n le) (reported_upto n (omega arith)) (get_some j n (omega arith))
    where
      go : (m ≡ suc n) ⊎ (m ≤ n) → ((m : ℕ) → m ≤ n → IsWellReported j m) → ((e : ObjectEntry) × (slice_get j n ≡ Some e)) → IsWellReported j m
      go (inr l) ih x = ih m l
      go (inl q) ih (e, g) = subst (IsWellReported j) (sym q) (record {
        ever = ever_step n e g (ih n (omega arith));
        both = both_step n e g (ih n (omega arith));
        been = λ v o at t. ap ever_of (reported_at (state_at j (suc n)) v o at) ∙ been_step n e g ih v o at t;
        ready = ready_step n e g ih;
      })

  -- reports stand behind readiness
  pub well_reported : (n : ℕ) → n ≤ length j → IsWellReported j n
  well_reported n len = reported_upto n len n (omega arith)
