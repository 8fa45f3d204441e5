-- A plane stays kept through each of its events, so each plane that is reached is kept.
use Rattle.std.proofs.Common.{◌≡◌, ◌≢◌, ◌⊎◌, inl, inr, ℕ, ◌+◌, ◌≤◌, Bool, true, [], ◌∷◌, ◌++◌, length, Option, Some, None, refl, sym, ap, ◌∙◌, subst, arith}
use Rattle.std.specs.Prelude.{is_some}
use Rattle.version_store.specs.declared.write.Change.{Change}
use Rattle.version_store.specs.declared.write.Change.TheVariants.{Put, Remove}
use Rattle.version_store.specs.declared.write.Applied.{Applied}
use Rattle.version_store.specs.declared.write.Applied.TheVariants as applied
use Rattle.version_store.specs.declared.write.Expect.{Expect}
use Rattle.version_store.specs.declared.write.Expect.TheVariants as expect
use Rattle.version_store.specs.Apply.{IsMakeable, IsNoRemovalOfNothing, object_after, with_entry}
use Rattle.version_store.proofs.Growth.{state_at-all, state_at-grows, grows_by}
use Rattle.version_store.proofs.Step.{put_stamped}
use Rattle.resource_types.specs.declared.names.Kind.{Kind}
use Rattle.resource_types.specs.declared.names.Kind.TheVariants as kind
use Rattle.resource_types.specs.declared.names.Key.{Key}
use Rattle.resource_types.specs.declared.names.SlotKey.{SlotKey}
use Rattle.resource_types.specs.declared.names.Actor.{Actor}
use Rattle.resource_types.specs.declared.names.Actor.TheVariants as actor
use Rattle.resource_types.specs.declared.objects.Object.{Object}
use Rattle.resource_types.specs.declared.manifests.Manifest.{Manifest}
use Rattle.resource_types.specs.contracts.names.KeyOrd.TheImpl as key_order
use Rattle.resource_types.specs.contracts.item.ObjectItem.TheImpl as object_item
use Rattle.resource_types.specs.ItemLaws.{stamp_alone_of, spec_equivalence_of}
use Rattle.resource_types.specs.Objects.{same_kind, is_of_client, kind_of_body}
use Rattle.resource_types.specs.Manifests.{client_kind}
use Rattle.resource_types.specs.Lookups.{find, state}
use Rattle.resource_types.proofs.Exact.{kind-own}
use Rattle.control_rules.specs.declared.settings.Settings.{Settings}
use Rattle.control_rules.specs.declared.slots.Report.{Report}
use Rattle.control_rules.specs.Standing.{key_at, standing}
use Rattle.control_rules.specs.Differences.{ObjectPlan}
use Rattle.control_rules.specs.Slots.{ObjectEntry, state_at, Plane, present, new_plane, answer_in, entry_in, last_in, newest_in}
use Rattle.control_rules.specs.Steps.{after_write, present_write, client_write_of, health_of, report_plan, report_on, report_of}
use Rattle.control_rules.specs.Lawful.{PutsObject, RemovesObject, RemovesRevision, Reports, MayPut, MayRemove, MayChange, MayWrite, IsLawfulAs, IsLawful}
use Rattle.control_rules.specs.Facts.{IsKept}
use Rattle.control_rules.specs.Events.{Happens, Moves, Sets, Writes, Hears, Steps, Points, Drops, Leads, Stands, Goes, IsReached, Works, Rests, ThenSteps, ThenPoints, ThenDrops}
use Rattle.control_rules.proofs.KeptPlanes.{points_kept, moves_kept, drops_kept}
use Rattle.control_entries.proofs.Tests.{both}
use Rattle.control_entries.proofs.Standing.{found_key, standing_found}
use Rattle.control_entries.proofs.Made.{removed_stands, done_expected, done_changes}
use Rattle.control_entries.proofs.LawfulEntries.{lawful_push}
use Rattle.control_entries.proofs.Fitting.{lawful_fits}
use Rattle.control_entries.proofs.KeptEntries.{kept_more}
use Rattle.control_entries.proofs.KeptSteps.{step_kept}

-- ---- a write of a client or a reporter at the present moment

put_removes_none : (e : Expect) (o : Object) → IsNoRemovalOfNothing e (Put o)
put_removes_none expect.Absent o = tt
put_removes_none (expect.At v) o = tt

-- an object of a kind that clients write
client_of : (o : Object) (k : Kind) → o.key.kind ≡ k → kind_of_body o.body ≡ k → is_some (client_kind k) ≡ true → is_of_client o ≡ true
client_of o kind.Service e f h = rw (e, f) refl
client_of o kind.Configuration e f h = rw (e, f) refl
client_of o kind.Route e f h = rw (e, f) refl
client_of o kind.Revision e f h = absurd cc
client_of o kind.Health e f h = absurd cc
client_of o kind.Table e f h = absurd cc

module _ (is_good : Manifest → Bool) (w : Plane) (k : IsKept is_good w) where
  module _ (by : Actor) (plan : ObjectPlan) (makeable : IsMakeable (λ (o : Object). o.key) plan) (other : (key : SlotKey) → by ≢ actor.Controller key) where
    abbrev made : ObjectEntry
    made = entry_in w.journal (present_write w by plan)

    here : state w.journal ≡ state_at (w.journal ++ made ∷ []) (length w.journal)
    here = sym (state_at-all (λ (o : Object). o.key) key_order.ghosts.cmp w.journal)
        ∙ sym (state_at-grows (λ (o : Object). o.key) key_order.ghosts.cmp w.journal (w.journal ++ made ∷ []) (length w.journal) (grows_by w.journal (made ∷ [])) (omega arith))

    -- where the entry is lawful, if it is made, the plane stays kept
    present_kept :
        ((version : ℕ) → answer_in w.journal (present_write w by plan) ≡ applied.Done version → IsLawfulAs is_good w.settings by (w.journal ++ made ∷ []) (length w.journal) made)
        → IsKept is_good (after_write w (present_write w by plan))
    present_kept lawful = go (answer_in w.journal (present_write w by plan)) refl
      where
        go : (a : Applied) → answer_in w.journal (present_write w by plan) ≡ a → IsKept is_good (record w { journal = with_entry a w.journal made })
        go (applied.Done version) e = kept_more w made w.slots refl is_good k
            (lawful_push w.journal made is_good w.settings k.lawful k.past
            (put_stamped object_item.ghosts stamp_alone_of spec_equivalence_of (find plan.key (state w.journal)) (length w.journal + 1) plan.key plan.change w.now makeable.key)
            (done_changes (find plan.key (state w.journal)) (length w.journal + 1) (last_in w.journal plan.key) (newest_in w.journal) (length w.journal) version plan.guarded
            plan.expect plan.change w.now (applied.Done (length w.journal + 1)) makeable.removal e)
            (lawful version e))
            k.ordered (λ q l f. (k.slots q l f, other l.key))
        go (applied.Same version) e = k
        go (applied.Stale newer) e = k
        go (applied.Exists version) e = k
        go (applied.Absent last) e = k

  -- ---- clients

  abbrev client_entry : ObjectPlan → ObjectEntry
  client_entry plan = entry_in w.journal (present_write w actor.Client plan)

  puts_object : (plan : ObjectPlan) (o : Object) → plan.change ≡ Put o → MayPut is_good (present w) plan.key o
      → PutsObject is_good (present w) (client_entry plan)
  puts_object plan o e h = record {
    object = _;
    puts = ap (λ c. object_after object_item.ghosts (find plan.key (present w)) (length w.journal + 1) c w.now) e;
    client = h.client;
    good = h.good;
    owner = h.owner;
    status = h.status;
  }

  client_kind_of : (key : Key) (o : Object) → find key (present w) ≡ Some o → is_some (client_kind key.kind) ≡ true → is_of_client o ≡ true
  client_kind_of key o e h = client_of o key.kind (ap (λ (z : Key). z.kind) (found_key key (present w) o e)) (fits key o e) h
    where
      fits : (q : Key) (x : Object) → find q (present w) ≡ Some x → kind_of_body x.body ≡ q.kind
      fits q x f = lawful_fits is_good w.settings w.journal k.lawful (length w.journal) (omega arith) q x
          (ap (find q) (state_at-all (λ (z : Object). z.key) key_order.ghosts.cmp w.journal) ∙ f)

  revision_of : (key : Key) (o : Object) → find key (present w) ≡ Some o → key.kind ≡ kind.Revision
      → standing kind.Revision key.name (present w) ≡ Some o
  revision_of key o e h = standing_found kind.Revision key.name (present w) o (sym (ap (λ q. find q (present w)) own) ∙ e)
      (both
      (ap (λ z. same_kind z kind.Revision) (ap (λ (z : Key). z.kind) (found_key key (present w) o e) ∙ h) ∙ kind-own kind.Revision)
      (ap (λ z. same_kind z kind.Revision) (fits ∙ h) ∙ kind-own kind.Revision))
    where
      own : key ≡ key_at kind.Revision key.name
      own = λ i. record { kind = h i; name = key.name }

      fits : kind_of_body o.body ≡ key.kind
      fits = lawful_fits is_good w.settings w.journal k.lawful (length w.journal) (omega arith) key o
          (ap (find key) (state_at-all (λ (z : Object). z.key) key_order.ghosts.cmp w.journal) ∙ e)

  removes : (plan : ObjectPlan) → plan.change ≡ Remove → (x : Object) × (find plan.key (present w) ≡ Some x) → MayRemove (present w) plan.key
      → RemovesObject (present w) (client_entry plan) ⊎ RemovesRevision (present w) (client_entry plan)
  removes plan e x (inl client) = inl (record {
    object = x.0;
    removes = ap (λ c. object_after object_item.ghosts (find plan.key (present w)) (length w.journal + 1) c w.now) e;
    stands = x.1;
    client = client_kind_of plan.key x.0 x.1 client;
  })
  removes plan e x (inr h) = inr (record {
    object = x.0;
    removes = ap (λ c. object_after object_item.ghosts (find plan.key (present w)) (length w.journal + 1) c w.now) e;
    key = λ i. record { kind = h.0 i; name = plan.key.name };
    stands = revision_of plan.key x.0 x.1 h.0;
    unused = h.1;
  })

  client_writes : (plan : ObjectPlan) → MayWrite is_good (present w) plan → (version : ℕ)
      → answer_in w.journal (present_write w actor.Client plan) ≡ applied.Done version
      → PutsObject is_good (present w) (client_entry plan) ⊎ (RemovesObject (present w) (client_entry plan) ⊎ RemovesRevision (present w) (client_entry plan))
  client_writes plan may version done = go plan.change refl may.change may.makeable.removal
    where
      go : (c : Change Object) → plan.change ≡ c → MayChange is_good (present w) plan.key c → IsNoRemovalOfNothing plan.expect c
          → PutsObject is_good (present w) (client_entry plan) ⊎ (RemovesObject (present w) (client_entry plan) ⊎ RemovesRevision (present w) (client_entry plan))
      go (Put o) e h r = inl (puts_object plan o e h)
      go Remove e h r = inr
          (removes plan e (removed_stands plan.expect (find plan.key (present w)) (last_in w.journal plan.key) r
          (done_expected plan.expect (find plan.key (present w)) (last_in w.journal plan.key) version _ _ _ done)) h)

  pub client_kept : (plan : ObjectPlan) → MayWrite is_good (present w) plan → IsKept is_good (client_write_of w plan).plane
  client_kept plan may = present_kept actor.Client plan may.makeable (λ key e. cc)
      (λ version done. (
        record { seen = refl; read_at = refl },
        subst (λ st. PutsObject is_good st (client_entry plan) ⊎ (RemovesObject st (client_entry plan) ⊎ RemovesRevision st (client_entry plan)))
            (here actor.Client plan may.makeable (λ key e. cc)) (client_writes plan may version done),
      ))

  -- ---- reports

  report_kept_on : (report : Report) (v : Option Object) → standing kind.Revision report.revision (present w) ≡ v
      → IsKept is_good (report_on w report v).plane
  report_kept_on report None e = k
  report_kept_on report (Some v) e = present_kept actor.Reporter plan makeable (λ key e. cc)
      (λ version done. (
        record { seen = refl; read_at = refl },
        subst (λ st. Reports st (entry_in w.journal (present_write w actor.Reporter plan))) (here actor.Reporter plan makeable (λ key e. cc)) reports,
      ))
    where
      plan : ObjectPlan
      plan = report_plan report v (find (key_at kind.Health report.revision) (present w))

      makeable : IsMakeable (λ (o : Object). o.key) plan
      makeable = record {
        key = refl;
        removal = put_removes_none plan.expect (health_of report.revision v.meta.stamp.uid report.resources report.container (find (key_at kind.Health report.revision) (present w)));
      }

      reports : Reports (present w) (entry_in w.journal (present_write w actor.Reporter plan))
      reports = record { revision = v; resources = report.resources; container = report.container; stamp = _; key = refl; stands = e; puts = refl }

  pub report_kept : (report : Report) → IsKept is_good (report_of w report).plane
  unfolding report_of
  report_kept report = report_kept_on report (standing kind.Revision report.revision (present w)) refl

-- ---- settings, before the first entry

module _ (is_good : Manifest → Bool) where
  pub sets_kept : (w : Plane) (settings : Settings) → w.journal ≡ [] → IsKept is_good w → IsKept is_good (record w { settings = settings })
  sets_kept w settings empty k = record {
    lawful = subst (IsLawful is_good settings) (sym empty) (record { moments = λ i e f a b. absurd cc; stamps = tt; changes = λ n e a. absurd cc; entries = λ n e a. absurd cc });
    past = k.past;
    clock = k.clock;
    ordered = k.ordered;
    slots = λ q l e. let h = k.slots q l e in absurd (none h.some (subst (λ j. l.seen ≤ length j) empty h.before));
  }
    where
      none : {n : ℕ} → 1 ≤ n → n ≤ 0 → ⊥
      none a b = omega arith

  -- ---- all events

  pub happens_kept : (w v : Plane) → IsKept is_good w → Happens is_good w v → IsKept is_good v
  happens_kept w v k (Moves now le clock) = moves_kept is_good w now le clock k
  happens_kept w v k (Sets settings empty) = sets_kept w settings empty k
  happens_kept w v k (Writes plan may) = client_kept is_good w k plan may
  happens_kept w v k (Hears report) = report_kept is_good w k report
  happens_kept w v k (Steps key) = step_kept is_good w key k
  happens_kept w v k (Points cursor) = points_kept is_good w cursor k
  happens_kept w v k (Drops key) = drops_kept is_good w key k

  pub new_kept : (settings : Settings) → IsKept is_good (new_plane settings)
  new_kept settings = record {
    lawful = record { moments = λ i e f a b. absurd cc; stamps = tt; changes = λ n e a. absurd cc; entries = λ n e a. absurd cc };
    past = omega arith;
    clock = omega arith;
    ordered = tt;
    slots = λ q l e. absurd cc;
  }

  pub leads_kept : (w v : Plane) → IsKept is_good w → Leads is_good w v → IsKept is_good v
  leads_kept w v k Stands = k
  leads_kept w v k (Goes {v = x} leads happens) = happens_kept x v (leads_kept w x k leads) happens

  -- each plane that is reached is kept
  pub reached_kept : (w : Plane) → IsReached is_good w → IsKept is_good w
  reached_kept w r = leads_kept (new_plane r.0) w (new_kept r.0) r.1

  -- what is left of turns and of automatic steps where memory ran out
  pub works_kept : (w v : Plane) → IsKept is_good w → Works w v → IsKept is_good v
  works_kept w v k Rests = k
  works_kept w v k (ThenSteps {v = x} works key) = step_kept is_good x key (works_kept w x k works)
  works_kept w v k (ThenPoints {v = x} works cursor) = points_kept is_good x cursor (works_kept w x k works)
  works_kept w v k (ThenDrops {v = x} works key) = drops_kept is_good x key (works_kept w x k works)
