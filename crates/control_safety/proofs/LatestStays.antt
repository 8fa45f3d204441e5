-- While a Configuration stands, the generations of its latest created and its latest ready Revision don't fall.
use Rattle.std.proofs.Common.{◌≡◌, ◌⊎◌, inl, inr, ℕ, suc, ◌≤◌, Bool, true, false, length, Option, Some, None, refl, sym, ap, ◌∙◌, subst, arith}
use Rattle.std.specs.Prelude.{slice_get, ◌&&◌}
use Rattle.std.proofs.lemmas.Bool.{or_left, or_right}
use Rattle.resource_types.specs.declared.names.Kind.TheVariants as kind
use Rattle.resource_types.specs.declared.names.Name.{Name}
use Rattle.resource_types.specs.declared.conditions.CondName.TheVariants as condition
use Rattle.resource_types.specs.declared.conditions.Truth.TheVariants as truth
use Rattle.resource_types.specs.declared.status.ObjectStatus.{ObjectStatus}
use Rattle.resource_types.specs.declared.objects.Object.{Object}
use Rattle.resource_types.specs.declared.manifests.Manifest.{Manifest}
use Rattle.resource_types.specs.Objects.{kind_of_body, generation_of, status_of, has_been_ready}
use Rattle.resource_types.specs.Lookups.{Journal, find, is_owned_by, latest_created, latest_ready, is_latest, latest}
use Rattle.control_rules.specs.declared.settings.Settings.{Settings}
use Rattle.control_rules.specs.Standing.{beside, key_at, standing}
use Rattle.control_rules.specs.Statuses.{reported_of, ever_of}
use Rattle.control_rules.specs.Readings.{revision_status_in}
use Rattle.control_rules.specs.Differences.{timed}
use Rattle.control_rules.specs.Slots.{ObjectEntry, state_at}
use Rattle.control_rules.specs.Lawful.{IsLawful}
use Rattle.control_rules.specs.Safe.{IsUnused, RemovesUnused}
use Rattle.control_rules.specs.Facts.{generation_if}
use Rattle.control_entries.proofs.Tests.{some_same, both, not_both, key_of_kind, kind_same, name_same}
use Rattle.control_entries.proofs.Lists.{get_below}
use Rattle.resource_types.proofs.Exact.{left, right}
use Rattle.control_entries.proofs.Standing.{stands}
use Rattle.control_entries.proofs.Positions.{ordered_at, at_standing, untouched}
use Rattle.control_entries.proofs.Bodies.{status-with_status, status-with_pins}
use Rattle.control_entries.proofs.Puts.{RevisionPut, PutMade, PutStated, PutPinned, PutUnpinned, revision_put}
use Rattle.control_entries.proofs.Sound.{standing_at, put_there}
use Rattle.control_safety.proofs.Owners.{revision_over}
use Rattle.control_safety.proofs.Reports.{says, says-timed, been_is, well_reported}
use Rattle.control_safety.proofs.Owned.{Owns, owns, owned_same, owned_as, latest_is, latest_least, owned_revision, called_self}

module _ {is_good : Manifest → Bool} {settings : Settings} {j : Journal} (lawful : IsLawful is_good settings j) where
  -- a Revision that was ready once stays so
  ready_over : (n : ℕ) (e : ObjectEntry) → n ≤ length j → (v : Name) (old o : Object) → RevisionPut j n e v o
      → standing kind.Revision v (state_at j n) ≡ Some old → has_been_ready old ≡ true → has_been_ready o ≡ true
  ready_over n e len v old o (PutMade m c a b at named none is) h t = absurd cc
  ready_over n e len v old o (PutPinned r p a b near at lacks is) h t =
      ap (λ (z : ObjectStatus). says condition.HasBeenReady truth.True z.conditions) (ap (λ (z : Object). status_of z.body) is ∙ status-with_pins _ _ p.body) ∙ ap has_been_ready (some_same (sym at ∙ h)) ∙ t
  ready_over n e len v old o (PutUnpinned r p a b near at spare is) h t =
      ap (λ (z : ObjectStatus). says condition.HasBeenReady truth.True z.conditions) (ap (λ (z : Object). status_of z.body) is ∙ status-with_pins _ _ p.body) ∙ ap has_been_ready (some_same (sym at ∙ h)) ∙ t
  ready_over n e len v old o (PutStated p a b at then is) h t =
      (let fits = (stands kind.Revision v (state_at j n) p at).fits in
      let ever : ever_of (reported_of (state_at j e.seen) p) ≡ true = (well_reported lawful e.seen (omega arith)).been v p then (ap has_been_ready (some_same (sym at ∙ h)) ∙ t) in
      ap (λ (z : ObjectStatus). says condition.HasBeenReady truth.True z.conditions)
      (ap (λ (z : Object). status_of z.body) is ∙ status-with_status (timed (status_of p.body) (revision_status_in (state_at j e.seen) p) e.read_at) p.body (λ q. let z = sym fits ∙ q in cc, λ q. let z = sym fits ∙ q in cc))
      ∙ says-timed condition.HasBeenReady truth.True (status_of p.body).conditions (revision_status_in (state_at j e.seen) p).conditions e.read_at
      ∙ been_is p.meta.stamp.generation (reported_of (state_at j e.seen) p) ∙ ever)

  -- what stands of a Revision after an entry: it is removed, or keeps its key, its owner and its generation, and having been ready
  pub record IsKeptRevision (n : ℕ) (w : Object) (o : Object) : Type 0 where
    pub found : find w.key (state_at j (suc n)) ≡ Some o
    pub key : o.key ≡ w.key
    pub fits : kind_of_body o.body ≡ kind.Revision
    pub owner : o.meta.owner ≡ w.meta.owner
    pub generation : generation_of o.body ≡ generation_of w.body
    pub ready : has_been_ready w ≡ true → has_been_ready o ≡ true

  pub revision_after : (n : ℕ) (e : ObjectEntry) → slice_get j n ≡ Some e → (v : Name) (w : Object) → standing kind.Revision v (state_at j n) ≡ Some w
      → ((e.key ≡ key_at kind.Revision v) × (e.object ≡ None)) ⊎ ((o : Object) × IsKeptRevision n w o)
  revision_after n e g v w at = go (standing kind.Revision v (state_at j (suc n))) refl
    where
      len : n ≤ length j
      len = (let b = get_below j n e g in omega arith)

      key : w.key ≡ key_at kind.Revision v
      key = (stands kind.Revision v (state_at j n) w at).key

      kept : (o : Object) → standing kind.Revision v (state_at j (suc n)) ≡ Some o
          → (o.meta.owner ≡ w.meta.owner) × (generation_of o.body ≡ generation_of w.body) × (has_been_ready w ≡ true → has_been_ready o ≡ true)
          → IsKeptRevision n w o
      kept o s h = (let now = stands kind.Revision v (state_at j (suc n)) o s in record {
        found = subst (λ k. find k (state_at j (suc n)) ≡ Some o) (sym key) now.found;
        key = now.key ∙ sym key;
        fits = now.fits;
        owner = h.0;
        generation = h.1;
        ready = h.2;
      })

      go : (x : Option Object) → standing kind.Revision v (state_at j (suc n)) ≡ x
          → ((e.key ≡ key_at kind.Revision v) × (e.object ≡ None)) ⊎ ((o : Object) × IsKeptRevision n w o)
      go x s = at_standing j lawful.stamps n e g kind.Revision v (λ y. y ≡ x → ((e.key ≡ key_at kind.Revision v) × (e.object ≡ None)) ⊎ ((o : Object) × IsKeptRevision n w o))
          (λ k q. new k e.object refl)
          (λ apart q. inr (w, kept w (untouched j lawful.stamps n e g kind.Revision v apart ∙ at) (refl, refl, λ t. t)))
          s
        where
          new : e.key ≡ key_at kind.Revision v → (y : Option Object) → e.object ≡ y
              → ((e.key ≡ key_at kind.Revision v) × (e.object ≡ None)) ⊎ ((o : Object) × IsKeptRevision n w o)
          new k None h = inl (k, h)
          new k (Some o) h =
              (let put : RevisionPut j n e v o = revision_put lawful n e g v k o h in
              let over = revision_over lawful n e v w o put at in
              inr (
                o,
                kept o (put_there lawful n e g kind.Revision v o k h)
                    (over.0, over.1, λ t. ready_over n e len v w o put at t),
              ))

  -- ---- one entry, where it removes unused Revisions alone

  module _ (n : ℕ) (e : ObjectEntry) (g : slice_get j n ≡ Some e) (unused : RemovesUnused j n) (k : Name) (c d : Object) (at : standing kind.Configuration k (state_at j n) ≡ Some c)
      (key : c.key ≡ d.key) (uid : c.meta.stamp.uid ≡ d.meta.stamp.uid) where
    -- a latest one isn't removed
    not_removed : (v : Name) (w : Object) → standing kind.Revision v (state_at j n) ≡ Some w → is_owned_by c w ≡ true
        → is_latest (state_at j n) w.key.name.name c ≡ true → e.key ≡ key_at kind.Revision v → e.object ≡ None → ⊥
    not_removed v w now own last p h = not_both last (past (name_same (sym (stands kind.Revision v (state_at j n) w now).key)))
      where
        free : IsUnused (state_at j n) v
        free = subst (λ z. IsUnused (state_at j n) z) (name_same p) (unused e g (kind_same p) h)

        o : Owns c w
        o = owns c w own

        ck : c.key.name ≡ k
        ck = name_same (stands kind.Configuration k (state_at j n) c at).key

        past : v ≡ w.key.name → is_latest (state_at j n) w.key.name.name c ≡ false
        past s = subst (λ (z : Name). is_latest (state_at j n) z.name c ≡ false) s (free.past k.name c (subst (λ z. standing kind.Configuration z (state_at j n) ≡ Some c) place at))
          where
            place : k ≡ beside v k.name
            place = λ i. record { space = (ap (λ (z : Name). z.space) (sym ck) ∙ sym o.space ∙ ap (λ (z : Name). z.space) (sym s)) i; name = k.name }

    -- So it stays, with its generation, or a later one comes: of the Revisions that count for c, where those that c owns count for d as they did.
    latest_step : (counts newly : Object → Bool) → ((r : Object) → counts r ≡ true → is_owned_by c r ≡ true)
        → ((r : Object) → newly r ≡ true → is_owned_by d r ≡ true)
        → ((w : Object) → latest counts (state_at j n) ≡ Some w → is_latest (state_at j n) w.key.name.name c ≡ true)
        → ((w o : Object) → IsKeptRevision n w o → counts w ≡ true → is_owned_by d o ≡ true → newly o ≡ true)
        → generation_if (latest counts (state_at j n)) ≤ generation_if (latest newly (state_at j (suc n)))
    latest_step counts newly owned owned_newly last stay = go (latest counts (state_at j n)) refl
      where
        go : (x : Option Object) → latest counts (state_at j n) ≡ x
            → generation_if (latest counts (state_at j n)) ≤ generation_if (latest newly (state_at j (suc n)))
        go None s = (let z = ap generation_if s in omega arith)
        go (Some w) s = from (revision_after n e g w.key.name w now)
          where
            first : (find w.key (state_at j n) ≡ Some w) × (w.key.kind ≡ kind.Revision) × (counts w ≡ true)
            first = latest_is counts (λ r t. owned_revision c r (owned r t)) (state_at j n) (ordered_at j n) w s

            now : standing kind.Revision w.key.name (state_at j n) ≡ Some w
            now = standing_at lawful n (let b = get_below j n e g in omega arith) kind.Revision w.key.name w (subst (λ z. find z (state_at j n) ≡ Some w) (key_of_kind w.key kind.Revision first.1) first.0)

            from : ((e.key ≡ key_at kind.Revision w.key.name) × (e.object ≡ None)) ⊎ ((o : Object) × IsKeptRevision n w o)
                → generation_if (latest counts (state_at j n)) ≤ generation_if (latest newly (state_at j (suc n)))
            from (inl (p, h)) = absurd (not_removed w.key.name w now (owned w first.2) (last w s) p h)
            from (inr (o, x)) =
                (let own : is_owned_by d o ≡ true = sym (owned_same c d o key uid) ∙ owned_as c w o x.key x.fits x.owner (owned w first.2) in
                let le = latest_least newly (λ r t. owned_revision d r (owned_newly r t)) (state_at j (suc n)) (ordered_at j (suc n)) o w.key x.found first.1 (stay w o x first.2 own) in
                let q = x.generation in let z = ap generation_if s in omega arith)

    pub created_step : generation_if (latest_created (state_at j n) c) ≤ generation_if (latest_created (state_at j (suc n)) d)
    created_step = latest_step (is_owned_by c) (is_owned_by d) (λ r t. t) (λ r t. t) (λ w s. or_left _ _ (called_self w _ s)) (λ w o x t own. own)

    pub ready_step : generation_if (latest_ready (state_at j n) c) ≤ generation_if (latest_ready (state_at j (suc n)) d)
    ready_step =
        latest_step (λ r. is_owned_by c r && has_been_ready r) (λ r. is_owned_by d r && has_been_ready r) (λ r t. left _ _ t) (λ r t. left _ _ t) (λ w s. or_right _ _ (called_self w _ s))
        (λ w o x t own. both own (x.ready (right (is_owned_by c w) _ t)))
