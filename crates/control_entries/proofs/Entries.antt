-- What an entry of a lawful journal is, by its actor and by the kind of its key.
use Rattle.std.proofs.Common.{◌≡◌, ◌⊎◌, inl, inr, ℕ, ◌+◌, ◌≤◌, Bool, true, Some, None, refl, sym, ap, ◌∙◌, subst, arith}
use Rattle.std.specs.Prelude.{slice_get}
use Rattle.version_store.specs.Apply.{object_after}
use Rattle.version_store.specs.declared.write.Change.{Change}
use Rattle.version_store.specs.declared.write.Change.TheVariants.{Put, Remove}
use Rattle.version_store.specs.declared.item.Stamp.{Stamp}
use Rattle.version_store.specs.Journal.{next_stamp}
use Rattle.resource_types.specs.declared.names.Kind.{Kind}
use Rattle.resource_types.specs.declared.names.Kind.TheVariants as kind
use Rattle.resource_types.specs.declared.names.Name.{Name}
use Rattle.resource_types.specs.declared.names.Key.{Key}
use Rattle.resource_types.specs.declared.names.SlotKey.{SlotKey}
use Rattle.resource_types.specs.declared.names.Actor.{Actor}
use Rattle.resource_types.specs.declared.names.Actor.TheVariants.{Client, Reporter, Controller}
use Rattle.resource_types.specs.declared.objects.Object.{Object}
use Rattle.resource_types.specs.declared.manifests.Manifest.{Manifest}
use Rattle.resource_types.specs.contracts.item.ObjectItem.TheImpl as object_item
use Rattle.resource_types.specs.Objects.{is_of, is_of_client, kind_of_body}
use Rattle.resource_types.specs.Spec.{stamped}
use Rattle.resource_types.specs.Lookups.{Journal, find}
use Rattle.control_rules.specs.declared.settings.Settings.{Settings}
use Rattle.control_rules.specs.Standing.{key_at, standing}
use Rattle.control_rules.specs.Differences.{ObjectPlan}
use Rattle.control_rules.specs.Slots.{ObjectEntry, state_at}
use Rattle.control_rules.specs.Lawful.{moment_at, PutsObject, RemovesObject, RemovesRevision, Reports, IsAlone, IsUnguarded, Controls, IsLawfulAs, IsLawful}
use Rattle.control_entries.proofs.Tests.{some_same, or_cases, kind_same}
use Rattle.control_entries.proofs.Lists.{get_below}
use Rattle.control_entries.proofs.Standing.{found_key, is_of_parts, standing_same}
use Rattle.control_entries.proofs.Positions.{ordered_at}
use Rattle.control_entries.proofs.Stamps.{put_key, same_version}
use Rattle.control_entries.proofs.Deeds.{DeedOn, Deed}
use Rattle.control_entries.proofs.Planned.{planned_deed}

-- ---- kinds that clients write

abbrev pub IsClientKind : Kind → Type 0
IsClientKind k = (k ≡ kind.Service) ⊎ ((k ≡ kind.Configuration) ⊎ (k ≡ kind.Route))

pub client_parts : (o : Object) → is_of_client o ≡ true → (kind_of_body o.body ≡ o.key.kind) × IsClientKind o.key.kind
client_parts o h = go (or_cases h)
  where
    last : (is_of kind.Service o ≡ true) ⊎ (is_of kind.Configuration o ≡ true) → (kind_of_body o.body ≡ o.key.kind) × IsClientKind o.key.kind
    last (inl t) = let (a, b) = is_of_parts kind.Service o t in (b ∙ sym a, inl a)
    last (inr t) = let (a, b) = is_of_parts kind.Configuration o t in (b ∙ sym a, inr (inl a))

    go : ((Rattle.std.specs.Prelude.◌||◌ (is_of kind.Service o) (is_of kind.Configuration o)) ≡ true) ⊎ (is_of kind.Route o ≡ true)
        → (kind_of_body o.body ≡ o.key.kind) × IsClientKind o.key.kind
    go (inl t) = last (or_cases t)
    go (inr t) = let (a, b) = is_of_parts kind.Route o t in (b ∙ sym a, inr (inr a))

pub no_client_revision : {k : Kind} → IsClientKind k → k ≡ kind.Revision → ⊥
no_client_revision (inl a) h = cc
no_client_revision (inr (inl a)) h = cc
no_client_revision (inr (inr a)) h = cc

pub no_client_health : {k : Kind} → IsClientKind k → k ≡ kind.Health → ⊥
no_client_health (inl a) h = cc
no_client_health (inr (inl a)) h = cc
no_client_health (inr (inr a)) h = cc

pub no_client_table : {k : Kind} → IsClientKind k → k ≡ kind.Table → ⊥
no_client_table (inl a) h = cc
no_client_table (inr (inl a)) h = cc
no_client_table (inr (inr a)) h = cc

-- ---- what controllers write

-- A controller acts: it planned a deed in the state that it saw, and what stands under the key is what stood there then.
pub record Acts (settings : Settings) (j : Journal) (n : ℕ) (e : ObjectEntry) (slot : SlotKey) : Type 0 where
  pub plan : ObjectPlan
  pub deed : Deed settings (state_at j e.seen) e.read_at slot plan
  pub before : e.seen ≤ n
  pub from : moment_at j e.seen ≤ e.read_at
  pub upto : e.read_at ≤ moment_at j (e.seen + 1)
  pub key : e.key ≡ plan.key
  pub object : e.object ≡ object_after object_item.ghosts (find plan.key (state_at j n)) (n + 1) plan.change e.moment
  pub same : find e.key (state_at j n) ≡ find e.key (state_at j e.seen)
  pub alone : IsAlone j e.seen n slot
  pub guard : plan.guarded ≡ true → IsUnguarded j e.seen n

-- what a plan puts is put with a stamp
pub acted_put : {settings : Settings} {j : Journal} {n : ℕ} {e : ObjectEntry} {slot : SlotKey} (d : Acts settings j n e slot) (p o : Object)
    → d.plan.change ≡ Put p → e.object ≡ Some o → o ≡ stamped p o.meta.stamp
acted_put {j = j} {n = n} {e = e} d p o c h = same ∙ ap (stamped p) (sym (ap (λ (z : Object). z.meta.stamp) same))
  where
    s : Stamp
    s = next_stamp object_item.ghosts (find d.plan.key (state_at j n)) p (n + 1) e.moment

    same : o ≡ stamped p (next_stamp object_item.ghosts (find d.plan.key (state_at j n)) p (n + 1) e.moment)
    same = some_same (sym h ∙ d.object ∙ ap (λ (x : Change Object). object_after object_item.ghosts (find d.plan.key (state_at j n)) (n + 1) x e.moment) c)

pub acted_some : {settings : Settings} {j : Journal} {n : ℕ} {e : ObjectEntry} {slot : SlotKey} (d : Acts settings j n e slot) (p : Object)
    → d.plan.change ≡ Put p → (o : Object) × (e.object ≡ Some o) × (o ≡ stamped p o.meta.stamp)
acted_some {j = j} {n = n} {e = e} d p c = (stamped p (next_stamp object_item.ghosts (find d.plan.key (state_at j n)) p (n + 1) e.moment), is, acted_put d p _ c is)
  where
    is : e.object ≡ Some (stamped p (next_stamp object_item.ghosts (find d.plan.key (state_at j n)) p (n + 1) e.moment))
    is = d.object ∙ ap (λ (x : Change Object). object_after object_item.ghosts (find d.plan.key (state_at j n)) (n + 1) x e.moment) c

-- a plan that removes puts nothing
pub acted_removal : {settings : Settings} {j : Journal} {n : ℕ} {e : ObjectEntry} {slot : SlotKey} (d : Acts settings j n e slot) → d.plan.change ≡ Remove
    → e.object ≡ None
acted_removal {j = j} {n = n} {e = e} d c = d.object
    ∙ ap (λ (x : Change Object). object_after object_item.ghosts (find d.plan.key (state_at j n)) (n + 1) x e.moment) c

-- what stands under the entry's name stood there at the look
pub acted_same : {settings : Settings} {j : Journal} {n : ℕ} {e : ObjectEntry} {slot : SlotKey} (d : Acts settings j n e slot) (k : Kind) (v : Name)
    → e.key ≡ key_at k v → standing k v (state_at j n) ≡ standing k v (state_at j e.seen)
acted_same {j = j} {n = n} {e = e} d k v q = standing_same k v (state_at j n) (state_at j e.seen) (subst (λ z. find z (state_at j n) ≡ find z (state_at j e.seen)) q d.same)

-- ---- entries by kind

-- what a client writes on an object
pub data ClientEntry (is_good : Manifest → Bool) (j : Journal) (n : ℕ) (e : ObjectEntry) : Type 0 where
  ClientPuts : PutsObject is_good (state_at j n) e → ClientEntry is_good j n e
  ClientRemoves : RemovesObject (state_at j n) e → ClientEntry is_good j n e

-- what others than controllers write on an object of the kind
abbrev pub OtherOn : Kind → (Manifest → Bool) → Journal → ℕ → ObjectEntry → Type 0
OtherOn kind.Service is_good j n e = ClientEntry is_good j n e
OtherOn kind.Configuration is_good j n e = ClientEntry is_good j n e
OtherOn kind.Revision is_good j n e = RemovesRevision (state_at j n) e
OtherOn kind.Route is_good j n e = ClientEntry is_good j n e
OtherOn kind.Health is_good j n e = (e.actor ≡ Reporter) × Reports (state_at j n) e
OtherOn kind.Table is_good j n e = ⊥

-- an entry on an object of the kind, under the name: a controller's deed, or another's
pub data EntryOn (k : Kind) (is_good : Manifest → Bool) (settings : Settings) (j : Journal) (n : ℕ) (e : ObjectEntry) (v : Name) : Type 0 where
  Acted : (slot : SlotKey) → e.actor ≡ Controller slot → (d : Acts settings j n e slot)
      → DeedOn k settings (state_at j e.seen) e.read_at slot v d.plan → EntryOn k is_good settings j n e v
  Other : OtherOn k is_good j n e → EntryOn k is_good settings j n e v

client_on : {is_good : Manifest → Bool} {j : Journal} {n : ℕ} {e : ObjectEntry} (k : Kind) → IsClientKind k → ClientEntry is_good j n e
    → OtherOn k is_good j n e
client_on kind.Service c x = x
client_on kind.Configuration c x = x
client_on kind.Revision c x = absurd (no_client_revision c refl)
client_on kind.Route c x = x
client_on kind.Health c x = absurd (no_client_health c refl)
client_on kind.Table c x = absurd (no_client_table c refl)

module _ {is_good : Manifest → Bool} {settings : Settings} {j : Journal} (lawful : IsLawful is_good settings j) where
  pub acts_of : (n : ℕ) (e : ObjectEntry) → slice_get j n ≡ Some e → (slot : SlotKey) → Controls settings j n e slot → Acts settings j n e slot
  acts_of n e g slot c = record {
    plan = c.plan;
    deed = planned_deed settings (state_at j e.seen) e.read_at (ordered_at j e.seen) slot c.plan c.planned;
    before = c.before;
    from = c.from;
    upto = c.upto;
    key = c.key;
    object = c.object;
    same = same_version lawful e.seen n c.before (let b = get_below j n e g in omega arith) e.key c.looked;
    alone = c.alone;
    guard = c.guard;
  }

  -- what a client puts or removes is of a client's kind
  pub client_key : (n : ℕ) (e : ObjectEntry) → slice_get j n ≡ Some e → ClientEntry is_good j n e → IsClientKind e.key.kind
  client_key n e g (ClientPuts p) = subst (λ (k : Key). IsClientKind k.kind) (put_key lawful n e g p.object p.puts) (client_parts p.object p.client).1
  client_key n e g (ClientRemoves p) = subst (λ (k : Key). IsClientKind k.kind) (found_key e.key (state_at j n) p.object p.stands) (client_parts p.object p.client).1

  -- what an entry on the key is
  pub entry_on : (n : ℕ) (e : ObjectEntry) → slice_get j n ≡ Some e → (k : Kind) (v : Name) → e.key ≡ key_at k v → EntryOn k is_good settings j n e v
  entry_on n e g k v h = go e.actor refl (lawful.entries n e g)
    where
      client : ClientEntry is_good j n e → EntryOn k is_good settings j n e v
      client x = Other (client_on k (subst (λ (z : Key). IsClientKind z.kind) h (client_key n e g x)) x)

      go : (a : Actor) → e.actor ≡ a → IsLawfulAs is_good settings a j n e → EntryOn k is_good settings j n e v
      go Client q (_, inl p) = client (ClientPuts p)
      go Client q (_, inr (inl p)) = client (ClientRemoves p)
      go Client q (_, inr (inr p)) = Other (subst (λ z. OtherOn z is_good j n e) (kind_same (sym p.key ∙ h)) p)
      go Reporter q (_, p) = Other (subst (λ z. OtherOn z is_good j n e) (kind_same (sym p.key ∙ h)) (q, p))
      go (Controller slot) q c =
          (let d = acts_of n e g slot c in
          Acted slot q d (subst (λ (z : Key). DeedOn z.kind settings (state_at j e.seen) e.read_at slot z.name d.plan) (sym (d.key ∙ d.deed.key) ∙ h) d.deed.deed))

  -- a Health is written by a reporter alone
  pub health_entry : (n : ℕ) (e : ObjectEntry) → slice_get j n ≡ Some e → (v : Name) → e.key ≡ key_at kind.Health v
      → (e.actor ≡ Reporter) × Reports (state_at j n) e
  health_entry n e g v h = go (entry_on n e g kind.Health v h)
    where
      go : EntryOn kind.Health is_good settings j n e v → (e.actor ≡ Reporter) × Reports (state_at j n) e
      go (Acted slot q d x) = absurd x
      go (Other x) = x
