-- Whatever stands in a lawful journal may be stored, and so may whatever its entries put.
use Rattle.std.proofs.Common.{◌≡◌, inl, inr, ℕ, zero, suc, ◌≤◌, length, Some, refl, sym, ap, ◌∙◌, subst, arith}
use Rattle.std.specs.Prelude.{slice_get}
use Rattle.resource_types.specs.declared.names.Kind.{Kind}
use Rattle.resource_types.specs.declared.names.Kind.TheVariants as kind
use Rattle.resource_types.specs.declared.names.Name.{Name}
use Rattle.resource_types.specs.declared.names.Key.{Key}
use Rattle.resource_types.specs.declared.objects.Object.{Object}
use Rattle.resource_types.specs.Spec.{stamped}
use Rattle.resource_types.specs.Lookups.{Journal, find}
use Rattle.control_rules.specs.declared.settings.Settings.{Settings}
use Rattle.control_rules.specs.Standing.{key_at, standing}
use Rattle.control_rules.specs.Differences.{ObjectPlan}
use Rattle.control_rules.specs.Slots.{ObjectEntry, Plane, state_at}
use Rattle.control_rules.specs.Facts.{IsKept, PlaneFacts}
use Rattle.control_rules.specs.Lawful.{Reports, IsLawful}
use Rattle.control_entries.proofs.Tests.{kind_same, some_same, key_of_kind}
use Rattle.control_entries.proofs.Lists.{get_some, get_below}
use Rattle.control_entries.proofs.Standing.{stands}
use Rattle.control_entries.proofs.Positions.{at_more}
use Rattle.control_entries.proofs.Deeds.{TableForeign, TableMade, TableReplaced}
use Rattle.control_entries.proofs.Entries.{IsClientKind, EntryOn, Acted, Other, acted_put, acted_removal, acted_same, entry_on, health_entry}
use Rattle.control_entries.proofs.Puts.{RevisionPut, PutMade, PutStated, PutPinned, PutUnpinned, revision_put}
use Rattle.control_entries.proofs.Sound.{put_there}
use Rattle.control_safety.proofs.Good.{client_from, are_good}
use Rattle.control_safety.proofs.Looking.{all_from}
use Rattle.control_safety.proofs.Theorems.{plane_facts}
use Rattle.manifest_intake.specs.Good.{is_good}
use Rattle.resource_codec.specs.Storable.{IsStorable, PutsStorable, AreStorable}
use Rattle.good_laws.proofs.Theorems.{good_laws}
use Rattle.good_laws.proofs.Storing.{revision_storable, stated_storable, pinned_storable, table_storable, tabled_storable, health_storable}
use Rattle.resource_codec.proofs.Storing.{stamped_storable}
use Rattle.manifest_intake.proofs.Storing.{client_storable}

-- what is another but for its stamp may be stored where that may
restamped : {o p : Object} → o ≡ stamped p o.meta.stamp → IsStorable p → IsStorable o
restamped {o = o} {p = p} is h = subst IsStorable (sym is) (stamped_storable p o.meta.stamp h)

module _ {settings : Settings} {j : Journal} (lawful : IsLawful is_good settings j) where
  -- what stands of a kind that clients write
  client_standing : (n : ℕ) → n ≤ length j → (k : Kind) (v : Name) (o : Object) → IsClientKind k → standing k v (state_at j n) ≡ Some o → IsStorable o
  client_standing n len k v o c h =
      (let is = client_from k v (state_at j n) o c h in
      client_storable o is (are_good good_laws lawful n len (key_at k v) o (stands k v (state_at j n) o h).found is))

  put_storable_at : (n : ℕ) (e : ObjectEntry) → slice_get j n ≡ Some e → ((k : Key) (p : Object) → find k (state_at j n) ≡ Some p → IsStorable p)
      → (o : Object) → e.object ≡ Some o → IsStorable o
  put_storable_at n e g before o h = go e.key.kind refl
    where
      len : n ≤ length j
      len = (let l = get_below j n e g in omega arith)

      -- what stood under the name
      old_standing : (k : Kind) (v : Name) (p : Object) → standing k v (state_at j n) ≡ Some p → IsStorable p
      old_standing k v p s = before (key_at k v) p (stands k v (state_at j n) p s).found

      client : (k : Kind) → IsClientKind k → e.key.kind ≡ k → IsStorable o
      client k c q = client_standing (suc n) (let l = get_below j n e g in omega arith) k e.key.name o c (put_there lawful n e g k e.key.name o (key_of_kind e.key k q) h)

      revision : (v : Name) → RevisionPut j n e v o → IsStorable o
      revision v (PutMade name c a b at named none is) =
          restamped is (revision_storable c (stands kind.Configuration name (state_at j e.seen) c at).fits (client_standing e.seen (let l = len in omega arith) kind.Configuration name c (inr (inl refl)) at))
      revision v (PutStated old a b at seen is) = restamped is (stated_storable old _ (old_standing kind.Revision v old at))
      revision v (PutPinned r old a b near at lacks is) = restamped is (pinned_storable old _ _ (old_standing kind.Revision v old at))
      revision v (PutUnpinned r old a b near at spare is) = restamped is (pinned_storable old _ _ (old_standing kind.Revision v old at))

      table : (r : Name) → e.key ≡ key_at kind.Table r → EntryOn kind.Table is_good settings j n e r → IsStorable o
      table r k (Other x) = absurd x
      table r k (Acted slot q d (TableForeign t s at f p)) = absurd (let z = acted_removal d (ap (λ (y : ObjectPlan). y.change) p) in cc)
      table r k (Acted slot q d (TableMade x ms s at all pinned none p)) =
          restamped (acted_put d _ o (ap (λ (y : ObjectPlan). y.change) p) h) (table_storable r _ refl)
      table r k (Acted slot q d (TableReplaced x t ms s at all pinned there f p)) =
          (let now = acted_same d kind.Table r k ∙ there in
          restamped (acted_put d _ o (ap (λ (y : ObjectPlan). y.change) p) h)
          (tabled_storable t _ refl (kind_same (stands kind.Table r (state_at j n) t now).key) (old_standing kind.Table r t now)))

      health : Reports (state_at j n) e → IsStorable o
      health r = subst IsStorable (some_same (sym r.puts ∙ h)) (stamped_storable _ r.stamp (health_storable e.key.name r.revision.meta.stamp.uid r.resources r.container (find e.key (state_at j n))))

      go : (k : Kind) → e.key.kind ≡ k → IsStorable o
      go kind.Service q = client kind.Service (inl refl) q
      go kind.Configuration q = client kind.Configuration (inr (inl refl)) q
      go kind.Route q = client kind.Route (inr (inr refl)) q
      go kind.Revision q = revision e.key.name (revision_put lawful n e g e.key.name (key_of_kind e.key kind.Revision q) o h)
      go kind.Table q = let key = key_of_kind e.key kind.Table q in table e.key.name key (entry_on lawful n e g kind.Table e.key.name key)
      go kind.Health q = health (health_entry lawful n e g e.key.name (key_of_kind e.key kind.Health q)).1

  -- whatever stands may be stored
  pub standing_storable : (n : ℕ) → n ≤ length j → (k : Key) (o : Object) → find k (state_at j n) ≡ Some o → IsStorable o
  standing_storable zero len k o h = absurd cc
  standing_storable (suc n) len k o h = go (get_some j n (omega arith)) (standing_storable n (omega arith))
    where
      go : ((e : ObjectEntry) × (slice_get j n ≡ Some e)) → ((k : Key) (p : Object) → find k (state_at j n) ≡ Some p → IsStorable p) → IsStorable o
      go (e, g) ih = at_more j lawful.stamps n e g k (λ w. w ≡ Some o → IsStorable o) (λ q s. put_storable_at n e g ih o s) (λ q s. ih k o s) h

  -- whatever an entry puts may be stored
  pub puts_storable : (n : ℕ) (e : ObjectEntry) → slice_get j n ≡ Some e → (o : Object) → e.object ≡ Some o → IsStorable o
  puts_storable n e g o h = put_storable_at n e g (standing_storable n (let l = get_below j n e g in omega arith)) o h

-- a plane that is kept is safe at every position, and whatever its journal holds may be stored
pub plane_is_safe : (w : Plane) → IsKept is_good w → PlaneFacts is_good w
plane_is_safe w k = plane_facts good_laws w k

pub plane_storable : (w : Plane) → IsKept is_good w → (n : ℕ) (e : ObjectEntry) → slice_get w.journal n ≡ Some e → (o : Object) → e.object ≡ Some o → IsStorable o
plane_storable w k n e g o h = puts_storable k.lawful n e g o h

-- so may its whole journal
pub journal_storable : (w : Plane) → IsKept is_good w → AreStorable w.journal
journal_storable w k = all_from PutsStorable w.journal (λ n e g o h. plane_storable w k n e g o h)
