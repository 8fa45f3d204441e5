-- Why a Revision is removed, and what it is to be free and in use.
use Rattle.std.proofs.Common.{◌≡◌, ℕ, ◌+◌, ◌≤◌, Bool, true, false, List, [], ◌∷◌, Some, None, refl, sym, ap, ◌∙◌, subst}
use Rattle.std.specs.Prelude.{slice_get, ◌&&◌, ◌||◌, not}
use Rattle.version_store.specs.Apply.{object_after}
use Rattle.version_store.specs.declared.write.Change.{Change}
use Rattle.version_store.specs.declared.write.Change.TheVariants.{Put}
use Rattle.resource_types.specs.declared.names.Kind.TheVariants as kind
use Rattle.resource_types.specs.declared.names.Name.{Name}
use Rattle.resource_types.specs.declared.objects.Object.{Object}
use Rattle.resource_types.specs.declared.manifests.Manifest.{Manifest}
use Rattle.resource_types.specs.contracts.item.ObjectItem.TheImpl as object_item
use Rattle.resource_types.specs.Objects.{is_of, pins_of, has_been_ready}
use Rattle.resource_types.specs.Lookups.{Journal, State, find, is_empty, is_given, is_target, is_free, is_latest_of, is_in_use}
use Rattle.control_rules.specs.declared.settings.Settings.{Settings}
use Rattle.control_rules.specs.Standing.{key_at, standing, is_orphan}
use Rattle.control_rules.specs.Collection.{is_candidate}
use Rattle.control_rules.specs.Differences.{ObjectPlan}
use Rattle.control_rules.specs.Slots.{ObjectEntry, state_at}
use Rattle.control_rules.specs.Lawful.{IsUnguarded, IsLawful}
use Rattle.resource_types.proofs.Exact.{left, right}
use Rattle.control_entries.proofs.Tests.{not_true, or_false, kind_same, name_same, not_false}
use Rattle.control_entries.proofs.Standing.{Stands, stands, is_of_both}
use Rattle.control_entries.proofs.Deeds.{RevisionDeed, RevisionMade, RevisionStated, RevisionOrphaned, RevisionCollected, RevisionPinned, RevisionUnpinned}
use Rattle.control_entries.proofs.Planned.{chosen_is}
use Rattle.control_entries.proofs.Entries.{acted_same, EntryOn, Acted, Other, entry_on}

-- a free Revision that stands has no pins, and no target names it
pub free_parts : (st : State) (v : Name) (o : Object) → standing kind.Revision v st ≡ Some o → is_free st v ≡ true
    → (pins_of o.body ≡ []) × (is_target st v ≡ false)
free_parts st v o h t = (empty (pins_of o.body) (right (is_of kind.Revision o) _ (left _ _ here)), not_true (right (is_of kind.Revision o && is_empty (pins_of o.body)) _ here))
  where
    s : Stands kind.Revision v st o
    s = stands kind.Revision v st o h

    here : ((is_of kind.Revision o && is_empty (pins_of o.body)) && not (is_target st v)) ≡ true
    here = subst (λ w. is_given (λ (r : Object). (is_of kind.Revision r && is_empty (pins_of r.body)) && not (is_target st v)) w ≡ true) s.found t

    empty : (ps : List (List ℕ)) → is_empty ps ≡ true → ps ≡ []
    empty [] e = refl
    empty (p ∷ ps) e = absurd cc

-- a Revision that stands and isn't in use is free, and no latest one of its owner
pub unused_parts : (st : State) (v : Name) (o : Object) → standing kind.Revision v st ≡ Some o → is_in_use st v ≡ false
    → (is_free st v ≡ true) × (is_given (is_latest_of st v) o.meta.owner ≡ false)
unused_parts st v o h t = (not_false (or_false here).0, (or_false here).1)
  where
    s : Stands kind.Revision v st o
    s = stands kind.Revision v st o h

    whole : (is_of kind.Revision o && (not (is_free st v) || is_given (is_latest_of st v) o.meta.owner)) ≡ false
    whole = subst (λ w. is_given (λ (r : Object). is_of kind.Revision r && (not (is_free st v) || is_given (is_latest_of st v) r.meta.owner)) w ≡ false) s.found t

    here : (not (is_free st v) || is_given (is_latest_of st v) o.meta.owner) ≡ false
    here = subst (λ b. (b && (not (is_free st v) || is_given (is_latest_of st v) o.meta.owner)) ≡ false) (is_of_both kind.Revision o (kind_same s.key) s.fits) whole

-- Why a Revision is removed: a client asked, and it isn't in use; or its owner was gone when its controller looked; or the Collector chose it.
pub data RevisionRemoval (j : Journal) (n : ℕ) (e : ObjectEntry) (v : Name) (o : Object) : Type 0 where
  RemovedByClient : is_free (state_at j n) v ≡ true → is_given (is_latest_of (state_at j n) v) o.meta.owner ≡ false → RevisionRemoval j n e v o
  RemovedOrphan : e.seen ≤ n → standing kind.Revision v (state_at j e.seen) ≡ Some o → is_orphan (state_at j e.seen) o ≡ true
      → is_free (state_at j e.seen) v ≡ true → IsUnguarded j e.seen n → RevisionRemoval j n e v o
  RemovedCollected : (m : Name) (c : Object) → e.seen ≤ n → standing kind.Configuration m (state_at j e.seen) ≡ Some c
      → standing kind.Revision v (state_at j e.seen) ≡ Some o
      → is_candidate has_been_ready (state_at j e.seen) c o ≡ true → IsUnguarded j e.seen n → RevisionRemoval j n e v o

module _ {is_good : Manifest → Bool} {settings : Settings} {j : Journal} (lawful : IsLawful is_good settings j) where
  -- what is removed stands, and is removed for one of these reasons
  pub revision_removal : (n : ℕ) (e : ObjectEntry) → slice_get j n ≡ Some e → (v : Name) → e.key ≡ key_at kind.Revision v → e.object ≡ None
      → (o : Object) × (standing kind.Revision v (state_at j n) ≡ Some o) × (RevisionRemoval j n e v o)
  revision_removal n e g v k h = go (entry_on lawful n e g kind.Revision v k)
    where
      go : EntryOn kind.Revision is_good settings j n e v
          → (o : Object) × (standing kind.Revision v (state_at j n) ≡ Some o) × (RevisionRemoval j n e v o)
      go (Other p) =
          (let name : e.key.name ≡ v = name_same k in
          let at : standing kind.Revision v (state_at j n) ≡ Some p.object = subst (λ z. standing kind.Revision z (state_at j n) ≡ Some p.object) name p.stands in
          let (free, past) = unused_parts (state_at j n) v p.object at (subst (λ z. is_in_use (state_at j n) z ≡ false) name p.unused) in
          (p.object, at, RemovedByClient free past))
      go (Acted slot q d x) = deed x
        where
          same : standing kind.Revision v (state_at j n) ≡ standing kind.Revision v (state_at j e.seen)
          same = acted_same d kind.Revision v k

          put : (p : Object) (plan : ObjectPlan) → d.plan ≡ plan → plan.change ≡ Put p → ⊥
          put p plan s c =
              (let z : None ≡ object_after object_item.ghosts (find d.plan.key (state_at j n)) (n + 1) (Put p) e.moment = sym h ∙ d.object ∙ ap (λ (x : Change Object). object_after object_item.ghosts (find d.plan.key (state_at j n)) (n + 1) x e.moment) (ap (λ (z : ObjectPlan). z.change) s ∙ c) in cc)

          guarded : (plan : ObjectPlan) → d.plan ≡ plan → plan.guarded ≡ true → IsUnguarded j e.seen n
          guarded plan s c = d.guard (ap (λ (z : ObjectPlan). z.guarded) s ∙ c)

          deed : RevisionDeed settings (state_at j e.seen) e.read_at slot v d.plan
              → (o : Object) × (standing kind.Revision v (state_at j n) ≡ Some o) × (RevisionRemoval j n e v o)
          deed (RevisionMade m c s at named absent p) = absurd (put _ _ p refl)
          deed (RevisionStated old s at t p) = absurd (put _ _ p refl)
          deed (RevisionOrphaned old s at t f p) = (old, same ∙ at, RemovedOrphan d.before at t f (guarded _ p refl))
          deed (RevisionCollected m c old s at stands t p) =
              (old, same ∙ stands, RemovedCollected m c d.before at stands (chosen_is has_been_ready settings.gc (state_at j e.seen) c e.read_at old t).0 (guarded _ p refl))
          deed (RevisionPinned r old ms s near at own all lacks p) = absurd (put _ _ p refl)
          deed (RevisionUnpinned r old s near at spare p) = absurd (put _ _ p refl)
