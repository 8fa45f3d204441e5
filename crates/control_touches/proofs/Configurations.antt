-- What is due to a Configuration stays, where no entry touches it.
use Rattle.std.proofs.Common.{◌≡◌, ℕ, Bool, false, ◌&&◌, not, List, Option, Some, None, refl, sym, ap, ◌∙◌, subst}
use Rattle.std.specs.Prelude.{◌==◌}
use Rattle.resource_types.specs.declared.names.Kind.TheVariants as kind
use Rattle.resource_types.specs.declared.names.Controller.TheVariants as controller
use Rattle.resource_types.specs.declared.names.Key.{Key}
use Rattle.resource_types.specs.declared.names.Name.{Name}
use Rattle.resource_types.specs.declared.metadata.Owner.{Owner}
use Rattle.resource_types.specs.declared.objects.Object.{Object}
use Rattle.resource_types.specs.Objects.{has_been_ready, is_of}
use Rattle.resource_types.specs.Lookups.{State, find, key_of, is_given, is_owned_by, owner_stands, latest_created}
use Rattle.resource_types.proofs.Exact.{left}
use Rattle.control_rules.specs.Standing.{key_at, standing, is_orphan}
use Rattle.control_rules.specs.Collection.{latest_been}
use Rattle.control_rules.specs.Statuses.{child_of, configuration_status}
use Rattle.control_rules.specs.Readings.{stored_status, revision_name, simple_name_of}
use Rattle.control_rules.specs.Differences.{ObjectPlan, first_plan, when, given, missing, creation, removal, status_change}
use Rattle.control_rules.specs.NextConfiguration.{made_revision, configuration_next}
use Rattle.control_rules.specs.FurtherFacts.{IsServed}
use Rattle.control_rules.specs.Slots.{ObjectEntry, slot_key}
use Rattle.control_entries.proofs.Standing.{stands}
use Rattle.control_touches.specs.Touches.{touches, touches_configuration, is_touched_by}
use Rattle.control_touches.specs.Named.{AreNamed}
use Rattle.control_touches.proofs.Paths.{after, ArePuts}
use Rattle.control_touches.proofs.Own.{or_left, or_right, one_is, find_kept, stands_kept}
use Rattle.control_touches.proofs.Freedom.{second_false}
use Rattle.control_touches.proofs.Under.{under_by, under, latest_kept}

-- what is due to the Configuration that stands, by what is read for it
abbrev due : ℕ → Object → Bool → Option Object → Option Object → Option Object → Option ObjectPlan
due now c orphan child created ready =
    first_plan (when orphan (removal c))
    (first_plan (missing child (creation (made_revision c)))
    (status_change c (configuration_status c.meta.stamp.generation (simple_name_of created) (simple_name_of ready) (revision_name c).name (child_of stored_status c child)) now))

abbrev rest : State → ℕ → Object → Option ObjectPlan
rest st now c = due now c (is_orphan st c) (standing kind.Revision (revision_name c) st) (latest_created st c) (latest_been has_been_ready st c)

-- ---- owners

-- the owner is the Service of the name, and is found so
pub served_key : (n : Name) (o : Object) → IsServed o → o.key.name ≡ n → (w : Owner) → o.meta.owner ≡ Some w → key_of w.kind o.key.name.space w.name ≡ key_at kind.Service n
served_key n o served at w e =
    (λ i. key_of ((served w e).0 i) o.key.name.space ((served w e).1 i)) ∙ ap (key_at kind.Service) at

pub orphan_kept : (a b : State) (n : Name) (o : Object) → IsServed o → o.key.name ≡ n → find (key_at kind.Service n) a ≡ find (key_at kind.Service n) b → is_orphan a o ≡ is_orphan b o
unfolding is_orphan
orphan_kept a b n o served at same = go o.meta.owner refl
  where
    go : (w : Option Owner) → o.meta.owner ≡ w → is_given (λ (w : Owner). not (owner_stands a o.key.name.space w)) w ≡ is_given (λ (w : Owner). not (owner_stands b o.key.name.space w)) w
    go None e = refl
    go (Some w) e =
        ap (λ (x : Option Object). not (is_given (λ (p : Object). is_of w.kind p && (p.meta.stamp.uid == w.uid)) x))
        (subst (λ k. find k a ≡ find k b) (sym (served_key n o served at w e)) same)

module _ (b st : State) (es : List ObjectEntry) (puts : ArePuts es) (n : Name) (named : AreNamed st) (now_named : AreNamed (after st es)) (calm : is_touched_by b st es (slot_key controller.Configuration n) ≡ false) where
  off : (k : Key) (old new : Option Object) → touches b k old new (slot_key controller.Configuration n) ≡ false → under n k ≡ false
  unfolding touches touches_configuration
  off k old new t = second_false _ _ t

  stand : standing kind.Configuration n (after st es) ≡ standing kind.Configuration n st
  unfolding touches touches_configuration
  stand = stands_kept b st es puts _ calm kind.Configuration n (λ old new. or_left _ _ (one_is _ kind.Configuration n refl))

  service : find (key_at kind.Service n) (after st es) ≡ find (key_at kind.Service n) st
  unfolding touches touches_configuration
  service = find_kept b st es puts _ calm (key_at kind.Service n) (λ old new. or_left _ _ (one_is _ kind.Service n refl))

  child : (c : Object) → standing kind.Configuration n st ≡ Some c → standing kind.Revision (revision_name c) (after st es) ≡ standing kind.Revision (revision_name c) st
  unfolding touches touches_configuration revision_name
  child c e =
      stands_kept b st es puts _ calm kind.Revision (revision_name c)
      (λ old new. or_right _ _ (under_by n (key_at kind.Revision (revision_name c)) refl (ap (λ (k : Key). k.name.space) (stands kind.Configuration n st c e).key) (named.current n c e)))

  pub configuration_kept : (now : ℕ) → configuration_next (after st es) n now ≡ configuration_next st n now
  unfolding configuration_next given
  configuration_kept now = go (standing kind.Configuration n st) refl
    where
      go : (o : Option Object) → standing kind.Configuration n st ≡ o → configuration_next (after st es) n now ≡ configuration_next st n now
      go None e = ap (λ o. given o (rest (after st es) now)) (stand ∙ e) ∙ ap (λ o. given o (rest st now)) (sym e)
      go (Some c) e =
          let at : c.key.name ≡ n = ap (λ (k : Key). k.name) (stands kind.Configuration n st c e).key in
          ap (λ o. given o (rest (after st es) now)) (stand ∙ e)
          ∙ (λ i. due now c (orphan_kept (after st es) st n c (named.served n c e) at service i) (child c e i)
          (latest_kept b st es puts _ calm n named now_named off c at (is_owned_by c) (λ v t. t) i)
          (latest_kept b st es puts _ calm n named now_named off c at (λ v. is_owned_by c v && has_been_ready v) (λ v t. left (is_owned_by c v) (has_been_ready v) t) i))
          ∙ ap (λ o. given o (rest st now)) (sym e)
