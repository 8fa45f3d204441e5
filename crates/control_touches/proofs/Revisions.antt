-- Nothing becomes due to a Revision that no entry touches.
use Rattle.std.proofs.Common.{◌≡◌, ℕ, Bool, true, false, ◌&&◌, not, List, Option, Some, None, refl, sym, ap, ◌∙◌, subst, arith}
use Rattle.std.proofs.lemmas.Bool.Decides.{nat_tests}
use Rattle.std.specs.Prelude.{◌==◌}
use Rattle.resource_types.specs.declared.names.Kind.TheVariants as kind
use Rattle.resource_types.specs.declared.names.Controller.TheVariants as controller
use Rattle.resource_types.specs.declared.names.Key.{Key}
use Rattle.resource_types.specs.declared.names.Name.{Name}
use Rattle.resource_types.specs.declared.metadata.Owner.{Owner}
use Rattle.resource_types.specs.declared.objects.Object.{Object}
use Rattle.resource_types.specs.Objects.{is_of}
use Rattle.resource_types.specs.Lookups.{State, find, key_of, is_given, owner_stands, is_free}
use Rattle.resource_types.proofs.Exact.{right}
use Rattle.control_rules.specs.Standing.{key_at, standing, is_orphan}
use Rattle.control_rules.specs.Statuses.{reported_in, reported_of, revision_status}
use Rattle.control_rules.specs.Differences.{ObjectPlan, first_plan, when, given, status_change}
use Rattle.control_rules.specs.NextRevision.{revision_orphaned, revision_status_differs, revision_next}
use Rattle.control_rules.specs.Slots.{ObjectEntry, slot_key}
use Rattle.control_entries.proofs.Tests.{and_false, not_false, bytes_self}
use Rattle.control_entries.proofs.Standing.{stands}
use Rattle.control_touches.specs.Touches.{is_one_of, is_under, is_configuration, is_lost, touches, touches_revision, is_touched_by}
use Rattle.control_touches.specs.Named.{AreNamed}
use Rattle.control_touches.proofs.Paths.{after, ArePuts}
use Rattle.control_touches.proofs.Own.{or_left, one_is, find_kept, stands_kept, holds_kept}
use Rattle.control_touches.proofs.Freedom.{free_kept, first_false, second_false}

-- ---- parts

pub when_none : (t : Bool) (p : ObjectPlan) → when t p ≡ None → t ≡ false
unfolding when
when_none true p e = absurd cc
when_none false p e = refl

pub none_when : (t : Bool) (p : ObjectPlan) → t ≡ false → when t p ≡ None
unfolding when
none_when true p e = absurd cc
none_when false p e = refl

pub first_none : (x y : Option ObjectPlan) → first_plan x y ≡ None → (x ≡ None) × (y ≡ None)
unfolding first_plan
first_none None y e = (refl, e)
first_none (Some p) y e = absurd cc

pub none_first : (x y : Option ObjectPlan) → x ≡ None → y ≡ None → first_plan x y ≡ None
unfolding first_plan
none_first None y e f = f
none_first (Some p) y e f = absurd cc

-- ---- the owner

-- an owner that stood stands, where no entry lost it
lost_not : (old new : Option Object) (uid : ℕ) → is_lost old new ≡ false → is_given (is_configuration uid) old ≡ true → is_given (is_configuration uid) new ≡ true
unfolding is_lost is_configuration
lost_not None new uid h t = absurd cc
lost_not (Some o) new uid h t =
    let u : o.meta.stamp.uid ≡ uid = same (o.meta.stamp.uid) uid (right (is_of kind.Configuration o) _ t) in
    subst (λ z. is_given (λ x. is_of kind.Configuration x && (x.meta.stamp.uid == z)) new ≡ true) u (not_false h)
  where
    same : (a b : ℕ) → (a == b) ≡ true → a ≡ b
    same a b e = grind (arith, nat_tests)

owner_is : (st : State) (space : List ℕ) (w : Owner) → w.kind ≡ kind.Configuration
    → owner_stands st space w ≡ is_given (is_configuration w.uid) (find (key_of kind.Configuration space w.name) st)
unfolding is_configuration
owner_is st space w e = λ i. is_given (λ o. is_of (e i) o && (o.meta.stamp.uid == w.uid)) (find (key_of (e i) space w.name) st)

-- the key of the Configuration that owns it
maker_is : (n : Name) (name : List ℕ) → is_under name n.name ≡ true → is_one_of kind.Configuration n.space (λ other. is_under other n.name) (key_of kind.Configuration n.space name) ≡ true
unfolding is_one_of
maker_is n name e = ap (λ t. t && is_under name n.name) (bytes_self n.space) ∙ e

-- what is due to the Revision that stands
abbrev rest : State → Name → ℕ → Object → Option ObjectPlan
rest st n now v = first_plan (revision_orphaned st n v) (revision_status_differs st v now)

and_less : (a b c d : Bool) → (a && b) ≡ false → (a ≡ false → c ≡ false) → d ≡ b → (c && d) ≡ false
and_less true b c d h f e = go c
  where
    go : (t : Bool) → (t && d) ≡ false
    go true = e ∙ h
    go false = refl
and_less false b c d h f e = ap (λ t. t && d) (f refl)

module _ (b st : State) (es : List ObjectEntry) (puts : ArePuts es) (n : Name) (named : AreNamed st) (now_named : AreNamed (after st es)) (calm : is_touched_by b st es (slot_key controller.Revision n) ≡ false) where
  stand : standing kind.Revision n (after st es) ≡ standing kind.Revision n st
  unfolding touches touches_revision
  stand = stands_kept b st es puts _ calm kind.Revision n (λ old new. or_left _ _ (one_is _ kind.Revision n refl))

  health : standing kind.Health n (after st es) ≡ standing kind.Health n st
  unfolding touches touches_revision
  health = stands_kept b st es puts _ calm kind.Health n (λ old new. or_left _ _ (one_is _ kind.Health n refl))

  free : is_free (after st es) n ≡ is_free st n
  unfolding touches touches_revision
  free = free_kept b st es puts _ calm named.ordered now_named.ordered n
      (find_kept b st es puts _ calm (key_at kind.Revision n) (λ old new. or_left _ _ (one_is _ kind.Revision n refl)))
      (λ k old new t. second_false _ _ (second_false _ _ t))

  owner : (w : Owner) → w.kind ≡ kind.Configuration → is_under w.name n.name ≡ true → owner_stands st n.space w ≡ true → owner_stands (after st es) n.space w ≡ true
  unfolding touches touches_revision
  owner w of under h =
      owner_is (after st es) n.space w of
      ∙ holds_kept b st es puts _ calm (λ o. is_given (is_configuration w.uid) o ≡ true) (key_of kind.Configuration n.space w.name)
      (λ old new t. lost_not old new w.uid (and_false _ _ (first_false _ _ (second_false _ _ t)) (maker_is n w.name under)))
      (sym (owner_is st n.space w of) ∙ h)

  -- one that is no orphan becomes none
  orphan_kept : (v : Object) → standing kind.Revision n st ≡ Some v → is_orphan st v ≡ false → is_orphan (after st es) v ≡ false
  unfolding is_orphan
  orphan_kept v e = go v.meta.owner refl
    where
      at : v.key ≡ key_at kind.Revision n
      at = (stands kind.Revision n st v e).key

      go : (o : Option Owner) → v.meta.owner ≡ o → is_given (λ (w : Owner). not (owner_stands st v.key.name.space w)) o ≡ false
          → is_given (λ (w : Owner). not (owner_stands (after st es) v.key.name.space w)) o ≡ false
      go None q h = refl
      go (Some w) q h =
          let facts = named.owned n v w e q in
          let stood : owner_stands st n.space w ≡ true = subst (λ (k : Key). owner_stands st k.name.space w ≡ true) at (not_false h) in
          subst (λ (k : Key). not (owner_stands (after st es) k.name.space w) ≡ false) (sym at) (ap not (owner w facts.0 facts.1 stood))

  told_kept : (v : Object) → standing kind.Revision n st ≡ Some v → reported_of (after st es) v ≡ reported_of st v
  unfolding reported_of
  told_kept v e =
      subst (λ (k : Key). reported_in v.meta.stamp.uid (standing kind.Health k.name (after st es)) ≡ reported_in v.meta.stamp.uid (standing kind.Health k.name st))
      (sym (stands kind.Revision n st v e).key) (ap (reported_in v.meta.stamp.uid) health)

  -- nothing becomes due
  pub revision_kept : (now : ℕ) → revision_next st n now ≡ None → revision_next (after st es) n now ≡ None
  unfolding revision_next given
  revision_kept now = go (standing kind.Revision n st) refl
    where
      go : (o : Option Object) → standing kind.Revision n st ≡ o → revision_next st n now ≡ None → revision_next (after st es) n now ≡ None
      go None e h = ap (λ o. given o (rest (after st es) n now)) (stand ∙ e)
      go (Some v) e h =
          let parts = first_none (revision_orphaned st n v) (revision_status_differs st v now) (sym (ap (λ o. given o (rest st n now)) e) ∙ h) in
          ap (λ o. given o (rest (after st es) n now)) (stand ∙ e)
          ∙ none_first (revision_orphaned (after st es) n v) (revision_status_differs (after st es) v now)
          (none_when _ _ (and_less _ _ _ _ (when_none _ _ parts.0) (orphan_kept v e) free))
          (ap (λ r. status_change v (revision_status v.meta.stamp.generation r) now) (told_kept v e) ∙ parts.1)
