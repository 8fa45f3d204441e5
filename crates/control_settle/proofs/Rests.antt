-- What is so where a controller has nothing to write.
use Rattle.std.proofs.Common.{◌≡◌, ℕ, Bool, true, false, not, ◌&&◌, Option, Some, None, refl}
use Rattle.resource_types.specs.declared.names.Kind.TheVariants as kind
use Rattle.resource_types.specs.declared.names.Controller.TheVariants as controller
use Rattle.resource_types.specs.declared.names.Name.{Name}
use Rattle.resource_types.specs.declared.objects.Object.{Object}
use Rattle.resource_types.specs.Objects.{has_been_ready, status_of}
use Rattle.resource_types.specs.Lookups.{State}
use Rattle.control_rules.specs.declared.settings.Settings.{Settings}
use Rattle.control_rules.specs.Slots.{slot_key}
use Rattle.control_rules.specs.Standing.{standing, is_owned_by_uid, is_orphan, template_of}
use Rattle.control_rules.specs.Readings.{stored_status, revision_status_in, configuration_status_in, service_status_in}
use Rattle.control_rules.specs.Differences.{ObjectPlan, first_plan, when, given, missing, removal, same_untimed}
use Rattle.control_rules.specs.NextService.{same_template, configuration_missing, template_differs, route_missing, targets_differ, service_next}
use Rattle.control_rules.specs.NextConfiguration.{configuration_next, revision_missing}
use Rattle.control_rules.specs.NextRevision.{revision_next}
use Rattle.control_rules.specs.NextRoute.{route_orphaned, table_foreign, pin_lacking, table_differs, route_status_differs, pin_spare, route_next}
use Rattle.control_rules.specs.Next.{next_write}
use Rattle.control_entries.proofs.Tests.{not_false}
use Rattle.control_settle.proofs.Deeds.{when_none}
use Rattle.control_settle.proofs.Settled.{is_right, Child}

pub first_none : (x y : Option ObjectPlan) → first_plan x y ≡ None → (x ≡ None) × (y ≡ None)
unfolding first_plan
first_none None y e = (refl, e)
first_none (Some p) y e = absurd cc

pub given_none : {A : Type 0} (o : Option A) (f : A → Option ObjectPlan) (x : A) → o ≡ Some x → given o f ≡ None → f x ≡ None
unfolding given
given_none o f x e h = rw e at h

pub missing_none : (o : Option Object) (p : ObjectPlan) → missing o p ≡ None → (x : Object) × (o ≡ Some x)
unfolding missing
missing_none None p e = absurd cc
missing_none (Some x) p e = (x, refl)

-- ---- Services

pub record ServiceRests (st : State) (m : Name) (s : Object) : Type 0 where
  pub configured : configuration_missing st m s ≡ None
  pub specified : template_differs st m s ≡ None
  pub routed : route_missing st m s ≡ None
  pub targeted : targets_differ st m s ≡ None
  pub told : same_untimed (status_of s.body) (service_status_in stored_status stored_status st m s) ≡ true

pub service_rests : (settings : Settings) (now : ℕ) (st : State) (m : Name) (s : Object) → next_write settings (slot_key controller.Service m) st now ≡ None → standing kind.Service m st ≡ Some s → ServiceRests st m s
unfolding next_write service_next
service_rests settings now st m s e at =
    let one = first_none _ _ (given_none _ _ s at e) in
    let two = first_none _ _ one.1 in
    let three = first_none _ _ two.1 in
    let four = first_none _ _ three.1 in
    record { configured = one.0; specified = two.0; routed = three.0; targeted = four.0; told = not_false (when_none _ _ four.1) }

-- the Configuration of a Service
pub configuration_right : (st : State) (m : Name) (s : Object) → configuration_missing st m s ≡ None → template_differs st m s ≡ None → Child kind.Configuration st m s
configuration_right st m s made specified =
    let o = missing_none (standing kind.Configuration m st) _ made in
    record { object = o.0; stands = o.1; right = λ owned. go (is_owned_by_uid s.meta.stamp.uid o.0) (same_template (template_of o.0.body) (template_of s.body)) owned (when_none _ _ (given_none (standing kind.Configuration m st) _ o.0 o.1 specified)) }
  where
    go : (t u : Bool) → t ≡ true → (t && not u) ≡ false → u ≡ true
    go true u e h = not_false h
    go false u e h = absurd cc

-- its Route
pub route_right : (st : State) (m : Name) (s : Object) → route_missing st m s ≡ None → targets_differ st m s ≡ None → Child kind.Route st m s
route_right st m s made specified =
    let o = missing_none (standing kind.Route m st) _ made in
    record { object = o.0; stands = o.1; right = λ owned. go (is_owned_by_uid s.meta.stamp.uid o.0) (is_right kind.Route m s o.0) owned (when_none _ _ (given_none (standing kind.Route m st) _ o.0 o.1 specified)) }
  where
    go : (t u : Bool) → t ≡ true → (t && not u) ≡ false → u ≡ true
    go true u e h = not_false h
    go false u e h = absurd cc

-- ---- Configurations

pub record ConfigurationRests (st : State) (o : Object) : Type 0 where
  pub kept : is_orphan st o ≡ false
  pub made : revision_missing st o ≡ None
  pub told : same_untimed (status_of o.body) (configuration_status_in has_been_ready stored_status st o) ≡ true

pub configuration_rests : (settings : Settings) (now : ℕ) (st : State) (m : Name) (o : Object) → next_write settings (slot_key controller.Configuration m) st now ≡ None → standing kind.Configuration m st ≡ Some o → ConfigurationRests st o
unfolding next_write configuration_next
configuration_rests settings now st m o e at =
    let one = first_none _ _ (given_none _ _ o at e) in
    let two = first_none _ _ one.1 in
    record { kept = when_none _ _ one.0; made = two.0; told = not_false (when_none _ _ two.1) }

-- ---- Revisions

pub revision_rests : (settings : Settings) (now : ℕ) (st : State) (m : Name) (v : Object) → next_write settings (slot_key controller.Revision m) st now ≡ None → standing kind.Revision m st ≡ Some v → same_untimed (status_of v.body) (revision_status_in st v) ≡ true
unfolding next_write revision_next
revision_rests settings now st m v e at =
    let one = first_none _ _ (given_none _ _ v at e) in
    not_false (when_none _ _ one.1)

-- ---- Routes

pub record RouteRests (settings : Settings) (now : ℕ) (st : State) (r : Name) : Type 0 where
  pub kept : route_orphaned st r ≡ None
  pub own : table_foreign st r ≡ None
  pub pinned : pin_lacking st r now ≡ None
  pub level : table_differs settings.domain st r ≡ None
  pub said : route_status_differs settings.domain st r now ≡ None
  pub spared : pin_spare st r now ≡ None

pub route_rests : (settings : Settings) (now : ℕ) (st : State) (r : Name) → next_write settings (slot_key controller.Route r) st now ≡ None → RouteRests settings now st r
unfolding next_write route_next
route_rests settings now st r e =
    let one = first_none _ _ e in
    let two = first_none _ _ one.1 in
    let three = first_none _ _ two.1 in
    let four = first_none _ _ three.1 in
    let five = first_none _ _ four.1 in
    record { kept = one.0; own = two.0; pinned = three.0; level = four.0; said = five.0; spared = five.1 }

-- ---- a first difference

pub first_some : (x y : Option ObjectPlan) (p : ObjectPlan) → x ≡ Some p → first_plan x y ≡ Some p
unfolding first_plan
first_some None y p e = absurd cc
first_some (Some q) y p e = e

pub given_some : {A : Type 0} (o : Option A) (f : A → Option ObjectPlan) (x : A) (p : ObjectPlan) → o ≡ Some x → f x ≡ Some p → given o f ≡ Some p
unfolding given
given_some o f x p e h = rw e h

pub when_some : (t : Bool) (p : ObjectPlan) → t ≡ true → when t p ≡ Some p
unfolding when
when_some true p e = refl
when_some false p e = absurd cc

-- a Route that is an orphan goes
pub route_goes : (settings : Settings) (now : ℕ) (st : State) (r : Name) (o : Object) → standing kind.Route r st ≡ Some o → is_orphan st o ≡ true → next_write settings (slot_key controller.Route r) st now ≡ Some (removal o)
unfolding next_write route_next
route_goes settings now st r o at gone = first_some _ _ (removal o) (given_some (standing kind.Route r st) _ o (removal o) at (when_some _ (removal o) gone))
