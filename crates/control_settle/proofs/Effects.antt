-- What a round does to the state: nothing, or one of these effects.
use Rattle.std.proofs.Common.{◌≡◌, ◌≢◌, ℕ, suc, ◌+◌, Bool, true, false, List, length, Option, Some, None, refl, sym, ap, ◌∙◌, subst}
use Rattle.version_store.specs.Apply.{object_after, PutsItsKey}
use Rattle.version_store.specs.Journal.{next_stamp}
use Rattle.version_store.specs.declared.write.Change.TheVariants.{Put, Remove}
use Rattle.version_store.proofs.Keyed.{Puts}
use Rattle.resource_types.specs.declared.names.Kind.{Kind}
use Rattle.resource_types.specs.declared.names.Kind.TheVariants as kind
use Rattle.resource_types.specs.declared.names.Controller.{Controller}
use Rattle.resource_types.specs.declared.names.Controller.TheVariants as controller
use Rattle.resource_types.specs.declared.names.Name.{Name}
use Rattle.resource_types.specs.declared.names.SlotKey.{SlotKey}
use Rattle.resource_types.specs.declared.status.ObjectStatus.{ObjectStatus}
use Rattle.resource_types.specs.declared.objects.Body.{Body}
use Rattle.resource_types.specs.declared.objects.Body.TheVariants.{Configuration, Route}
use Rattle.resource_types.specs.declared.objects.Object.{Object}
use Rattle.resource_types.specs.contracts.item.ObjectItem.TheImpl as object_item
use Rattle.resource_types.specs.Objects.{no_status, has_been_ready, pins_of, status_of, targets_of}
use Rattle.resource_types.specs.Spec.{stamped}
use Rattle.resource_types.specs.Lookups.{Journal, State, state, find}
use Rattle.resource_types.proofs.Ordered.{state-order}
use Rattle.control_rules.specs.declared.settings.Settings.{Settings}
use Rattle.control_rules.specs.Standing.{beside, key_at, standing, is_orphan, is_owned_by_uid, template_of, with_template, with_targets, with_status, with_pins}
use Rattle.control_rules.specs.Resolution.{stored}
use Rattle.control_rules.specs.Readings.{stored_status, revision_name, revision_status_in, configuration_status_in, route_status_in, service_status_in}
use Rattle.control_rules.specs.Differences.{ObjectPlan, new_object, owner_by, creation, replacement, removal, guarded_removal, timed, service_label, one_label, no_labels, when, same_untimed}
use Rattle.control_rules.specs.NextService.{converted, same_template, same_targets}
use Rattle.control_rules.specs.NextConfiguration.{made_revision}
use Rattle.control_rules.specs.NextRoute.{add_pin, drop_pin, table_of, published, same_body}
use Rattle.control_rules.specs.Next.{next_write}
use Rattle.control_rules.specs.Rounds.{extended, round_at}
use Rattle.control_rules.proofs.Makeable.{write_makeable}
use Rattle.control_settle.specs.Grounds.{IsSoundState, AreGrounds}
use Rattle.control_entries.proofs.Changes.{Change}
use Rattle.control_entries.proofs.Tests.{some_same}
use Rattle.control_entries.proofs.Standing.{stands}
use Rattle.control_entries.specs.Ground.{IsOrdered}
use Rattle.control_settle.proofs.Likeness.{rebodied}
use Rattle.control_settle.proofs.Members.{sound_none, sound_key, Going, Orphaned, Collected, chosen, PinChange, Adds, Drops, first_unpinned_is, first_spare_is}
use Rattle.control_settle.proofs.Deeds.{ServiceDeed, ConfigurationDeed, RevisionDeed, CollectorDeed, RouteDeed, Deed, MakesConfiguration, Respecifies, MakesRoute, Retargets, StatesService, RemovesConfiguration, MakesRevision, StatesConfiguration, RemovesRevision, StatesRevision, Collects, RemovesRoute, Unpublishes, Pins, Publishes, StatesRoute, Unpins, deed}
use Rattle.std.specs.Prelude.{not}
use Rattle.version_store.specs.declared.write.Change as store_change

-- an object that is made as the entry behind the first n, at the moment
abbrev pub born : ℕ → ℕ → Object → Object
born n now o = stamped o (next_stamp object_item.ghosts None o (n + 1) now)

-- the child that a Service makes
abbrev pub child_of_service : Name → Object → Kind → Body → Object
child_of_service m s made body = new_object (key_at made m) (Some (owner_by kind.Service s)) (one_label service_label m.name) no_labels body

-- a kind with a status
abbrev pub is_stated : Kind → Bool
is_stated kind.Service = true
is_stated kind.Configuration = true
is_stated kind.Revision = true
is_stated kind.Route = true
is_stated kind.Health = false
is_stated kind.Table = false

-- the status that is due
abbrev pub due_status : Settings → State → Kind → Name → Object → ObjectStatus
due_status settings st kind.Service m o = service_status_in stored_status stored_status st m o
due_status settings st kind.Configuration m o = configuration_status_in has_been_ready stored_status st o
due_status settings st kind.Revision m o = revision_status_in st o
due_status settings st kind.Route m o = route_status_in stored settings.domain st m o
due_status settings st kind.Health m o = no_status
due_status settings st kind.Table m o = no_status

-- who keeps the kind's status
abbrev pub keeper : Kind → Controller
keeper kind.Service = controller.Service
keeper kind.Configuration = controller.Configuration
keeper kind.Revision = controller.Revision
keeper kind.Route = controller.Route
keeper kind.Health = controller.Route
keeper kind.Table = controller.Route

-- the object with the status that is due, with its times
abbrev pub restated : Settings → ℕ → ℕ → State → Kind → Name → Object → Object
restated settings n now a k m o = rebodied n now o (with_status (timed (status_of o.body) (due_status settings a k m o) now) o.body)

pub data Effect (settings : Settings) (n now : ℕ) (c : Controller) (m : Name) (a b : State) : Type 0 where
  NewConfiguration : (s : Object) → c ≡ controller.Service → standing kind.Service m a ≡ Some s → standing kind.Configuration m a ≡ None
      → Change (key_at kind.Configuration m) (Some (born n now (child_of_service m s kind.Configuration (Configuration (template_of s.body) no_status)))) a b → Effect settings n now c m a b
  NewTemplate : (s o : Object) → c ≡ controller.Service → standing kind.Service m a ≡ Some s → standing kind.Configuration m a ≡ Some o → is_owned_by_uid s.meta.stamp.uid o ≡ true
      → same_template (template_of o.body) (template_of s.body) ≡ false → Change (key_at kind.Configuration m) (Some (rebodied n now o (with_template (template_of s.body) o.body))) a b → Effect settings n now c m a b
  NewRoute : (s : Object) → c ≡ controller.Service → standing kind.Service m a ≡ Some s → standing kind.Route m a ≡ None
      → Change (key_at kind.Route m) (Some (born n now (child_of_service m s kind.Route (Route (converted m s) no_status)))) a b → Effect settings n now c m a b
  NewTargets : (s o : Object) → c ≡ controller.Service → standing kind.Service m a ≡ Some s → standing kind.Route m a ≡ Some o → is_owned_by_uid s.meta.stamp.uid o ≡ true
      → same_targets (targets_of o.body) (converted m s) ≡ false → Change (key_at kind.Route m) (Some (rebodied n now o (with_targets (converted m s) o.body))) a b → Effect settings n now c m a b
  GoneConfiguration : (o : Object) → c ≡ controller.Configuration → standing kind.Configuration m a ≡ Some o → is_orphan a o ≡ true → Change (key_at kind.Configuration m) None a b → Effect settings n now c m a b
  GoneRoute : (o : Object) → c ≡ controller.Route → standing kind.Route m a ≡ Some o → is_orphan a o ≡ true → Change (key_at kind.Route m) None a b → Effect settings n now c m a b
  Restated : (k : Kind) (o : Object) → is_stated k ≡ true → c ≡ keeper k → standing k m a ≡ Some o → same_untimed (status_of o.body) (due_status settings a k m o) ≡ false
      → Change (key_at k m) (Some (restated settings n now a k m o)) a b → Effect settings n now c m a b
  NewRevision : (o : Object) → c ≡ controller.Configuration → standing kind.Configuration m a ≡ Some o → standing kind.Revision (revision_name o) a ≡ None
      → Change (key_at kind.Revision (revision_name o)) (Some (born n now (made_revision o))) a b → Effect settings n now c m a b
  GoneRevision : (w : Name) (v : Object) → c ≢ controller.Route → standing kind.Revision w a ≡ Some v → Going a w v → Change (key_at kind.Revision w) None a b → Effect settings n now c m a b
  Repinned : (w : Name) (v : Object) (ps : List (List ℕ)) (moment : Option ℕ) → c ≡ controller.Route → standing kind.Revision w a ≡ Some v → w.space ≡ m.space → PinChange m.name (pins_of v.body) ps
      → Change (key_at kind.Revision w) (Some (rebodied n now v (with_pins ps moment v.body))) a b → Effect settings n now c m a b
  GoneTable : (t : Object) → c ≡ controller.Route → standing kind.Table m a ≡ Some t → Change (key_at kind.Table m) None a b → Effect settings n now c m a b
  NewTable : (x : Object) → c ≡ controller.Route → Change (key_at kind.Table m) (Some x) a b → Effect settings n now c m a b

-- what a plan comes to, in a sound state
abbrev pub Written : ℕ → ℕ → ObjectPlan → State → State → Type 0
Written n now p a b = Change p.key (object_after object_item.ghosts (find p.key a) (n + 1) p.change now) a b

module _ (n now : ℕ) (a b : State) (sound : IsSoundState n a) where
  pub replaced : (k : Kind) (m : Name) (o : Object) (body : Body) (p : ObjectPlan) → standing k m a ≡ Some o → p ≡ replacement o body → Written n now p a b → Change (key_at k m) (Some (rebodied n now o body)) a b
  replaced k m o body p at e h =
      let key : o.key ≡ key_at k m = sound_key n a sound k m o at in
      let found : find o.key a ≡ Some o = ap (λ q. find q a) key ∙ (stands k m a o at).found in
      subst (λ q. Change q (Some (rebodied n now o body)) a b) key
      (subst (λ w. Change o.key (object_after object_item.ghosts w (n + 1) (Put (record { key = o.key; meta = o.meta; body = body })) now) a b) found
      (subst (λ z. Written n now z a b) e h))

  pub created : (k : Kind) (m : Name) (o : Object) (p : ObjectPlan) → o.key ≡ key_at k m → standing k m a ≡ None → p ≡ creation o → Written n now p a b → Change (key_at k m) (Some (born n now o)) a b
  created k m o p key none e h =
      let found : find o.key a ≡ None = ap (λ q. find q a) key ∙ sound_none n a sound k m none in
      subst (λ q. Change q (Some (born n now o)) a b) key
      (subst (λ w. Change o.key (object_after object_item.ghosts w (n + 1) (Put o) now) a b) found
      (subst (λ z. Written n now z a b) e h))

  pub removed : (k : Kind) (m : Name) (o : Object) (p : ObjectPlan) → standing k m a ≡ Some o → p ≡ removal o → Written n now p a b → Change (key_at k m) None a b
  removed k m o p at e h = subst (λ q. Change q None a b) (sound_key n a sound k m o at) (subst (λ z. Written n now z a b) e h)

  pub removed_guarded : (k : Kind) (m : Name) (o : Object) (p : ObjectPlan) → standing k m a ≡ Some o → p ≡ guarded_removal o → Written n now p a b → Change (key_at k m) None a b
  removed_guarded k m o p at e h = subst (λ q. Change q None a b) (sound_key n a sound k m o at) (subst (λ z. Written n now z a b) e h)

-- what is published is a Table of its name
pub record IsTableOf (n now : ℕ) (r : Name) (body : Body) (a b : State) : Type 0 where
  pub x : Object
  pub has : x.body ≡ body
  pub change : Change (key_at kind.Table r) (Some x) a b

pub published_is : (n now : ℕ) (a b : State) → IsSoundState n a → (r : Name) (t : Option Object) (body : Body) (p : ObjectPlan) → standing kind.Table r a ≡ t → published r t body ≡ Some p → Written n now p a b → IsTableOf n now r body a b
unfolding published when
published_is n now a b sound r None body p at e h =
    let o = new_object (key_at kind.Table r) None no_labels no_labels body in
    record { x = born n now o; has = refl; change = created n now a b sound kind.Table r o p refl at (sym (some_same e)) h }
published_is n now a b sound r (Some t) body p at e h = go (same_body t.body body) e
  where
    go : (z : Bool) → when (not z) (replacement t body) ≡ Some p → IsTableOf n now r body a b
    go true e = absurd cc
    go false e = record { x = rebodied n now t body; has = refl; change = replaced n now a b sound kind.Table r t body p at (sym (some_same e)) h }

module _ (settings : Settings) (n now : ℕ) (a b : State) (sound : IsSoundState n a) (order : IsOrdered a) where
  service_effect : (m : Name) (p : ObjectPlan) → ServiceDeed settings now a m p → Written n now p a b → Effect settings n now controller.Service m a b
  service_effect m p (MakesConfiguration s at none e) h = NewConfiguration s refl at none (created n now a b sound kind.Configuration m _ p refl none e h)
  service_effect m p (Respecifies s o at on owned differs e) h = NewTemplate s o refl at on owned differs (replaced n now a b sound kind.Configuration m o _ p on e h)
  service_effect m p (MakesRoute s at made specified none e) h = NewRoute s refl at none (created n now a b sound kind.Route m _ p refl none e h)
  service_effect m p (Retargets s o at made specified on owned differs e) h = NewTargets s o refl at on owned differs (replaced n now a b sound kind.Route m o _ p on e h)
  service_effect m p (StatesService s at made specified routed targeted differs e) h = Restated kind.Service s refl refl at differs (replaced n now a b sound kind.Service m s _ p at e h)

  configuration_effect : (m : Name) (p : ObjectPlan) → ConfigurationDeed settings now a m p → Written n now p a b → Effect settings n now controller.Configuration m a b
  configuration_effect m p (RemovesConfiguration o at gone e) h = GoneConfiguration o refl at gone (removed n now a b sound kind.Configuration m o p at e h)
  configuration_effect m p (MakesRevision o at kept none e) h = NewRevision o refl at none (created n now a b sound kind.Revision (revision_name o) _ p refl none e h)
  configuration_effect m p (StatesConfiguration o at kept made differs e) h = Restated kind.Configuration o refl refl at differs (replaced n now a b sound kind.Configuration m o _ p at e h)

  revision_effect : (m : Name) (p : ObjectPlan) → RevisionDeed settings now a m p → Written n now p a b → Effect settings n now controller.Revision m a b
  revision_effect m p (RemovesRevision v at gone free e) h = GoneRevision m v (λ q. cc) at (Orphaned gone free) (removed_guarded n now a b sound kind.Revision m v p at e h)
  revision_effect m p (StatesRevision v at differs e) h = Restated kind.Revision v refl refl at differs (replaced n now a b sound kind.Revision m v _ p at e h)

  collector_effect : (m : Name) (p : ObjectPlan) → CollectorDeed settings now a m p → Written n now p a b → Effect settings n now controller.Collector m a b
  collector_effect m p (Collects o v at is e) h = let w = chosen settings.gc a o v now order is in GoneRevision v.key.name v (λ q. cc) w.0 (Collected m o at w.1) (removed_guarded n now a b sound kind.Revision v.key.name v p w.0 e h)

  route_effect : (m : Name) (p : ObjectPlan) → RouteDeed settings now a m p → Written n now p a b → Effect settings n now controller.Route m a b
  route_effect m p (RemovesRoute o at gone e) h = GoneRoute o refl at gone (removed n now a b sound kind.Route m o p at e h)
  route_effect m p (Unpublishes t at foreign e) h = GoneTable t refl at (removed n now a b sound kind.Table m t p at e h)
  route_effect m p (Pins ms v own all lacks e) h =
      let l = first_unpinned_is a m ms v lacks in
      Repinned (beside m l.target.name) v (add_pin m.name (pins_of v.body)) _ refl l.stands refl (Adds refl) (replaced n now a b sound kind.Revision (beside m l.target.name) v _ p l.stands e h)
  route_effect m p (Publishes o ms own pinned at all e) h = let t = published_is n now a b sound m (standing kind.Table m a) (table_of m settings.domain o ms) p refl e h in NewTable t.x refl t.change
  route_effect m p (StatesRoute o own pinned level at differs e) h = Restated kind.Route o refl refl at differs (replaced n now a b sound kind.Route m o _ p at e h)
  route_effect m p (Unpins v own pinned level said spare e) h =
      let s = first_spare_is a m v order spare in
      Repinned v.key.name v (drop_pin m.name (pins_of v.body)) _ refl s.0 s.2 (Drops refl) (replaced n now a b sound kind.Revision v.key.name v _ p s.0 e h)

  pub effect : (c : Controller) (m : Name) (p : ObjectPlan) → Deed settings now a c m p → Written n now p a b → Effect settings n now c m a b
  effect controller.Service m p d h = service_effect m p d h
  effect controller.Configuration m p d h = configuration_effect m p d h
  effect controller.Revision m p d h = revision_effect m p d h
  effect controller.Collector m p d h = collector_effect m p d h
  effect controller.Route m p d h = route_effect m p d h

-- ---- rounds

module _ (settings : Settings) (now : ℕ) where
  -- a deed, and its effect
  pub record Act (n : ℕ) (key : SlotKey) (a b : State) : Type 0 where
    pub plan : ObjectPlan
    pub planned : next_write settings key a now ≡ Some plan
    pub deed : Deed settings now a key.controller key.name plan
    pub written : Written n now plan a b
    pub effect : Effect settings n now key.controller key.name a b
    pub before : IsSoundState n a
    pub after : IsSoundState (suc n) b
    pub order : IsOrdered a
    pub order_after : IsOrdered b

  pub data RoundOf (key : SlotKey) (j : Journal) : Type 0 where
    Rests : next_write settings key (state j) now ≡ None → round_at settings now key j ≡ j → RoundOf key j
    Acts : Act (length j) key (state j) (state (round_at settings now key j)) → RoundOf key j

  deed_of : (key : SlotKey) (st : State) (plan : ObjectPlan) → next_write settings key st now ≡ Some plan → Deed settings now st key.controller key.name plan
  unfolding next_write
  deed_of key st plan e = (deed settings now st key.controller key.name).says plan e

  put_key : (old : Option Object) (n : ℕ) (plan : ObjectPlan) → PutsItsKey (λ (o : Object). o.key) plan.key plan.change → Puts (λ (o : Object). o.key) plan.key (object_after object_item.ghosts old (n + 1) plan.change now)
  put_key old n plan h = go plan.change h
    where
      go : (c : store_change.Change Object) → PutsItsKey (λ (o : Object). o.key) plan.key c → Puts (λ (o : Object). o.key) plan.key (object_after object_item.ghosts old (n + 1) c now)
      go (Put o) h = h
      go Remove h = tt

  pub round_of : (Holds : Journal → Type 0) → AreGrounds settings now Holds → (key : SlotKey) (j : Journal) → Holds j → RoundOf key j
  unfolding round_at
  round_of Holds g key j h = go (next_write settings key (state j) now) refl
    where
      go : (p : Option ObjectPlan) → next_write settings key (state j) now ≡ p → RoundOf key j
      go None e = Rests e (ap (extended now j key) e)
      go (Some plan) e =
          let a = state j in
          let written : Written (length j) now plan a (state (round_at settings now key j)) = record {
            is = g.writes key j plan h e;
            puts = put_key (find plan.key a) (length j) plan (write_makeable settings key a now plan e).key;
            ordered = state-order j;
          } in
          let d = deed_of key a plan e in
          Acts (record {
            plan = plan;
            planned = e;
            deed = d;
            written = written;
            effect = effect settings (length j) now a (state (round_at settings now key j)) (g.sound j h) (state-order j) key.controller key.name plan d written;
            before = g.sound j h;
            after = subst (λ l. IsSoundState l (state (round_at settings now key j))) (g.longer key j plan h e) (g.sound (round_at settings now key j) (g.keeps key j h));
            order = state-order j;
            order_after = state-order (round_at settings now key j);
          })
