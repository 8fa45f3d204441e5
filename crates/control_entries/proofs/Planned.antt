-- Whatever `next_write` plans is one of the deeds.
use Rattle.std.proofs.Common.{◌≡◌, ℕ, Bool, true, false, cond, List, [], ◌∷◌, Option, Some, None, refl, sym, ap, ◌∙◌, subst, suc}
use Rattle.std.specs.Prelude.{◌&&◌, map, slice_get, bytes_eq}
use Rattle.version_store.specs.Index.{AreInOrder}
use Rattle.resource_types.specs.declared.names.Kind.{Kind}
use Rattle.resource_types.specs.declared.names.Kind.TheVariants as kind
use Rattle.resource_types.specs.declared.names.Controller.{Controller}
use Rattle.resource_types.specs.declared.names.Controller.TheVariants as controller
use Rattle.resource_types.specs.declared.names.Name.{Name}
use Rattle.resource_types.specs.declared.names.SlotKey.{SlotKey}
use Rattle.resource_types.specs.declared.objects.Object.{Object}
use Rattle.resource_types.specs.contracts.names.KeyOrd.TheImpl as key_order
use Rattle.resource_types.specs.Objects.{is_of, pins_of, has_been_ready}
use Rattle.resource_types.specs.Lookups.{State, of_kind, is_owned_by, is_free, is_called, latest_created, find}
use Rattle.resource_types.specs.Lookups as lookups
use Rattle.resource_types.proofs.Exact.{bytes-exact, left, right}
use Rattle.resource_types.proofs.Latest.{key_of_object}
use Rattle.control_rules.specs.declared.settings.GcSettings.{GcSettings}
use Rattle.control_rules.specs.declared.settings.Settings.{Settings}
use Rattle.control_rules.specs.Standing.{beside, key_at, standing, listed}
use Rattle.control_rules.specs.Resolution.{Meant, stored}
use Rattle.std.specs.Option.{option_or}
use Rattle.control_rules.specs.Collection.{latest_been, is_candidate, candidates, candidate_of, collected_place, collection_choice}
use Rattle.control_rules.specs.Readings.{revision_name}
use Rattle.control_rules.specs.Differences.{ObjectPlan}
use Rattle.control_rules.specs.NextService.{service_next}
use Rattle.control_rules.specs.NextConfiguration.{configuration_next}
use Rattle.control_rules.specs.NextRevision.{revision_next}
use Rattle.control_rules.specs.NextCollector.{collector_next}
use Rattle.control_rules.specs.NextRoute.{unpinned, first_unpinned, is_spare, first_spare, assigned_at, published, table_of, pin_lacking, route_next}
use Rattle.control_rules.specs.Next.{next_of, next_write}
use Rattle.control_rules.specs.Slots.{slot_key}
use Rattle.control_rules.proofs.Plans.{IfPlanned, if_some, if_first, if_when, if_given, if_missing}
use Rattle.control_entries.proofs.Tests.{not_true, or_false}
use Rattle.control_entries.proofs.Lists.{filter_at, find_at}
use Rattle.control_entries.proofs.Standing.{stands, is_of_parts, standing_from, kind_at}
use Rattle.control_entries.proofs.Deeds.{ServiceStated, ConfigurationMade, ConfigurationTemplated, ConfigurationOrphaned, ConfigurationStated, RevisionMade, RevisionStated, RevisionOrphaned, RevisionCollected, RevisionPinned, RevisionUnpinned, RouteMade, RouteTargeted, RouteOrphaned, RouteStated, TableForeign, TableMade, TableReplaced, Deed, on}

-- a name in the same namespace
beside_is : (r v : Name) → v.space ≡ r.space → v ≡ beside r v.name
beside_is r v e = λ i. record { space = e i; name = v.name }

standing_key : (k : Kind) (n : Name) (st : State) (o : Object) → standing k n st ≡ Some o → o.key ≡ key_at k n
standing_key k n st o h = (stands k n st o h).key

-- ---- what is chosen

-- the Revision that is collected is a candidate
pub chosen_is : (been : Object → Bool) (gc : GcSettings) (st : State) (c : Object) (now : ℕ) (v : Object)
    → collection_choice been gc st c now ≡ Some v → (is_candidate been st c v ≡ true) × (k : ℕ) × (slice_get (of_kind kind.Revision st) k ≡ Some v)
unfolding collection_choice candidates
chosen_is been gc st c now v h = go (collected_place gc now (map candidate_of (candidates been st c))) h
  where
    go : (place : Option ℕ) → lookups.given place (slice_get (candidates been st c)) ≡ Some v
        → (is_candidate been st c v ≡ true) × (k : ℕ) × (slice_get (of_kind kind.Revision st) k ≡ Some v)
    go None e = absurd cc
    go (Some place) e = filter_at (is_candidate been st c) (of_kind kind.Revision st) place v e

-- a candidate is owned by the Configuration, and free
pub record IsCandidate (been : Object → Bool) (st : State) (c v : Object) : Type 0 where
  pub owned : is_owned_by c v ≡ true
  pub free : is_free st v.key.name ≡ true
  pub created : is_called v.key.name.name (latest_created st c) ≡ false
  pub ready : is_called v.key.name.name (latest_been been st c) ≡ false

-- the option_or Revision that lacks the pin lacks it, and is one that a target means
pub record IsUnpinned (st : State) (r : Name) (ms : List Meant) (o : Object) : Type 0 where
  pub place : ℕ
  pub meant : Meant
  pub is : slice_get ms place ≡ Some meant
  pub stands : standing kind.Revision (beside r meant.name) st ≡ Some o
  pub lacks : unpinned r.name (Some o) ≡ Some o

unpinned_some : (x : List ℕ) (w : Option Object) (o : Object) → unpinned x w ≡ Some o → w ≡ Some o
unpinned_some x None o h = absurd cc
unpinned_some x (Some v) o h = go (listed x (pins_of v.body)) h
  where
    go : (b : Bool) → cond b None (Some v) ≡ Some o → Some v ≡ Some o
    go true e = absurd cc
    go false e = e

pub unpinned_is : (st : State) (r : Name) (ms : List Meant) (o : Object) → first_unpinned st r ms ≡ Some o → IsUnpinned st r ms o
unfolding first_unpinned
unpinned_is st r [] o h = absurd cc
unpinned_is st r (m ∷ ms) o h = go (unpinned r.name (standing kind.Revision (beside r m.name) st)) refl h (unpinned_is st r ms o)
  where
    go : (w : Option Object) → unpinned r.name (standing kind.Revision (beside r m.name) st) ≡ w → option_or w (first_unpinned st r ms) ≡ Some o
        → (first_unpinned st r ms ≡ Some o → IsUnpinned st r ms o) → IsUnpinned st r (m ∷ ms) o
    go None e k ih = (let u = ih k in record { place = suc u.place; meant = u.meant; is = u.is; stands = u.stands; lacks = u.lacks })
    go (Some v) e k ih =
        (let same : standing kind.Revision (beside r m.name) st ≡ Some o = unpinned_some r.name _ o (e ∙ k) in
        record { place = 0; meant = m; is = refl; stands = same; lacks = ap (unpinned r.name) (sym same) ∙ e ∙ k })

-- ---- the plans

module _ (settings : Settings) (st : State) (now : ℕ) (ordered : AreInOrder key_of_object key_order.ghosts.cmp st) where
  service_deeds : (n : Name) → IfPlanned (Deed settings st now (slot_key controller.Service n)) (service_next st n now)
  unfolding service_next
  service_deeds n =
      if_given (λ s stands.
      if_first (if_missing _ (λ none. on kind.Configuration n refl (ConfigurationMade s refl stands none refl))) (λ _.
      if_first (if_given (λ c at. if_when _ (λ t. on kind.Configuration n (standing_key kind.Configuration n st c at) (ConfigurationTemplated s c refl stands at (left _ _ t) (not_true (right _ _ t)) refl)))) (λ _.
      if_first (if_missing _ (λ none. on kind.Route n refl (RouteMade s refl stands none refl))) (λ _.
      if_first (if_given (λ r at. if_when _ (λ t. on kind.Route n (standing_key kind.Route n st r at) (RouteTargeted s r refl stands at (left _ _ t) (not_true (right _ _ t)) refl)))) (λ _.
      if_when _ (λ t. on kind.Service n (standing_key kind.Service n st s stands) (ServiceStated s refl stands (not_true t) refl)))))))

  configuration_deeds : (n : Name) → IfPlanned (Deed settings st now (slot_key controller.Configuration n)) (configuration_next st n now)
  unfolding configuration_next
  configuration_deeds n =
      if_given (λ c stands.
      if_first (if_when _ (λ t. on kind.Configuration n (standing_key kind.Configuration n st c stands) (ConfigurationOrphaned c refl stands t refl))) (λ _.
      if_first (if_missing _ (λ none. on kind.Revision (revision_name c) refl (RevisionMade n c refl stands refl none refl))) (λ _.
      if_when _ (λ t. on kind.Configuration n (standing_key kind.Configuration n st c stands) (ConfigurationStated c refl stands (not_true t) refl)))))

  revision_deeds : (v : Name) → IfPlanned (Deed settings st now (slot_key controller.Revision v)) (revision_next st v now)
  unfolding revision_next
  revision_deeds v =
      if_given (λ o stands.
      if_first (if_when _ (λ t. on kind.Revision v (standing_key kind.Revision v st o stands) (RevisionOrphaned o refl stands (left _ _ t) (right _ _ t) refl))) (λ _.
      if_when _ (λ t. on kind.Revision v (standing_key kind.Revision v st o stands) (RevisionStated o refl stands (not_true t) refl))))

  -- a candidate stands under its name
  candidate_stands : (c v : Object) → is_candidate has_been_ready st c v ≡ true → (k : ℕ) → slice_get (of_kind kind.Revision st) k ≡ Some v
      → (v.key ≡ key_at kind.Revision v.key.name) × (standing kind.Revision v.key.name st ≡ Some v)
  unfolding is_candidate
  candidate_stands c v t k e =
      (let (q, f) = kind_at kind.Revision st k v ordered e in
      let key : v.key ≡ key_at kind.Revision v.key.name = (λ i. record { kind = q i; name = v.key.name }) in
      let of_revision : is_of kind.Revision v ≡ true = left _ _ (left _ _ (left _ _ (left _ _ t))) in
      (key, standing_from kind.Revision v.key.name st v (subst (λ z. find z st ≡ Some v) key f) (is_of_parts kind.Revision v of_revision).1))

  collector_deeds : (n : Name) → IfPlanned (Deed settings st now (slot_key controller.Collector n)) (collector_next settings.gc st n now)
  unfolding collector_next
  collector_deeds n =
      if_given (λ c at. if_given (λ v choice. if_some _
      (let (t, k, e) = chosen_is has_been_ready settings.gc st c now v choice in
      let (key, stands) = candidate_stands c v t k e in
      on kind.Revision v.key.name key (RevisionCollected n c v refl at stands choice refl))))

  -- a spare Revision stands under its name, beside the Route
  pub spare_stands : (r : Name) (v : Object) → first_spare st r ≡ Some v
      → (is_spare st r v ≡ true) × (v.key ≡ key_at kind.Revision v.key.name) × (standing kind.Revision v.key.name st ≡ Some v) × (v.key.name ≡ beside r v.key.name.name)
  unfolding first_spare is_spare
  spare_stands r v h =
      (let (t, k, e) = find_at (is_spare st r) (of_kind kind.Revision st) v h in
      let (q, f) = kind_at kind.Revision st k v ordered e in
      let key : v.key ≡ key_at kind.Revision v.key.name = (λ i. record { kind = q i; name = v.key.name }) in
      let place : (is_of kind.Revision v && bytes_eq v.key.name.space r.space) ≡ true = left _ _ t in
      (t, key, standing_from kind.Revision v.key.name st v (subst (λ z. find z st ≡ Some v) key f) (is_of_parts kind.Revision v (left _ _ place)).1, beside_is r v.key.name (bytes-exact v.key.name.space r.space (right _ _ place))))

  table_deeds : (r : Name) (o : Object) (ms : List Meant) → standing kind.Route r st ≡ Some o → assigned_at stored st r ≡ Some ms
      → pin_lacking st r now ≡ None
      → (t : Option Object) → standing kind.Table r st ≡ t
      → IfPlanned (Deed settings st now (slot_key controller.Route r)) (published r t (table_of r settings.domain o ms))
  unfolding published
  table_deeds r o ms at all pinned None none = if_some _ (on kind.Table r refl (TableMade o ms refl at all pinned none refl))
  table_deeds r o ms at all pinned (Some t) stands =
      if_when _ (λ d. on kind.Table r (standing_key kind.Table r st t stands) (TableReplaced o t ms refl at all pinned stands (not_true d) refl))

  route_deeds : (r : Name) → IfPlanned (Deed settings st now (slot_key controller.Route r)) (route_next settings.domain st r now)
  unfolding route_next
  route_deeds r =
      if_first (if_given (λ o stands. if_when _ (λ t. on kind.Route r (standing_key kind.Route r st o stands) (RouteOrphaned o refl stands t refl)))) (λ _.
      if_first (if_given (λ t stands. if_when _ (λ d. on kind.Table r (standing_key kind.Table r st t stands) (TableForeign t refl stands (not_true d) refl)))) (λ own.
      if_first (if_given (λ ms all. if_given (λ v lacks. if_some _
      (let u = unpinned_is st r ms v lacks in
      on kind.Revision (beside r u.meant.name) (standing_key kind.Revision (beside r u.meant.name) st v u.stands) (RevisionPinned r v ms refl refl u.stands own all lacks refl))))) (λ pinned.
      if_first (if_given (λ o at. if_given (λ ms all. table_deeds r o ms at all pinned (standing kind.Table r st) refl))) (λ _.
      if_first (if_given (λ o stands. if_when _ (λ t. on kind.Route r (standing_key kind.Route r st o stands) (RouteStated o refl stands (not_true t) refl)))) (λ _.
      if_given (λ v spare. if_some _
      (let (t, key, stands, near) = spare_stands r v spare in
      on kind.Revision v.key.name key (RevisionUnpinned r v refl near stands spare refl))))))))

  deed_of : (c : Controller) (n : Name) → IfPlanned (Deed settings st now (slot_key c n)) (next_of settings c n st now)
  deed_of controller.Service n = service_deeds n
  deed_of controller.Configuration n = configuration_deeds n
  deed_of controller.Revision n = revision_deeds n
  deed_of controller.Collector n = collector_deeds n
  deed_of controller.Route n = route_deeds n

  -- what is planned is one of the deeds
  pub planned_deed : (slot : SlotKey) (plan : ObjectPlan) → next_write settings slot st now ≡ Some plan → Deed settings st now slot plan
  unfolding next_write
  planned_deed slot plan h = (deed_of slot.controller slot.name).says plan h

-- ---- what the choices say

-- the first Revision that lacks the pin lacks it
pub unpinned_some_lacks : (st : State) (r : Name) (ms : List Meant) (o : Object) → first_unpinned st r ms ≡ Some o → listed r.name (pins_of o.body) ≡ false
unpinned_some_lacks st r ms o h = go (listed r.name (pins_of o.body)) refl (unpinned_is st r ms o h).lacks
  where
    go : (b : Bool) → listed r.name (pins_of o.body) ≡ b → cond b None (Some o) ≡ Some o → b ≡ false
    go true e k = absurd cc
    go false e k = refl

-- a spare Revision has the pin
pub spare_pinned : (st : State) (r : Name) (v : Object) → is_spare st r v ≡ true → listed r.name (pins_of v.body) ≡ true
unfolding is_spare
spare_pinned st r v t = left (listed r.name (pins_of v.body)) _ (right (is_of kind.Revision v && bytes_eq v.key.name.space r.space) _ t)

pub candidate_is : (been : Object → Bool) (st : State) (c v : Object) → is_candidate been st c v ≡ true → IsCandidate been st c v
unfolding is_candidate
candidate_is been st c v t =
    (let none = or_false (not_true (right (is_owned_by c v && is_free st v.key.name) _ t)) in
    record { owned = left _ _ (left _ _ t); free = right (is_owned_by c v) _ (left _ _ t); created = none.0; ready = none.1 })
