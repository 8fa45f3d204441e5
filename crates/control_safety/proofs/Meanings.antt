-- What the targets of a Route mean, where all are ready: Revisions that stand and are ready, with their uids.
use Rattle.std.proofs.Common.{◌≡◌, ◌⊎◌, inl, inr, ℕ, zero, suc, ◌+◌, Bool, true, false, cond, List, [], ◌∷◌, Option, Some, None, refl, sym, ap, ◌∙◌, subst}
use Rattle.std.specs.Prelude.{slice_get, map}
use Rattle.resource_types.specs.declared.names.Kind.TheVariants as kind
use Rattle.resource_types.specs.declared.names.Name.{Name}
use Rattle.resource_types.specs.declared.conditions.CondName.TheVariants as condition
use Rattle.resource_types.specs.declared.conditions.Truth.TheVariants as truth
use Rattle.resource_types.specs.declared.specification.Target.{Target}
use Rattle.resource_types.specs.declared.objects.Object.{Object}
use Rattle.resource_types.specs.Objects.{has_been_ready, has_condition, pins_of, targets_of}
use Rattle.resource_types.specs.Lookups.{State, is_empty}
use Rattle.control_rules.specs.declared.traffic.Found.{Found}
use Rattle.control_rules.specs.declared.traffic.Found.TheVariants as found
use Rattle.control_rules.specs.declared.traffic.Resolved.{Resolved}
use Rattle.control_rules.specs.Standing.{beside, listed, standing, pins_at}
use Rattle.control_rules.specs.Resolution.{stored, found_revision, found_latest, found_configuration, found_of, hindrance, first_hindrance, Meant, meaning, with_meant, meant_of, pairs_of, meant_unless, assigned}
use Rattle.std.specs.Option.{option_or}
use Rattle.control_rules.specs.NextRoute.{unpinned, first_unpinned, assigned_of, assigned_at}
use Rattle.control_rules.specs.Differences.{ObjectPlan, given}
use Rattle.control_entries.proofs.Tests.{some_same}

-- the Revision that a target means: it stands with the uid, and was ready once or is ready now
pub record IsMeant (st : State) (r : Name) (m : Meant) : Type 0 where
  pub object : Object
  pub stands : standing kind.Revision (beside r m.name) st ≡ Some object
  pub ready : (has_been_ready object ≡ true) ⊎ (has_condition condition.Ready truth.True object ≡ true)
  pub uid : m.uid ≡ object.meta.stamp.uid

abbrev pub AreMeant : State → Name → List Meant → Type 0
AreMeant st r ms = (i : ℕ) (m : Meant) → slice_get ms i ≡ Some m → IsMeant st r m

-- ---- one target

found_one : (st : State) (r : Name) (t : Target) (counts : Object → Bool) (x : List ℕ) (w : Option Object) (name : List ℕ) (uid : ℕ)
    → standing kind.Revision (beside r x) st ≡ w
    → ((o : Object) → counts o ≡ true → (has_been_ready o ≡ true) ⊎ (has_condition condition.Ready truth.True o ≡ true))
    → found_revision counts x w ≡ found.Ready name uid → IsMeant st r (meaning t name uid)
found_one st r t counts x None name uid e says h = absurd cc
found_one st r t counts x (Some o) name uid e says h = go (counts o) refl h
  where
    go : (b : Bool) → counts o ≡ b → cond b (found.Ready x o.meta.stamp.uid) found.RevisionUnready ≡ found.Ready name uid
        → IsMeant st r (meaning t name uid)
    go false q k = absurd cc
    go true q k =
        (let names : x ≡ name = cc in
        let uids : o.meta.stamp.uid ≡ uid = cc in
        record { object = o; stands = subst (λ z. standing kind.Revision (beside r z) st ≡ Some o) names e; ready = says o q; uid = sym uids })

pub found_is : (st : State) (r : Name) (t : Target) (name : List ℕ) (uid : ℕ) → found_of stored st r t ≡ found.Ready name uid
    → IsMeant st r (meaning t name uid)
unfolding found_of
found_is st r t name uid h = go (is_empty t.revision) h
  where
    latest : (x : List ℕ) → found_latest stored st r x ≡ found.Ready name uid → IsMeant st r (meaning t name uid)
    latest [] k = absurd cc
    latest (b ∷ bs) k = found_one st r t has_been_ready (b ∷ bs) (standing kind.Revision (beside r (b ∷ bs)) st) name uid refl (λ o e. inl e) k

    configuration : (w : Option Object) → found_configuration stored st r w ≡ found.Ready name uid → IsMeant st r (meaning t name uid)
    configuration None k = absurd cc
    configuration (Some c) k = latest (stored.ready c) k

    go : (b : Bool)
        → cond b (found_configuration stored st r (standing kind.Configuration (beside r t.configuration) st)) (found_revision stored.good t.revision (standing kind.Revision (beside r t.revision) st)) ≡ found.Ready name uid
        → IsMeant st r (meaning t name uid)
    go true k = configuration (standing kind.Configuration (beside r t.configuration) st) k
    go false k = found_one st r t stored.good t.revision (standing kind.Revision (beside r t.revision) st) name uid refl (λ o e. inr e) k

-- ---- all targets

-- where nothing hinders, each target is ready, in its order
pub record IsAllMeant (st : State) (r : Name) (ts : List Target) (ms : List Meant) : Type 0 where
  pub meant : AreMeant st r ms
  pub targets : map (λ (m : Meant). m.target) ms ≡ ts

first_none : {A : Type 0} (a b : Option A) → option_or a b ≡ None → (a ≡ None) × (b ≡ None)
first_none None b h = (refl, h)
first_none (Some x) b h = absurd cc

all_meant : (st : State) (r : Name) (place : ℕ) (ts : List Target) → first_hindrance place (pairs_of stored st r ts) ≡ None
    → IsAllMeant st r ts (meant_of (pairs_of stored st r ts))
unfolding first_hindrance meant_of
all_meant st r place [] h = record { meant = λ i m e. absurd cc; targets = refl }
all_meant st r place (t ∷ ts) h =
    (let parts = first_none (hindrance place t (found_of stored st r t)) (first_hindrance (place + 1) (pairs_of stored st r ts)) h in
    go (found_of stored st r t) refl parts.0 (all_meant st r (place + 1) ts parts.1))
  where
    go : (f : Found) → found_of stored st r t ≡ f → hindrance place t f ≡ None → IsAllMeant st r ts (meant_of (pairs_of stored st r ts))
        → IsAllMeant st r (t ∷ ts) (with_meant t f (meant_of (pairs_of stored st r ts)))
    go found.ConfigurationAbsent e k ih = absurd cc
    go found.ConfigurationUnready e k ih = absurd cc
    go found.RevisionAbsent e k ih = absurd cc
    go found.RevisionUnready e k ih = absurd cc
    go (found.Ready name uid) e k ih = record { meant = each; targets = ap (λ us. t ∷ us) ih.targets }
      where
        each : AreMeant st r (meaning t name uid ∷ meant_of (pairs_of stored st r ts))
        each zero m q = subst (IsMeant st r) (some_same q) (found_is st r t name uid e)
        each (suc i) m q = ih.meant i m q

pub assigned_is : (st : State) (r : Name) (ts : List Target) (ms : List Meant) → assigned stored st r ts ≡ Some ms → IsAllMeant st r ts ms
unfolding assigned
assigned_is st r ts ms h = go (first_hindrance 0 (pairs_of stored st r ts)) refl h
  where
    go : (w : Option Resolved) → first_hindrance 0 (pairs_of stored st r ts) ≡ w → meant_unless w (meant_of (pairs_of stored st r ts)) ≡ Some ms
        → IsAllMeant st r ts ms
    go (Some x) e k = absurd cc
    go None e k = subst (IsAllMeant st r ts) (some_same k) (all_meant st r 0 ts e)

-- of the Route that stands
pub assigned_at_is : (st : State) (r : Name) (o : Object) (ms : List Meant) → standing kind.Route r st ≡ Some o → assigned_at stored st r ≡ Some ms
    → IsAllMeant st r (targets_of o.body) ms
unfolding assigned_at
assigned_at_is st r o ms at h = assigned_is st r (targets_of o.body) ms (subst (λ w. assigned_of stored st r w ≡ Some ms) at h)

-- ---- where no pin is lacking

unpinned_none : (x : List ℕ) (o : Object) → unpinned x (Some o) ≡ None → listed x (pins_of o.body) ≡ true
unpinned_none x o h = go (listed x (pins_of o.body)) refl h
  where
    go : (b : Bool) → listed x (pins_of o.body) ≡ b → cond b None (Some o) ≡ None → listed x (pins_of o.body) ≡ true
    go true e k = e
    go false e k = absurd cc

pub none_unpinned : (st : State) (r : Name) (ms : List Meant) → first_unpinned st r ms ≡ None → AreMeant st r ms → (i : ℕ) (m : Meant)
    → slice_get ms i ≡ Some m → listed r.name (pins_at st (beside r m.name)) ≡ true
unfolding first_unpinned
none_unpinned st r [] h all i m e = absurd cc
none_unpinned st r (x ∷ ms) h all zero m e =
    (let parts = first_none (unpinned r.name (standing kind.Revision (beside r x.name) st)) (first_unpinned st r ms) h in
    let is = all 0 x refl in
    let pinned : listed r.name (pins_at st (beside r x.name)) ≡ true = rw is.stands (unpinned_none r.name is.object (ap (unpinned r.name) (sym is.stands) ∙ parts.0)) in
    subst (λ (z : Meant). listed r.name (pins_at st (beside r z.name)) ≡ true) (some_same e) pinned)
none_unpinned st r (x ∷ ms) h all (suc i) m e =
    none_unpinned st r ms (first_none (unpinned r.name (standing kind.Revision (beside r x.name) st)) (first_unpinned st r ms) h).1 (λ k y f. all (suc k) y f) i m e

-- nothing is planned where nothing is given
pub given_none : {A : Type 0} (w : Option A) (f : A → Option ObjectPlan) → ((a : A) → f a ≡ None → ⊥) → given w f ≡ None → w ≡ None
unfolding given
given_none None f some h = refl
given_none (Some a) f some h = absurd (some a h)
