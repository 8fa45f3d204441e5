-- What the targets of a Route mean stays, where what they read stays.
use Rattle.std.proofs.Common.{◌≡◌, ℕ, Bool, true, false, ◌&&◌, not, List, [], ◌∷◌, Option, Some, None, cond, refl, sym, ap, ◌∙◌}
use Rattle.std.specs.Prelude.{map}
use Rattle.std.specs.Option.{option_or}
use Rattle.std.specs.List.{list_any}
use Rattle.resource_types.specs.declared.names.Kind.TheVariants as kind
use Rattle.resource_types.specs.declared.names.Name.{Name}
use Rattle.resource_types.specs.declared.specification.Target.{Target}
use Rattle.resource_types.specs.declared.objects.Object.{Object}
use Rattle.resource_types.specs.Objects.{no_status, pins_of, status_of}
use Rattle.resource_types.specs.Lookups.{State, is_empty, is_given}
use Rattle.control_rules.specs.declared.traffic.Found.{Found}
use Rattle.control_rules.specs.declared.traffic.Found.TheVariants as found
use Rattle.control_rules.specs.Standing.{beside, listed, read, standing, status_at}
use Rattle.control_rules.specs.Resolution.{stored, Meant, with_meant, found_revision, found_latest, found_configuration, found_of, meant_of, pairs_of}
use Rattle.control_rules.specs.NextRoute.{unpinned, first_unpinned}
use Rattle.control_entries.proofs.Tests.{not_false}
use Rattle.control_entries.proofs.Each.{Each, each_from}
use Rattle.control_touches.specs.Touches.{meant_name, sight_of}
use Rattle.control_touches.proofs.Among.{any_at}

-- ---- lists

pub map_each : {X Y : Type 0} (f g : X → Y) (xs : List X) → Each (λ x. f x ≡ g x) xs → map f xs ≡ map g xs
map_each f g [] h = refl
map_each f g (x ∷ xs) h = λ i. h.0 i ∷ map_each f g xs h.1 i

pub each_mapped : {X Y : Type 0} (P : Y → Type 0) (g : X → Y) (xs : List X) → Each (λ x. P (g x)) xs → Each P (map g xs)
each_mapped P g [] h = tt
each_mapped P g (x ∷ xs) h = (h.0, each_mapped P g xs h.1)

-- each of the list makes every test that it passes hold of one of them
pub each_any : {X : Type 0} (xs : List X) → Each (λ x. (f : X → Bool) → f x ≡ true → list_any f xs ≡ true) xs
each_any xs = each_from (λ x. (f : _ → Bool) → f x ≡ true → list_any f xs ≡ true) xs (λ n x e f t. any_at f xs n x e t)

-- ---- what a target reads

-- a Revision of the name is read alike in two states: what a target reads, and whether it has the Route's pin
pub record IsReadAlike (a b : State) (r : Name) (name : List ℕ) : Type 0 where
  pub sight : sight_of (standing kind.Revision (beside r name) a) ≡ sight_of (standing kind.Revision (beside r name) b)
  pub pinned : listed r.name (read [] pins_of (standing kind.Revision (beside r name) a)) ≡ listed r.name (read [] pins_of (standing kind.Revision (beside r name) b))

-- the Configuration that it reads is the same, and the Revision is read alike
pub record ReadsAlike (a b : State) (r : Name) (t : Target) : Type 0 where
  pub configuration : is_empty t.revision ≡ true → standing kind.Configuration (beside r t.configuration) a ≡ standing kind.Configuration (beside r t.configuration) b
  pub revision : IsReadAlike a b r (meant_name a r t)

-- what is found of a Revision, by what is read of it
abbrev found_by : (Bool × Bool → Bool) → List ℕ → Option (ℕ × (Bool × Bool)) → Found
found_by get name None = found.RevisionAbsent
found_by get name (Some s) = cond (get s.1) (found.Ready name s.0) found.RevisionUnready

been_is : (name : List ℕ) (o : Option Object) → found_revision stored.been name o ≡ found_by (λ s. s.0) name (sight_of o)
been_is name None = refl
been_is name (Some v) = refl

good_is : (name : List ℕ) (o : Option Object) → found_revision stored.good name o ≡ found_by (λ s. s.1) name (sight_of o)
good_is name None = refl
good_is name (Some v) = refl

been_alike : (name : List ℕ) (o p : Option Object) → sight_of o ≡ sight_of p → found_revision stored.been name o ≡ found_revision stored.been name p
been_alike name o p e = been_is name o ∙ ap (found_by (λ s. s.0) name) e ∙ sym (been_is name p)

good_alike : (name : List ℕ) (o p : Option Object) → sight_of o ≡ sight_of p → found_revision stored.good name o ≡ found_revision stored.good name p
good_alike name o p e = good_is name o ∙ ap (found_by (λ s. s.1) name) e ∙ sym (good_is name p)

latest_alike : (a b : State) (r : Name) (n : List ℕ) → sight_of (standing kind.Revision (beside r n) a) ≡ sight_of (standing kind.Revision (beside r n) b)
    → found_latest stored a r n ≡ found_latest stored b r n
latest_alike a b r [] e = refl
latest_alike a b r (x ∷ xs) e = been_alike (x ∷ xs) (standing kind.Revision (beside r (x ∷ xs)) a) (standing kind.Revision (beside r (x ∷ xs)) b) e

pub found_alike : (a b : State) (r : Name) (t : Target) → ReadsAlike a b r t → found_of stored a r t ≡ found_of stored b r t
unfolding found_of meant_name
found_alike a b r t h = go (is_empty t.revision) refl h.configuration h.revision.sight
  where
    alike : List ℕ → Type 0
    alike n = sight_of (standing kind.Revision (beside r n) a) ≡ sight_of (standing kind.Revision (beside r n) b)

    by : (o : Option Object) → alike (read no_status status_of o).ready → found_configuration stored a r o ≡ found_configuration stored b r o
    by None v = refl
    by (Some c) v = latest_alike a b r (status_of c.body).ready v

    go : (x : Bool) → is_empty t.revision ≡ x → (x ≡ true → standing kind.Configuration (beside r t.configuration) a ≡ standing kind.Configuration (beside r t.configuration) b)
        → alike (cond x (status_at kind.Configuration a (beside r t.configuration)).ready t.revision)
        → cond x (found_configuration stored a r (standing kind.Configuration (beside r t.configuration) a)) (found_revision stored.good t.revision (standing kind.Revision (beside r t.revision) a))
        ≡ cond x (found_configuration stored b r (standing kind.Configuration (beside r t.configuration) b)) (found_revision stored.good t.revision (standing kind.Revision (beside r t.revision) b))
    go true q c v = by (standing kind.Configuration (beside r t.configuration) a) v ∙ ap (found_configuration stored b r) (c refl)
    go false q c v = good_alike t.revision (standing kind.Revision (beside r t.revision) a) (standing kind.Revision (beside r t.revision) b) v

-- ---- the Revision that it means

-- what is found, if it is ready, has a name that passes
abbrev pub IfReady : (List ℕ → Type 0) → Found → Type 0
IfReady P found.ConfigurationAbsent = Unit {0}
IfReady P found.ConfigurationUnready = Unit {0}
IfReady P found.RevisionAbsent = Unit {0}
IfReady P found.RevisionUnready = Unit {0}
IfReady P (found.Ready name uid) = P name

revision_ready : (P : List ℕ → Type 0) (counts : Object → Bool) (name : List ℕ) (o : Option Object) → P name → IfReady P (found_revision counts name o)
revision_ready P counts name None h = tt
revision_ready P counts name (Some v) h = go (counts v)
  where
    go : (b : Bool) → IfReady P (cond b (found.Ready name v.meta.stamp.uid) found.RevisionUnready)
    go true = h
    go false = tt

latest_ready : (P : List ℕ → Type 0) (st : State) (r : Name) (name : List ℕ) → P name → IfReady P (found_latest stored st r name)
latest_ready P st r [] h = tt
latest_ready P st r (b ∷ bs) h = revision_ready P stored.been (b ∷ bs) (standing kind.Revision (beside r (b ∷ bs)) st) h

pub ready_is : (P : List ℕ → Type 0) (st : State) (r : Name) (t : Target) → P (meant_name st r t) → IfReady P (found_of stored st r t)
unfolding found_of meant_name
ready_is P st r t h = go (is_empty t.revision) h
  where
    by : (o : Option Object) → P (read no_status status_of o).ready → IfReady P (found_configuration stored st r o)
    by None h = tt
    by (Some c) h = latest_ready P st r (status_of c.body).ready h

    go : (x : Bool) → P (cond x (status_at kind.Configuration st (beside r t.configuration)).ready t.revision)
        → IfReady P (cond x (found_configuration stored st r (standing kind.Configuration (beside r t.configuration) st)) (found_revision stored.good t.revision (standing kind.Revision (beside r t.revision) st)))
    go true h = by (standing kind.Configuration (beside r t.configuration) st) h
    go false h = revision_ready P stored.good t.revision (standing kind.Revision (beside r t.revision) st) h

-- the names of all that are meant pass
pub meant_each : (P : List ℕ → Type 0) (ps : List (Target × Found)) → Each (λ (p : Target × Found). IfReady P p.1) ps → Each (λ (m : Meant). P m.name) (meant_of ps)
unfolding meant_of
meant_each P [] h = tt
meant_each P (p ∷ ps) h = go p.1 h.0 (meant_each P ps h.1)
  where
    go : (f : Found) → IfReady P f → Each (λ (m : Meant). P m.name) (meant_of ps) → Each (λ (m : Meant). P m.name) (with_meant p.0 f (meant_of ps))
    go found.ConfigurationAbsent h ih = ih
    go found.ConfigurationUnready h ih = ih
    go found.RevisionAbsent h ih = ih
    go found.RevisionUnready h ih = ih
    go (found.Ready name uid) h ih = (h, ih)

-- ---- all targets

pub pairs_alike : (a b : State) (r : Name) (ts : List Target) → Each (ReadsAlike a b r) ts → pairs_of stored a r ts ≡ pairs_of stored b r ts
pairs_alike a b r ts h = map_each (λ (t : Target). (t, found_of stored a r t)) (λ (t : Target). (t, found_of stored b r t)) ts (go ts h)
  where
    go : (ts : List Target) → Each (ReadsAlike a b r) ts → Each (λ (t : Target). ◌≡◌ {A = Target × Found} (t, found_of stored a r t) (t, found_of stored b r t)) ts
    go [] h = tt
    go (t ∷ ts) h = ((λ i. (t, found_alike a b r t h.0 i)), go ts h.1)

-- one that lacks the pin, by what is read
abbrev lacks : Name → Option Object → Bool
lacks r o = is_given (λ s. true) (sight_of o) && not (listed r.name (read [] pins_of o))

lacks_not : (r : Name) (o : Option Object) → unpinned r.name o ≡ None → lacks r o ≡ false
lacks_not r None e = refl
lacks_not r (Some v) e = go (listed r.name (pins_of v.body)) e
  where
    go : (t : Bool) → cond t None (Some v) ≡ None → not t ≡ false
    go true e = refl
    go false e = absurd cc

not_lacks : (r : Name) (o : Option Object) → lacks r o ≡ false → unpinned r.name o ≡ None
not_lacks r None e = refl
not_lacks r (Some v) e = ap (λ t. cond t None (Some v)) (not_false e)

or_none : (x y : Option Object) → option_or x y ≡ None → (x ≡ None) × (y ≡ None)
or_none None y e = (refl, e)
or_none (Some o) y e = absurd cc

none_or : (x y : Option Object) → x ≡ None → y ≡ None → option_or x y ≡ None
none_or x y e f = ap (λ z. option_or z y) e ∙ f

pub unpinned_alike : (a b : State) (r : Name) (ms : List Meant) → Each (λ (m : Meant). IsReadAlike a b r m.name) ms → first_unpinned b r ms ≡ None → first_unpinned a r ms ≡ None
unfolding first_unpinned
unpinned_alike a b r [] h e = refl
unpinned_alike a b r (m ∷ ms) h e =
    let parts = or_none (unpinned r.name (standing kind.Revision (beside r m.name) b)) (first_unpinned b r ms) e in
    let same : lacks r (standing kind.Revision (beside r m.name) a) ≡ lacks r (standing kind.Revision (beside r m.name) b) = λ i. is_given (λ s. true) (h.0.sight i) && not (h.0.pinned i) in
    none_or _ _
    (not_lacks r (standing kind.Revision (beside r m.name) a) (same ∙ lacks_not r (standing kind.Revision (beside r m.name) b) parts.0))
    (unpinned_alike a b r ms h.1 parts.1)

pub meant_alike : (a b : State) (r : Name) (ts : List Target) → Each (ReadsAlike a b r) ts → Each (λ (m : Meant). IsReadAlike a b r m.name) (meant_of (pairs_of stored a r ts))
meant_alike a b r ts h = meant_each (IsReadAlike a b r) (pairs_of stored a r ts) (each_mapped (λ (p : Target × Found). IfReady (IsReadAlike a b r) p.1) (λ (t : Target). (t, found_of stored a r t)) ts (go ts h))
  where
    go : (ts : List Target) → Each (ReadsAlike a b r) ts → Each (λ (t : Target). IfReady (IsReadAlike a b r) (found_of stored a r t)) ts
    go [] h = tt
    go (t ∷ ts) h = (ready_is (IsReadAlike a b r) a r t h.0.revision, go ts h.1)
