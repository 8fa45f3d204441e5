-- Members of a sound state stand under their names; what is chosen among them.
use Rattle.std.proofs.Common.{◌≡◌, ℕ, zero, suc, Bool, true, false, cond, ◌&&◌, List, [], ◌∷◌, map, filter, Option, Some, None, slice_get, bytes_eq, refl, sym, ap, ◌∙◌, subst}
use Rattle.std.specs.Prelude.{find}
use Rattle.resource_types.specs.declared.names.Kind.{Kind}
use Rattle.resource_types.specs.declared.names.Kind.TheVariants as kind
use Rattle.resource_types.specs.declared.names.Name.{Name}
use Rattle.resource_types.specs.declared.objects.Object.{Object}
use Rattle.resource_types.specs.Objects.{is_of, has_been_ready, pins_of, same_kind}
use Rattle.resource_types.specs.Lookups as lookups
use Rattle.resource_types.specs.Lookups.{Journal, State, state, of_kind, is_free, is_owned_by, is_given, is_owner}
use Rattle.resource_types.proofs.Exact.{left, right, bytes-exact}
use Rattle.control_rules.specs.declared.settings.GcSettings.{GcSettings}
use Rattle.control_rules.specs.Standing.{beside, key_at, listed, standing, is_orphan}
use Rattle.control_rules.specs.Resolution.{Meant}
use Rattle.std.specs.Option.{option_or}
use Rattle.control_rules.specs.Collection.{is_candidate, candidates, collected_place, candidate_of, collection_choice}
use Rattle.control_rules.specs.NextRoute.{add_pin, drop_pin, unpinned, first_unpinned, is_spare, first_spare}
use Rattle.control_settle.specs.Grounds.{IsSoundState}
use Rattle.control_settle.proofs.Machine.{In, First, Later}
use Rattle.control_entries.proofs.Tests.{some_same, none_some}
use Rattle.control_entries.proofs.Standing.{stands, standing_found, is_of_parts, is_of_both}
use Rattle.control_entries.specs.Ground.{IsOrdered}
use Rattle.control_settle.proofs.Lists.{found_in}

-- ---- what stands, in a sound state

-- under a key stands what stands there by its kind
pub sound_stands : (n : ℕ) (st : State) → IsSoundState n st → (kind : Kind) (m : Name) (o : Object) → lookups.find (key_at kind m) st ≡ Some o → standing kind m st ≡ Some o
sound_stands n st sound kind m o e = let parts = sound.key (key_at kind m) o e in standing_found kind m st o e (is_of_both kind o (ap (λ k. k.kind) parts.0) parts.1)

pub sound_none : (n : ℕ) (st : State) → IsSoundState n st → (kind : Kind) (m : Name) → standing kind m st ≡ None → lookups.find (key_at kind m) st ≡ None
sound_none n st sound kind m e = go (lookups.find (key_at kind m) st) refl
  where
    go : (w : Option Object) → lookups.find (key_at kind m) st ≡ w → w ≡ None
    go None f = refl
    go (Some o) f = absurd (none_some e (sound_stands n st sound kind m o f))

pub sound_key : (n : ℕ) (st : State) → IsSoundState n st → (kind : Kind) (m : Name) (o : Object) → standing kind m st ≡ Some o → o.key ≡ key_at kind m
sound_key n st sound kind m o e = (sound.key (key_at kind m) o (stands kind m st o e).found).0

-- a member of the state stands under its name
pub member_stands : (st : State) → IsOrdered st → (kind : Kind) (o : Object) → In o st → is_of kind o ≡ true → standing kind o.key.name st ≡ Some o
member_stands st order kind o m t =
    standing_found kind o.key.name st o (ap (λ k. lookups.find (record { kind = k; name = o.key.name }) st) (sym (is_of_parts kind o t).0) ∙ found_in st o order m) t

-- ---- members of lists that are chosen

pub in_filter : (test : Object → Bool) (xs : State) (o : Object) → In o (filter test xs) → (In o xs) × (test o ≡ true)
in_filter test [] o m = elim m [ ]
in_filter test (x ∷ xs) o m = go (test x) refl m (in_filter test xs o)
  where
    go : (t : Bool) → test x ≡ t → In o (cond t (x ∷ filter test xs) (filter test xs)) → (In o (filter test xs) → (In o xs) × (test o ≡ true)) → (In o (x ∷ xs)) × (test o ≡ true)
    go false e m ih = (Later (ih m).0, (ih m).1)
    go true e m ih = by m
      where
        by : In o (x ∷ filter test xs) → (In o (x ∷ xs)) × (test o ≡ true)
        by n = at o n e ih
          where
            at : (p : Object) → In p (x ∷ filter test xs) → test x ≡ true → (In p (filter test xs) → (In p xs) × (test p ≡ true)) → (In p (x ∷ xs)) × (test p ≡ true)
            at p (Later n) e ih = (Later (ih n).0, (ih n).1)
            at _ First e ih = (First, e)

pub in_found_by : (test : Object → Bool) (xs : State) (o : Object) → find test xs ≡ Some o → (In o xs) × (test o ≡ true)
in_found_by test [] o e = absurd cc
in_found_by test (x ∷ xs) o e = go (test x) refl e (in_found_by test xs o)
  where
    go : (t : Bool) → test x ≡ t → cond t (Some x) (find test xs) ≡ Some o → (find test xs ≡ Some o → (In o xs) × (test o ≡ true)) → (In o (x ∷ xs)) × (test o ≡ true)
    go true f e ih = let same = some_same e in (subst (λ z. In z (x ∷ xs)) same First, subst (λ z. test z ≡ true) same f)
    go false f e ih = (Later (ih e).0, (ih e).1)

pub in_place : (xs : State) (i : ℕ) (o : Object) → slice_get xs i ≡ Some o → In o xs
in_place [] i o e = absurd cc
in_place (x ∷ xs) zero o e = subst (λ z. In z (x ∷ xs)) (some_same e) First
in_place (x ∷ xs) (suc i) o e = Later (in_place xs i o e)

-- ---- what goes

-- a Revision that may be removed: an orphan that is free, or a candidate of a Configuration
pub data Going (a : State) (m : Name) (v : Object) : Type 0 where
  Orphaned : is_orphan a v ≡ true → is_free a m ≡ true → Going a m v
  Collected : (n : Name) (o : Object) → standing kind.Configuration n a ≡ Some o → is_candidate has_been_ready a o v ≡ true → Going a m v

-- what is collected is a candidate that stands
pub chosen : (gc : GcSettings) (st : State) (o v : Object) (now : ℕ) → IsOrdered st → collection_choice has_been_ready gc st o now ≡ Some v → (standing kind.Revision v.key.name st ≡ Some v) × (is_candidate has_been_ready st o v ≡ true)
unfolding collection_choice candidates is_candidate
chosen gc st o v now order e = go (collected_place gc now (map candidate_of (candidates has_been_ready st o))) e
  where
    go : (i : Option ℕ) → lookups.given i (slice_get (candidates has_been_ready st o)) ≡ Some v → (standing kind.Revision v.key.name st ≡ Some v) × (is_candidate has_been_ready st o v ≡ true)
    go None e = absurd cc
    go (Some i) e =
        let m = in_filter (is_candidate has_been_ready st o) (of_kind kind.Revision st) v (in_place (candidates has_been_ready st o) i v e) in
        let owned : is_owned_by o v ≡ true = left (is_owned_by o v) (is_free st v.key.name) (left (is_owned_by o v && is_free st v.key.name) _ m.1) in
        let is : is_of kind.Revision v ≡ true = left (is_of kind.Revision v) _ (left (is_of kind.Revision v && bytes_eq v.key.name.space o.key.name.space) _ owned) in
        (member_stands st order kind.Revision v (in_filter (λ p. same_kind p.key.kind kind.Revision) st v m.0).0 is, m.1)

-- ---- pins

pub data PinChange (r : List ℕ) (old new : List (List ℕ)) : Type 0 where
  Adds : new ≡ add_pin r old → PinChange r old new
  Drops : new ≡ drop_pin r old → PinChange r old new

-- a Revision that one of these targets means, and that lacks the pin
pub record Lacks (st : State) (r : Name) (ms : List Meant) (v : Object) : Type 0 where
  pub target : Meant
  pub stands : standing kind.Revision (beside r target.name) st ≡ Some v
  pub bare : listed r.name (pins_of v.body) ≡ false
  pub among : In target ms

pub first_unpinned_is : (st : State) (r : Name) (ms : List Meant) (v : Object) → first_unpinned st r ms ≡ Some v → Lacks st r ms v
unfolding first_unpinned
first_unpinned_is st r [] v e = absurd cc
first_unpinned_is st r (m ∷ ms) v e = go (standing kind.Revision (beside r m.name) st) refl e (first_unpinned_is st r ms v)
  where
    rest : (Lacks st r ms v) → Lacks st r (m ∷ ms) v
    rest i = record { target = i.target; stands = i.stands; bare = i.bare; among = Later i.among }

    go : (w : Option Object) → standing kind.Revision (beside r m.name) st ≡ w → option_or (unpinned r.name w) (first_unpinned st r ms) ≡ Some v → (first_unpinned st r ms ≡ Some v → Lacks st r ms v) → Lacks st r (m ∷ ms) v
    go None s e ih = rest (ih e)
    go (Some p) s e ih = by (listed r.name (pins_of p.body)) refl e
      where
        by : (t : Bool) → listed r.name (pins_of p.body) ≡ t → option_or (cond t None (Some p)) (first_unpinned st r ms) ≡ Some v → Lacks st r (m ∷ ms) v
        by true l e = rest (ih e)
        by false l e = let same = some_same e in record { target = m; stands = s ∙ e; bare = subst (λ z. listed r.name (pins_of z.body) ≡ false) same l; among = First }

-- the option_or spare one stands in the Route's namespace, with the pin, named by nothing
pub first_spare_is : (st : State) (r : Name) (v : Object) → IsOrdered st → first_spare st r ≡ Some v → (standing kind.Revision v.key.name st ≡ Some v) × (is_spare st r v ≡ true) × (v.key.name.space ≡ r.space)
unfolding first_spare is_spare
first_spare_is st r v order e =
    let m = in_found_by (is_spare st r) (of_kind kind.Revision st) v e in
    let both = left (is_of kind.Revision v && bytes_eq v.key.name.space r.space) _ m.1 in
    (member_stands st order kind.Revision v (in_filter (λ p. same_kind p.key.kind kind.Revision) st v m.0).0 (left (is_of kind.Revision v) _ both), m.1, bytes-exact v.key.name.space r.space (right (is_of kind.Revision v) _ both))
