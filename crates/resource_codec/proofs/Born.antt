-- What an entry puts has the entry's version as uid where its key did not stand before, and nowhere else.
use Rattle.std.proofs.Common.{◌≡◌, ℕ, ◌+◌, ◌<◌, ◌≤◌, List, take, length, Bool, true, false, not, Option, Some, None, refl, ap, arith}
use Rattle.std.specs.Prelude.{slice_get, is_some, ◌==◌}
use Rattle.std.proofs.lemmas.List.{length-take}
use Rattle.version_store.specs.declared.write.Entry.{Entry}
use Rattle.version_store.specs.Journal.{IsStamped}
use Rattle.version_store.proofs.Indexed.{version_within}
use Rattle.version_store.proofs.Prefix.{stamped_at, AreStamped-take}
use Rattle.version_store.proofs.States.{StandsIn, state_stands, found_stands}
use Rattle.resource_types.specs.declared.names.Kind.{Kind}
use Rattle.resource_types.specs.declared.names.Key.{Key}
use Rattle.resource_types.specs.declared.names.Name.{Name}
use Rattle.resource_types.specs.declared.names.Actor.{Actor}
use Rattle.resource_types.specs.declared.objects.Object.{Object}
use Rattle.resource_types.specs.contracts.names.KeyOrd.TheImpl as key_order
use Rattle.resource_types.specs.contracts.item.ObjectItem.TheImpl as object_item
use Rattle.resource_types.specs.Lookups.{Journal, state, find}
use Rattle.resource_codec.specs.Views.{AreStamped, stood_at, is_born, event_json, event_of}

equal-self : (n m : ℕ) → n ≡ m → (n == m) ≡ true
equal-self n m e = grind (arith, e)

equal-less : (n m : ℕ) → n < m → (n == m) ≡ false
equal-less n m lt = grind (arith, lt)

take-short : {X : Type 0} (n : ℕ) (xs : List X) → length (take n xs) ≤ n
take-short n xs = omega (arith, length-take n xs)

born_by : (before : Journal) (standing : Option Object) (o : Object) (n : ℕ) (key : Key) (moment : ℕ) → length before ≤ n → ((s : Object) → standing ≡ Some s → StandsIn object_item.ghosts key_order.ghosts.cmp before s)
    → IsStamped object_item.ghosts standing (n + 1) key (Some o) moment → (o.meta.stamp.uid == n + 1) ≡ not (is_some standing)
born_by before None o n key moment short stands s = equal-self o.meta.stamp.uid (n + 1) (ap (λ t. t.uid) s.1)
born_by before (Some old) o n key moment short stands s =
    let there = stands old refl in
    let within = version_within before old.meta.stamp.version there.entry there.at in
    let same : o.meta.stamp.uid ≡ old.meta.stamp.uid = ap (λ t. t.uid) s.1 in
    equal-less o.meta.stamp.uid (n + 1) (omega (arith, same, there.is.bounded.made, within.1, short))

event_by : (key : Key) (version : ℕ) (object : Option Object) (made : Bool) → ((o : Object) → object ≡ Some o → is_born version object ≡ made)
    → event_json key version (is_born version object) object ≡ event_json key version made object
event_by key version None made h = refl
event_by key version (Some o) made h = ap (λ (b : Bool). event_json key version b (Some o)) (h o refl)

born_with : (key : Key) (n moment : ℕ) (before : Journal) (object : Option Object) (o : Object) → object ≡ Some o → length before ≤ n → AreStamped before
    → IsStamped object_item.ghosts (find key (state before)) (n + 1) key object moment → is_born (n + 1) object ≡ not (is_some (find key (state before)))
born_with key n moment before None o e short all s = absurd cc
born_with key n moment before (Some x) o e short all s =
    born_by before (find key (state before)) x n key moment short
    (λ old f. found_stands object_item.ghosts key_order.ghosts.cmp before key (state before) old (state_stands object_item.ghosts key_order.ghosts.cmp before all) f) s

-- the stamp tells whether an entry made what it put
pub event_told : (journal : Journal) (n : ℕ) (entry : Entry Object Kind Key Name Actor) → AreStamped journal → slice_get journal n ≡ Some entry
    → event_json entry.key (n + 1) (is_born (n + 1) entry.object) entry.object ≡ event_of journal (n, entry)
event_told journal n entry all at =
    let before = take n journal in
    let stamped = stamped_at object_item.ghosts key_order.ghosts.cmp journal n entry all at in
    event_by entry.key (n + 1) entry.object (not (stood_at journal n entry.key))
    (λ o e. born_with entry.key n entry.moment before entry.object o e (take-short n journal) (AreStamped-take object_item.ghosts key_order.ghosts.cmp n journal all) stamped)
