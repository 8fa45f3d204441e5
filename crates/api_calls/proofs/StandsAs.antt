-- What stands may be stored, and its key is the one that it is found by.
use Rattle.std.proofs.Common.{◌≡◌, ℕ, zero, suc, List, Option, Some, sym, ap, subst, ◌∙◌}
use Rattle.std.specs.Prelude.{unwrap_or}
use Rattle.std.specs.Option.{ForSome}
use Rattle.std.proofs.lemmas.List.Elements.{All-get_or}
use Rattle.std.proofs.lemmas.Option.{slice_get_within, unwrap_or-slice_get}
use Rattle.version_store.specs.declared.write.Entry.{Entry}
use Rattle.version_store.specs.Journal.{AreStamped, entry_at_version}
use Rattle.version_store.proofs.States.{state_stands, found_stands}
use Rattle.version_store.proofs.Standing.{find_key}
use Rattle.resource_types.specs.declared.names.Kind.{Kind}
use Rattle.resource_types.specs.declared.names.Key.{Key}
use Rattle.resource_types.specs.declared.names.Name.{Name}
use Rattle.resource_types.specs.declared.names.Actor.{Actor}
use Rattle.resource_types.specs.declared.objects.Object.{Object}
use Rattle.resource_types.specs.contracts.names.KeyOrd.TheImpl as key_order
use Rattle.resource_types.specs.contracts.names.KeyOrd.TheImpl.Laws as key_laws
use Rattle.resource_types.specs.contracts.item.ObjectItem.TheImpl as object_item
use Rattle.resource_types.specs.Lookups.{Journal, state, key_of}
use Rattle.resource_types.proofs.Exact.{key-exact}
use Rattle.resource_codec.specs.Storable.{PutsStorable, AreStorable}
use Rattle.api_puts.specs.Puts.{standing, StandsAs}

abbrev OneEntry : Type 0
OneEntry = Entry Object Kind Key Name Actor

storable_entry : (j : Journal) (v : ℕ) (e : OneEntry) → AreStorable j → entry_at_version j v ≡ Some e → PutsStorable e
storable_entry j zero e a at = absurd cc
storable_entry j (suc n) e a at =
    subst PutsStorable (sym (unwrap_or-slice_get j n e) ∙ ap (λ (o : Option OneEntry). unwrap_or o e) at) (All-get_or PutsStorable j n e (slice_get_within j n e at) a)

-- an object that stands may be stored, and its key is the one that it is found by
pub stands_as : (j : Journal) (kind : Kind) (space name : List ℕ) → AreStamped object_item.ghosts key_order.ghosts.cmp j → AreStorable j
    → ForSome (standing j kind space name) (StandsAs j kind space name)
stands_as j kind space name stamped a o f =
    let key = key_of kind space name in
    let there = found_stands object_item.ghosts key_order.ghosts.cmp j key (state j) o (state_stands object_item.ghosts key_order.ghosts.cmp j stamped) f in
    record {
      stands = f;
      key = key-exact o.key key (find_key (λ (o : Object). o.key) key_order.ghosts.cmp key_laws.total-law key (state j) o f);
      storable = storable_entry j o.meta.stamp.version there.entry a there.at o there.is.object;
    }
