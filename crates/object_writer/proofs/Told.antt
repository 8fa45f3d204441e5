-- The events that are written of a journal, entry by entry.
use Rattle.std.proofs.Common.{◌≡◌, ℕ, ◌+◌, ◌<◌, ◌≤◌, List, [], ◌∷◌, ◌++◌, length, map, take, get_or, Option, true, false, refl, ap, ◌∙◌, arith}
use Rattle.version_store.specs.declared.write.Entry.{Entry}
use Rattle.json.specs.Token.{Token}
use Rattle.json_tree.specs.declared.value.Json.{Json}
use Rattle.resource_types.specs.declared.names.Kind.{Kind}
use Rattle.resource_types.specs.declared.names.Key.{Key}
use Rattle.resource_types.specs.declared.names.Name.{Name}
use Rattle.resource_types.specs.declared.names.Actor.{Actor}
use Rattle.resource_types.specs.declared.objects.Object.{Object}
use Rattle.resource_types.specs.Lookups.{Journal}
use Rattle.resource_codec.specs.Views.{is_asked, event_of, most_events, changes_after}
use Rattle.resource_codec.proofs.Polled.{IsToldTo, IsPolled, told-start, told-passed, told-one, told-full, told-end, longer}
use Rattle.object_writer.specs.Tokens.{with_value, with_values}
use Rattle.object_writer.proofs.Tokens.{values_more}

-- so many events are written, fewer than a poll may have, and what is left begins at the place k
pub record IsWrittenTo (journal : Journal) (kind : Kind) (space : Option (List ℕ)) (after : ℕ) (old new : List Token) (many k : ℕ) : Type 0 where
  pub events : List Json
  pub tokens : new ≡ with_values events old
  pub count : many ≡ length events
  pub few : length events < most_events
  pub so_far : IsToldTo journal kind space after events k

-- a poll's events are written, and the version is the one up to which it tells
pub record IsAllWritten (journal : Journal) (kind : Kind) (space : Option (List ℕ)) (after : ℕ) (old new : List Token) (end : ℕ) : Type 0 where
  pub events : List Json
  pub tokens : new ≡ with_values events old
  pub polled : IsPolled journal kind space after events end

module _ (journal : Journal) (kind : Kind) (space : Option (List ℕ)) (after : ℕ) (old : List Token) where
  pub written-start : IsWrittenTo journal kind space after old old 0 after
  written-start = record { events = []; tokens = refl; count = refl; few = omega arith; so_far = told-start journal kind space after }

  module _ (new : List Token) (many k : ℕ) (entry : Entry Object Kind Key Name Actor) (so : IsWrittenTo journal kind space after old new many k)
      (within : k < length journal) (at : entry ≡ get_or journal k entry) where
    pub written-passed : false ≡ is_asked kind space entry.key → IsWrittenTo journal kind space after old new many (k + 1)
    written-passed e = record {
      events = so.events;
      tokens = so.tokens;
      count = so.count;
      few = so.few;
      so_far = told-passed journal kind space after so.events k entry so.so_far within at e;
    }

    module _ (event : Json) (asked : true ≡ is_asked kind space entry.key) (is : event ≡ event_of journal (k, entry)) where
      one_written : with_value event new ≡ with_values (so.events ++ event ∷ []) old
      one_written = ap (with_value event) so.tokens ∙ values_more so.events event old

      pub written-one : (end : List Token) → end ≡ with_value event new → (many + 1 ≡ 256 → ⊥) → IsWrittenTo journal kind space after old end (many + 1) (k + 1)
      written-one end e more = record {
        events = so.events ++ event ∷ [];
        tokens = e ∙ one_written;
        count = omega (arith, so.count, longer journal kind space after so.events event);
        few = omega (arith, so.count, so.few, more, longer journal kind space after so.events event);
        so_far = told-one journal kind space after so.events event k entry so.so_far within at asked is;
      }

      pub written-full : (end : List Token) → end ≡ with_value event new → many + 1 ≡ 256 → IsAllWritten journal kind space after old end (k + 1)
      written-full end e full = record {
        events = so.events ++ event ∷ [];
        tokens = e ∙ one_written;
        polled = told-full journal kind space after so.events event k entry so.so_far within at asked is
            (omega (arith, so.count, full, longer journal kind space after so.events event));
      }

  pub written-end : (new : List Token) (many k : ℕ) → IsWrittenTo journal kind space after old new many k → length journal ≤ k → IsAllWritten journal kind space after old new (length journal)
  written-end new many k so le = record {
    events = so.events;
    tokens = so.tokens;
    polled = told-end journal kind space after so.events k so.so_far so.few le;
  }

  -- what the contract says of it
  pub events_written : (new : List Token) (end : ℕ) → IsAllWritten journal kind space after old new end
      → new ≡ with_values (map (event_of journal) (take most_events (changes_after journal kind space after))) old
  events_written new end all = all.tokens ∙ ap (λ js. with_values js old) all.polled.events
