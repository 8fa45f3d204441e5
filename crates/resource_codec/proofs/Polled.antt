-- What a poll tells, entry by entry; and what polls and lists show is well formed.
use Rattle.std.proofs.Common.{◌≡◌, ℕ, suc, ◌+◌, ◌<◌, ◌≤◌, List, [], ◌∷◌, ◌++◌, take, drop, length, length-append, map, get_or, Bool, true, false, cond, Option, Some, None, refl, sym, ap, ◌∙◌, arith, append_assoc}
use Rattle.std.specs.Prelude.{slice_get, bytes_eq, option_map, unwrap_or}
use Rattle.std.specs.Cmp.Lexicographic.{nat_list_eq_equiv}
use Rattle.std.specs.List.{All, filter, enumerate_from}
use Rattle.std.specs.Option.{ForSome}
use Rattle.std.specs.declared.cmp.Ordering.{Ordering}
use Rattle.std.specs.declared.cmp.Ordering.TheVariants.{Less, Equal, Greater}
use Rattle.std.specs.Ordering.{is_eq}
use Rattle.std.proofs.lemmas.List.{drop_more, drop_all, map-append}
use Rattle.std.proofs.lemmas.List.Elements.{All-nil, All-cons, All-head, All-tail, All-take, All-drop, All-filter}
use Rattle.serde_json.specs.Data.{items_depth}
use Rattle.json_tree.specs.Tree.{items_data, items_are_well}
use Rattle.json_tree.specs.declared.value.Json.{Json}
use Rattle.version_store.specs.declared.write.Entry.{Entry}
use Rattle.version_store.specs.State as store
use Rattle.version_store.proofs.SpanRange.{filter-alike}
use Rattle.resource_types.specs.declared.names.Kind.{Kind}
use Rattle.resource_types.specs.declared.names.Key.{Key}
use Rattle.resource_types.specs.declared.names.Name.{Name}
use Rattle.resource_types.specs.declared.names.Actor.{Actor}
use Rattle.resource_types.specs.declared.objects.Object.{Object}
use Rattle.resource_types.specs.contracts.names.KeyOrd.TheImpl as key_order
use Rattle.resource_types.specs.Lookups.{Journal, state, of_kind, in_space}
use Rattle.resource_types.proofs.Lists.{drop_at}
use Rattle.resource_codec.specs.Sound.{Fits}
use Rattle.resource_codec.specs.Objects.{encoded}
use Rattle.resource_codec.specs.Views.{Place, is_within, is_asked, changes_after, event_json, event_of, most_events, told_version, objects_asked, IsShown, ShowsWell, AreShown}
use Rattle.resource_codec.proofs.Sounds.{both_true, more}
use Rattle.resource_codec.proofs.Places.{IsNext, next_of, take_ended, none_ended}
use Rattle.resource_codec.proofs.Shown.{encoded_fits}
use Rattle.resource_codec.proofs.Forms.{put_event_fits, removal_fits}

-- ---- entry by entry

module _ (journal : Journal) (kind : Kind) (space : Option (List ℕ)) where
  -- what is left from an entry on has it first where its key is asked for
  pub changes-next : (k : ℕ) (entry : Entry Object Kind Key Name Actor) (b : Bool) → k < length journal → entry ≡ get_or journal k entry → b ≡ is_asked kind space entry.key
      → changes_after journal kind space k ≡ cond b ((k, entry) ∷ changes_after journal kind space (k + 1)) (changes_after journal kind space (k + 1))
  changes-next k entry b within at e =
      let later = changes_after journal kind space (k + 1) in
      ap (λ es. filter (λ p. is_asked kind space p.1.key) (enumerate_from k es)) (drop_more journal k entry within ∙ ap (λ x. x ∷ drop (k + 1) journal) (sym at))
      ∙ ap (λ (t : Bool). cond t ((k, entry) ∷ later) later) (sym e)

  -- nothing is left behind the last entry
  pub changes-end : (k : ℕ) → length journal ≤ k → changes_after journal kind space k ≡ []
  changes-end k le = ap (λ es. filter (λ p. is_asked kind space p.1.key) (enumerate_from k es)) (drop_all k journal le)

-- the events are those of the first changes after a position, and what is left begins at the place k
pub record IsToldTo (journal : Journal) (kind : Kind) (space : Option (List ℕ)) (after : ℕ) (events : List Json) (k : ℕ) : Type 0 where
  pub told : events ≡ map (event_of journal) (take (length events) (changes_after journal kind space after))
  pub rest : drop (length events) (changes_after journal kind space after) ≡ changes_after journal kind space k

-- the events are all that a poll has, and the version is the one up to which it tells
pub record IsPolled (journal : Journal) (kind : Kind) (space : Option (List ℕ)) (after : ℕ) (told : List Json) (end : ℕ) : Type 0 where
  pub events : told ≡ map (event_of journal) (take most_events (changes_after journal kind space after))
  pub version : end ≡ told_version journal (changes_after journal kind space after)

module _ (journal : Journal) (kind : Kind) (space : Option (List ℕ)) (after : ℕ) where
  abbrev changes : List Place
  changes = changes_after journal kind space after

  pub told-start : IsToldTo journal kind space after [] after
  told-start = record { told = refl; rest = refl }

  pub told-passed : (events : List Json) (k : ℕ) (entry : Entry Object Kind Key Name Actor) → IsToldTo journal kind space after events k → k < length journal → entry ≡ get_or journal k entry
      → false ≡ is_asked kind space entry.key → IsToldTo journal kind space after events (k + 1)
  told-passed events k entry so within at e = record { told = so.told; rest = so.rest ∙ changes-next journal kind space k entry false within at e }

  at_place : (events : List Json) (k : ℕ) (entry : Entry Object Kind Key Name Actor) → IsToldTo journal kind space after events k → k < length journal → entry ≡ get_or journal k entry
      → true ≡ is_asked kind space entry.key → IsNext changes (length events) (k, entry) (changes_after journal kind space (k + 1))
  at_place events k entry so within at e = next_of changes (length events) (k, entry) (changes_after journal kind space (k + 1)) (so.rest ∙ changes-next journal kind space k entry true within at e)

  pub longer : (events : List Json) (event : Json) → length (events ++ event ∷ []) ≡ suc (length events)
  longer events event = omega (arith, length-append events (event ∷ []))

  pub told-one : (events : List Json) (event : Json) (k : ℕ) (entry : Entry Object Kind Key Name Actor) → IsToldTo journal kind space after events k → k < length journal → entry ≡ get_or journal k entry
      → true ≡ is_asked kind space entry.key → event ≡ event_of journal (k, entry) → IsToldTo journal kind space after (events ++ event ∷ []) (k + 1)
  told-one events event k entry so within at e is =
      let next = at_place events k entry so within at e in
      let f = event_of journal in
      record {
        told =
            rw (longer events event, next.front, map-append f (take (length events) changes) ((k, entry) ∷ []))
            (ap (λ es. es ++ event ∷ []) so.told ∙ ap (λ j. map f (take (length events) changes) ++ j ∷ []) is);
        rest = rw (longer events event) next.rest;
      }

  -- the last event of a full poll is of the entry before the place
  pub told-full : (events : List Json) (event : Json) (k : ℕ) (entry : Entry Object Kind Key Name Actor) → IsToldTo journal kind space after events k → k < length journal → entry ≡ get_or journal k entry
      → true ≡ is_asked kind space entry.key → event ≡ event_of journal (k, entry) → length (events ++ event ∷ []) ≡ most_events → IsPolled journal kind space after (events ++ event ∷ []) (k + 1)
  told-full events event k entry so within at e is full =
      let next = at_place events k entry so within at e in
      let last : length events ≡ 255 = omega (arith, longer events event, full) in
      record {
        events = (told-one events event k entry so within at e is).told ∙ ap (λ n. map (event_of journal) (take n changes)) full;
        version = sym (ap (λ n. unwrap_or (option_map (λ (p : Place). p.0 + 1) (slice_get changes n)) (length journal)) (sym last) ∙ ap (λ p. unwrap_or (option_map (λ (p : Place). p.0 + 1) p) (length journal)) next.at);
      }

  -- where no entry is left, the poll tells up to the journal's length
  pub told-end : (events : List Json) (k : ℕ) → IsToldTo journal kind space after events k → length events < most_events → length journal ≤ k → IsPolled journal kind space after events (length journal)
  told-end events k so few le =
      let ended : drop (length events) changes ≡ [] = so.rest ∙ changes-end journal kind space k le in
      let less : length events ≤ most_events = omega (arith, few) in
      let least : length events ≤ 255 = omega (arith, few) in
      record {
        events = so.told ∙ ap (map (event_of journal)) (sym (take_ended changes (length events) most_events ended less));
        version = sym (ap (λ p. unwrap_or (option_map (λ (p : Place). p.0 + 1) p) (length journal)) (none_ended changes (length events) 255 ended least));
      }

-- the form of the object at a place comes before those of the objects behind it
pub form-next : (objects : List Object) (k : ℕ) (o : Object) (items : List Json) → slice_get objects k ≡ Some o
    → (items ++ encoded o ∷ []) ++ map encoded (drop (k + 1) objects) ≡ items ++ map encoded (drop k objects)
form-next objects k o items at =
    append_assoc items (encoded o ∷ []) (map encoded (drop (k + 1) objects)) ∙ ap (λ os. items ++ map encoded os) (sym (drop_at objects k o at))

-- where no namespace is asked for, all objects of the kind are
pub all_asked : (objects : List Object) → objects ≡ filter (λ (o : Object). is_within None o.key.name.space) objects
all_asked [] = refl
all_asked (o ∷ objects) = ap (λ os. o ∷ os) (all_asked objects)

-- where one is, those in it
pub space_asked : (space : List ℕ) (objects : List Object) → in_space space objects ≡ filter (λ (o : Object). is_within (Some space) o.key.name.space) objects
space_asked space objects =
    filter-alike (λ (o : Object). bytes_eq o.key.name.space space) (λ o. bytes_eq space o.key.name.space) objects (λ o. nat_list_eq_equiv.symm o.key.name.space space)

-- ---- well formed

-- the values of what has a property are well formed, and at most so deep
pub record ItemsFit (n : ℕ) (js : List Json) : Type 0 where
  pub well : items_are_well (items_data js) ≡ true
  pub deep : items_depth (items_data js) ≤ n

items_fit : {A : Type 0} (f : A → Json) (n : ℕ) (P : A → Type 0) → ((a : A) → P a → Fits n (f a)) → (xs : List A) → All P xs → ItemsFit n (map f xs)
items_fit f n P each [] all = record { well = refl; deep = omega arith }
items_fit f n P each (x ∷ xs) all =
    let first = each x (All-head P x xs all) in
    let rest = items_fit f n P each xs (All-tail P x xs all) in
    record { well = both_true _ _ first.well rest.well; deep = omega (arith, first.deep, rest.deep) }

event_json_fits : (key : Key) (version : ℕ) (made : Bool) (object : Option Object) → ForSome object IsShown → Fits 41 (event_json key version made object)
event_json_fits key version made None h = more 1 41 (Some _) (omega arith) (removal_fits key version)
event_json_fits key version made (Some o) h = put_event_fits o made (h o refl).well

event_fits : (journal : Journal) (p : Place) → ShowsWell p.1 → Fits 41 (event_of journal p)
event_fits journal p h = event_json_fits p.1.key (p.0 + 1) _ p.1.object h

abbrev PlaceShown : Place → Type 0
PlaceShown p = ShowsWell p.1

shown_places : (n : ℕ) (entries : Journal) → All ShowsWell entries → All PlaceShown (enumerate_from n entries)
shown_places n [] all = All-nil PlaceShown
shown_places n (x ∷ xs) all = All-cons PlaceShown (n, x) (enumerate_from (n + 1) xs) (All-head ShowsWell x xs all) (shown_places (n + 1) xs (All-tail ShowsWell x xs all))

-- the events of a poll are well formed
pub events_fit : (journal : Journal) (kind : Kind) (space : Option (List ℕ)) (after most : ℕ) → AreShown journal → ItemsFit 41 (map (event_of journal) (take most (changes_after journal kind space after)))
events_fit journal kind space after most shown =
    let places = enumerate_from after (drop after journal) in
    items_fit (event_of journal) 41 PlaceShown (event_fits journal) (take most (changes_after journal kind space after))
    (All-take PlaceShown most (changes_after journal kind space after) (All-filter (λ (p : Place). is_asked kind space p.1.key) PlaceShown places (shown_places after (drop after journal) (All-drop ShowsWell after journal shown))))

-- ---- what stands was put

abbrev key_of_object : Object → Key
key_of_object o = o.key

placed_shown : (r : Ordering) (new x : Object) (xs rest : List Object) → IsShown new → IsShown x → All IsShown xs → All IsShown rest → All IsShown (store.placed r new x xs rest)
placed_shown Less new x xs rest n s all others = All-cons IsShown new (x ∷ xs) n (All-cons IsShown x xs s all)
placed_shown Equal new x xs rest n s all others = All-cons IsShown new xs n all
placed_shown Greater new x xs rest n s all others = All-cons IsShown x rest s others

put_shown : (new : Object) (xs : List Object) → IsShown new → All IsShown xs → All IsShown (store.put key_of_object key_order.ghosts.cmp new xs)
put_shown new [] n all = All-cons IsShown new [] n all
put_shown new (x ∷ xs) n all =
    placed_shown (key_order.ghosts.cmp new.key x.key) new x xs (store.put key_of_object key_order.ghosts.cmp new xs) n (All-head IsShown x xs all) (All-tail IsShown x xs all) (put_shown new xs n (All-tail IsShown x xs all))

kept_shown : (b : Bool) (x : Object) (rest : List Object) → IsShown x → All IsShown rest → All IsShown (cond b rest (x ∷ rest))
kept_shown true x rest s all = all
kept_shown false x rest s all = All-cons IsShown x rest s all

without_shown : (key : Key) (xs : List Object) → All IsShown xs → All IsShown (store.without key_of_object key_order.ghosts.cmp key xs)
without_shown key [] all = all
without_shown key (x ∷ xs) all =
    kept_shown (is_eq (key_order.ghosts.cmp x.key key)) x (store.without key_of_object key_order.ghosts.cmp key xs) (All-head IsShown x xs all) (without_shown key xs (All-tail IsShown x xs all))

changed_shown : (key : Key) (object : Option Object) (xs : List Object) → ForSome object IsShown → All IsShown xs → All IsShown (store.changed key_of_object key_order.ghosts.cmp key object xs)
changed_shown key None xs h all = without_shown key xs all
changed_shown key (Some o) xs h all = put_shown o xs (h o refl) all

state_from_shown : (st : List Object) (entries : Journal) → All IsShown st → All ShowsWell entries → All IsShown (store.state_from key_of_object key_order.ghosts.cmp st entries)
state_from_shown st [] all shown = all
state_from_shown st (x ∷ xs) all shown =
    state_from_shown (store.changed key_of_object key_order.ghosts.cmp x.key x.object st) xs (changed_shown x.key x.object st (All-head ShowsWell x xs shown) all) (All-tail ShowsWell x xs shown)

object_fits : (o : Object) → IsShown o → Fits 40 (encoded o)
object_fits o s = encoded_fits o s.well

-- the items of a list are well formed
pub objects_fit : (journal : Journal) (kind : Kind) (space : Option (List ℕ)) → AreShown journal → ItemsFit 40 (map encoded (objects_asked journal kind space))
objects_fit journal kind space shown =
    items_fit encoded 40 IsShown object_fits (objects_asked journal kind space)
    (All-filter (λ o. is_within space o.key.name.space) IsShown (of_kind kind (state journal)) (All-filter _ IsShown (state journal) (state_from_shown [] journal (All-nil IsShown) shown)))
