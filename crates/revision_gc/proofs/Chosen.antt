-- The Revision that is collected, by one walk over those of the Configuration's namespace.
use Rattle.std.proofs.Common.{◌≡◌, ℕ, Bool, true, false, List, length, Option, None, refl, sym, ap, ◌∙◌}
use Rattle.std.specs.Prelude.{◌&&◌, ◌||◌, bytes_eq, not, map, is_some, slice_get}
use Rattle.std.specs.List.{filter}
use Rattle.std.proofs.lemmas.List.{length-map}
use Rattle.resource_types.specs.declared.names.Kind.TheVariants as kind
use Rattle.resource_types.specs.declared.objects.Object.{Object}
use Rattle.resource_types.specs.Objects.{has_been_ready, is_of}
use Rattle.resource_types.specs.Lookups.{State, given, in_space, is_called, is_free, is_given, is_owned_by, is_owner, latest_created, latest_ready, of_kind}
use Rattle.resource_types.proofs.Exact.{left, right}
use Rattle.control_rules.specs.declared.settings.GcSettings.{GcSettings}
use Rattle.control_rules.specs.Collection.{candidate_of, candidates, collected_place, collection_choice, first_place, is_candidate, is_stale}
use Rattle.revision_gc.specs.declared.choice.Pick.{Pick}
use Rattle.revision_gc.specs.declared.choice.Pick.TheVariants.{Stale, First, Nobody}
use Rattle.revision_gc.specs.Choices.{pick_of, picked}
use Rattle.revision_gc.specs.Sweeps.{count_from, first_object, is_candidate_beside, is_stale_candidate}
use Rattle.revision_gc.proofs.Picks.{place_by_pick}
use Rattle.revision_gc.proofs.Firsts.{first_found, first_stands}
use Rattle.revision_gc.proofs.Walks.{counted_all, filtered, filter-in_space, whole}

-- ---- a candidate, as it is asked

asked : (owned free latest : Bool) → ((owned && free) && not latest) ≡ ((owned && not latest) && free)
asked true true true = refl
asked true true false = refl
asked true false true = refl
asked true false false = refl
asked false free latest = refl

pub counted_as : (st : State) (c v : Object) (created ready : Option Object) (t : Bool)
    → created ≡ latest_created st c → ready ≡ latest_ready st c → t ≡ is_candidate_beside created ready st c v
    → t ≡ is_candidate has_been_ready st c v
unfolding is_candidate
counted_as st c v created ready t e f h =
    h ∙ sym (asked (is_owned_by c v) (is_free st v.key.name) (is_called v.key.name.name created || is_called v.key.name.name ready))
    ∙ rw (e, f) refl

-- a candidate is in the Configuration's namespace
candidate-space : (st : State) (c v : Object) → is_candidate has_been_ready st c v ≡ true → bytes_eq v.key.name.space c.key.name.space ≡ true
unfolding is_candidate
candidate-space st c v e =
    let owned = left (is_owned_by c v) (is_free st v.key.name) (left (is_owned_by c v && is_free st v.key.name) _ e) in
    right (is_of kind.Revision v) _ (left (is_of kind.Revision v && bytes_eq v.key.name.space c.key.name.space) (is_given (is_owner c) v.meta.owner) owned)

-- ---- the choice among a list of objects

given_picked : (pick : Pick) (a b : Option ℕ) (at : ℕ → Option Object) → given (picked pick a b) at ≡ picked pick (given a at) (given b at)
given_picked Stale a b at = refl
given_picked First a b at = refl
given_picked Nobody a b at = refl

same_pick : (gc : GcSettings) (m n : ℕ) (t u : Bool) (a b x y : Option Object) → m ≡ n → t ≡ u → a ≡ x → b ≡ y
    → picked (pick_of gc m t) a b ≡ picked (pick_of gc n u) x y
same_pick gc m n t u a b x y e f g h = rw (e, f, g, h) refl

module _ (gc : GcSettings) (now : ℕ) (os : List Object) where
  abbrev first_stale : Option Object
  first_stale = first_object (λ o. is_stale gc now (candidate_of o)) None os

  abbrev first_of_all : Option Object
  first_of_all = first_object (λ o. true) None os

  list_choice : given (collected_place gc now (map candidate_of os)) (slice_get os) ≡ picked (pick_of gc (length os) (is_some first_stale)) first_stale first_of_all
  list_choice =
      let places = map candidate_of os in
      let stale = first_place (is_stale gc now) places in
      let all = first_place (λ c. true) places in
      ap (λ p. given p (slice_get os)) (place_by_pick gc now places)
      ∙ given_picked (pick_of gc (length places) (is_some stale)) stale all (slice_get os)
      ∙ same_pick gc (length places) (length os) (is_some stale) (is_some first_stale)
      (given stale (slice_get os)) (given all (slice_get os)) first_stale first_of_all
      (length-map os candidate_of) (first_stands (is_stale gc now) os) (first_found (is_stale gc now) os) (first_found (λ c. true) os)

-- ---- the choice among the Revisions that stand

module _ (gc : GcSettings) (st : State) (c : Object) (now : ℕ) where
  abbrev counts : Object → Bool
  counts = is_candidate has_been_ready st c

  abbrev revisions : List Object
  revisions = of_kind kind.Revision st

  choice_is : collection_choice has_been_ready gc st c now ≡ given (collected_place gc now (map candidate_of (candidates has_been_ready st c))) (slice_get (candidates has_been_ready st c))
  unfolding collection_choice
  choice_is = refl

  -- `near` are those of the Configuration's namespace
  pub chosen_as : (near : List Object) (n : ℕ) (s f out : Option Object) (t : Bool) (pick : Pick)
      → near ≡ in_space c.key.name.space revisions
      → n ≡ count_from counts 0 near → s ≡ first_object (is_stale_candidate gc now st c) None near → f ≡ first_object counts None near
      → t ≡ is_some s → pick ≡ pick_of gc n t → out ≡ picked pick s f
      → out ≡ collection_choice has_been_ready gc st c now
  unfolding candidates
  chosen_as near n s f out t pick near-is count-is s-is f-is t-is pick-is out-is =
      let same : filter counts near ≡ candidates has_been_ready st c =
      ap (filter counts) near-is ∙ filter-in_space counts c.key.name.space (candidate-space st c) revisions in
      let stale = s-is ∙ filtered counts (λ o. is_stale gc now (candidate_of o)) near None ∙ ap (first_object (λ o. is_stale gc now (candidate_of o)) None) same in
      let all = f-is ∙ whole counts near None ∙ ap (first_object (λ o. true) None) same in
      out-is ∙ ap (λ p. picked p s f) pick-is
      ∙ same_pick gc n (length (candidates has_been_ready st c)) t (is_some (first_stale gc now (candidates has_been_ready st c))) s f
      (first_stale gc now (candidates has_been_ready st c)) (first_of_all gc now (candidates has_been_ready st c))
      (count-is ∙ counted_all counts near ∙ ap length same) (t-is ∙ ap is_some stale) stale all
      ∙ sym (list_choice gc now (candidates has_been_ready st c)) ∙ sym choice_is
