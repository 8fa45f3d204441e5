-- What is read of the list of present objects.
use Rattle.std.proofs.Common.{◌≡◌, ℕ, ◌-◌, ◌<◌, ◌≤◌, List, length, get_or, Some, Ordering, sym, ap, ◌∙◌, arith}
use Rattle.std.specs.Prelude.{slice_get}
use Rattle.std.specs.Option.{option_map}
use Rattle.std.proofs.lemmas.List.{length-map}
use Rattle.std.proofs.lemmas.Option.{slice_get-map, get_or_from_slice_get}
use Rattle.version_store.specs.declared.item.Item.{Ghosts}
use Rattle.version_store.specs.declared.write.Entry.{Entry}
use Rattle.version_store.specs.State.{state}
use Rattle.version_store.specs.Journal.{entry_at_version}
use Rattle.version_store.specs.Index.{IsPresentIndex}
use Rattle.version_store.proofs.Keys.{some_at, entry_at_version-get}
use Rattle.version_store.proofs.Indexed.{IsIn-at, version_within}
use Rattle.version_store.proofs.States.{version_of, StandsIn, IsObjectOf, state_stands}

module _ {O D K N A : Type 0} (item : Ghosts O D K N A) (cmp : K → K → Ordering) (entries : List (Entry O D K N A)) (present : List ℕ) (index : IsPresentIndex item cmp entries present) where
  pub length-present : length present ≡ length (state item.key cmp entries)
  length-present = ap length index.versions ∙ length-map (state item.key cmp entries) (version_of item cmp)

  -- the entry that is read at a place of the list puts the object at that place of the state
  pub object_read : (place : ℕ) (entry : Entry O D K N A) → place < length present → slice_get entries (get_or present place 0 - 1) ≡ Some entry → entry.object ≡ slice_get (state item.key cmp entries) place
  object_read place entry lt e =
      let st = state item.key cmp entries in
      let lt' : place < length st = omega (arith, lt, length-present) in
      let there = some_at st place lt' in
      let stands : StandsIn item cmp entries there.0 = IsIn-at (version_of item cmp) item.key (IsObjectOf item cmp) entries st place there.0 (state_stands item cmp entries index.stamped) there.1 in
      let read : slice_get present place ≡ Some (version_of item cmp there.0) = ap (λ l. slice_get l place) index.versions ∙ slice_get-map (version_of item cmp) st place ∙ ap (option_map (version_of item cmp)) there.1 in
      let version : get_or present place 0 ≡ version_of item cmp there.0 = get_or_from_slice_get present place (version_of item cmp there.0) 0 read in
      let counted = version_within entries (version_of item cmp there.0) stands.entry stands.at in
      let one : 1 ≤ get_or present place 0 = omega (arith, counted.0, version) in
      let here : entry_at_version entries (get_or present place 0) ≡ Some entry = entry_at_version-get entries (get_or present place 0) entry one e in
      let same : stands.entry ≡ entry = cc (stands.at, here, version) in
      ap (λ x. x.object) (sym same) ∙ stands.is.object ∙ sym there.1
