-- The index after an entry more.
use Rattle.std.proofs.Common.{◌≡◌, ℕ, ◌+◌, List, [], ◌∷◌, ◌++◌, length, cond, Option, Some, None, Result, Ordering, refl, sym, ap, ◌∙◌}
use Rattle.std.specs.Prelude.{map}
use Rattle.std.specs.Option.{is_some}
use Rattle.std.specs.Cmp.{IsTotalOrder, IsEquivalence}
use Rattle.version_store.specs.declared.item.Stamp.{Stamp}
use Rattle.version_store.specs.declared.item.Item.{Ghosts}
use Rattle.version_store.specs.declared.write.Entry.{Entry}
use Rattle.version_store.specs.declared.write.Write.{Write}
use Rattle.version_store.specs.declared.write.Change.{Change}
use Rattle.version_store.specs.declared.write.Change.TheVariants.{Put, Remove}
use Rattle.version_store.specs.declared.write.Applied.{Applied}
use Rattle.version_store.specs.declared.write.Applied.TheVariants.{Done, Same, Stale, Exists, Absent}
use Rattle.version_store.specs.Laws.{ChangesStampAlone}
use Rattle.version_store.specs.State.{find, state, versions_of}
use Rattle.version_store.specs.Journal.{next_stamp, IsStamped, AreStamped, changes_guard, newest_guard, last_version}
use Rattle.version_store.specs.Apply.{PutsItsKey, object_after, entry_of, answer_of, answer_to, with_entry, spare_after}
use Rattle.version_store.specs.Index.{row_key, row_version, last_rows, search_in, put_at, removed_at, changed_at}
use Rattle.version_store.proofs.Keyed.{Puts, put-search, changed-search, map-put_at, map-removed_at}
use Rattle.version_store.proofs.Journals.{state-push, last_rows-push, AreStamped-push, newest_guard-push}
use Rattle.version_store.proofs.States.{version_of, next_version, state_order}

module _ {O D K N A : Type 0} (item : Ghosts O D K N A) (alone : ChangesStampAlone item.key item.stamp item.stamped item.same_spec item.guards) (spec : IsEquivalence item.same_spec) where
  -- a stamp that is given changes no comparison of specs
  spec_of_stamped : (standing object : O) (s : Stamp) → item.same_spec standing object ≡ item.same_spec standing (item.stamped object s)
  spec_of_stamped standing object s =
      spec.symm standing object ∙ spec.congr object (item.stamped object s) standing (alone.spec_stays object s) ∙ spec.symm (item.stamped object s) standing

  stamp_of_stamped : (standing : Option O) (object : O) (s : Stamp) (version moment : ℕ) → next_stamp item standing object version moment ≡ next_stamp item standing (item.stamped object s) version moment
  stamp_of_stamped None object s version moment = refl
  stamp_of_stamped (Some old) object s version moment = rw (spec_of_stamped old object s) refl

  -- the object that is put has the key, and the stamp that is due to it
  pub put_stamped : (standing : Option O) (version : ℕ) (key : K) (change : Change O) (moment : ℕ) → PutsItsKey item.key key change → IsStamped item standing version key (object_after item standing version change moment) moment
  put_stamped standing version key (Put object) moment own =
      let s = next_stamp item standing object version moment in
      (alone.same_key object s ∙ own, alone.given object s ∙ stamp_of_stamped standing object s version moment)
  put_stamped standing version key Remove moment own = tt

puts_key : {O D K N A : Type 0} (item : Ghosts O D K N A) (standing : Option O) (version : ℕ) (key : K) (object : Option O) (moment : ℕ) → IsStamped item standing version key object moment → Puts item.key key object
puts_key item standing version key None moment h = tt
puts_key item standing version key (Some o) moment h = h.0

-- the last versions after an entry more
pub lasts-push : {O D K N A : Type 0} (cmp : K → K → Ordering) (total : IsTotalOrder cmp) (entries : List (Entry O D K N A)) (entry : Entry O D K N A) (lasts : List ℕ) (place : Result ℕ ℕ) → lasts ≡ map row_version (last_rows cmp entries)
    → place ≡ search_in cmp entry.key (map row_key (last_rows cmp entries)) → put_at (length entries + 1) lasts place ≡ map row_version (last_rows cmp (entries ++ entry ∷ []))
lasts-push {K = K} cmp total entries entry lasts place is e =
    let row : ℕ × K = (length entries + 1, entry.key) in
    let rows = last_rows cmp entries in
    ap (λ l. put_at (length entries + 1) l place) is
    ∙ sym (map-put_at row_version row rows place)
    ∙ ap (λ p. map row_version (put_at row rows p)) e
    ∙ sym (ap (map row_version) (last_rows-push cmp entries entry ∙ put-search row_key cmp total row rows))

module _ {O D K N A : Type 0} (item : Ghosts O D K N A) (cmp : K → K → Ordering) (total : IsTotalOrder cmp) where
  versions_changed : (standing : Option O) (version : ℕ) (key : K) (object : Option O) (moment : ℕ) (st : List O) (place : Result ℕ ℕ) → IsStamped item standing version key object moment
      → versions_of item.stamp (changed_at object st place) ≡ cond (is_some object) (put_at version (versions_of item.stamp st) place) (removed_at (versions_of item.stamp st) place)
  versions_changed standing version key None moment st place h = map-removed_at (version_of item cmp) st place
  versions_changed standing version key (Some o) moment st place h =
      let own : version_of item cmp o ≡ version = ap (λ t. t.version) h.1 ∙ next_version item cmp standing o version moment in
      map-put_at (version_of item cmp) o st place ∙ ap (λ v. put_at v (versions_of item.stamp st) place) own

  -- the present versions after an entry more
  pub present-push : (entries : List (Entry O D K N A)) (entry : Entry O D K N A) (standing : Option O) (present : List ℕ) (place : Result ℕ ℕ) → IsStamped item standing (length entries + 1) entry.key entry.object entry.moment
      → present ≡ versions_of item.stamp (state item.key cmp entries) → place ≡ search_in cmp entry.key (map item.key (state item.key cmp entries))
      → cond (is_some entry.object) (put_at (length entries + 1) present place) (removed_at present place) ≡ versions_of item.stamp (state item.key cmp (entries ++ entry ∷ []))
  present-push entries entry standing present place h is e =
      let st = state item.key cmp entries in
      ap (λ l. cond (is_some entry.object) (put_at (length entries + 1) l place) (removed_at l place)) is
      ∙ sym (versions_changed standing (length entries + 1) entry.key entry.object entry.moment st place h)
      ∙ ap (λ p. versions_of item.stamp (changed_at entry.object st p)) e
      ∙ sym (ap (versions_of item.stamp) (state-push item.key cmp entries entry ∙ changed-search item.key cmp total entry.key entry.object st (puts_key item standing (length entries + 1) entry.key entry.object entry.moment h) (state_order item cmp total entries)))

-- what holds of the index once an entry is added
pub record IsNext {O D K N A : Type 0} (item : Ghosts O D K N A) (cmp : K → K → Ordering) (entries : List (Entry O D K N A)) (lasts present : List ℕ) (newest : ℕ) : Type 0 where
  pub stamped : AreStamped item cmp entries
  pub last_versions : lasts ≡ map row_version (last_rows cmp entries)
  pub present_versions : present ≡ versions_of item.stamp (state item.key cmp entries)
  pub guard : newest ≡ newest_guard item cmp entries

module _ {O D K N A : Type 0} (item : Ghosts O D K N A) (cmp : K → K → Ordering) (total : IsTotalOrder cmp) (alone : ChangesStampAlone item.key item.stamp item.stamped item.same_spec item.guards) (spec : IsEquivalence item.same_spec) where
  by_entry : (entries : List (Entry O D K N A)) (lasts present : List ℕ) (newest : ℕ) → IsNext item cmp entries lasts present newest
      → (entry : Entry O D K N A) → IsStamped item (find item.key cmp entry.key (state item.key cmp entries)) (length entries + 1) entry.key entry.object entry.moment
      → (among_lasts among_present : Result ℕ ℕ) → among_lasts ≡ search_in cmp entry.key (map row_key (last_rows cmp entries)) → among_present ≡ search_in cmp entry.key (map item.key (state item.key cmp entries))
      → IsNext item cmp (entries ++ entry ∷ []) (put_at (length entries + 1) lasts among_lasts) (cond (is_some entry.object) (put_at (length entries + 1) present among_present) (removed_at present among_present))
      (cond (changes_guard item (find item.key cmp entry.key (state item.key cmp entries)) entry.object) (length entries + 1) newest)
  by_entry entries lasts present newest old entry one among_lasts among_present l p = record {
    stamped = AreStamped-push item cmp entries entry old.stamped one;
    last_versions = lasts-push cmp total entries entry lasts among_lasts old.last_versions l;
    present_versions = present-push item cmp total entries entry (find item.key cmp entry.key (state item.key cmp entries)) present among_present one old.present_versions p;
    guard = ap (cond (changes_guard item (find item.key cmp entry.key (state item.key cmp entries)) entry.object) (length entries + 1)) old.guard ∙ sym (newest_guard-push item cmp entries entry);
  }

  -- the index after the entry of a write
  pub next_index : (entries : List (Entry O D K N A)) (lasts present : List ℕ) (newest : ℕ) → IsNext item cmp entries lasts present newest
      → (write : Write O D K N A) (standing : Option O) (version : ℕ) (entry : Entry O D K N A) → PutsItsKey item.key write.plan.key write.plan.change
      → standing ≡ find item.key cmp write.plan.key (state item.key cmp entries) → version ≡ length entries + 1 → entry ≡ entry_of item standing version write
      → (among_lasts among_present : Result ℕ ℕ) → among_lasts ≡ search_in cmp write.plan.key (map row_key (last_rows cmp entries)) → among_present ≡ search_in cmp write.plan.key (map item.key (state item.key cmp entries))
      → IsNext item cmp (entries ++ entry ∷ []) (put_at version lasts among_lasts) (cond (is_some entry.object) (put_at version present among_present) (removed_at present among_present)) (cond (changes_guard item standing entry.object) version newest)
  next_index entries lasts present newest old write standing version entry own s v e among_lasts among_present l p =
      rw (e, s, v) (by_entry entries lasts present newest old (entry_of item (find item.key cmp write.plan.key (state item.key cmp entries)) (length entries + 1) write)
      (put_stamped item alone spec (find item.key cmp write.plan.key (state item.key cmp entries)) (length entries + 1) write.plan.key write.plan.change write.moment own) among_lasts among_present l p)

-- the answer by what the index gives is the answer after the entries
pub answer_is : {O D K N A : Type 0} (item : Ghosts O D K N A) (cmp : K → K → Ordering) (entries : List (Entry O D K N A)) (write : Write O D K N A) (standing : Option O) (last newest version : ℕ)
    → standing ≡ find item.key cmp write.plan.key (state item.key cmp entries) → last ≡ last_version cmp entries write.plan.key → newest ≡ newest_guard item cmp entries → version ≡ length entries + 1
    → answer_of item standing last newest version write ≡ answer_to item cmp entries write
answer_is item cmp entries write standing last newest version s l n v = rw (s, l, n, v) refl

-- an answer other than Done leaves the journal as it is
pub not_entry : {O D K N A : Type 0} (a : Applied) → ((version : ℕ) → a ≡ Done version → ⊥) → (entries : List (Entry O D K N A)) (entry : Entry O D K N A) → entries ≡ with_entry a entries entry
not_entry (Done version) other entries entry = absurd (other version refl)
not_entry (Same version) other entries entry = refl
not_entry (Stale newer) other entries entry = refl
not_entry (Exists version) other entries entry = refl
not_entry (Absent last) other entries entry = refl

pub not_spare : (a : Applied) → ((version : ℕ) → a ≡ Done version → ⊥) → (spare : ℕ) → spare ≡ spare_after a spare
not_spare (Done version) other spare = absurd (other version refl)
not_spare (Same version) other spare = refl
not_spare (Stale newer) other spare = refl
not_spare (Exists version) other spare = refl
not_spare (Absent last) other spare = refl
