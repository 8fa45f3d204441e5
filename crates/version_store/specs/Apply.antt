-- What comes of a write.
use Rattle.std.specs.Prelude.{◌≡◌, ℕ, ◌+◌, ◌-◌, ◌==◌, nat_lt, List, [], ◌∷◌, ◌++◌, length, Bool, ◌&&◌, cond, Option, Some, None}
use Rattle.std.specs.declared.cmp.Ordering.{Ordering}
use Rattle.version_store.specs.declared.item.Item.{Ghosts}
use Rattle.version_store.specs.declared.write.Entry.{Entry}
use Rattle.version_store.specs.declared.write.Plan.{Plan}
use Rattle.version_store.specs.declared.write.Write.{Write}
use Rattle.version_store.specs.declared.write.Change.{Change}
use Rattle.version_store.specs.declared.write.Change.TheVariants.{Put, Remove}
use Rattle.version_store.specs.declared.write.Expect.{Expect}
use Rattle.version_store.specs.declared.write.Expect.TheVariants as expect
use Rattle.version_store.specs.declared.write.Applied.{Applied}
use Rattle.version_store.specs.declared.write.Applied.TheVariants as applied
use Rattle.version_store.specs.State.{find, state}
use Rattle.version_store.specs.Journal.{last_version, newest_guard, next_stamp}

-- the answer where what stands is not what was expected
abbrev pub unexpected : {O : Type 0} → Expect → Option O → ℕ → Option Applied
unexpected expect.Absent None last = None
unexpected expect.Absent (Some standing) last = Some (applied.Exists last)
unexpected (expect.At version) None last = Some (applied.Absent last)
unexpected (expect.At version) (Some standing) last = cond (version == last) None (Some (applied.Stale last))

-- the answer to a guarded plan where a guard changed later than was seen
abbrev pub guarded_stale : Bool → ℕ → ℕ → Option Applied
guarded_stale guarded seen newest = cond (guarded && nat_lt seen newest) (Some (applied.Stale newest)) None

-- the answer where the object put is the same as the one that stands
abbrev pub unchanged : {O : Type 0} → (O → O → Bool) → Change O → Option O → ℕ → Option Applied
unchanged same (Put object) (Some standing) last = cond (same object standing) (Some (applied.Same last)) None
unchanged same (Put object) None last = None
unchanged same Remove standing last = None

-- the first of three cases that holds, or else the last answer
abbrev pub first_case : Option Applied → Option Applied → Option Applied → Applied → Applied
first_case (Some a) second third otherwise = a
first_case None (Some b) third otherwise = b
first_case None None (Some c) otherwise = c
first_case None None None otherwise = otherwise

-- an object put has the plan's key
abbrev pub PutsItsKey : {O K : Type 0} → (O → K) → K → Change O → Type 0
PutsItsKey key_of key (Put object) = key_of object ≡ key
PutsItsKey key_of key Remove = Unit {0}

-- no plan removes what it expects to be absent
abbrev pub IsNoRemovalOfNothing : {O : Type 0} → Expect → Change O → Type 0
IsNoRemovalOfNothing expect.Absent Remove = ⊥
IsNoRemovalOfNothing expect.Absent (Put object) = Unit {0}
IsNoRemovalOfNothing (expect.At version) change = Unit {0}

-- a plan that can be applied
pub record IsMakeable {O D K N A : Type 0} (key_of : O → K) (plan : Plan O D K N A) : Type 0 where
  pub key : PutsItsKey key_of plan.key plan.change
  pub removal : IsNoRemovalOfNothing plan.expect plan.change

-- what stands under the key once the change is made, where `standing` stands and the write gets the version
abbrev pub object_after : {O D K N A : Type 0} → Ghosts O D K N A → Option O → ℕ → Change O → ℕ → Option O
object_after item standing version (Put object) moment = Some (item.stamped object (next_stamp item standing object version moment))
object_after item standing version Remove moment = None

module _ {O D K N A : Type 0} where
  -- the answer to a write by the first case that holds, by what stands under its key, the key's last version,
  -- the newest change of a guard, and the version that the write would get
  abbrev pub answer_of : Ghosts O D K N A → Option O → ℕ → ℕ → ℕ → Write O D K N A → Applied
  answer_of item standing last newest version write =
      first_case
      (unexpected write.plan.expect standing last)
      (guarded_stale write.plan.guarded write.seen newest)
      (unchanged item.same write.plan.change standing last)
      (applied.Done version)

  -- the entry that is made for a write
  abbrev pub entry_of : Ghosts O D K N A → Option O → ℕ → Write O D K N A → Entry O D K N A
  entry_of item standing version write =
      record { key = write.plan.key; object = object_after item standing version write.plan.change write.moment; actor = write.actor; seen = write.seen; read_at = write.read_at; moment = write.moment }

  -- the answer to a write after these entries
  abbrev pub answer_to : Ghosts O D K N A → (K → K → Ordering) → List (Entry O D K N A) → Write O D K N A → Applied
  answer_to item cmp entries write =
      answer_of item (find item.key cmp write.plan.key (state item.key cmp entries)) (last_version cmp entries write.plan.key)
      (newest_guard item cmp entries) (length entries + 1) write

  -- the entry that is made for a write after these entries
  abbrev pub entry_for : Ghosts O D K N A → (K → K → Ordering) → List (Entry O D K N A) → Write O D K N A → Entry O D K N A
  entry_for item cmp entries write = entry_of item (find item.key cmp write.plan.key (state item.key cmp entries)) (length entries + 1) write

  -- the journal, with the entry where the answer is that the write was done
  abbrev pub with_entry : Applied → List (Entry O D K N A) → Entry O D K N A → List (Entry O D K N A)
  with_entry (applied.Done version) entries entry = entries ++ entry ∷ []
  with_entry (applied.Same version) entries entry = entries
  with_entry (applied.Stale newer) entries entry = entries
  with_entry (applied.Exists version) entries entry = entries
  with_entry (applied.Absent last) entries entry = entries

  -- the journal after a write
  abbrev pub entries_after : Ghosts O D K N A → (K → K → Ordering) → List (Entry O D K N A) → Write O D K N A → List (Entry O D K N A)
  entries_after item cmp entries write = with_entry (answer_to item cmp entries write) entries (entry_for item cmp entries write)

-- for how many entries there is memory after an answer
abbrev pub spare_after : Applied → ℕ → ℕ
spare_after (applied.Done version) spare = spare - 1
spare_after (applied.Same version) spare = spare
spare_after (applied.Stale newer) spare = spare
spare_after (applied.Exists version) spare = spare
spare_after (applied.Absent last) spare = spare
