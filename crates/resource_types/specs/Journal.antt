-- The journal and what stands, and the words of the store at the objects of the control plane.
use Rattle.std.specs.Prelude.{ℕ, ◌≡◌, List, Option}
use Rattle.version_store.specs.declared.item.Stamp.{Stamp}
use Rattle.version_store.specs.declared.write.Entry as store_entry
use Rattle.version_store.specs.declared.write.Plan as store_plan
use Rattle.version_store.specs.declared.write.Write as store_write
use Rattle.version_store.specs.declared.write.Applied.{Applied}
use Rattle.version_store.specs.State as store
use Rattle.version_store.specs.Journal as journal
use Rattle.version_store.specs.Apply as apply
use Rattle.resource_types.specs.declared.names.Kind.{Kind}
use Rattle.resource_types.specs.declared.names.Actor.{Actor}
use Rattle.resource_types.specs.declared.names.Name.{Name}
use Rattle.resource_types.specs.declared.names.Key.{Key}
use Rattle.resource_types.specs.declared.objects.Object.{Object}
use Rattle.resource_types.specs.contracts.names.KeyOrd.TheImpl as key_order
use Rattle.resource_types.specs.contracts.item.ObjectItem.TheImpl as object_item

-- what was written at one version
abbrev pub Entry : Type 0
Entry = store_entry.Entry Object Kind Key Name Actor

-- a change to one key, and the condition on which it is made
abbrev pub Plan : Type 0
Plan = store_plan.Plan Object Kind Key Name Actor

-- a plan, by whom it is applied, and what was known when it was made
abbrev pub Write : Type 0
Write = store_write.Write Object Kind Key Name Actor

-- all that was written, in order
abbrev pub Journal : Type 0
Journal = List Entry

-- the objects that stand, in order of key
abbrev pub State : Type 0
State = List Object

-- the objects that stand after these entries
abbrev pub state : Journal → State
state entries = store.state (λ o. o.key) key_order.ghosts.cmp entries

-- the objects that stood after the first n entries
abbrev pub state_at : Journal → ℕ → State
state_at entries n = store.state_at (λ o. o.key) key_order.ghosts.cmp entries n

-- the version of the key's last entry, or 0
abbrev pub last_version : Journal → Key → ℕ
last_version entries key = journal.last_version key_order.ghosts.cmp entries key

-- the version of the last entry that made a guarding object or changed its spec, or 0
abbrev pub newest_guard : Journal → ℕ
newest_guard entries = journal.newest_guard object_item.ghosts key_order.ghosts.cmp entries

-- the stamp of an object that is put at a version and a moment, where `standing` stands
abbrev pub next_stamp : Option Object → Object → ℕ → ℕ → Stamp
next_stamp standing object version moment = journal.next_stamp object_item.ghosts standing object version moment

-- the stamp that the object would get if it were put now
abbrev pub stamp_after : Journal → Object → ℕ → Stamp
stamp_after entries object moment = journal.stamp_after object_item.ghosts key_order.ghosts.cmp entries object moment

-- each entry puts an object of its key, with the stamp that is due to it
abbrev pub AreStamped : Journal → Type 0
AreStamped entries = journal.AreStamped object_item.ghosts key_order.ghosts.cmp entries

-- the answer to a write after these entries
abbrev pub answer_to : Journal → Write → Applied
answer_to entries write = apply.answer_to object_item.ghosts key_order.ghosts.cmp entries write

-- the entry that is made for a write after these entries
abbrev pub entry_for : Journal → Write → Entry
entry_for entries write = apply.entry_for object_item.ghosts key_order.ghosts.cmp entries write

-- the journal after a write
abbrev pub entries_after : Journal → Write → Journal
entries_after entries write = apply.entries_after object_item.ghosts key_order.ghosts.cmp entries write

-- a plan that can be applied
abbrev pub IsMakeable : Plan → Type 0
IsMakeable plan = apply.IsMakeable (λ o. o.key) plan
