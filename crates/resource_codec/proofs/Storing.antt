-- What may be stored can be shown, has a document that is at most 32 deep, and may be stored with any stamp.
use Rattle.std.proofs.Common.{◌≡◌, ℕ, ◌+◌, [], ◌∷◌, length, Option, subst, arith}
use Rattle.std.specs.Option.{ForSome}
use Rattle.std.proofs.lemmas.List.Elements.{All-append, All-from_recursion, All-weaker}
use Rattle.version_store.specs.declared.item.Stamp.{Stamp}
use Rattle.version_store.specs.declared.write.Entry.{Entry}
use Rattle.version_store.specs.declared.write.Write.{Write}
use Rattle.version_store.specs.declared.write.Change.{Change}
use Rattle.version_store.specs.declared.write.Change.TheVariants.{Put, Remove}
use Rattle.version_store.specs.declared.write.Applied.{Applied}
use Rattle.version_store.specs.declared.write.Applied.TheVariants.{Done, Same, Stale, Exists, Absent}
use Rattle.version_store.specs.Journal.{next_stamp}
use Rattle.version_store.specs.Apply.{object_after, with_entry, entries_after, answer_to, entry_for}
use Rattle.resource_types.specs.declared.names.Kind.{Kind}
use Rattle.resource_types.specs.declared.names.Key.{Key}
use Rattle.resource_types.specs.declared.names.Name.{Name}
use Rattle.resource_types.specs.declared.names.Actor.{Actor}
use Rattle.resource_types.specs.declared.specification.PodSpec.{PodSpec}
use Rattle.resource_types.specs.declared.specification.Template.{Template}
use Rattle.resource_types.specs.declared.objects.Body.{Body}
use Rattle.resource_types.specs.declared.objects.Body.TheVariants.{Service, Configuration, Revision, Route, Health, Table as Published}
use Rattle.resource_types.specs.declared.objects.Object.{Object}
use Rattle.resource_types.specs.contracts.names.KeyOrd.TheImpl as key_order
use Rattle.resource_types.specs.contracts.item.ObjectItem.TheImpl as object_item
use Rattle.resource_types.specs.Spec.{stamped}
use Rattle.resource_types.specs.Manifests.{manifest_spec}
use Rattle.resource_types.specs.Lookups.{Journal, state, find}
use Rattle.resource_codec.specs.Written.{IsWellTemplate, IsWellRest, IsWellSpec}
use Rattle.resource_codec.specs.Objects.{IsClientBody, IsWellBody}
use Rattle.resource_codec.specs.Sound.{RestFits, RestOfSpecFits, SpecRises}
use Rattle.resource_codec.specs.Storable.{IsStorableTemplate, IsStorableBody, IsStorable, ChangesStorable, PutsStorable, AreStorable}
use Rattle.resource_codec.specs.Views.{IsShown, ShowsWell, AreShown}

-- ---- what is stored can be shown, and patched

well_rest : {s : PodSpec} → RestFits 3 32 s → IsWellRest s
well_rest f = record { well = f.well; deep = let d = f.deep in omega arith }

well_template : (t : Template) → IsStorableTemplate t → IsWellTemplate t
well_template t h = record { labels = h.labels; annotations = h.annotations; rest = well_rest h.rest }

well_body : (b : Body) → IsStorableBody b → IsWellBody b
well_body (Service template traffic status) h = well_template template h
well_body (Configuration template status) h = well_template template h
well_body (Revision pod generation pins active status) h = well_rest h
well_body (Route traffic status) h = tt
well_body (Health uid resources container ever) h = tt
well_body (Published route rows targets) h = tt

pub storable_shown : (o : Object) → IsStorable o → IsShown o
storable_shown o h = record { kind = h.kind; well = record { labels = h.labels; annotations = h.annotations; body = well_body o.body h.body } }

-- a journal whose objects may be stored can be shown
pub all_shown : (j : Journal) → AreStorable j → AreShown j
all_shown j a = All-weaker PutsStorable ShowsWell (λ e h o s. storable_shown o (h o s)) j a

well_spec : (b : Body) → IsStorableBody b → IsWellSpec (manifest_spec b)
well_spec (Service template traffic status) h = well_template template h
well_spec (Configuration template status) h = well_template template h
well_spec (Revision pod generation pins active status) h = tt
well_spec (Route traffic status) h = tt
well_spec (Health uid resources container ever) h = tt
well_spec (Published route rows targets) h = tt

-- its spec is written well
pub storable_spec : (o : Object) → IsStorable o → IsWellSpec (manifest_spec o.body)
storable_spec o h = well_spec o.body h.body

rest_of_body : (b : Body) → IsStorableBody b → RestOfSpecFits 3 32 (manifest_spec b)
rest_of_body (Service template traffic status) h = h.rest
rest_of_body (Configuration template status) h = h.rest
rest_of_body (Revision pod generation pins active status) h = tt
rest_of_body (Route traffic status) h = tt
rest_of_body (Health uid resources container ever) h = tt
rest_of_body (Published route rows targets) h = tt

-- its rest is at most 29 deep
pub storable_rest : (o : Object) → IsStorable o → RestOfSpecFits 3 32 (manifest_spec o.body)
storable_rest o h = rest_of_body o.body h.body

-- ---- what clients write

-- a body that clients write may be stored where its spec is sound
pub client_body_storable : (b : Body) → IsClientBody b → RestOfSpecFits 3 32 (manifest_spec b) → SpecRises (manifest_spec b) → IsStorableBody b
client_body_storable (Service template traffic status) c f r = record { labels = r.0; annotations = r.1; rest = f }
client_body_storable (Configuration template status) c f r = record { labels = r.0; annotations = r.1; rest = f }
client_body_storable (Revision pod generation pins active status) c f r = absurd c
client_body_storable (Route traffic status) c f r = tt
client_body_storable (Health uid resources container ever) c f r = absurd c
client_body_storable (Published route rows targets) c f r = absurd c

-- ---- stamps and writes

-- a stamp changes nothing of it
pub stamped_storable : (o : Object) (s : Stamp) → IsStorable o → IsStorable (stamped o s)
stamped_storable o s h = record { kind = h.kind; labels = h.labels; annotations = h.annotations; body = h.body }

abbrev OneEntry : Type 0
OneEntry = Entry Object Kind Key Name Actor

put_storable : (standing : Option Object) (version : ℕ) (change : Change Object) (moment : ℕ) → ChangesStorable change → ForSome (object_after object_item.ghosts standing version change moment) IsStorable
put_storable standing version (Put o) moment k x e = let same : stamped o (next_stamp object_item.ghosts standing o version moment) ≡ x = cc in subst IsStorable same (stamped_storable o (next_stamp object_item.ghosts standing o version moment) k)
put_storable standing version Remove moment k x e = absurd cc

with_storable : (answer : Applied) (j : Journal) (e : OneEntry) → AreStorable j → PutsStorable e → AreStorable (with_entry answer j e)
with_storable (Done version) j e a k = All-append PutsStorable j (e ∷ []) a (All-from_recursion PutsStorable (e ∷ []) (k, tt))
with_storable (Same version) j e a k = a
with_storable (Stale newer) j e a k = a
with_storable (Exists version) j e a k = a
with_storable (Absent last) j e a k = a

-- after a write of what may be stored, each object of the journal still may
pub written_storable : (j : Journal) (write : Write Object Kind Key Name Actor) → AreStorable j → ChangesStorable write.plan.change → AreStorable (entries_after object_item.ghosts key_order.ghosts.cmp j write)
written_storable j write a k =
    with_storable (answer_to object_item.ghosts key_order.ghosts.cmp j write) j (entry_for object_item.ghosts key_order.ghosts.cmp j write) a
    (put_storable (find write.plan.key (state j)) (length j + 1) write.plan.change write.moment k)
