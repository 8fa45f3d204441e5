-- What stands in the journal: each object can be shown, and what a template or a pod spec keeps in JSON is at most 29 deep, so that a document of it is at most 32 deep.
use Rattle.std.specs.Prelude.{◌≡◌}
use Rattle.std.specs.List.{All}
use Rattle.std.specs.Option.{ForSome}
use Rattle.version_store.specs.declared.write.Entry.{Entry}
use Rattle.version_store.specs.declared.write.Change.{Change}
use Rattle.version_store.specs.declared.write.Change.TheVariants.{Put, Remove}
use Rattle.resource_types.specs.declared.names.Kind.{Kind}
use Rattle.resource_types.specs.declared.names.Key.{Key}
use Rattle.resource_types.specs.declared.names.Name.{Name}
use Rattle.resource_types.specs.declared.names.Actor.{Actor}
use Rattle.resource_types.specs.declared.specification.Template.{Template}
use Rattle.resource_types.specs.declared.objects.Body.{Body}
use Rattle.resource_types.specs.declared.objects.Body.TheVariants.{Service, Configuration, Revision, Route, Health, Table as Published}
use Rattle.resource_types.specs.declared.objects.Object.{Object}
use Rattle.resource_types.specs.Lookups.{Journal}
use Rattle.resource_types.specs.Objects.{kind_of_body}
use Rattle.resource_codec.specs.Written.{Rises}
use Rattle.resource_codec.specs.Sound.{RestFits}

-- a template whose names rise, with a well-formed rest that is at most 29 deep
pub record IsStorableTemplate (t : Template) : Type 0 where
  pub labels : Rises t.labels
  pub annotations : Rises t.annotations
  pub rest : RestFits 3 32 t.spec

-- the same of a body's template, and the last part of it of a Revision's pod spec
abbrev pub IsStorableBody : Body → Type 0
IsStorableBody (Service template traffic status) = IsStorableTemplate template
IsStorableBody (Configuration template status) = IsStorableTemplate template
IsStorableBody (Revision pod generation pins active status) = RestFits 3 32 pod
IsStorableBody (Route traffic status) = Unit {0}
IsStorableBody (Health uid resources container ever) = Unit {0}
IsStorableBody (Published route rows targets) = Unit {0}

-- an object of one kind, by its key and its body, whose names rise
pub record IsStorable (o : Object) : Type 0 where
  pub kind : kind_of_body o.body ≡ o.key.kind
  pub labels : Rises o.meta.labels
  pub annotations : Rises o.meta.annotations
  pub body : IsStorableBody o.body

-- what a change puts, if anything, may be stored
abbrev pub ChangesStorable : Change Object → Type 0
ChangesStorable (Put o) = IsStorable o
ChangesStorable Remove = Unit {0}

-- what the entry puts, if anything, may be stored
abbrev pub PutsStorable : Entry Object Kind Key Name Actor → Type 0
PutsStorable entry = ForSome entry.object IsStorable

-- each object of the journal may be stored
abbrev pub AreStorable : Journal → Type 0
AreStorable journal = All PutsStorable journal
