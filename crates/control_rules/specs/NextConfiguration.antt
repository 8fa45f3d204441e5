-- The next write of the Configuration controller: the Configuration's removal, its Revision, its status.
use Rattle.std.specs.Prelude.{ℕ, not, List, [], ◌∷◌, codes, filter, decimal, Option, Some, None}
use Rattle.json_tree.specs.declared.members.Table.{Table}
use Rattle.json_tree.specs.Tree.{put_entry}
use Rattle.resource_types.specs.declared.names.Kind.{Kind}
use Rattle.resource_types.specs.declared.names.Kind.TheVariants as kind
use Rattle.resource_types.specs.declared.names.Name.{Name}
use Rattle.resource_types.specs.declared.metadata.Owner.{Owner}
use Rattle.resource_types.specs.declared.objects.Body.TheVariants.{Revision}
use Rattle.resource_types.specs.declared.objects.Object.{Object}
use Rattle.resource_types.specs.Objects.{no_status, has_been_ready}
use Rattle.resource_types.specs.Lookups.{State}
use Rattle.control_rules.specs.Standing.{key_at, listed, standing, is_orphan, template_of}
use Rattle.control_rules.specs.Readings.{stored_status, revision_name, configuration_status_in}
use Rattle.control_rules.specs.Differences.{ObjectPlan, first_plan, when, given, missing, new_object, owner_by, creation, removal, service_label, status_change}

-- the three names that are shown of a Revision's pins, and are never taken from a template
abbrev pub shown_names : List (List ℕ)
shown_names = codes "serving.knative.dev/routingState" ∷ codes "serving.knative.dev/routingStateModified" ∷ codes "serving.knative.dev/routes" ∷ []

-- labels or annotations without these names
abbrev pub without_shown : List (List ℕ × List ℕ) → List (List ℕ × List ℕ)
without_shown es = filter (λ (e : List ℕ × List ℕ). not (listed e.0 shown_names)) es

-- the labels with the name of the Service that owns the Configuration, if one does
abbrev pub with_service : Kind → List ℕ → List (List ℕ × List ℕ) → List (List ℕ × List ℕ)
with_service kind.Service name es = put_entry service_label name es
with_service kind.Configuration name es = es
with_service kind.Revision name es = es
with_service kind.Route name es = es
with_service kind.Health name es = es
with_service kind.Table name es = es

-- the same by the owner, if there is one
abbrev pub with_owner : Option Owner → List (List ℕ × List ℕ) → List (List ℕ × List ℕ)
with_owner None es = es
with_owner (Some w) es = with_service w.kind w.name es

-- the labels of a Configuration's Revision: the template's, with the Configuration, its generation, and its Service
unfoldable pub revision_labels : Object → Table (List ℕ)
revision_labels c = record {
  entries =
      with_owner c.meta.owner
      (put_entry (codes "serving.knative.dev/configurationGeneration") (decimal c.meta.stamp.generation)
      (put_entry (codes "serving.knative.dev/configuration") c.key.name.name
      (without_shown (template_of c.body).labels.entries)));
}

-- the annotations of a Configuration's Revision: the template's
unfoldable pub revision_annotations : Object → Table (List ℕ)
revision_annotations c = record { entries = without_shown (template_of c.body).annotations.entries }

-- the Revision that a Configuration makes
abbrev pub made_revision : Object → Object
made_revision c =
    new_object (key_at kind.Revision (revision_name c)) (Some (owner_by kind.Configuration c)) (revision_labels c) (revision_annotations c)
    (Revision (template_of c.body).spec c.meta.stamp.generation [] None no_status)

-- the Configuration is removed, where its owner is gone
abbrev pub configuration_orphaned : State → Object → Option ObjectPlan
configuration_orphaned st c = when (is_orphan st c) (removal c)

-- its Revision is made
abbrev pub revision_missing : State → Object → Option ObjectPlan
revision_missing st c = missing (standing kind.Revision (revision_name c) st) (creation (made_revision c))

-- the Configuration gets its status
abbrev pub configuration_status_differs : State → Object → ℕ → Option ObjectPlan
configuration_status_differs st c now = status_change c (configuration_status_in has_been_ready stored_status st c) now

-- the first difference of the Configuration of the name
unfoldable pub configuration_next : State → Name → ℕ → Option ObjectPlan
configuration_next st n now =
    given (standing kind.Configuration n st) (λ c.
    first_plan (configuration_orphaned st c)
    (first_plan (revision_missing st c)
    (configuration_status_differs st c now)))
