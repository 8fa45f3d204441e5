-- The parts of the Revision that a Configuration makes.
use Rattle.std.specs.Prelude.{ℕ, List, [], codes, decimal, Some, None}
use Rattle.json_tree.specs.Tree.{put_entry}
use Rattle.resource_types.specs.declared.names.Kind.TheVariants as kind
use Rattle.resource_types.specs.declared.metadata.Meta.{Meta}
use Rattle.resource_types.specs.declared.objects.Body.{Body}
use Rattle.resource_types.specs.declared.objects.Body.TheVariants.{Revision}
use Rattle.resource_types.specs.declared.objects.Object.{Object}
use Rattle.resource_types.specs.Objects.{no_status}
use Rattle.resource_types.specs.Spec.{no_stamp}
use Rattle.control_rules.specs.Standing.{template_of}
use Rattle.control_rules.specs.Differences.{owner_by}
use Rattle.control_rules.specs.NextConfiguration.{revision_labels, revision_annotations, without_shown}

-- its meta data: owned by the Configuration, and not yet stamped
abbrev pub made_meta : Object → Meta
made_meta c = record { stamp = no_stamp; owner = Some (owner_by kind.Configuration c); labels = revision_labels c; annotations = revision_annotations c }

-- its body: the template's spec at the Configuration's generation, without pins and status
abbrev pub made_body : Object → Body
made_body c = Revision (template_of c.body).spec c.meta.stamp.generation [] None no_status

-- the template's labels, with the Configuration and its generation
abbrev pub own_labels : Object → List (List ℕ × List ℕ)
own_labels c =
    put_entry (codes "serving.knative.dev/configurationGeneration") (decimal c.meta.stamp.generation)
    (put_entry (codes "serving.knative.dev/configuration") c.key.name.name
    (without_shown (template_of c.body).labels.entries))
