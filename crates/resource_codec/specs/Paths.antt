-- The path of each field, as messages give it.
-- The path of a field of a target is the end of `spec.traffic[`, its place in decimal, and these bytes.
use Rattle.std.specs.Prelude.{ℕ, List, ◌++◌, codes, decimal}
use Rattle.resource_codec.specs.declared.fields.Field.{Field}
use Rattle.resource_codec.specs.declared.fields.Field.TheVariants as field
use Rattle.resource_codec.specs.declared.fields.TargetField.{TargetField}
use Rattle.resource_codec.specs.declared.fields.TargetField.TheVariants as part

abbrev pub part_bytes : TargetField → List ℕ
part_bytes part.Whole = codes "]"
part_bytes part.ConfigurationName = codes "].configurationName"
part_bytes part.LatestRevision = codes "].latestRevision"
part_bytes part.Percent = codes "].percent"
part_bytes part.RevisionName = codes "].revisionName"
part_bytes part.Tag = codes "].tag"

abbrev pub path_bytes : Field → List ℕ
path_bytes field.Body = codes "body"
path_bytes field.ApiVersion = codes "apiVersion"
path_bytes field.Kind = codes "kind"
path_bytes field.Metadata = codes "metadata"
path_bytes field.Name = codes "metadata.name"
path_bytes field.Namespace = codes "metadata.namespace"
path_bytes field.ResourceVersion = codes "metadata.resourceVersion"
path_bytes field.Labels = codes "metadata.labels"
path_bytes field.Annotations = codes "metadata.annotations"
path_bytes field.Spec = codes "spec"
path_bytes field.Template = codes "spec.template"
path_bytes field.TemplateMetadata = codes "spec.template.metadata"
path_bytes field.TemplateName = codes "spec.template.metadata.name"
path_bytes field.TemplateLabels = codes "spec.template.metadata.labels"
path_bytes field.TemplateAnnotations = codes "spec.template.metadata.annotations"
path_bytes field.TemplateSpec = codes "spec.template.spec"
path_bytes field.Concurrency = codes "spec.template.spec.containerConcurrency"
path_bytes field.Timeout = codes "spec.template.spec.timeoutSeconds"
path_bytes field.Traffic = codes "spec.traffic"
path_bytes (field.Target i p) = codes "spec.traffic[" ++ decimal i ++ part_bytes p
