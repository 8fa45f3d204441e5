-- The texts of places and rules.
use Rattle.std.specs.Prelude.{ℕ, List, ◌++◌, codes, decimal}
use Rattle.validation.specs.declared.places.Place.{Place}
use Rattle.validation.specs.declared.places.Place.TheVariants as place
use Rattle.validation.specs.declared.places.Rule.{Rule}
use Rattle.validation.specs.declared.places.Rule.TheVariants as rule

-- the path of a part of the target with the number
abbrev pub target_place : ℕ → List ℕ → List ℕ
target_place i end = codes "spec.traffic[" ++ decimal i ++ end

-- the path of a place
abbrev pub text_of_place : Place → List ℕ
text_of_place place.MetadataName = codes "metadata.name"
text_of_place place.TemplateName = codes "spec.template.metadata.name"
text_of_place place.Containers = codes "spec.template.spec.containers"
text_of_place (place.Image i) = codes "spec.template.spec.containers[" ++ decimal i ++ codes "].image"
text_of_place place.ContainerConcurrency = codes "spec.template.spec.containerConcurrency"
text_of_place place.TimeoutSeconds = codes "spec.template.spec.timeoutSeconds"
text_of_place place.Traffic = codes "spec.traffic"
text_of_place (place.Target i) = target_place i (codes "]")
text_of_place (place.ConfigurationName i) = target_place i (codes "].configurationName")
text_of_place (place.LatestRevision i) = target_place i (codes "].latestRevision")
text_of_place (place.Percent i) = target_place i (codes "].percent")
text_of_place (place.RevisionName i) = target_place i (codes "].revisionName")
text_of_place (place.Tag i) = target_place i (codes "].tag")

-- what a rule asks for
abbrev pub text_of_rule : Rule → List ℕ
text_of_rule rule.Name = codes "must be a DNS label of at most 42 bytes"
text_of_rule rule.TemplateName = codes "must begin with the name and a dash and be a DNS label"
text_of_rule rule.Containers = codes "must be a list of 1 to 16 containers"
text_of_rule rule.Image = codes "must be a text that is not empty"
text_of_rule rule.Concurrency = codes "must be from 0 to 1000"
text_of_rule rule.Timeout = codes "must be from 0 to 600"
text_of_rule rule.TargetCount = codes "must have 1 to 16 targets"
text_of_rule rule.Absent = codes "must be absent"
text_of_rule rule.OneName = codes "must name one revision or one configuration"
text_of_rule rule.Label = codes "must be a DNS label"
text_of_rule rule.Latest = codes "must be true exactly where no revision is named"
text_of_rule rule.Percent = codes "must be from 0 to 100"
text_of_rule rule.Tag = codes "must be a DNS label that fits before the name"
text_of_rule rule.TagOnce = codes "must be used once"
text_of_rule rule.Sum = codes "the percents must sum to 100"
