-- What a refused manifest is told.
use Rattle.std.specs.Prelude.{ℕ, List, ◌++◌, codes}
use Rattle.serde_json.specs.Data.{Data}
use Rattle.api_status.specs.Status.{failure}
use Rattle.resource_codec.specs.Paths.{path_bytes}
use Rattle.validation.specs.Texts.{text_of_place, text_of_rule}
use Rattle.manifest_intake.specs.declared.refusal.Part.{Part}
use Rattle.manifest_intake.specs.declared.refusal.Part.TheVariants as part
use Rattle.manifest_intake.specs.declared.refusal.ManifestRefusal.{ManifestRefusal}
use Rattle.manifest_intake.specs.declared.refusal.ManifestRefusal.TheVariants.{UnreadableBody, WrongShape, Mismatch, VersionGiven, Broken}

-- the path of a part
abbrev pub part_path : Part → List ℕ
part_path part.ApiVersion = codes "apiVersion"
part_path part.Kind = codes "kind"
part_path part.Namespace = codes "metadata.namespace"
part_path part.Name = codes "metadata.name"

-- the code: a rule that is broken is 422, all else a bad request
abbrev pub code_of : ManifestRefusal → ℕ
code_of (Broken invalid) = 422
code_of other = 400

abbrev pub reason_of : ManifestRefusal → List ℕ
reason_of (Broken invalid) = codes "Invalid"
reason_of other = codes "BadRequest"

abbrev pub message_of : ManifestRefusal → List ℕ
message_of UnreadableBody = codes "the body is not readable JSON"
message_of (WrongShape field) = codes "wrong shape at " ++ path_bytes field
message_of (Mismatch part) = part_path part ++ codes " does not match the path"
message_of VersionGiven = codes "metadata.resourceVersion must be absent"
message_of (Broken invalid) = text_of_place invalid.place ++ codes ": " ++ text_of_rule invalid.rule

-- the Status that a refused manifest gets
abbrev pub refusal_data : ManifestRefusal → Data
refusal_data refusal = failure (code_of refusal) (reason_of refusal) (message_of refusal)
