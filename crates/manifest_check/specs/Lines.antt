-- The line that a check writes: one JSON text and a line feed.
use Rattle.std.specs.Prelude.{ℕ, List, ◌++◌, codes}
use Rattle.serde_json.specs.Data.{Data}
use Rattle.serde_json.specs.Written.{compact_text}
use Rattle.json_tree.specs.Tree.{data_of}
use Rattle.http_session.specs.declared.report.HeadFault.TheVariants.{BodyTooLarge}
use Rattle.http_session.specs.Reply.{fault_body}
use Rattle.resource_types.specs.declared.manifests.Manifest.{Manifest}
use Rattle.resource_codec.specs.Written.{written}
use Rattle.manifest_intake.specs.declared.refusal.ManifestRefusal.{ManifestRefusal}
use Rattle.manifest_intake.specs.Refusals.{refusal_data}

-- the compact text of some data, and a line feed
abbrev pub data_line : Data → List ℕ
data_line d = compact_text d ++ codes "\n"

-- the written form of a manifest
unfoldable pub manifest_line : Manifest → List ℕ
manifest_line manifest = data_line (data_of (written manifest))

-- the Status that a refused manifest gets
unfoldable pub refusal_line : ManifestRefusal → List ℕ
refusal_line refusal = data_line (refusal_data refusal)

-- the Status that a request gets whose body is too large
unfoldable pub long_line : List ℕ
long_line = fault_body BodyTooLarge ++ codes "\n"
