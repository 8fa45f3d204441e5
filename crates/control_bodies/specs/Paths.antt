-- The paths of the fields of control bodies, as messages give them.
use Rattle.std.specs.Prelude.{ℕ, List, ◌++◌, codes}
use Rattle.control_bodies.specs.declared.fields.Field.{Field}
use Rattle.control_bodies.specs.declared.fields.Field.TheVariants as field
use Rattle.control_bodies.specs.declared.fields.PartField.{PartField}
use Rattle.control_bodies.specs.declared.fields.PartField.TheVariants as part
use Rattle.control_bodies.specs.declared.fields.Side.{Side}
use Rattle.control_bodies.specs.declared.fields.Side.TheVariants as side

-- the name of a part in a report
abbrev pub side_name : Side → List ℕ
side_name side.Resources = codes "resourcesAvailable"
side_name side.Container = codes "containerHealthy"

-- what stands behind it in the path of a field
abbrev pub part_end : PartField → List ℕ
part_end part.Whole = codes ""
part_end part.Status = codes ".status"
part_end part.Reason = codes ".reason"
part_end part.Message = codes ".message"

abbrev pub path_bytes : Field → List ℕ
path_bytes field.Body = codes "body"
path_bytes field.RevisionName = codes "revisionName"
path_bytes (field.Part of_part f) = side_name of_part ++ part_end f
path_bytes field.Now = codes "now"
path_bytes field.Controller = codes "controller"
path_bytes field.Name = codes "name"
path_bytes field.Namespace = codes "namespace"
