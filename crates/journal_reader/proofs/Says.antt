-- What a line says is what it was written for.
use Rattle.std.proofs.Common.{◌≡◌, ℕ, List, Some, codes, refl, ap, ◌∙◌}
use Rattle.json_tree.specs.declared.value.Json.TheOpen.{Json-F}
use Rattle.resource_types.specs.Manifests.{kind_word}
use Rattle.resource_types.specs.declared.names.Key.{Key}
use Rattle.resource_types.specs.declared.names.Name.{Name}
use Rattle.resource_types.specs.declared.names.SlotKey.{SlotKey}
use Rattle.resource_types.specs.declared.names.Controller.{Controller}
use Rattle.resource_types.specs.declared.names.Controller.TheVariants as controller
use Rattle.resource_types.specs.declared.conditions.Part.{Part}
use Rattle.resource_codec.specs.Objects.{truth_word}
use Rattle.resource_codec.specs.Reading.{Member, under}
use Rattle.resource_codec.specs.Written.{kind_of}
use Rattle.resource_codec.proofs.Again.{out_nat, out_obj}
use Rattle.resource_codec.proofs.Texts.{out_str}
use Rattle.control_rules.specs.declared.slots.Report.{Report as Told}
use Rattle.journal_text.specs.Lines.{manifest_text, key_members, removal_line, part_members, report_line, controller_word, look_line}
use Rattle.journal_reader.specs.declared.deeds.Deed.{Deed}
use Rattle.journal_reader.specs.declared.deeds.Deed.TheVariants.{Put, Remove, Report, Write}
use Rattle.journal_reader.specs.declared.deeds.Line.{Line}
use Rattle.journal_reader.specs.Members.{number}
use Rattle.journal_reader.specs.Deeds.{name_in, key_in, removal_in, part_in, report_in, write_in, other_by, other_in, IsAsked, SaysDeed, SaysLine}
use Rattle.journal_reader.specs.Lines.{members_by, members_of}
use Rattle.journal_reader.proofs.Named.{kind_again, controller_again, truth_again}

-- ---- parts of a line

name_again : (members : List Member) (n : Name) → under (codes "name") members ≡ Json-F.Str n.name → under (codes "namespace") members ≡ Json-F.Str n.space → name_in members ≡ Some n
unfolding name_in
name_again members n name space = rw (name, space) refl

key_again : (key : Key) → key_in (key_members key) ≡ Some key
unfolding key_in key_members
key_again key = rw (out_str (kind_word key.kind), kind_again key.kind, name_again (key_members key) key.name (out_str _) (out_str _)) refl

part_again : (part : Part) → part_in (part_members part) ≡ Some part
unfolding part_in part_members
part_again part = rw (out_str part.message, out_str part.reason, out_str (truth_word part.truth), truth_again part.truth) refl

-- ---- lines

removal_again : (moment : ℕ) (key : Key) → other_in (removal_line moment key) ≡ Some (Remove key)
unfolding other_in removal_in removal_line
removal_again moment key = rw (out_str (codes "client"), out_obj (record { entries = key_members key }), key_again key) refl

report_again : (moment : ℕ) (told : Told) → other_in (report_line moment told.revision told.resources told.container) ≡ Some (Report told)
unfolding other_in report_in report_line
report_again moment told =
    let named : name_in (report_line moment told.revision told.resources told.container) ≡ Some told.revision = name_again (report_line moment told.revision told.resources told.container) told.revision (out_str _) (out_str _) in
    rw (out_str (codes "reporter"), out_obj (record { entries = part_members told.container }), part_again told.container, named, out_obj (record { entries = part_members told.resources }), part_again told.resources) refl

by_controller : (c : Controller) (members : List Member) → other_by (controller_word c) members ≡ write_in (controller_word c) members
by_controller controller.Service members = refl
by_controller controller.Configuration members = refl
by_controller controller.Revision members = refl
by_controller controller.Collector members = refl
by_controller controller.Route members = refl

look_again : (moment : ℕ) (key : SlotKey) (read_at seen : ℕ) → write_in (controller_word key.controller) (look_line moment key read_at seen) ≡ Some (Write key read_at seen)
unfolding write_in
look_again moment key read_at seen =
    let named : name_in (look_line moment key read_at seen) ≡ Some key.name = name_again (look_line moment key read_at seen) key.name (out_str _) (out_str _) in
    rw (controller_again key.controller, out_nat read_at, out_nat seen, named) refl

write_again : (moment : ℕ) (key : SlotKey) (read_at seen : ℕ) → other_in (look_line moment key read_at seen) ≡ Some (Write key read_at seen)
unfolding other_in
write_again moment key read_at seen =
    rw (out_str (controller_word key.controller)) (by_controller key.controller (look_line moment key read_at seen) ∙ look_again moment key read_at seen)

-- ---- what was done

-- the manifest of a put is one of what may be put
abbrev pub IsAskedDeed : Deed → Type 0
IsAskedDeed (Put kind manifest) = (kind_of manifest.spec ≡ kind) × IsAsked manifest
IsAskedDeed other = Unit {0}

says_moment : (moment : ℕ) (deed : Deed) → number (under (codes "moment") (members_by moment deed)) ≡ Some moment
unfolding removal_line report_line
says_moment moment (Put kind manifest) = ap number (out_nat moment)
says_moment moment (Remove key) = ap number (out_nat moment)
says_moment moment (Report told) = ap number (out_nat moment)
says_moment moment (Write key read_at seen) = ap number (out_nat moment)

says_deed : (moment : ℕ) (deed : Deed) → IsAskedDeed deed → SaysDeed (members_by moment deed) deed
unfolding removal_line report_line
says_deed moment (Put kind manifest) h = (h.0, h.1, out_str (manifest_text manifest))
says_deed moment (Remove key) h = (refl, removal_again moment key)
says_deed moment (Report told) h = (refl, report_again moment told)
says_deed moment (Write key read_at seen) h = (refl, write_again moment key read_at seen)

-- the members of a line say what it is written for
pub says : (line : Line) → IsAskedDeed line.deed → SaysLine (members_of line) line
says line h = (says_moment line.moment line.deed, says_deed line.moment line.deed h)
