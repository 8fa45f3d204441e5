-- The line that says what was done, and what it says of an entry that has it.
use Rattle.std.specs.Prelude.{◌≡◌, ◌++◌, ℕ, true, List, codes, Option, Some, None, IsUtf8}
use Rattle.json_tree.specs.Tree.{data_of}
use Rattle.resource_types.specs.declared.names.Actor.TheVariants.{Client, Reporter, Controller}
use Rattle.resource_types.specs.declared.conditions.Part.{Part}
use Rattle.resource_types.specs.declared.objects.Body.{Body}
use Rattle.resource_types.specs.declared.objects.Body.TheVariants.{Health}
use Rattle.resource_types.specs.declared.objects.Object.{Object}
use Rattle.resource_codec.specs.Reading.{Member}
use Rattle.resource_codec.specs.Written.{written}
use Rattle.manifest_intake.specs.Good.{is_good, asked_of}
use Rattle.control_rules.specs.Slots.{ObjectEntry}
use Rattle.journal_text.specs.Lines.{unversioned, manifest_text, asking_line, removal_line, report_line, look_line}
use Rattle.journal_text.specs.Texts.{line_bytes}
use Rattle.journal_text.specs.Reads.{are_short, HasShortNumbers}
use Rattle.journal_reader.specs.declared.deeds.Deed.{Deed}
use Rattle.journal_reader.specs.declared.deeds.Deed.TheVariants.{Put, Remove, Report, Write}
use Rattle.journal_reader.specs.declared.deeds.Line.{Line}

-- ---- the line that says what was done

abbrev pub members_by : ℕ → Deed → List Member
members_by moment (Put kind manifest) = asking_line moment (manifest_text manifest)
members_by moment (Remove key) = removal_line moment key
members_by moment (Report report) = report_line moment report.revision report.resources report.container
members_by moment (Write key read_at seen) = look_line moment key read_at seen

abbrev pub members_of : Line → List Member
members_of line = members_by line.moment line.deed

-- each number in the manifest of what was put is of 64 bits
abbrev pub HasShortPut : Deed → Type 0
HasShortPut (Put kind manifest) = are_short (data_of (written manifest)) ≡ true
HasShortPut other = Unit {0}

-- the bytes, without a line feed, are the line that says this; they are UTF-8, and their numbers are of 64 bits
pub record IsSaid (bytes : List ℕ) (line : Line) : Type 0 where
  pub said : line_bytes (members_of line) ≡ bytes ++ codes "\n"
  pub utf8 : IsUtf8 bytes
  pub numbers : HasShortNumbers (members_of line)
  pub put : HasShortPut line.deed

-- ---- entries

abbrev pub IsHealth : Body → Type 0
IsHealth (Health uid resources container ever) = Unit {0}
IsHealth other = ⊥

-- An entry of one of the forms of a journal: what a client puts is good, and what a reporter puts is a Health.
pub record HasForm (e : ObjectEntry) : Type 0 where
  pub good : (o : Object) → e.actor ≡ Client → e.object ≡ Some o → is_good (asked_of o) ≡ true
  pub health : e.actor ≡ Reporter → (o : Object) × (e.object ≡ Some o) × IsHealth o.body

-- a Health of these two parts
abbrev pub IsHealthOf : Part → Part → Body → Type 0
IsHealthOf resources container (Health uid r c ever) = (r ≡ resources) × (c ≡ container)
IsHealthOf resources container other = ⊥

-- the entry is that of what was done
abbrev pub IsDeedOf : ObjectEntry → Deed → Type 0
IsDeedOf e (Put kind manifest) = (e.actor ≡ Client) × ((o : Object) × (e.object ≡ Some o) × (unversioned o ≡ manifest))
IsDeedOf e (Remove key) = (e.actor ≡ Client) × (e.object ≡ None) × (e.key ≡ key)
IsDeedOf e (Report report) =
    (e.actor ≡ Reporter) × (e.key.name ≡ report.revision) × ((o : Object) × (e.object ≡ Some o) × IsHealthOf report.resources report.container o.body)
IsDeedOf e (Write key read_at seen) = (e.actor ≡ Controller key) × (e.read_at ≡ read_at) × (e.seen ≡ seen)

-- and was made when the line says
abbrev pub IsLineOf : ObjectEntry → Line → Type 0
IsLineOf e line = (e.moment ≡ line.moment) × IsDeedOf e line.deed

-- what is read is the line of the entry
abbrev pub Finds : ObjectEntry → Option Line → Type 0
Finds e None = ⊥
Finds e (Some line) = IsLineOf e line
