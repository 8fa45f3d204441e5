-- A journal as text: lines of compact JSON, the header first.
use Rattle.std.specs.Prelude.{◌≡◌, ℕ, true, List, ◌++◌, codes, Some}
use Rattle.std.specs.List.{flat_map}
use Rattle.serde_json.specs.Written.{compact_text}
use Rattle.json_tree.specs.Tree.{data_of}
use Rattle.resource_types.specs.declared.names.Actor.TheVariants.{Client}
use Rattle.resource_types.specs.declared.objects.Object.{Object}
use Rattle.resource_types.specs.Lookups.{Journal}
use Rattle.resource_types.specs.Objects.{is_of_client}
use Rattle.resource_codec.specs.Reading.{Member}
use Rattle.resource_codec.specs.Written.{object_of}
use Rattle.resource_codec.specs.Storable.{IsStorable}
use Rattle.control_rules.specs.Slots.{ObjectEntry, Plane}
use Rattle.journal_text.specs.Lines.{header_of, line_of}

-- a line, ended by a line feed
unfoldable pub line_bytes : List Member → List ℕ
line_bytes members = compact_text (data_of (object_of members)) ++ codes "\n"

-- the lines of some entries, in their order
abbrev pub entry_lines : Journal → List ℕ
entry_lines journal = flat_map (λ entry. line_bytes (line_of entry)) journal

-- the header, and a line for each entry of the journal
unfoldable pub journal_text : Plane → List ℕ
journal_text plane = line_bytes (header_of plane.settings plane.now) ++ entry_lines plane.journal

-- ---- which entries have a line

-- what a client put is of a kind that clients write, and may be stored
abbrev pub IsTold : ObjectEntry → Type 0
IsTold entry = (object : Object) → entry.actor ≡ Client → entry.object ≡ Some object → (is_of_client object ≡ true) × IsStorable object
