-- What a header says, by its members.
use Rattle.std.specs.Prelude.{ℕ, List, codes, Option, Some, None}
use Rattle.json_tree.specs.declared.value.Json.{Json}
use Rattle.json_tree.specs.declared.value.Json.TheOpen.{Json-F}
use Rattle.resource_codec.specs.Reading.{Member, under}
use Rattle.control_rules.specs.declared.settings.GcSettings.{GcSettings}
use Rattle.journal_reader.specs.declared.headers.Header.{Header}
use Rattle.journal_reader.specs.Members.{◌>>=◌, text, number}

-- a number of the settings; any text is read as one that doesn't count
abbrev pub count : Json-F Json → Option (Option ℕ)
count (Json-F.Nat n) = Some (Some n)
count (Json-F.Str s) = Some None
count _ = None

unfoldable pub gc_in : List Member → Option GcSettings
gc_in members = do
  create ← count (under (codes "retainCreate") members)
  active ← count (under (codes "retainActive") members)
  least ← number (under (codes "minNonActive") members)
  most ← count (under (codes "maxNonActive") members)
  Some (record { create = create; active = active; least = least; most = most })

unfoldable pub header_in : List Member → Option Header
header_in members = do
  domain ← text (under (codes "domain") members)
  gc ← gc_in members
  moment ← number (under (codes "now") members)
  Some (record { settings = record { domain = domain; gc = gc }; moment = moment })
