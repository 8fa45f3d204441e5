-- The lines are well formed, and so shallow that they can be written and read.
use Rattle.std.proofs.Common.{◌≡◌, ℕ, suc, ◌≤◌, true, List, [], ◌∷◌, Option, Some, None, refl, arith}
use Rattle.std.specs.Prelude.{codes}
use Rattle.serde_json.specs.Data.{members_depth}
use Rattle.json_tree.specs.Tree.{table_data, values_are_well, names_of, names_rise}
use Rattle.json_tree.specs.declared.value.Json.{Json}
use Rattle.resource_types.specs.declared.names.Name.{Name}
use Rattle.resource_types.specs.declared.names.Key.{Key}
use Rattle.resource_types.specs.declared.names.SlotKey.{SlotKey}
use Rattle.resource_types.specs.declared.names.Actor.{Actor}
use Rattle.resource_types.specs.declared.names.Actor.TheVariants.{Client, Reporter, Controller}
use Rattle.resource_types.specs.declared.conditions.Part.{Part}
use Rattle.resource_types.specs.declared.objects.Body.{Body}
use Rattle.resource_types.specs.declared.objects.Body.TheVariants.{Service, Configuration, Revision, Route, Health, Table}
use Rattle.resource_types.specs.declared.objects.Object.{Object}
use Rattle.resource_codec.specs.Reading.{Member}
use Rattle.resource_codec.specs.Sound.{Fits}
use Rattle.resource_codec.specs.Written.{object_of}
use Rattle.resource_codec.proofs.Sounds.{both_true, object_fits, str_fits, nat_fits}
use Rattle.control_rules.specs.declared.settings.Settings.{Settings}
use Rattle.control_rules.specs.Slots.{ObjectEntry}
use Rattle.journal_text.specs.Lines.{count_json, header_of, asking_line, put_text, put_line, key_members, removal_line, client_line, part_members, report_line, body_line, reporter_line, look_line, controller_line, line_by, line_of}

-- ---- members

-- each value fits
abbrev AllFit : ℕ → List Member → Type 0
AllFit n [] = Unit {0}
AllFit n (m ∷ ms) = Fits n m.1 × AllFit n ms

all_well : (n : ℕ) (ms : List Member) → AllFit n ms → values_are_well (table_data ms) ≡ true
all_well n [] f = refl
all_well n (m ∷ ms) f = both_true _ _ f.0.well (all_well n ms f.1)

all_deep : (n : ℕ) (ms : List Member) → AllFit n ms → members_depth (table_data ms) ≤ n
all_deep n [] f = omega arith
all_deep n (m ∷ ms) f = omega (arith, f.0.deep, all_deep n ms f.1)

-- members with rising names make an object that is one level deeper
members_fit : (n : ℕ) (ms : List Member) → names_rise (names_of ms) ≡ true → AllFit n ms → Fits (suc n) (object_of ms)
members_fit n ms rising f = object_fits n ms (record { rising = rising; well = all_well n ms f; deep = all_deep n ms f })

-- what can be read can be written
pub may_be_written : (j : Json) → Fits 32 j → Fits 64 j
may_be_written j f = record { well = f.well; deep = let d = f.deep in omega arith }

none_fit : Fits 32 (object_of [])
none_fit = members_fit 31 [] refl tt

-- ---- the header

count_fits : (n : ℕ) (count : Option ℕ) → Fits n (count_json count)
count_fits n None = str_fits n (codes "disabled")
count_fits n (Some count) = nat_fits n count

pub header_fits : (s : Settings) (now : ℕ) → Fits 32 (object_of (header_of s now))
unfolding header_of
header_fits s now = members_fit 31 (header_of s now) refl (
  str_fits 31 _,
  (str_fits 31 _, (count_fits 31 s.gc.most, (nat_fits 31 _, (nat_fits 31 _, (count_fits 31 s.gc.active, (count_fits 31 s.gc.create, tt)))))),
)

-- ---- entries

pub asking_fits : (moment : ℕ) (text : List ℕ) → Fits 32 (object_of (asking_line moment text))
asking_fits moment text = members_fit 31 (asking_line moment text) refl (str_fits 31 _, (nat_fits 31 _, (str_fits 31 _, tt)))

put_fits : (moment : ℕ) (o : Object) → Fits 32 (object_of (put_line moment o))
unfolding put_line
put_fits moment o = asking_fits moment (put_text o)

key_fits : (key : Key) → Fits 31 (object_of (key_members key))
unfolding key_members
key_fits key = members_fit 30 (key_members key) refl (str_fits 30 _, (str_fits 30 _, (str_fits 30 _, tt)))

pub removal_fits : (moment : ℕ) (key : Key) → Fits 32 (object_of (removal_line moment key))
unfolding removal_line
removal_fits moment key = members_fit 31 (removal_line moment key) refl (str_fits 31 _, (nat_fits 31 _, (key_fits key, tt)))

client_fits : (moment : ℕ) (key : Key) (o : Option Object) → Fits 32 (object_of (client_line moment key o))
client_fits moment key None = removal_fits moment key
client_fits moment key (Some o) = put_fits moment o

part_fits : (part : Part) → Fits 31 (object_of (part_members part))
unfolding part_members
part_fits part = members_fit 30 (part_members part) refl (str_fits 30 _, (str_fits 30 _, (str_fits 30 _, tt)))

pub report_fits : (moment : ℕ) (n : Name) (resources container : Part) → Fits 32 (object_of (report_line moment n resources container))
unfolding report_line
report_fits moment n resources container = members_fit 31 (report_line moment n resources container) refl (
  str_fits 31 _,
  (part_fits container, (nat_fits 31 _, (str_fits 31 _, (str_fits 31 _, (part_fits resources, tt))))),
)

body_fits : (moment : ℕ) (n : Name) (b : Body) → Fits 32 (object_of (body_line moment n b))
body_fits moment n (Service template traffic status) = none_fit
body_fits moment n (Configuration template status) = none_fit
body_fits moment n (Revision pod generation pins active status) = none_fit
body_fits moment n (Route traffic status) = none_fit
body_fits moment n (Health uid resources container ever) = report_fits moment n resources container
body_fits moment n (Table route rows targets) = none_fit

reporter_fits : (moment : ℕ) (n : Name) (o : Option Object) → Fits 32 (object_of (reporter_line moment n o))
reporter_fits moment n None = none_fit
reporter_fits moment n (Some o) = body_fits moment n o.body

pub look_fits : (moment : ℕ) (by : SlotKey) (read_at seen : ℕ) → Fits 32 (object_of (look_line moment by read_at seen))
look_fits moment by read_at seen = members_fit 31 (look_line moment by read_at seen) refl (
  str_fits 31 _,
  (nat_fits 31 _, (str_fits 31 _, (str_fits 31 _, (nat_fits 31 _, (nat_fits 31 _, tt))))),
)

controller_fits : (e : ObjectEntry) (by : SlotKey) → Fits 32 (object_of (controller_line e by))
unfolding controller_line
controller_fits e by = look_fits e.moment by e.read_at e.seen

line_fits_by : (e : ObjectEntry) (a : Actor) → Fits 32 (object_of (line_by e a))
line_fits_by e Client = client_fits e.moment e.key e.object
line_fits_by e Reporter = reporter_fits e.moment e.key.name e.object
line_fits_by e (Controller by) = controller_fits e by

pub line_fits : (e : ObjectEntry) → Fits 32 (object_of (line_of e))
line_fits e = line_fits_by e e.actor
