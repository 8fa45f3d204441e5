-- Worked rows by computation: what the targets of Route `hello` in namespace `default` come to.
use Rattle.std.proofs.Common.{◌≡◌, ℕ, Bool, true, false, List, [], ◌∷◌, ◌++◌, codes, Some, None, refl}
use Rattle.std.specs.Prelude.{map}
use Rattle.resource_types.specs.declared.names.Kind.{Kind}
use Rattle.resource_types.specs.declared.names.Kind.TheVariants as kind
use Rattle.resource_types.specs.declared.names.Name.{Name}
use Rattle.resource_types.specs.declared.conditions.CondName.{CondName}
use Rattle.resource_types.specs.declared.conditions.CondName.TheVariants as condition
use Rattle.resource_types.specs.declared.conditions.Truth.{Truth}
use Rattle.resource_types.specs.declared.conditions.Truth.TheVariants as truth
use Rattle.resource_types.specs.declared.conditions.Condition.{Condition}
use Rattle.resource_types.specs.declared.specification.Row.{Row}
use Rattle.resource_types.specs.declared.specification.Target.{Target}
use Rattle.resource_types.specs.declared.status.ObjectStatus.{ObjectStatus}
use Rattle.resource_types.specs.declared.objects.Body.{Body}
use Rattle.resource_types.specs.declared.objects.Body.TheVariants.{Configuration, Revision}
use Rattle.resource_types.specs.declared.objects.Object.{Object}
use Rattle.resource_types.specs.Objects.{no_template}
use Rattle.resource_types.specs.Lookups.{State}
use Rattle.control_rules.specs.declared.traffic.Found.{Found}
use Rattle.control_rules.specs.declared.traffic.Found.TheVariants as found
use Rattle.control_rules.specs.declared.traffic.Named.TheVariants as named
use Rattle.control_rules.specs.declared.traffic.Resolved.{Resolved}
use Rattle.control_rules.specs.declared.traffic.Resolved.TheVariants.{Assigned, Missing, Unready}
use Rattle.control_rules.specs.Standing.{key_at, standing}
use Rattle.control_rules.specs.Resolution.{first_hindrance, found_of, meant_of, add_share, shares_from, assigned_rows, resolved, stored}
use Rattle.control_rules.specs.Differences.{no_labels}

abbrev hello : Name
hello = record { space = codes "default"; name = codes "hello" }

-- a target on the Revision
abbrev on : List ℕ → ℕ → List ℕ → Target
on revision percent tag = record { configuration = []; revision = revision; latest = None; percent = Some percent; tag = tag; url = [] }

-- a target on the latest ready Revision of the Configuration
abbrev latest_of : List ℕ → ℕ → Target
latest_of configuration percent = record { configuration = configuration; revision = []; latest = Some true; percent = Some percent; tag = []; url = [] }

-- what is published of a target
abbrev shown : List ℕ → ℕ → List ℕ → List ℕ → Target
shown revision percent tag url = record { configuration = []; revision = revision; latest = None; percent = Some percent; tag = tag; url = url }

abbrev row : List ℕ → List ℕ → List ℕ → ℕ → ℕ → Row
row tag host revision uid percent = record { tag = tag; host = host; revision = revision; uid = uid; percent = percent }

abbrev resolved_to : List (Target × Found) → Resolved
resolved_to pairs = resolved hello (codes "example.com") pairs

-- ---- two Revisions with 0 and 100: one row, both targets

zero_and_all : resolved_to ((on (codes "a") 0 [], found.Ready (codes "a") 3) ∷ (on (codes "b") 100 [], found.Ready (codes "b") 4) ∷ [])
    ≡ Assigned (row [] (codes "hello.default.example.com") (codes "b") 4 100 ∷ []) (shown (codes "a") 0 [] [] ∷ shown (codes "b") 100 [] [] ∷ [])
unfolding resolved first_hindrance meant_of assigned_rows shares_from add_share
zero_and_all = refl

-- one Revision twice: one row with the sum, in the place of the first
twice : resolved_to ((on (codes "a") 20 [], found.Ready (codes "a") 3) ∷ (on (codes "b") 50 (codes "new"), found.Ready (codes "b") 4) ∷ (on (codes "a") 30 [], found.Ready (codes "a") 3) ∷ [])
    ≡ Assigned
    (row [] (codes "hello.default.example.com") (codes "a") 3 50 ∷ row [] (codes "hello.default.example.com") (codes "b") 4 50 ∷ row (codes "new") (codes "new-hello.default.example.com") (codes "b") 4 100 ∷ [])
    (shown (codes "a") 20 [] [] ∷ shown (codes "b") 50 (codes "new") (codes "http://new-hello.default.example.com") ∷ shown (codes "a") 30 [] [] ∷ [])
unfolding resolved first_hindrance meant_of assigned_rows shares_from add_share
twice = refl

-- ---- sixteen targets with tags on one Revision: one default row, and one of 100 for each tag

abbrev fifteen : List (List ℕ)
fifteen =
    codes "b" ∷ codes "c" ∷ codes "d" ∷ codes "e" ∷ codes "f" ∷ codes "g" ∷ codes "h" ∷ codes "i" ∷ codes "j" ∷ codes "k" ∷ codes "l" ∷ codes "m" ∷ codes "n" ∷ codes "o" ∷ codes "p" ∷ []

abbrev tagged : ℕ → List ℕ → Target × Found
tagged percent tag = (on (codes "v") percent tag, found.Ready (codes "v") 3)

abbrev tagged_row : List ℕ → Row
tagged_row tag = row tag (tag ++ codes "-hello.default.example.com") (codes "v") 3 100

abbrev tagged_shown : ℕ → List ℕ → Target
tagged_shown percent tag = shown (codes "v") percent tag (codes "http://" ++ (tag ++ codes "-hello.default.example.com"))

sixteen_tags : resolved_to (tagged 10 (codes "a") ∷ map (tagged 6) fifteen)
    ≡ Assigned (row [] (codes "hello.default.example.com") (codes "v") 3 100 ∷ map tagged_row (codes "a" ∷ fifteen)) (tagged_shown 10 (codes "a") ∷ map (tagged_shown 6) fifteen)
unfolding resolved first_hindrance meant_of assigned_rows shares_from add_share
sixteen_tags = refl

-- ---- the first target that isn't ready decides

first_unready : resolved_to ((on (codes "a") 20 [], found.Ready (codes "a") 3) ∷ (on (codes "b") 30 [], found.RevisionUnready) ∷ (latest_of (codes "c") 50, found.ConfigurationAbsent) ∷ [])
    ≡ Unready 1 named.Revision (codes "b")
unfolding resolved first_hindrance
first_unready = refl

first_absent : resolved_to ((latest_of (codes "c") 50, found.ConfigurationAbsent) ∷ (on (codes "b") 50 [], found.RevisionUnready) ∷ []) ≡ Missing 0 named.Configuration (codes "c")
unfolding resolved first_hindrance
first_absent = refl

-- the latest ready Revision of a Configuration was collected since: the name is the Configuration's
latest_absent : resolved_to ((latest_of (codes "c") 100, found.RevisionAbsent) ∷ []) ≡ Missing 0 named.Revision (codes "c")
unfolding resolved first_hindrance
latest_absent = refl

-- ---- Revision `v` was ready once, and isn't now; it is the latest ready one of Configuration `c`

abbrev truth_of : CondName → Truth → Bool → Condition
truth_of name t info = record { name = name; truth = t; reason = []; message = []; info = info; since = 0 }

abbrev was_ready : ObjectStatus
was_ready = record { observed = 1; created = []; ready = []; url = []; traffic = []; conditions = truth_of condition.HasBeenReady truth.True true ∷ truth_of condition.Ready truth.False false ∷ [] }

abbrev names_it : ObjectStatus
names_it = record { observed = 1; created = codes "v"; ready = codes "v"; url = []; traffic = []; conditions = [] }

abbrev object : Kind → List ℕ → ℕ → Body → Object
object kind simple uid body = record {
  key = key_at kind (record { space = codes "default"; name = simple });
  meta = record { stamp = record { version = uid; generation = 1; uid = uid; created = 0 }; owner = None; labels = no_labels; annotations = no_labels };
  body = body;
}

abbrev once : State
once =
    object kind.Configuration (codes "c") 2 (Configuration no_template names_it) ∷
    object kind.Revision (codes "v") 3 (Revision no_template.spec 1 [] None was_ready) ∷ []

-- one that a target names must be ready now
named_must_be_ready : found_of stored once hello (on (codes "v") 100 []) ≡ found.RevisionUnready
unfolding found_of standing
named_must_be_ready = refl

-- the latest one only once
latest_was_ready : found_of stored once hello (latest_of (codes "c") 100) ≡ found.Ready (codes "v") 3
unfolding found_of standing
latest_was_ready = refl
