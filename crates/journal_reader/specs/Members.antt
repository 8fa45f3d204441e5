-- Reading one member of an object: its value, or nothing where it isn't as it must be.
use Rattle.std.specs.Prelude.{ℕ, Bool, List, Option, Some, None, if◌then◌else◌}
use Rattle.json_tree.specs.declared.value.Json.{Json}
use Rattle.json_tree.specs.declared.value.Json.TheOpen.{Json-F}
use Rattle.resource_codec.specs.Reading.{Member}

-- go on with the value, or stop where there is none
infixl 10 ◌>>=◌
abbrev pub ◌>>=◌ : {A B : Type 0} → Option A → (A → Option B) → Option B
(Some x) >>= f = f x
None >>= f = None

-- the value, where the test holds
abbrev pub when : {A : Type 0} → Bool → A → Option A
when test x = if test then Some x else None

-- an object
abbrev pub object : Json-F Json → Option (List Member)
object (Json-F.Obj m) = Some m.entries
object _ = None

-- a text, which may be empty
abbrev pub text : Json-F Json → Option (List ℕ)
text (Json-F.Str s) = Some s
text _ = None

-- a whole number that isn't negative
abbrev pub number : Json-F Json → Option ℕ
number (Json-F.Nat n) = Some n
number _ = None
