-- Reading one member of an object of a poll: its value, or nothing where it isn't as it must be.
use Rattle.std.specs.Prelude.{◌≡◌, ◌&&◌, ℕ, Bool, List, [], ◌∷◌, length, nat_le, take, drop, Option, Some, None, Result, Ok, Err, if◌then◌else◌}
use Rattle.std.specs.List.{list_all}
use Rattle.std.specs.Str.{bytes_eq}
use Rattle.std.specs.Str.Parse.{digits_value}
use Rattle.json_tree.specs.declared.value.Json.{Json}
use Rattle.json_tree.specs.declared.value.Json.TheOpen.{Json-F}
use Rattle.serve_names.specs.Counts.{is_digit}
use Rattle.serve_names.specs.Uids.{prefix, is_hex_number}
use Rattle.resource_codec.specs.Reading.{Member}
use Rattle.gateway_pick.specs.declared.error.FollowError.{FollowError}
use Rattle.gateway_pick.specs.declared.error.FollowError.TheVariants as error

-- go on with the value, or stop where there is none
infixl 10 ◌>>=◌
abbrev pub ◌>>=◌ : {A B : Type 0} → Option A → (A → Option B) → Option B
(Some x) >>= f = f x
None >>= f = None

-- the value, where the test holds
abbrev pub when : {A : Type 0} → Bool → A → Option A
when test x = if test then Some x else None

-- a body is refused where nothing is read; out of memory is free
abbrev pub IsRefusal : {Y : Type 0} → FollowError → Option Y → Type 0
IsRefusal error.Refused read = read ≡ None
IsRefusal error.Memory read = Unit {0}

-- what a function returned, seen by view, is what is read
abbrev pub Gives : {X Y : Type 0} → (X → Y) → Result X FollowError → Option Y → Type 0
Gives view (Ok x) read = read ≡ Some (view x)
Gives view (Err e) read = IsRefusal e read

-- ---- texts that are numbers

-- the number that 1 to 19 decimal digits write
abbrev pub version_of : List ℕ → Option ℕ
version_of bytes =
    when (nat_le 1 (length bytes) && (nat_le (length bytes) 19 && list_all is_digit bytes)) (digits_value 10 bytes)

-- the number of a uid: its digits behind what all uids begin with
abbrev pub uid_of : List ℕ → Option ℕ
uid_of bytes = when (bytes_eq (take 24 bytes) prefix && is_hex_number (drop 24 bytes)) (digits_value 16 (drop 24 bytes))

-- ---- members

-- an object
abbrev pub object : Json-F Json → Option (List Member)
object (Json-F.Obj m) = Some m.entries
object _ = None

-- an array
abbrev pub items : Json-F Json → Option (List Json)
items (Json-F.Arr js) = Some js
items _ = None

-- a text that isn't empty
abbrev pub word : Json-F Json → Option (List ℕ)
word (Json-F.Str []) = None
word (Json-F.Str (b ∷ bs)) = Some (b ∷ bs)
word _ = None

-- such a text, or this one where there is none
abbrev pub word_or : List ℕ → Json-F Json → Option (List ℕ)
word_or absent Json-F.Null = Some absent
word_or absent (Json-F.Str []) = None
word_or absent (Json-F.Str (b ∷ bs)) = Some (b ∷ bs)
word_or absent _ = None

-- a whole number that isn't negative
abbrev pub number : Json-F Json → Option ℕ
number (Json-F.Nat n) = Some n
number _ = None

-- the text of a uid
abbrev pub uid : Json-F Json → Option ℕ
uid (Json-F.Str s) = uid_of s
uid _ = None

-- the text of a version
abbrev pub version : Json-F Json → Option ℕ
version (Json-F.Str s) = version_of s
version _ = None
