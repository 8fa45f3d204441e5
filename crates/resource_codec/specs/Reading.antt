-- Reading one field: its value, or that it is wrong.
use Rattle.std.specs.Prelude.{◌≡◌, ℕ, Bool, true, false, ◌&&◌, not, List, [], codes, Option, Some, None, Result, Ok, Err, if◌then◌else◌, filter}
use Rattle.std.specs.Borrow.{Bor}
use Rattle.std.specs.List.{filter_map, list_all}
use Rattle.std.specs.Str.{bytes_eq}
use Rattle.json_tree.specs.declared.value.Json.{Json}
use Rattle.json_tree.specs.declared.value.Json.TheViews.{out-Json}
use Rattle.json_tree.specs.declared.value.Json.TheOpen.{Json-F}
use Rattle.json_tree.specs.declared.members.Table.{Table}
use Rattle.json_tree.specs.Tree.{find}
use Rattle.resource_codec.specs.declared.fields.Field.{Field}
use Rattle.resource_codec.specs.declared.fields.DecodeError.{DecodeError}
use Rattle.resource_codec.specs.declared.fields.DecodeError.TheVariants as error

-- go on with the value, or stop at the first fault
infixl 10 ◌>>=◌
abbrev pub ◌>>=◌ : {A B E : Type 0} → Result A E → (A → Result B E) → Result B E
(Ok x) >>= f = f x
(Err e) >>= f = Err e

-- an error is the field at which reading stops; want of memory is free
abbrev pub IsFault : {Y : Type 0} → DecodeError → Result Y Field → Type 0
IsFault error.Memory read = Unit {0}
IsFault (error.Shape field) read = read ≡ Err field

-- what a function returned, seen by view, is what reading gives
abbrev pub Gives : {X Y : Type 0} → (X → Y) → Result X DecodeError → Result Y Field → Type 0
Gives view (Ok x) read = read ≡ Ok (view x)
Gives view (Err e) read = IsFault e read

-- a member of an object: its name and its value
abbrev pub Member : Type 0
Member = List ℕ × Json

-- the members of an object that may be absent
abbrev pub entries_of : Option (Bor (Table Json)) → List Member
entries_of None = []
entries_of (Some m) = m.now.entries

-- what stands there; nothing is as a null
abbrev pub layer : Option Json → Json-F Json
layer None = Json-F.Null
layer (Some j) = out-Json j

-- what stands under a name
abbrev pub under : List ℕ → List Member → Json-F Json
under name members = layer (find name members)

-- an object
abbrev pub object : Field → Json-F Json → Result (List Member) Field
object field (Json-F.Obj m) = Ok m.entries
object field _ = Err field

-- a text, which may be empty
abbrev pub text : Field → Json-F Json → Result (List ℕ) Field
text field (Json-F.Str s) = Ok s
text field _ = Err field

-- From here on a field may be absent. A null counts as absent, and an empty text does too.
-- an object, if anything
abbrev pub optional_object : Field → Json-F Json → Result (List Member) Field
optional_object field Json-F.Null = Ok []
optional_object field (Json-F.Str []) = Ok []
optional_object field (Json-F.Obj m) = Ok m.entries
optional_object field _ = Err field

-- a text, if anything
abbrev pub optional_text : Field → Json-F Json → Result (List ℕ) Field
optional_text field Json-F.Null = Ok []
optional_text field (Json-F.Str s) = Ok s
optional_text field _ = Err field

-- a whole number below 2 ^ 64, if anything
abbrev pub optional_number : Field → Json-F Json → Result (Option ℕ) Field
optional_number field Json-F.Null = Ok None
optional_number field (Json-F.Str []) = Ok None
optional_number field (Json-F.Nat n) = Ok (Some n)
optional_number field _ = Err field

-- true or false, if anything
abbrev pub optional_truth : Field → Json-F Json → Result (Option Bool) Field
optional_truth field Json-F.Null = Ok None
optional_truth field (Json-F.Str []) = Ok None
optional_truth field (Json-F.Bool b) = Ok (Some b)
optional_truth field _ = Err field

-- an array, if anything
abbrev pub optional_array : Field → Json-F Json → Result (List Json) Field
optional_array field Json-F.Null = Ok []
optional_array field (Json-F.Str []) = Ok []
optional_array field (Json-F.Arr js) = Ok js
optional_array field _ = Err field

-- a member of an object of texts is a text or a null
abbrev pub is_text_or_null : Json-F Json → Bool
is_text_or_null Json-F.Null = true
is_text_or_null (Json-F.Str s) = true
is_text_or_null _ = false

abbrev pub may_be_text : Member → Bool
may_be_text m = is_text_or_null (out-Json m.1)

-- the name with the text, where a text stands there
abbrev pub named : List ℕ → Json-F Json → Option (List ℕ × List ℕ)
named name (Json-F.Str s) = Some (name, s)
named name _ = None

abbrev pub named_text : Member → Option (List ℕ × List ℕ)
named_text m = named m.0 (out-Json m.1)

-- the texts among the members: a null is dropped, and anything else is wrong
abbrev pub texts_in : Field → List Member → Result (Table (List ℕ)) Field
texts_in field ms = if list_all may_be_text ms then Ok (record { entries = filter_map named_text ms }) else Err field

-- an object of texts, if anything
abbrev pub optional_texts : Field → Json-F Json → Result (Table (List ℕ)) Field
optional_texts field j = optional_object field j >>= texts_in field

abbrev pub is_null : Json-F Json → Bool
is_null Json-F.Null = true
is_null _ = false

-- a member of a pod spec that is kept as it is: no null, and none of its two numbers
abbrev pub is_rest : Member → Bool
is_rest m = not (is_null (out-Json m.1)) && not (bytes_eq m.0 (codes "containerConcurrency")) && not (bytes_eq m.0 (codes "timeoutSeconds"))

-- all that is kept of a pod spec
abbrev pub rest_of : List Member → Table Json
rest_of ms = record { entries = filter is_rest ms }

-- the items of a list that may be absent
abbrev pub items_of : Option (Bor (List Json)) → List Json
items_of None = []
items_of (Some js) = js.now
