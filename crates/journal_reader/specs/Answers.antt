-- What is answered where something is read, or isn't.
use Rattle.std.specs.Prelude.{◌≡◌, ℕ, List, Option, Some, None, Result, Ok, Err}
use Rattle.json_tree.specs.declared.value.Json.{Json}
use Rattle.manifest_intake.specs.Bodies.{IsBody}
use Rattle.journal_reader.specs.declared.error.ReadError.{ReadError}
use Rattle.journal_reader.specs.declared.error.ReadError.TheVariants as error

-- nothing is read where it is refused; out of memory is free
abbrev pub IsRefusal : {Y : Type 0} → ReadError → Option Y → Type 0
IsRefusal error.Refused read = read ≡ None
IsRefusal error.Memory read = Unit {0}

-- what a function returned, seen by view, is what is read
abbrev pub Gives : {X Y : Type 0} → (X → Y) → Result X ReadError → Option Y → Type 0
Gives view (Ok x) read = read ≡ Some (view x)
Gives view (Err e) read = IsRefusal e read

-- what a function returned is this; out of memory is free
abbrev pub Reads : {X : Type 0} → Result X ReadError → X → Type 0
Reads (Ok x) due = x ≡ due
Reads (Err error.Refused) due = ⊥
Reads (Err error.Memory) due = Unit {0}

-- the value that the bytes are the text of; out of memory is free
abbrev pub IsJsonOf : List ℕ → Result Json ReadError → Type 0
IsJsonOf bytes (Ok json) = IsBody bytes (Some json)
IsJsonOf bytes (Err error.Refused) = IsBody bytes None
IsJsonOf bytes (Err error.Memory) = Unit {0}
