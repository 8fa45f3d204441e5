-- What a gate does, where it tells its connections and its address.
use Rattle.std.specs.Prelude.{◌≡◌, ℕ, ◌≤◌, Bool, true, List, [], ◌∷◌, ◌++◌, Option, Some, None, ⊤}
use Rattle.serve_io.specs.declared.gate.Listened.{Listened}
use Rattle.serve_io.specs.declared.gate.Listened.TheVariants.{Ready, Failed as NotListening}
use Rattle.serve_io.specs.declared.gate.Next.{Next}
use Rattle.serve_io.specs.declared.gate.Next.TheVariants.{Connection, Closed, Failed}

-- what the two ends of a connection tell: the bytes that are left, those that were taken, and their counts of faults
pub record Ends : Type 0 where
  pub left : Option (List ℕ)
  pub reads_failed : ℕ
  pub taken : Option (List ℕ)
  pub writes_failed : ℕ

-- the ends of a connection, by the meanings of its source and of its sink
abbrev pub ends_of : {I O : Type 0} → (I → Option (List ℕ)) → (I → ℕ) → (O → Option (List ℕ)) → (O → ℕ) → I → O → Ends
ends_of left reads_failed taken writes_failed input output =
    record { left = left input; reads_failed = reads_failed input; taken = taken output; writes_failed = writes_failed output }

-- this connection was the first of those to come, and the others are still to come
abbrev pub TakesFirst : Option (List Ends) → Option (List Ends) → Ends → Type 0
TakesFirst None new ends = ⊤
TakesFirst (Some coming) None ends = ⊥
TakesFirst (Some coming) (Some rest) ends = coming ≡ ends ∷ rest

-- no connection is to come
abbrev pub NoneComes : Option (List Ends) → Type 0
NoneComes None = ⊤
NoneComes (Some coming) = coming ≡ []

-- this connection was added to those that were handed back
abbrev pub AddsBack : Option (List Ends) → Option (List Ends) → Ends → Type 0
AddsBack None new ends = ⊤
AddsBack (Some back) None ends = ⊥
AddsBack (Some back) (Some now) ends = now ≡ back ++ ends ∷ []

-- the address that is told is this one
abbrev pub TellsAddress : Option (List ℕ) → Option (List ℕ) → List ℕ → Type 0
TellsAddress None new address = ⊤
TellsAddress (Some old) None address = ⊥
TellsAddress (Some old) (Some now) address = now ≡ address

-- the gate listens at the address, or nothing changed
abbrev pub ListensAt : Bool → Bool → Option (List ℕ) → Option (List ℕ) → List ℕ → Listened → Type 0
ListensAt was is old new address Ready = (is ≡ true) × TellsAddress old new address
ListensAt was is old new address NotListening = (is ≡ was) × (new ≡ old)

-- the first connection to come was given, or none is to come, or the call failed and took none
abbrev pub GivesNext : {I O : Type 0} → (I → O → Ends) → Option (List Ends) → Option (List Ends) → Next I O → Type 0
GivesNext ends old new (Connection input output) = TakesFirst old new (ends input output)
GivesNext ends old new Closed = NoneComes old × (new ≡ old)
GivesNext ends old new Failed = new ≡ old

-- where a connection was given, one at least is out, and where none was, as many as before
abbrev pub CountsOut : {I O : Type 0} → ℕ → ℕ → Next I O → Type 0
CountsOut old new (Connection input output) = 1 ≤ new
CountsOut old new Closed = new ≡ old
CountsOut old new Failed = new ≡ old
