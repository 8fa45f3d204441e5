-- What the calls of a gate in memory do.
use Rattle.std.specs.Prelude.{◌≡◌, ℕ, ◌+◌, true, false}
use Rattle.serve_io.specs.declared.calls.Calls.{Calls}
use Rattle.serve_io.specs.declared.gate.Listened.{Listened}
use Rattle.serve_io.specs.declared.gate.Listened.TheVariants.{Ready, Failed as NotListening}
use Rattle.serve_io.specs.declared.gate.Next.{Next}
use Rattle.serve_io.specs.declared.gate.Next.TheVariants.{Connection, Closed, Failed}
use Rattle.serve_io.specs.Calls.{fails_next, calls_after}

-- a call of `listen` fails exactly where its number is listed, and was counted
abbrev pub MemListens : Calls → Listened → Calls → Type 0
MemListens old Ready new = (fails_next old ≡ false) × (new ≡ calls_after old false)
MemListens old NotListening new = (fails_next old ≡ true) × (new ≡ calls_after old true)

-- a call of `next` fails exactly where its number is listed, and was counted
abbrev pub MemGives : {I O : Type 0} → Calls → Next I O → Calls → Type 0
MemGives old (Connection input output) new = (fails_next old ≡ false) × (new ≡ calls_after old false)
MemGives old Closed new = (fails_next old ≡ false) × (new ≡ calls_after old false)
MemGives old Failed new = (fails_next old ≡ true) × (new ≡ calls_after old true)

-- a connection that was given is one more out, and else as many are out as before
abbrev pub GivesOne : {I O : Type 0} → ℕ → Next I O → ℕ → Type 0
GivesOne old (Connection input output) new = new ≡ old + 1
GivesOne old Closed new = new ≡ old
GivesOne old Failed new = new ≡ old
