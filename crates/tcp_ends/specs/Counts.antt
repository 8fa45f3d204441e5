-- What the count of faults of an end or a gate does: it is one more where a call failed, and else as before.
use Rattle.std.specs.Prelude.{◌≡◌, ℕ}
use Rattle.serve_io.specs.Causes.{one_more}
use Rattle.serve_io.specs.declared.source.ReadAnswer.{ReadAnswer}
use Rattle.serve_io.specs.declared.source.ReadAnswer.TheVariants.{Got, End, Failed as NotRead}
use Rattle.serve_io.specs.declared.gate.Listened.{Listened}
use Rattle.serve_io.specs.declared.gate.Listened.TheVariants.{Ready, Failed as NotListening}
use Rattle.serve_io.specs.declared.gate.Next.{Next}
use Rattle.serve_io.specs.declared.gate.Next.TheVariants.{Connection, Closed, Failed}

abbrev pub CountsRead : ℕ → ReadAnswer → ℕ → Type 0
CountsRead before (Got n) now = now ≡ before
CountsRead before End now = now ≡ before
CountsRead before NotRead now = now ≡ one_more before

abbrev pub CountsListen : ℕ → Listened → ℕ → Type 0
CountsListen before Ready now = now ≡ before
CountsListen before NotListening now = now ≡ one_more before

-- a TCP gate is never closed
abbrev pub CountsNext : {I O : Type 0} → ℕ → Next I O → ℕ → Type 0
CountsNext before (Connection input output) now = now ≡ before
CountsNext before Closed now = ⊥
CountsNext before Failed now = now ≡ one_more before
