-- Answers that may be refused; that a call is out of memory is free.
use Rattle.std.specs.Prelude.{◌≡◌, Bool, Result, Ok, Err, if◌then◌else◌}
use Rattle.answers.specs.declared.stop.Stop.{Stop}
use Rattle.answers.specs.declared.stop.Stop.TheVariants.{Refused, Memory}

-- ---- what is due

-- go on with the value, or stop at the first refusal
infixl 10 ◌>>=◌
abbrev pub ◌>>=◌ : {A B R : Type 0} → Result A R → (A → Result B R) → Result B R
(Ok x) >>= f = f x
(Err refusal) >>= f = Err refusal

-- go on where the test holds
abbrev pub requires_that : {R : Type 0} → Bool → R → Result (Unit {0}) R
requires_that holds refusal = if holds then Ok tt else Err refusal

-- ---- what a call answers

-- an answer is what is due
abbrev pub Comes : {A R : Type 0} → Result A (Stop R) → Result A R → Type 0
Comes (Ok x) due = due ≡ Ok x
Comes (Err (Refused refusal)) due = due ≡ Err refusal
Comes (Err Memory) due = Unit {0}

-- the same of an answer whose value is seen in another form, as one behind a reference
abbrev pub ComesAs : {X A R : Type 0} → (X → A) → Result X (Stop R) → Result A R → Type 0
ComesAs view (Ok x) due = due ≡ Ok (view x)
ComesAs view (Err (Refused refusal)) due = due ≡ Err refusal
ComesAs view (Err Memory) due = Unit {0}
