-- A stream that ends well is answered whole, where nothing failed.
use Rattle.std.proofs.Common.{◌≡◌, ℕ, ◌+◌, ◌<◌, List, ◌++◌, length, Option, Some, None, refl, sym, ap, subst, ◌∙◌, inl, inr, arith, length-append}
use Rattle.std.specs.Prelude.{◌⊎◌}
use Rattle.std.specs.Io.KnownBytes.{Consumes}
use Rattle.http_session.specs.declared.message.Asked.{Asked}
use Rattle.http_session.specs.declared.report.ClockMode.TheVariants.{Leave}
use Rattle.http_session.specs.declared.report.HeadFault.{HeadFault}
use Rattle.http_session.specs.declared.report.SessionEnd.{SessionEnd}
use Rattle.http_session.specs.declared.report.SessionEnd.TheVariants.{Clean, Closed, Cut, Bad, ReadFault, WriteFault, TooLong, Memory}
use Rattle.http_session.specs.declared.stream.StreamEnd.{StreamEnd}
use Rattle.http_session.specs.declared.stream.StreamEnd.TheVariants as stream
use Rattle.http_session.specs.Stream.{IsStream}
use Rattle.http_session.specs.Session as session
use Rattle.http_session.specs.Session.{SessionState, Finishes, IsAll}
use Rattle.http_session.proofs.UniqueLemmas.{IsStream-unique, IsStream-append}
use Rattle.api_server.specs.Ask.{WorldView, Asks, AskCut, After, AfterCut}
use Rattle.control_cli.specs.declared.status.Status.{Status}
use Rattle.control_cli.specs.declared.status.Status.TheVariants.{Done, Memory as NoMemory}
use Rattle.std.specs.Option.{IfSome}
use Rattle.serve_io.specs.Causes.{Rose}
use Rattle.control_cli.specs.Ends.{status_of}
use Rattle.control_cli.specs.Runs.{IsComplete}

-- a stream that ends well has no other end
ends_well : (all : List ℕ) (asked asked' : List Asked) (end : StreamEnd) → IsStream all asked stream.Clean ⊎ IsStream all asked stream.Closed
    → IsStream all asked' end → (end ≡ stream.Clean) ⊎ (end ≡ stream.Closed)
ends_well all asked asked' end (inl clean) here = inl (IsStream-unique all asked' asked end stream.Clean here clean).1
ends_well all asked asked' end (inr closed) here = inr (IsStream-unique all asked' asked end stream.Closed here closed).1

never : {A : Type 0} (end : StreamEnd) → (end ≡ stream.Clean → ⊥) → (end ≡ stream.Closed → ⊥) → (end ≡ stream.Clean) ⊎ (end ≡ stream.Closed) → A
never end clean closed (inl e) = absurd (clean e)
never end clean closed (inr e) = absurd (closed e)

not_cut : (left : Option (List ℕ)) (all bytes : List ℕ) (asked asked' : List Asked) → left ≡ Some all → IsAll left bytes
    → IsStream all asked stream.Clean ⊎ IsStream all asked stream.Closed → IsStream bytes asked' stream.Cut → ⊥
not_cut None all bytes asked asked' told whole well cut = cc
not_cut (Some xs) all bytes asked asked' told whole well cut =
    let same : xs ≡ all = cc in
    let here : IsStream all asked' stream.Cut = subst (λ b. IsStream b asked' stream.Cut) (sym whole ∙ same) cut in
    never stream.Cut (λ e. cc) (λ e. cc) (ends_well all asked asked' stream.Cut well here)

not_bad : (left rest : Option (List ℕ)) (all bytes : List ℕ) (asked asked' : List Asked) (fault : HeadFault) → left ≡ Some all → Consumes left rest bytes
    → IsStream all asked stream.Clean ⊎ IsStream all asked stream.Closed → IsStream bytes asked' (stream.Bad fault) → ⊥
not_bad None rest all bytes asked asked' fault told took well bad = cc
not_bad (Some xs) None all bytes asked asked' fault told took well bad = took
not_bad (Some xs) (Some ys) all bytes asked asked' fault told took well bad =
    let same : xs ≡ all = cc in
    let longer : IsStream (bytes ++ ys) asked' (stream.Bad fault) = IsStream-append bytes ys asked' (stream.Bad fault) tt bad in
    let here : IsStream all asked' (stream.Bad fault) = subst (λ b. IsStream b asked' (stream.Bad fault)) (sym took ∙ same) longer in
    never (stream.Bad fault) (λ e. cc) (λ e. cc) (ends_well all asked asked' (stream.Bad fault) well here)

not_long : (left rest : Option (List ℕ)) (all bytes : List ℕ) → left ≡ Some all → Consumes left rest bytes → length all < 4294967295
    → length bytes ≡ 4294967295 → ⊥
not_long None rest all bytes told took short long = cc
not_long (Some xs) None all bytes told took short long = took
not_long (Some xs) (Some ys) all bytes told took short long =
    let same : xs ≡ all = cc in
    let sum : length all ≡ length bytes + length ys = ap length (sym same ∙ took) ∙ length-append bytes ys in
    omega (arith, sum, short, long)

pub ends : (old new : SessionState WorldView) (answered : ℕ) (end : SessionEnd) → Finishes Asks AskCut After AfterCut Leave old new answered end
    → (all : List ℕ) → old.left ≡ Some all → (asked : List Asked) → IsStream all asked stream.Clean ⊎ IsStream all asked stream.Closed
    → length all < 4294967295 → ¬ (Rose old.reads_failed new.reads_failed) → ¬ (Rose old.writes_failed new.writes_failed)
    → (status_of end ≡ Done) ⊎ (status_of end ≡ NoMemory)
ends old new answered Clean a all told asked well short reads writes = inl refl
ends old new answered Closed a all told asked well short reads writes = inl refl
ends old new answered Cut a all told asked well short reads writes =
    absurd (not_cut old.left all a.bytes asked (session.asked_in a.done) told a.end.all well a.end.stream)
ends old new answered (Bad fault) a all told asked well short reads writes =
    absurd (not_bad old.left new.left all a.bytes asked (session.asked_in a.done) fault told a.served.consumed well a.end)
ends old new answered ReadFault (rose, a) all told asked well short reads writes = absurd (reads rose)
ends old new answered WriteFault (rose, f) all told asked well short reads writes = absurd (writes rose)
ends old new answered TooLong a all told asked well short reads writes =
    absurd (not_long old.left new.left all a.bytes told a.served.consumed short a.end.1)
ends old new answered Memory f all told asked well short reads writes = inr refl

pub complete : (old new : SessionState WorldView) (answered : ℕ) (end : SessionEnd) (status : Status) → status ≡ status_of end
    → Finishes Asks AskCut After AfterCut Leave old new answered end → IsComplete old new status
complete old new answered end status is f = by_left old.left refl
  where
    by_left : (left : Option (List ℕ)) → old.left ≡ left
        → IfSome left (λ all. (asked : List Asked) → (IsStream all asked stream.Clean ⊎ IsStream all asked stream.Closed)
        → length all < 4294967295 → ¬ (Rose old.reads_failed new.reads_failed) → ¬ (Rose old.writes_failed new.writes_failed)
        → (status ≡ Done) ⊎ (status ≡ NoMemory))
    by_left None told = tt
    by_left (Some all) told = λ asked well short reads writes.
        subst (λ s. (s ≡ Done) ⊎ (s ≡ NoMemory)) (sym is) (ends old new answered end f all told asked well short reads writes)
