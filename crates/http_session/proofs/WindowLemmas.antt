use Rattle.std.proofs.Common.{◌≡◌, ℕ, ◌+◌, ◌-◌, ◌≤◌, List, ◌++◌, length, take, drop, arith, ap, ◌∙◌, sym, length-take, length-drop}
use Rattle.std.specs.Prelude.{slice_range}
use Rattle.std.proofs.lemmas.List.{drop-drop, take-take, drop-take}
use Rattle.std.proofs.Math.Seq.{take-add}
use Rattle.std.specs.Prelude.{Option}
use Rattle.serve_io.specs.declared.source.ReadAnswer.{ReadAnswer}
use Rattle.serve_io.specs.declared.source.ReadAnswer.TheVariants.{Got, End, Failed}
use Rattle.serve_io.specs.Source.{ReadTakes}
use Rattle.http_session.specs.Window.{Fills, got}

pub slice_dropped : (xs : List ℕ) (start end n : ℕ) → start + n ≤ end
    → slice_range xs (start + n) end ≡ drop n (slice_range xs start end)
slice_dropped xs start end n le =
    let e : end - start ≡ n + (end - (start + n)) = omega arith in
    rw (← drop-drop n start xs, e) (sym (drop-take n (end - (start + n)) (drop start xs)))

pub fills_from : (answer : ReadAnswer) (lo ln : Option (List ℕ)) (old new : List ℕ) (at limit : ℕ) → at ≤ limit → limit ≤ length new
    → take at new ≡ take at old → ReadTakes lo ln (slice_range new at limit) answer
    → Fills (limit - at) lo ln (take at old) (take (at + got answer) new) answer
fills_from (Got n) lo ln old new at limit al ln_ same read =
    let fits : n ≤ limit - at = omega (arith, read.1, length-take (limit - at) (drop at new), length-drop at new) in
    let part : take n (slice_range new at limit) ≡ take n (drop at new) =
    take-take n (limit - at) (drop at new) fits in (
      take n (slice_range new at limit),
      omega (arith, read.1, length-take n (slice_range new at limit)),
      read.0,
      fits,
      take-add at n new ∙ ap (λ xs. xs ++ take n (drop at new)) same ∙ ap (λ xs. take at old ++ xs) (sym part),
      read.2,
    )
fills_from End lo ln old new at limit al ln_ same read = let e : at + 0 ≡ at = omega arith in (rw e same, read.0, read.1)
fills_from Failed lo ln old new at limit al ln_ same read = let e : at + 0 ≡ at = omega arith in (rw e same, read)
