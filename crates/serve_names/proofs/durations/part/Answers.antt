use Rattle.std.proofs.Common.{◌≡◌, ◌∙◌, Some, None, ap, take, arith, ℕ}
use Rattle.std.specs.Str.Parse.{digits_value}
use Rattle.serve_names.specs.Durations.{run_of}
use Rattle.serve_names.specs.Counts.{count_of}
use Rattle.serve_names.proofs.Runs.{count_here, value_small}
use Rattle.serve_names.proofs.durations.part.Goals as goal

pub returns-in-Some-clause-bound : goal.returns-in-Some-clause-bound
returns-in-Some-clause-bound c =
    let bytes = c.args.bytes.now in
    let is : c.leading_digits-digits.result ≡ run_of bytes = c.leading_digits-digits.ensures in
    let here = count_here bytes (omega arith) (omega arith) (omega arith) in
    let same : Some c.in-Some.number ≡ Some (digits_value 10 (take (run_of bytes) bytes)) = c.in-Some.ensures ∙ ap (λ (n : ℕ). count_of (take n bytes)) is ∙ here in
    let number : c.in-Some.number ≡ digits_value 10 (take (run_of bytes) bytes) = cc in
    let small = value_small bytes (omega arith) (omega arith) in
    omega arith

pub returns-in-None-clause-value : goal.returns-in-None-clause-value
returns-in-None-clause-value c =
    let bytes = c.args.bytes.now in
    let is : c.leading_digits-digits.result ≡ run_of bytes = c.leading_digits-digits.ensures in
    let here = count_here bytes (omega arith) (omega arith) (omega arith) in
    let bad : None ≡ Some (digits_value 10 (take (run_of bytes) bytes)) = c.in-None.ensures ∙ ap (λ (n : ℕ). count_of (take n bytes)) is ∙ here in
    cc

pub returns-in-None-clause-rest : goal.returns-in-None-clause-rest
returns-in-None-clause-rest c =
    let bytes = c.args.bytes.now in
    let is : c.leading_digits-digits.result ≡ run_of bytes = c.leading_digits-digits.ensures in
    let here = count_here bytes (omega arith) (omega arith) (omega arith) in
    let bad : None ≡ Some (digits_value 10 (take (run_of bytes) bytes)) = c.in-None.ensures ∙ ap (λ (n : ℕ). count_of (take n bytes)) is ∙ here in
    cc
