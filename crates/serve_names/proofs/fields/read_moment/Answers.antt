use Rattle.std.proofs.Common.{rules, ◌≡◌, ◌∙◌, ◌+◌, ◌*◌, ◌/◌, arith, ap, sym, subst, Some, ℕ}
use Rattle.serve_names.specs.Moments.{IsMomentText}
use Rattle.serve_names.specs.Fields.{AreSmall, fields_text}
use Rattle.serve_names.proofs.DayLemmas.{moment_is}
use Rattle.serve_names.proofs.FieldLemmas.{moment_from, moment_length, read_back}
use Rattle.serve_names.proofs.fields.read_moment.Goals as goal

pub returns-then-bytes-ne20-clause-finds : goal.returns-then-bytes-ne20-clause-finds
returns-then-bytes-ne20-clause-finds c = λ n most e. absurd (c.if-bytes-ne20.true (moment_length n c.args.bytes.now most e))

pub returns-then-not-are_small-clause-finds : goal.returns-then-not-are_small-clause-finds
returns-then-not-are_small-clause-finds c = λ n most e.
    let is = read_back n c.args.bytes.now c.digit_fields-fields.result most e c.digit_fields-fields.ensures in
    let small = c.are_small.ensures.1 is.small in
    cc

pub returns-then-not-is_same-clause-finds : goal.returns-then-not-is_same-clause-finds
returns-then-not-is_same-clause-finds c = λ n most e.
    let is = read_back n c.args.bytes.now c.digit_fields-fields.result most e c.digit_fields-fields.ensures in
    let text : c.as_slice.result.now ≡ fields_text c.digit_fields-fields.result = search rules in
    let same = c.is_same.ensures.1 (is.written ∙ sym text) in
    cc

pub returns-in_err-days-clause-finds : goal.returns-in_err-days-clause-finds
returns-in_err-days-clause-finds c = λ n most e.
    let is = read_back n c.args.bytes.now c.digit_fields-fields.result most e c.digit_fields-fields.ensures in
    let none = c.in_err-days.ensures.finds is.date (n / 86400) is.ymd is.epoch in
    cc

pub returns-clause-finds : goal.returns-clause-finds
returns-clause-finds c = λ n most e.
    let is = read_back n c.args.bytes.now c.digit_fields-fields.result most e c.digit_fields-fields.ensures in
    let days = c.in_ok-days.ensures.finds is.date (n / 86400) is.ymd is.epoch in
    let day : c.in_ok-days.days ≡ n / 86400 = cc in
    let second = is.second in
    ap Some (omega arith)

pub returns-clause-civil : goal.returns-clause-civil
returns-clause-civil c =
    let fields = c.digit_fields-fields.result in
    let small : AreSmall fields = search rules in
    let is : c.args.bytes.now ≡ fields_text fields = search rules in
    let d = c.in_ok-days.ensures.found in
    let read = moment_from fields d.0 c.in_ok-days.days small d.1.0 d.1.1 in
    subst (IsMomentText (c.in_ok-days.days * 86400 + fields.hour * 3600 + fields.minute * 60 + fields.second)) (sym is) read.1

pub returns-clause-found : goal.returns-clause-found
returns-clause-found c =
    let fields = c.digit_fields-fields.result in
    let small : AreSmall fields = search rules in
    let is : c.args.bytes.now ≡ fields_text fields = search rules in
    let d = c.in_ok-days.ensures.found in
    let n : ℕ = c.in_ok-days.days * 86400 + fields.hour * 3600 + fields.minute * 60 + fields.second in
    let read = moment_from fields d.0 c.in_ok-days.days small d.1.0 d.1.1 in
    (read.0, moment_is n c.args.bytes.now read.0 (subst (IsMomentText n) (sym is) read.1))
