use Rattle.std.proofs.Common.{◌≡◌, Err, Some, true, sym, ap, subst, ◌∙◌, arith}
use Rattle.std.specs.Prelude.{IsUtf8}
use Rattle.journal_text.specs.Lines.{header_of}
use Rattle.journal_text.specs.Reads.{line_text}
use Rattle.journal_reader.specs.Answers.{Reads}
use Rattle.journal_reader.specs.declared.headers.Header.{Header}
use Rattle.journal_reader.proofs.Found.{with_feed, without_feed, header_as, header_found}
use Rattle.journal_reader.proofs.headers.read_header.Goals as goal

pub returns-in-Err-Refused-clause-found : goal.returns-in-Err-Refused-clause-found
returns-in-Err-Refused-clause-found c settings now heads has =
    let reads = header_found c.args.line.now c.header_of_bytes.result settings now c.header_of_bytes.ensures.found heads has in
    absurd (subst (λ r. Reads r (header_as settings now)) (c.in-Err-Refused.is ∙ ap Err c.in-Err-Refused.field-0-is) reads)

pub returns-then-found-gt-LAST_MOMENT-clause-found : goal.returns-then-found-gt-LAST_MOMENT-clause-found
returns-then-found-gt-LAST_MOMENT-clause-found c settings now heads has =
    let reads = header_found c.args.line.now c.header_of_bytes.result settings now c.header_of_bytes.ensures.found heads has in
    let same : c.in-Ok.found ≡ header_as settings now = subst (λ r. Reads r (header_as settings now)) c.in-Ok.is reads in
    absurd (omega (arith, ap (λ (h : Header). h.moment) same, heads.clock, c.if-found-gt-LAST_MOMENT.true))

pub returns-then-is_same-clause-said : goal.returns-then-is_same-clause-said
returns-then-is_same-clause-said c = with_feed _ _ (c.in_ok-is_same.ensures.text.0 c.if-is_same.true)

pub returns-then-is_same-clause-heads : goal.returns-then-is_same-clause-heads
returns-then-is_same-clause-heads c = record {
  clock = c.if-found-gt-LAST_MOMENT.false;
  numbers = c.in_ok-is_same.ensures.numbers;
  utf8 = subst IsUtf8 (sym (c.in_ok-is_same.ensures.text.0 c.if-is_same.true)) c.in-Ok.ensures.utf8;
}

pub returns-then-is_same-clause-found : goal.returns-then-is_same-clause-found
returns-then-is_same-clause-found c settings now heads has =
    let reads = header_found c.args.line.now c.header_of_bytes.result settings now c.header_of_bytes.ensures.found heads has in
    let same : c.in-Ok.found ≡ header_as settings now = subst (λ r. Reads r (header_as settings now)) c.in-Ok.is reads in
    ap Some same

pub returns-else-is_same-clause-found : goal.returns-else-is_same-clause-found
returns-else-is_same-clause-found c settings now heads has =
    let reads = header_found c.args.line.now c.header_of_bytes.result settings now c.header_of_bytes.ensures.found heads has in
    let same : c.in-Ok.found ≡ header_as settings now = subst (λ r. Reads r (header_as settings now)) c.in-Ok.is reads in
    let text = subst (λ (h : Header). line_text (header_of h.settings h.moment) ≡ c.args.line.now) (sym same) (without_feed _ _ has) in
    let yes : c.in_ok-is_same.is_same ≡ true = c.in_ok-is_same.ensures.text.1 text in
    let no = c.if-is_same.false in
    absurd cc
