use Rattle.std.proofs.Common.{◌≡◌, Err, true, sym, ap, subst, ◌∙◌}
use Rattle.journal_text.specs.Reads.{line_text}
use Rattle.journal_reader.specs.Answers.{Reads}
use Rattle.journal_reader.specs.declared.deeds.Line.{Line}
use Rattle.journal_reader.specs.Lines.{members_of, IsLineOf}
use Rattle.journal_reader.proofs.Found.{with_feed, line_found}
use Rattle.journal_reader.proofs.lines.read_line.Goals as goal

pub returns-in-Err-Refused-clause-found : goal.returns-in-Err-Refused-clause-found
returns-in-Err-Refused-clause-found c e legible form has =
    let due = line_found c.args.line.now c.line_of_members.result e c.line_of_members.ensures.found legible form has in
    absurd (subst (λ r. Reads r due.line) (c.in-Err-Refused.is ∙ ap Err c.in-Err-Refused.field-0-is) due.reads)

pub returns-then-is_same-clause-said : goal.returns-then-is_same-clause-said
returns-then-is_same-clause-said c = record {
  said = with_feed _ _ (c.in_ok-is_same.ensures.text.0 c.if-is_same.true);
  utf8 = c.in-Ok.ensures.utf8;
  numbers = c.in_ok-is_same.ensures.numbers;
  put = c.in_ok-is_same.ensures.put;
}

pub returns-then-is_same-clause-found : goal.returns-then-is_same-clause-found
returns-then-is_same-clause-found c e legible form has =
    let due = line_found c.args.line.now c.line_of_members.result e c.line_of_members.ensures.found legible form has in
    let same : c.in-Ok.found ≡ due.line = subst (λ r. Reads r due.line) c.in-Ok.is due.reads in
    subst (IsLineOf e) (sym same) due.tells

pub returns-else-is_same-clause-found : goal.returns-else-is_same-clause-found
returns-else-is_same-clause-found c e legible form has =
    let due = line_found c.args.line.now c.line_of_members.result e c.line_of_members.ensures.found legible form has in
    let same : c.in-Ok.found ≡ due.line = subst (λ r. Reads r due.line) c.in-Ok.is due.reads in
    let text = subst (λ (l : Line). line_text (members_of l) ≡ c.args.line.now) (sym same) due.text in
    let yes : c.in_ok-is_same.is_same ≡ true = c.in_ok-is_same.ensures.text.1 text in
    let no = c.if-is_same.false in
    absurd cc
