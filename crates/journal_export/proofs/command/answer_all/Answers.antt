use Rattle.std.proofs.Common.{None, subst}
use Rattle.http_session.specs.declared.report.ClockMode.TheVariants.{Leave}
use Rattle.http_session.specs.Session.{state_of, Finishes}
use Rattle.api_server.specs.Ask.{WorldView, Asks, AskCut, After, AfterCut}
use Rattle.journal_export.proofs.command.answer_all.Goals as goal

pub returns-clause-answers : goal.returns-clause-answers
returns-clause-answers g c before is =
    let left = g.S.Source.left c.args.source.now in
    let failed = g.S.Source.faults c.args.source.now in
    let moments = g.C.Clock.moments c.args.clock.now in
    let new = state_of c.session-report.new.handler (g.S.Source.left c.session-report.new.source) (g.S.Source.faults c.session-report.new.source) None 0 (g.C.Clock.moments c.session-report.new.clock) in
    record {
      answered = c.session-report.result.answered;
      finishes = subst (λ (w : WorldView). Finishes Asks AskCut After AfterCut Leave (state_of w left failed None 0 moments) new c.session-report.result.answered c.session-report.result.end)
          is c.session-report.ensures.finishes;
    }
