use Rattle.std.proofs.Common.{refl, ap, subst, inl, inr}
use Rattle.http_session.specs.Session.{state_of}
use Rattle.api_server.specs.Ask.{WorldView}
use Rattle.control_rules.specs.Slots.{Plane}
use Rattle.journal_text.specs.Texts.{journal_text}
use Rattle.journal_export.specs.Exports.{Ends}
use Rattle.journal_export.proofs.Starts.{refuses, takes, started_is, stays, refused}
use Rattle.journal_export.proofs.command.export_requests.Goals as goal

pub returns-in_default-clause-leaves : goal.returns-in_default-clause-leaves
returns-in_default-clause-leaves g c = inl (refl, refl)

pub returns-then-is_err-clause-leaves : goal.returns-then-is_err-clause-leaves
returns-then-is_err-clause-leaves g c =
    let w = c.args.world.now in
    let left = g.S.Source.left c.args.source.now in
    let reads = g.S.Source.faults c.args.source.now in
    let taken = g.K.Sink.taken c.args.sink.now in
    let writes = g.K.Sink.faults c.args.sink.now in
    let moments = g.C.Clock.moments c.args.clock.now in
    refused (state_of w left reads taken writes moments) (state_of c.set_settings.new.self left reads taken writes moments)
    (refuses w c.in-Ok.settings c.set_settings.result c.in-Ok.ensures c.if-is_err.ensures.value c.set_settings.ensures.kept.0)
    (ap (λ (v : WorldView). state_of v left reads taken writes moments)
    (stays c.set_settings.result w c.set_settings.new.self c.if-is_err.ensures.value c.set_settings.ensures.err))

pub returns-then-is_err-clause-usage : goal.returns-then-is_err-clause-usage
returns-then-is_err-clause-usage g c is =
    refuses c.args.world.now c.in-Ok.settings c.set_settings.result c.in-Ok.ensures c.if-is_err.ensures.value c.set_settings.ensures.kept.0

pub returns-clause-leaves : goal.returns-clause-leaves
returns-clause-leaves g c =
    let w = c.args.world.now in
    let answers = c.answer_all-end.ensures.answers w
    (started_is w c.in-Ok.settings c.set_settings.result c.in-Ok.ensures c.set_settings.new.self c.set_auto.new.self c.if-is_err.ensures.value c.set_settings.ensures.ok c.set_auto.ensures) in
    inr (inr (
      takes w c.in-Ok.settings c.set_settings.result c.in-Ok.ensures c.if-is_err.ensures.value c.set_settings.ensures.kept.1,
      record {
        session_end = c.answer_all-end.result;
        answers = record { answered = answers.answered; finishes = answers.finishes };
        ends = subst (λ (p : Plane). Ends c.answer_all-end.result (journal_text p) (g.K.Sink.taken c.args.sink.now) (g.K.Sink.taken c.end_export.new.sink)
            (g.K.Sink.faults c.args.sink.now) (g.K.Sink.faults c.end_export.new.sink) c.end_export.result) c.plane.ensures c.end_export.ensures.ends;
      },
    ))
