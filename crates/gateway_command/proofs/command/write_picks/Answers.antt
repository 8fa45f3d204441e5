use Rattle.std.proofs.Common.{◌≡◌, ℕ, refl, ap, subst, ◌∙◌, inl}
use Rattle.std.specs.Prelude.{IsTrue}
use Rattle.std.specs.List.{list_any}
use Rattle.std.specs.Io.KnownBytes.{Appends}
use Rattle.gateway_pick.specs.Picks.{has_host, rows_for, pick_among, pick_of, PicksEvenly}
use Rattle.gateway_command.specs.Texts.{picks_text}
use Rattle.gateway_command.proofs.command.write_picks.Goals as goal

pub returns-then-write_whole-clause-sent : goal.returns-then-write_whole-clause-sent
returns-then-write_whole-clause-sent g c =
    let tables = c.args.gateway.now.tables in
    let host = c.args.host.now in
    let rows : c.rows_for-rows.result.now ≡ rows_for host tables = c.rows_for-rows.ensures.rows ∙ ap (λ h. rows_for h tables) c.bytes.ensures.value in
    let text : c.as_slice.result.now ≡ picks_text (pick_of tables host) c.args.first c.args.count =
    c.as_slice.ensures.value ∙ (c.in-Ok.ensures ∙ ap (λ rs. picks_text (pick_among rs host) c.args.first c.args.count) rows) in
    inl (refl, subst (λ xs. Appends (g.K.Sink.taken c.args.sink.now) (g.K.Sink.taken c.write_whole.new.sink) xs) text (c.write_whole.ensures.sends.whole c.if-write_whole.true))

pub returns-then-write_whole-clause-evenly : goal.returns-then-write_whole-clause-evenly
returns-then-write_whole-clause-evenly g c =
    subst (λ h. IsTrue (list_any (has_host h) c.args.gateway.now.tables) → (number : ℕ) → PicksEvenly c.args.gateway.now.tables h number)
    c.bytes.ensures.value c.rows_for-rows.ensures.evenly

pub returns-in-Ok-clause-evenly : goal.returns-in-Ok-clause-evenly
returns-in-Ok-clause-evenly g c =
    subst (λ h. IsTrue (list_any (has_host h) c.args.gateway.now.tables) → (number : ℕ) → PicksEvenly c.args.gateway.now.tables h number)
    c.bytes.ensures.value c.rows_for-rows.ensures.evenly

pub returns-clause-evenly : goal.returns-clause-evenly
returns-clause-evenly g c =
    subst (λ h. IsTrue (list_any (has_host h) c.args.gateway.now.tables) → (number : ℕ) → PicksEvenly c.args.gateway.now.tables h number)
    c.bytes.ensures.value c.rows_for-rows.ensures.evenly
