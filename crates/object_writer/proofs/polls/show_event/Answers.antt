use Rattle.std.proofs.Common.{◌∙◌, sym, ap}
use Rattle.std.proofs.lemmas.Result.{on_ok_weaker}
use Rattle.resource_codec.specs.Views.{event_json, is_born}
use Rattle.object_writer.specs.Tokens.{with_value}
use Rattle.object_writer.proofs.polls.show_event.Goals as goal

pub returns-in-Some : goal.returns-in-Some
returns-in-Some c =
    let v = c.args.version in
    on_ok_weaker c.show_put.result
    (λ e. e ∙ ap (λ o. with_value (event_json c.args.entry.now.key v (is_born v o) o) c.args.out.now) (sym c.in-Some.is))
    c.show_put.ensures

pub returns-in-None : goal.returns-in-None
returns-in-None c =
    let v = c.args.version in
    on_ok_weaker c.show_removal.result
    (λ e. e ∙ ap (λ o. with_value (event_json c.args.entry.now.key v (is_born v o) o) c.args.out.now) (sym c.in-None.is))
    c.show_removal.ensures
