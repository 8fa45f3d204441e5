use Rattle.std.proofs.Common.{map, take, ap, ◌∙◌}
use Rattle.std.specs.Option.{option_copied}
use Rattle.resource_codec.specs.Views.{event_of, most_events, changes_after}
use Rattle.resource_codec.proofs.Polled.{events_fit}
use Rattle.resource_codec.proofs.polls.poll_json.Goals as goal

pub returns-clause-well : goal.returns-clause-well
returns-clause-well c shown =
    let space = option_copied c.args.space in
    let fit = events_fit c.args.store.now.entries c.args.kind space c.args.after most_events shown in
    let e = c.in_ok-told.ensures.events ∙ ap (λ es. map (event_of es) (take most_events (changes_after es c.args.kind space c.args.after))) c.entries.ensures in
    c.poll_form.ensures.well (rw e fit.well) (rw e fit.deep)
