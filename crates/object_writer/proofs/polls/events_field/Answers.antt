use Rattle.std.proofs.Common.{◌∙◌, map, take, codes}
use Rattle.std.specs.Option.{option_copied}
use Rattle.resource_codec.specs.Views.{event_of, most_events, changes_after}
use Rattle.object_writer.proofs.Tokens.{array_field_written}
use Rattle.object_writer.proofs.polls.events_field.Goals as goal

pub returns-clause-tokens : goal.returns-clause-tokens
returns-clause-tokens c =
    let journal = c.args.entries.now in
    c.in_ok-close_array.ensures
    ∙ rw (c.in_ok-told.ensures.tokens, c.in_ok-open_array.ensures, c.in_ok-name.ensures)
    (array_field_written (codes "events") (map (event_of journal) (take most_events (changes_after journal c.args.kind (option_copied c.args.space) c.args.after))) c.args.out.now)
