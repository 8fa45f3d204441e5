use Rattle.std.proofs.Common.{◌∙◌, refl}
use Rattle.std.proofs.lemmas.Result.{on_ok_weaker}
use Rattle.std.specs.Prelude.{map, take}
use Rattle.std.specs.Option.{option_copied}
use Rattle.resource_codec.specs.Lists.{poll_fields, poll_members}
use Rattle.resource_codec.specs.Views.{event_of, most_events, changes_after, told_version}
use Rattle.object_writer.proofs.Tokens.{object_written}
use Rattle.object_writer.proofs.polls.show_poll.Goals as goal

pub returns : goal.returns
unfolding poll_members
returns c =
    on_ok_weaker c.close_object.result
    (λ e. e ∙ rw (c.in_ok-digits_field.ensures, c.in_ok-text_field.ensures, c.in_ok-told.ensures.tokens, c.in_ok-open_object.ensures)
    (rw (c.in_ok-told.ensures.version, c.entries.ensures) (object_written (poll_fields (map (event_of c.args.store.now.entries) (take most_events (changes_after c.args.store.now.entries c.args.kind (option_copied c.args.space) c.args.after))) (told_version c.args.store.now.entries (changes_after c.args.store.now.entries c.args.kind (option_copied c.args.space) c.args.after))) c.args.out.now refl)))
    c.close_object.ensures
