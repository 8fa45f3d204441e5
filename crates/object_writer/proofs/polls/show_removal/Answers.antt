use Rattle.std.proofs.Common.{◌∙◌, refl}
use Rattle.std.proofs.lemmas.Result.{on_ok_weaker}
use Rattle.resource_codec.specs.Lists.{removal_event_fields, removal_event}
use Rattle.object_writer.proofs.Tokens.{object_written}
use Rattle.object_writer.proofs.polls.show_removal.Goals as goal

pub returns : goal.returns
unfolding removal_event
returns c =
    on_ok_weaker c.close_object.result
    (λ e. e ∙ rw (c.in_ok-text_field-3.ensures, c.in_ok-digits_field.ensures, c.in_ok-text_field-2.ensures, c.in_ok-text_field.ensures, c.in_ok-open_object.ensures)
    (rw (c.as_str.ensures, c.removal_namespace.ensures) (object_written (removal_event_fields c.args.key.now c.args.version) c.args.out.now refl)))
    c.close_object.ensures
