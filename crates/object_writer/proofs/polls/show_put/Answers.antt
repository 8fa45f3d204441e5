use Rattle.std.proofs.Common.{◌∙◌, ap, refl, codes}
use Rattle.std.proofs.lemmas.Result.{on_ok_weaker}
use Rattle.resource_codec.specs.Objects.{encoded}
use Rattle.resource_codec.specs.Lists.{put_event_fields, put_event}
use Rattle.object_writer.specs.Tokens.{with_value, with_field}
use Rattle.object_writer.proofs.Tokens.{object_written, field_written}
use Rattle.object_writer.proofs.polls.show_put.Goals as goal

pub returns : goal.returns
unfolding put_event
returns c =
    let o = c.args.object.now in
    let made = c.args.made in
    let ts = c.args.out.now in
    let named = c.in_ok-show_object.ensures ∙ ap (with_value (encoded o)) c.in_ok-name.ensures ∙ field_written (codes "object") (encoded o) c.open_object.new.self
    ∙ ap (with_field _ _) c.in_ok-open_object.ensures in
    on_ok_weaker c.close_object.result
    (λ e. e ∙ rw (c.in_ok-text_field.ensures, named, c.put_type.ensures) (object_written (put_event_fields o made) ts refl))
    c.close_object.ensures
