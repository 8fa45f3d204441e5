use Rattle.std.proofs.Common.{◌+◌, map, drop, sym, ap, ◌∙◌, arith}
use Rattle.resource_codec.specs.Objects.{encoded}
use Rattle.object_writer.specs.Tokens.{with_values}
use Rattle.object_writer.proofs.Tokens.{next_found, last_form}
use Rattle.object_writer.proofs.lists.show_walk.Goals as goal

pub loop-place-preserved : goal.loop-place-preserved
loop-place-preserved c =
    let l = c.loop-place in
    let objects = c.args.objects.now in
    ap (with_values (map encoded (drop (l.place + 1) objects))) c.in_ok-show_object.ensures
    ∙ next_found encoded objects l.place l.out c.at.result.now c.at.ensures ∙ l.invariant

pub returns : goal.returns
returns c =
    let l = c.loop-place in
    sym (last_form encoded c.args.objects.now l.place l.out (omega (arith, c.len-place-end.ensures))) ∙ l.invariant
