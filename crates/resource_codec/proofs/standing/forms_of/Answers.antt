use Rattle.std.proofs.Common.{◌+◌, ◌++◌, ◌∷◌, [], map, drop, ap, ◌∙◌}
use Rattle.resource_codec.specs.Objects.{encoded}
use Rattle.resource_codec.proofs.Polled.{form-next}
use Rattle.resource_codec.proofs.standing.forms_of.Goals as goal

pub loop-place-preserved : goal.loop-place-preserved
loop-place-preserved c =
    let objects = c.args.objects.now in
    let later = map encoded (drop (c.loop-place.place + 1) objects) in
    ap (λ js. js ++ later) (c.in_ok-push.ensures.ok ∙ ap (λ j. c.loop-place.items ++ j ∷ []) c.in_ok-encode.ensures.encoded)
    ∙ form-next objects c.loop-place.place c.at.result.now c.loop-place.items c.at.ensures ∙ c.loop-place.invariant
