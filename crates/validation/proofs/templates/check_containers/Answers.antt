use Rattle.std.proofs.Common.{◌∙◌, sym, ap, Bool}
use Rattle.std.proofs.lemmas.Result.{err_from_is_err_and}
use Rattle.validation.specs.declared.places.Place.TheVariants as place
use Rattle.validation.specs.declared.places.Rule.TheVariants as rule
use Rattle.validation.specs.Rules.{line, verdict_of}
use Rattle.validation.proofs.Steps.{then_ok, then_err, container_step, containers_done}
use Rattle.validation.proofs.templates.check_containers.Goals as goal

pub returns-in_err-keep : goal.returns-in_err-keep
returns-in_err-keep c =
    let p = err_from_is_err_and c.from_residual.result c.from_residual.ensures.1 in
    rw (p.1, p.2) (then_err _ _ _ _
    (container_step c.args.containers.now c.loop-index.index c.index-containers-index.result c.loop-index-test.true c.index-containers-index.is ∙ c.loop-index.invariant)
    (ap (λ (b : Bool). verdict_of (line (place.Image c.loop-index.index) rule.Image b)) (sym c.has_image-is_given.ensures) ∙ sym c.keep.ensures ∙ c.in_err-keep.was))

pub loop-index-preserved : goal.loop-index-preserved
loop-index-preserved c =
    then_ok _ _ _ _
    (container_step c.args.containers.now c.loop-index.index c.index-containers-index.result c.loop-index-test.true c.index-containers-index.is ∙ c.loop-index.invariant)
    (ap (λ (b : Bool). verdict_of (line (place.Image c.loop-index.index) rule.Image b)) (sym c.has_image-is_given.ensures) ∙ sym c.keep.ensures ∙ c.in_ok-keep.was)

pub returns : goal.returns
returns c = sym (containers_done c.args.containers.now c.loop-index.index c.loop-index-test.false) ∙ c.loop-index.invariant
