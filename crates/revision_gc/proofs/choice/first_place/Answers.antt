use Rattle.std.proofs.Common.{None, ◌+◌, Bool, drop, arith, ap, ◌∙◌}
use Rattle.std.specs.Prelude.{option_map}
use Rattle.control_rules.specs.declared.collection.Candidate.{Candidate}
use Rattle.control_rules.specs.Collection.{earlier, first_from}
use Rattle.revision_gc.specs.Choices.{best_of, counts_by}
use Rattle.revision_gc.proofs.Walks.{place-end, place-next}
use Rattle.revision_gc.proofs.choice.first_place.Goals as goal

pub loop-place-preserved : goal.loop-place-preserved
loop-place-preserved c =
    let counts : Candidate → Bool = counts_by c.args.among.now in
    let list = c.args.candidates.now in
    let place = c.loop-place.place in
    let candidate = c.index-candidates-place.result in
    let best = option_map best_of c.loop-place.best in
    ap (λ b. first_from counts (place + 1) b (drop (place + 1) list))
    (c.earlier-best.ensures ∙ ap (λ (t : Bool). earlier t place candidate best) (c.counts.ensures ∙ ap counts c.age_of.ensures))
    ∙ place-next counts best list place candidate (omega arith) c.index-candidates-place.is ∙ c.loop-place.invariant

pub returns : goal.returns
returns c =
    let counts : Candidate → Bool = counts_by c.args.among.now in
    c.place_of.ensures
    ∙ place-end counts (option_map best_of c.loop-place.best) c.args.candidates.now c.loop-place.place (first_from counts 0 None c.args.candidates.now) (omega arith) c.loop-place.invariant
