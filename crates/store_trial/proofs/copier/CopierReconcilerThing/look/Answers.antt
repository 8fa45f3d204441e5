use Rattle.std.proofs.Common.{◌≡◌, ℕ, Option, Some, None, refl, ap, ◌∙◌}
use Rattle.std.specs.Option.{option_map}
use Rattle.store_trial.specs.declared.thing.Thing.{Thing}
use Rattle.version_store.specs.State.{state}
use Rattle.store_trial.specs.declared.thing.Kind.TheVariants.{Source}
use Rattle.store_trial.specs.contracts.thing.KeyOrd.TheImpl as key_order
use Rattle.store_trial.specs.Copies.{answer_by, by_source_and_copy, found_of, standing, copy_key}
use Rattle.store_trial.proofs.copier.CopierReconcilerThing.look.Goals as goal

-- the view means what is due to what it was taken of
answer_is : (name status : ℕ) (source copy : Option Thing) → answer_by name status (option_map (λ (o : Thing). o.spec) source) (option_map found_of copy) ≡ by_source_and_copy status name source copy
answer_is name status None copy = refl
answer_is name status (Some source) None = refl
answer_is name status (Some source) (Some copy) = refl

pub returns : goal.returns
returns c =
    let name = c.args.name.now in
    let status = c.args.self.now.status in
    let st = state (λ (o : Thing). o.key) key_order.ghosts.cmp c.args.store.now.entries in
    let source = standing (record { kind = Source; name = name }) st in
    let copy = standing (copy_key name) st in
    ap (λ w. answer_by name status w c.found_of-found.result) (c.wanted_of-wanted.ensures ∙ ap (option_map (λ (o : Thing). o.spec)) c.find.ensures)
    ∙ ap (answer_by name status (option_map (λ (o : Thing). o.spec) source)) (c.found_of-found.ensures ∙ ap (option_map found_of) c.find-2.ensures)
    ∙ answer_is name status source copy
