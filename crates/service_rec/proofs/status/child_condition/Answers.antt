use Rattle.std.proofs.Common.{sym, ap, ◌∙◌, codes, ℕ, List}
use Rattle.resource_types.specs.declared.conditions.Truth.TheVariants as truth
use Rattle.control_rules.specs.Statuses.{stated}
use Rattle.service_rec.proofs.Sentences.{not_owned, out_of_date, said_itself}
use Rattle.service_rec.proofs.status.child_condition.Goals as goal

pub returns-then-not-is_owned_by_uid : goal.returns-then-not-is_owned_by_uid
returns-then-not-is_owned_by_uid c =
    c.in_ok-not_owned.ensures ∙ ap (λ (m : List ℕ). stated c.args.name truth.False (codes "NotOwned") m) c.in_ok-message.ensures
    ∙ not_owned c.args.name c.args.what.now c.args.simple.now c.args.uid c.args.child.now (sym c.is_owned_by_uid.ensures ∙ c.if-not-is_owned_by_uid.true)

pub returns-then-not-is_observed : goal.returns-then-not-is_observed
returns-then-not-is_observed c =
    c.in_ok-out_of_date.ensures ∙ ap (λ (m : List ℕ). stated c.args.name truth.Unknown (codes "OutOfDate") m) c.in_ok-sentence.ensures
    ∙ out_of_date c.args.name c.args.what.now c.args.simple.now c.args.uid c.args.child.now (sym c.is_owned_by_uid.ensures ∙ c.if-not-is_owned_by_uid.false)
    (sym c.is_observed.ensures ∙ c.if-not-is_observed.true)

pub returns : goal.returns
returns c =
    c.in_ok-own.ensures
    ∙ said_itself c.args.name c.args.what.now c.args.simple.now c.args.uid c.args.child.now (sym c.is_owned_by_uid.ensures ∙ c.if-not-is_owned_by_uid.false)
    (sym c.is_observed.ensures ∙ c.if-not-is_observed.false)
