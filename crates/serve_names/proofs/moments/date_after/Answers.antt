use Rattle.std.proofs.Common.{rules, ◌≡◌, ◌∙◌, pos, arith, to_z, w64}
use Rattle.jiff.specs.Words.{IsOnly}
use Rattle.jiff_core.specs.declared.unit.Unit.TheVariants.{Day}
use Rattle.jiff.proofs.SpanFacts.{signed_arith, date_add-days, can_add-days}
use Rattle.serve_names.proofs.Days.{epoch_is}
use Rattle.serve_names.proofs.moments.date_after.Goals as goal

pub add-requires : goal.add-requires
add-requires c =
    let same : to_z w64 c.args.days ≡ pos c.args.days = search rules in
    let only : IsOnly Day (pos c.args.days) c.days.result = rw same at c.days.ensures in
    let zero = epoch_is c.date.result c.date.ensures in
    let few = c.requires in
    (can_add-days c.date.result (pos c.args.days) c.days.result only).1 (rw zero (omega (arith, signed_arith)))

pub returns : goal.returns
returns c =
    let same : to_z w64 c.args.days ≡ pos c.args.days = search rules in
    let only : IsOnly Day (pos c.args.days) c.days.result = rw same at c.days.ensures in
    let zero = epoch_is c.date.result c.date.ensures in
    let moved = c.add.ensures ∙ date_add-days c.date.result (pos c.args.days) c.days.result only in
    omega (arith, signed_arith)
