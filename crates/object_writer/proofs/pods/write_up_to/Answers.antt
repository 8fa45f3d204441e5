use Rattle.object_writer.proofs.Splits.{no_number, number_put}
use Rattle.object_writer.proofs.pods.write_up_to.Goals as goal

pub returns-then-is_none : goal.returns-then-is_none
returns-then-is_none c = no_number c.args.name.now c.args.number c.args.members.now c.args.out.now c.if-is_none.ensures

pub returns : goal.returns
returns c =
    let p = c.place_before-place.ensures in
    number_put c.args.name.now c.args.number c.args.members.now c.entries_behind.result.now c.place_before-place.result c.args.out.now c.write_members.new.out c.number_field.new.self
    c.if-is_none.ensures c.in_ok-write_members.ensures p.before p.behind c.in_ok-number_field.ensures c.entries_behind.ensures
