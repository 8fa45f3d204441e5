use Rattle.std.proofs.Common.{false, subst}
use Rattle.touched_keys.specs.Marks.{MarksView, TouchesSame}
use Rattle.touched_keys.proofs.Taking.{taken_all}
use Rattle.touched_keys.proofs.marks.Marks.take_in.Goals as goal

pub returns-clause-touched : goal.returns-clause-touched
returns-clause-touched c =
    let m = c.self.inside in
    let old : MarksView = record { keys = m.keys; upto = m.upto; moved = m.moved } in
    subst (λ v. TouchesSame c.args.store.now.entries v (record { keys = c.mark_entries.new.keys; upto = c.version-self-inside.result; moved = false })) c.self.view_is
    (taken_all c.args.store.now.entries old c.mark_moved.new.keys c.mark_entries.new.keys c.version-self-inside.result c.in_ok-mark_moved.ensures.adds c.in_ok-mark_moved.ensures.all c.in_ok-mark_entries.ensures.adds c.in_ok-mark_entries.ensures.all c.version-self-inside.ensures.count)
