use Rattle.std.proofs.Common.{arith}
use Rattle.touched_keys.proofs.Taking.{back_next, adds_next, all_next, all_in}
use Rattle.touched_keys.proofs.intake.mark_entries.Goals as goal

pub returns-in_err-mark_entry-clause-adds : goal.returns-in_err-mark_entry-clause-adds
returns-in_err-mark_entry-clause-adds c =
    adds_next c.args.store.now.entries c.args.upto c.loop-place.place (omega (arith, c.loop-place-test.true, c.version-place-end.ensures.count)) c.loop-place.invariant.back _ _ _ c.loop-place.invariant.adds c.in_err-mark_entry.ensures.adds

pub loop-place-preserved : goal.loop-place-preserved
loop-place-preserved c =
    let j = c.args.store.now.entries in
    let i = c.loop-place.invariant in
    record {
      adds = adds_next j c.args.upto c.loop-place.place (omega (arith, c.loop-place-test.true, c.version-place-end.ensures.count)) i.back _ _ _ i.adds c.in_ok-mark_entry.ensures.adds;
      back = back_next j c.args.upto c.loop-place.place (omega (arith, c.loop-place-test.true, c.version-place-end.ensures.count)) i.back;
      all = λ pick known t. all_next j c.args.upto c.loop-place.place (omega (arith, c.loop-place-test.true, c.version-place-end.ensures.count)) i.back _ _ c.in_ok-mark_entry.ensures.adds c.in_ok-mark_entry.ensures.all pick known (i.all pick known t);
    }

pub returns-clause-all : goal.returns-clause-all
returns-clause-all c = λ pick known t.
    all_in c.args.store.now.entries c.loop-place.place (omega (arith, c.loop-place-test.false, c.version-place-end.ensures.count)) c.loop-place.keys pick (c.loop-place.invariant.all pick known t)
