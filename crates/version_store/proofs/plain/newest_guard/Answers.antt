use Rattle.std.proofs.Common.{◌-◌, take, cond, ap, sym, ◌∙◌, arith}
use Rattle.std.specs.Option.{option_copied}
use Rattle.version_store.specs.Journal.{newest_guard}
use Rattle.version_store.proofs.Prefix.{AreStamped-take, newest_guard-last}
use Rattle.version_store.proofs.plain.newest_guard.Goals as goal

pub find-standing-requires : goal.find-standing-requires
find-standing-requires g c = AreStamped-take g.O.Item g.O.Key.Ord.cmp (c.loop-left.left - 1) c.args.entries.now c.requires.stamped

pub returns-then-changes_guard : goal.returns-then-changes_guard
returns-then-changes_guard g c =
    let item = g.O.Item in
    let cmp = g.O.Key.Ord.cmp in
    let entries = c.args.entries.now in
    let left = c.loop-left.left in
    sym (c.loop-left.invariant.none_later ∙ newest_guard-last item cmp entries left c.index-entries-left.result (option_copied c.find-standing.result) (option_copied c.as_ref.result) c.changes_guard.result
    c.loop-left-test.true c.loop-left.invariant.within c.index-entries-left.is c.find-standing.ensures c.as_ref.ensures.value c.changes_guard.ensures
    ∙ ap (λ b. cond b left (newest_guard item cmp (take (left - 1) entries))) c.if-changes_guard.true)

pub loop-left-preserved : goal.loop-left-preserved
loop-left-preserved g c =
    let item = g.O.Item in
    let cmp = g.O.Key.Ord.cmp in
    let entries = c.args.entries.now in
    let left = c.loop-left.left in
    record {
      within = omega (arith, c.loop-left.invariant.within);
      none_later =
          c.loop-left.invariant.none_later ∙ newest_guard-last item cmp entries left c.index-entries-left.result (option_copied c.find-standing.result) (option_copied c.as_ref.result) c.changes_guard.result
          c.loop-left-test.true c.loop-left.invariant.within c.index-entries-left.is c.find-standing.ensures c.as_ref.ensures.value c.changes_guard.ensures
          ∙ ap (λ b. cond b left (newest_guard item cmp (take (left - 1) entries))) c.if-changes_guard.false;
    }
