use Rattle.std.proofs.Common.{◌≤◌, length, sym, ◌∙◌, arith}
use Rattle.std.proofs.lemmas.Option.{slice_get_within}
use Rattle.version_store.specs.Index.{keys_at}
use Rattle.version_store.proofs.Keys.{length-keys_at}
use Rattle.version_store.proofs.Places.{before-more, behind-more, leading_is}
use Rattle.version_store.proofs.index.place_of.Goals as goal

pub loop-low-init : goal.loop-low-init
loop-low-init g c =
    let entries = c.args.entries.now in
    let versions = c.args.versions.now in
    record {
      ordered = omega arith;
      within = omega arith;
      before = λ n key lt e. absurd (omega (arith, lt));
      behind = λ n key le e. absurd (omega (arith, le, slice_get_within (keys_at entries versions) n key e, length-keys_at entries versions c.requires.within));
    }

pub loop-low-preserved-then-is_before : goal.loop-low-preserved-then-is_before
loop-low-preserved-then-is_before g c =
    let keys = keys_at c.args.entries.now c.args.versions.now in
    record {
      ordered = omega (arith, c.loop-low-test.true);
      within = c.loop-low.invariant.within;
      before = before-more g.O.Key.Ord.cmp keys c.requires.ordered (g.C.Cut.before c.args.cut.now) (g.met.C.Cut.is_cut c.args.cut.now) _ _ c.entry_at-entry.ensures.key (sym c.is_before.ensures ∙ c.if-is_before.true);
      behind = c.loop-low.invariant.behind;
    }

pub loop-low-preserved : goal.loop-low-preserved
loop-low-preserved g c =
    let keys = keys_at c.args.entries.now c.args.versions.now in
    record {
      ordered = omega (arith, c.loop-low-test.true);
      within = omega (arith, c.loop-low-test.true, c.loop-low.invariant.within);
      before = c.loop-low.invariant.before;
      behind = behind-more g.O.Key.Ord.cmp keys c.requires.ordered (g.C.Cut.before c.args.cut.now) (g.met.C.Cut.is_cut c.args.cut.now) _ _ c.entry_at-entry.ensures.key (sym c.is_before.ensures ∙ c.if-is_before.false);
    }

pub returns-clause-place : goal.returns-clause-place
returns-clause-place g c =
    let entries = c.args.entries.now in
    let versions = c.args.versions.now in
    let within : c.loop-low.low ≤ length (keys_at entries versions) = omega (arith, c.loop-low.invariant.ordered, c.loop-low.invariant.within, length-keys_at entries versions c.requires.within) in
    leading_is (g.C.Cut.before c.args.cut.now) (keys_at entries versions) c.loop-low.low within c.loop-low.invariant.before
    (λ n key le e. let le' : c.loop-low.high ≤ n = omega (arith, le, c.loop-low-test.false) in c.loop-low.invariant.behind n key le' e)
