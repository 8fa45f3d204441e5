use Rattle.std.proofs.Common.{◌≡◌, ◌+◌, ◌-◌, ◌/◌, ◌<◌, ◌≤◌, length, true, false, sym, ap, ◌∙◌, arith}
use Rattle.std.specs.Prelude.{map}
use Rattle.std.specs.Ordering.{is_lt}
use Rattle.std.proofs.lemmas.Option.{slice_get_within}
use Rattle.std.proofs.lemmas.List.{length-map}
use Rattle.slot_table.proofs.Place.{read_at, lesser_before, none_behind, place_is}
use Rattle.slot_table.proofs.search.place_of.Goals as goal

pub loop-low-init : goal.loop-low-init
loop-low-init g c =
    let key_of = g.R.Keyed.key in
    let rows = c.args.rows.now in
    record {
      ordered = omega arith;
      within = omega arith;
      before = λ n key lt e. absurd (omega (arith, lt));
      behind = λ n key le e. absurd (omega (arith, le, slice_get_within (map key_of rows) n key e, length-map rows key_of));
    }

pub loop-low-preserved-then-is_lt : goal.loop-low-preserved-then-is_lt
loop-low-preserved-then-is_lt g c =
    let total = g.met.R.Key.Ord.total in
    let cmp = g.R.Key.Ord.cmp in
    let key_of = g.R.Keyed.key in
    let middle = c.loop-low.low + (c.loop-low.high - c.loop-low.low) / 2 in
    let within : middle < length c.args.rows.now = omega (arith, c.loop-low-test.true, c.loop-low.invariant.within) in
    let less : is_lt (cmp (key_of c.index-rows-middle.result) c.args.key.now) ≡ true =
    ap (λ k. is_lt (cmp k c.args.key.now)) (sym c.key.ensures) ∙ ap is_lt (sym c.cmp.ensures) ∙ sym c.is_lt.ensures ∙ c.if-is_lt.true in
    record {
      ordered = omega (arith, c.loop-low-test.true);
      within = c.loop-low.invariant.within;
      before = lesser_before key_of cmp total c.args.rows.now c.requires c.args.key.now middle c.index-rows-middle.result
          (read_at c.args.rows.now middle c.index-rows-middle.result within c.index-rows-middle.is) less;
      behind = c.loop-low.invariant.behind;
    }

pub loop-low-preserved : goal.loop-low-preserved
loop-low-preserved g c =
    let total = g.met.R.Key.Ord.total in
    let cmp = g.R.Key.Ord.cmp in
    let key_of = g.R.Keyed.key in
    let middle = c.loop-low.low + (c.loop-low.high - c.loop-low.low) / 2 in
    let within : middle < length c.args.rows.now = omega (arith, c.loop-low-test.true, c.loop-low.invariant.within) in
    let not_less : is_lt (cmp (key_of c.index-rows-middle.result) c.args.key.now) ≡ false =
    ap (λ k. is_lt (cmp k c.args.key.now)) (sym c.key.ensures) ∙ ap is_lt (sym c.cmp.ensures) ∙ sym c.is_lt.ensures ∙ c.if-is_lt.false in
    record {
      ordered = omega (arith, c.loop-low-test.true);
      within = omega (arith, c.loop-low-test.true, c.loop-low.invariant.within);
      before = c.loop-low.invariant.before;
      behind = none_behind key_of cmp total c.args.rows.now c.requires c.args.key.now middle c.index-rows-middle.result
          (read_at c.args.rows.now middle c.index-rows-middle.result within c.index-rows-middle.is) not_less;
    }

pub returns-clause-place : goal.returns-clause-place
returns-clause-place g c =
    let total = g.met.R.Key.Ord.total in
    let cmp = g.R.Key.Ord.cmp in
    let key_of = g.R.Keyed.key in
    let within : c.loop-low.low ≤ length c.args.rows.now = omega (arith, c.loop-low.invariant.ordered, c.loop-low.invariant.within) in
    place_is key_of cmp total c.args.rows.now c.requires c.args.key.now c.loop-low.low within c.loop-low.invariant.before
    (λ n key le e. let le' : c.loop-low.high ≤ n = omega (arith, le, c.loop-low-test.false) in c.loop-low.invariant.behind n key le' e)
