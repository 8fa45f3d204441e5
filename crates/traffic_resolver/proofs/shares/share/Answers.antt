use Rattle.std.proofs.Common.{arith, sym, ap, ◌∙◌}
use Rattle.std.specs.Prelude.{sum_by}
use Rattle.control_rules.specs.Resolution.{meaning}
use Rattle.traffic_resolver.proofs.ShareSums.{row_percent, share_ready, share_unready, sum_share}
use Rattle.traffic_resolver.proofs.shares.share.Goals as goal

pub returns-in_ok-after-in-Ready-clause-rows : goal.returns-in_ok-after-in-Ready-clause-rows
returns-in_ok-after-in-Ready-clause-rows c =
    c.in_ok-after-in-Ready.ensures ∙ sym (share_ready c.args.host.now c.args.rows.items c.args.target.now c.args.found.now c.in-Ready.name c.in-Ready.uid c.in-Ready.is)

pub returns-in_ok-after-in-Ready-clause-sum : goal.returns-in_ok-after-in-Ready-clause-sum
returns-in_ok-after-in-Ready-clause-sum c =
    omega (arith, ap (sum_by row_percent) c.in_ok-after-in-Ready.ensures, sum_share c.args.host.now (meaning c.args.target.now c.in-Ready.name c.in-Ready.uid) c.args.rows.items)

pub returns-in_default : goal.returns-in_default
returns-in_default c = record {
  rows = sym (share_unready c.args.host.now c.args.rows.items c.args.target.now c.args.found.now c.in_default.not-Ready);
  sum = omega arith;
}
