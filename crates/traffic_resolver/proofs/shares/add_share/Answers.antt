use Rattle.std.proofs.Common.{refl, ◌∙◌}
use Rattle.control_rules.specs.Resolution.{meaning}
use Rattle.traffic_resolver.proofs.ShareRows.{share_found, share_absent}
use Rattle.traffic_resolver.proofs.shares.add_share.Goals as goal

pub returns-in-Some : goal.returns-in-Some
returns-in-Some c =
    share_found c.args.host.now (meaning c.args.target.now c.args.name.now c.args.uid) c.args.rows.items c.in-Some.place c.unwrap_or-percent.result c.index_mut.result.now
    (rw c.deref.ensures.value at c.in-Some.ensures) c.index_mut.ensures.value c.unwrap_or-percent.ensures

pub returns-in_ok-push-in-None : goal.returns-in_ok-push-in-None
returns-in_ok-push-in-None c =
    c.in_ok-push-in-None.ensures.items
    ∙ share_absent c.args.host.now (meaning c.args.target.now c.args.name.now c.args.uid) c.args.rows.items _ (rw c.deref.ensures.value at c.in-None.ensures)
    (rw (c.in_ok-new-in-None.ensures, c.in_ok-copy-in-None.ensures, c.in_ok-copy-in-None-2.ensures, c.unwrap_or-percent.ensures) refl)
