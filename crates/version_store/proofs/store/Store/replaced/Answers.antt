use Rattle.std.proofs.Common.{◌<◌, length, ap, sym, subst, arith}
use Rattle.std.proofs.lemmas.Grind.{common_steps}
use Rattle.version_store.proofs.Priors.{length-priors, prior_decides}
use Rattle.version_store.proofs.store.Store.replaced.Goals as goal

pub index-requires : goal.index-requires
index-requires g c =
    let entries = c.self.inside.entries.items in
    let within : c.args.place < length entries = subst (λ v. c.args.place < length v.entries) (sym c.self.view_is) c.requires in
    omega (arith, within, ap length c.self.invariant.priors_before, length-priors g.O.Key.Ord.cmp entries, c.self.inside.priors.ok.0)

pub returns-in_err-entry : goal.returns-in_err-entry
returns-in_err-entry g c =
    let within = subst (λ v. c.args.place < length v.entries) (sym c.self.view_is) c.requires in
    let decides = prior_decides g.O.Item g.O.Key.Ord.cmp g.met.O.Key.Ord.total _ c.self.invariant.stamped c.args.place _ c.index.result.now c.self.invariant.priors_before within c.index.ensures in
    grind (arith, common_steps, decides, c.self.view_is)

pub returns : goal.returns
returns g c =
    let within = subst (λ v. c.args.place < length v.entries) (sym c.self.view_is) c.requires in
    let decides = prior_decides g.O.Item g.O.Key.Ord.cmp g.met.O.Key.Ord.total _ c.self.invariant.stamped c.args.place _ c.index.result.now c.self.invariant.priors_before within c.index.ensures in
    grind (arith, common_steps, decides, c.self.view_is)
