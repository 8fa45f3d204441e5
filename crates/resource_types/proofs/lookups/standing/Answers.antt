use Rattle.std.proofs.Common.{sym, ◌∙◌}
use Rattle.version_store.proofs.Standing.{find_key}
use Rattle.resource_types.specs.declared.objects.Object.{Object}
use Rattle.resource_types.specs.contracts.names.KeyOrd.TheImpl as key_order
use Rattle.resource_types.specs.contracts.names.KeyOrd.TheImpl.Laws as key_laws
use Rattle.resource_types.specs.Lookups.{key_of, state}
use Rattle.resource_types.proofs.Exact.{key-exact}
use Rattle.resource_types.proofs.lookups.standing.Goals as goal

pub returns-clause-keyed : goal.returns-clause-keyed
returns-clause-keyed c o e =
    let key = key_of c.args.kind c.args.space.now c.args.name.now in
    key-exact o.key key (find_key (λ (x : Object). x.key) key_order.ghosts.cmp key_laws.total-law key (state c.args.store.now.entries) o (sym c.find.ensures ∙ e))
