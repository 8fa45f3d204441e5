use Rattle.std.proofs.Common.{◌≡◌, IfOk, ap, subst}
use Rattle.api_outcomes.specs.Outcomes.{CanBeMade}
use Rattle.api_puts.specs.Puts.{put_under, manifest_put}
use Rattle.api_puts.proofs.ClientPuts.{manifest_can_be_put}
use Rattle.api_puts.proofs.DuePuts.{key_is, if_ok}
use Rattle.api_puts.proofs.puts.put_manifest.Goals as goal

pub returns-clause-value : goal.returns-clause-value
returns-clause-value c = subst (λ due. IfOk c.put_under.result (λ p. p ≡ due))
    (ap (λ key. put_under c.args.store.now.entries key c.args.manifest)
    (key_is c.args.kind c.kind.result c.args.manifest.namespace c.args.manifest.name c.as_str-space.result.now c.as_str.result.now c.in_ok-key.key c.in_ok-key.ensures c.kind.ensures
    c.as_str-space.ensures c.as_str.ensures))
    c.put_under.ensures

pub returns-clause-made : goal.returns-clause-made
returns-clause-made c = if_ok (manifest_put c.args.store.now.entries c.args.kind c.args.manifest) (CanBeMade c.args.store.now.entries) c.put_under.result (returns-clause-value c)
    (manifest_can_be_put c.args.store.now.entries c.args.kind c.args.manifest c.requires)
