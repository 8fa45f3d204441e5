use Rattle.std.proofs.Common.{rules, ◌==◌}
use Rattle.std.specs.Prelude.{not}
use Rattle.std.proofs.lemmas.List.Elements.{filter_from_retain}
use Rattle.resource_types.specs.declared.specification.Row.{Row}
use Rattle.traffic_resolver.proofs.shares.drop_zeros.Goals as goal

pub returns : goal.returns
returns c = filter_from_retain _ (λ (row : Row). not (row.percent == 0)) (λ p x b q h. search rules) _ _ _ c.retain.ensures.filtered
