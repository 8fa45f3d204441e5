-- The laws of an object as an item of the store.
use Rattle.std.specs.Prelude.{refl}
use Rattle.std.specs.Cmp.{IsEquivalence}
use Rattle.std.proofs.Common.{ap}
use Rattle.std.specs.Ordering.{ordering_then}
use Rattle.version_store.specs.Laws.{ChangesStampAlone, IsSameButStamp, KeepsKindsTogether}
use Rattle.json_tree.specs.EqualLaws.{is_equal-own, is_equal-exact, is_equal-equivalence}
use Rattle.resource_types.specs.declared.names.Key.{Key}
use Rattle.resource_types.specs.declared.objects.Object.{Object}
use Rattle.resource_types.specs.contracts.names.KindOrd.TheImpl as kind_order
use Rattle.resource_types.specs.contracts.names.NameOrd.TheImpl as name_order
use Rattle.resource_types.specs.contracts.names.KeyOrd.TheImpl as key_order
use Rattle.resource_types.specs.contracts.objects.Body as body
use Rattle.resource_types.specs.contracts.objects.Object as object
use Rattle.resource_types.specs.Spec.{stamped, same_spec, same_but_stamp, spec_of, is_guarding, no_stamp}

pub stamp_alone_of : ChangesStampAlone {O = Object} {K = Key} (λ o. o.key) (λ o. o.meta.stamp) stamped same_spec (λ o. is_guarding o.key.kind o.body)
stamp_alone_of = record {
  given = λ o s. refl;
  last_counts = λ o s t. refl;
  own = λ o. refl;
  same_key = λ o s. refl;
  spec_stays = λ o s. is_equal-own body.the_row.coded (spec_of o.body);
  guards_stays = λ o s. refl;
}

pub spec_equivalence_of : IsEquivalence same_spec
spec_equivalence_of = is_equal-equivalence body.the_row.coded (λ (o : Object). spec_of o.body)

pub same_but_stamp_of : IsSameButStamp {O = Object} (λ o. o.key) stamped same_but_stamp
same_but_stamp_of = record {
  alike = is_equal-equivalence object.the_row.coded (λ (o : Object). stamped o no_stamp);
  stamps = λ a b s t. refl;
  exact = λ a b s k e. ap (λ o. stamped o s) (is_equal-exact object.the_row.coded (stamped a no_stamp) (stamped b no_stamp) e);
}

pub kinds_together_of : KeepsKindsTogether key_order.ghosts.cmp (λ (k : Key). k.kind) kind_order.ghosts.cmp
kinds_together_of a b e = ap (λ r. ordering_then r (name_order.ghosts.cmp a.name b.name)) e
