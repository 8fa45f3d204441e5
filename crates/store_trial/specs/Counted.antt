-- The laws of an item whose keys count their comparisons.
use Rattle.std.specs.Prelude.{Bool, true, false, refl, ◌==◌}
use Rattle.std.proofs.Common.{ap}
use Rattle.std.specs.Ordering.{bool_cmp}
use Rattle.std.specs.declared.cmp.Ordering.{Ordering}
use Rattle.std.specs.Cmp.{IsEquivalence, on_equiv, nat_eq_equiv}
use Rattle.version_store.specs.declared.item.Stamp.{Stamp}
use Rattle.version_store.specs.Laws.{ChangesStampAlone, IsSameButStamp, KeepsKindsTogether}
use Rattle.store_trial.specs.declared.counted.Counted.{Counted}
use Rattle.store_trial.specs.declared.counted.CountedKey.{CountedKey}

abbrev pub given_stamp : Counted → Stamp → Counted
given_stamp o s = record { key = o.key; stamp = s }

abbrev pub same_counted : Counted → Counted → Bool
same_counted a b = a.key.number == b.key.number

pub counted_alone : ChangesStampAlone {O = Counted} {K = CountedKey} (λ o. o.key) (λ o. o.stamp) given_stamp (λ a b. true) (λ o. false)
counted_alone = record {
  given = λ o s. refl;
  last_counts = λ o s t. refl;
  own = λ o. refl;
  same_key = λ o s. refl;
  spec_stays = λ o s. refl;
  guards_stays = λ o s. refl;
}

pub always_equivalent : IsEquivalence {K = Counted} (λ a b. true)
always_equivalent = record { refl = λ x. refl; symm = λ x y. refl; congr = λ x y z e. refl }

pub counted_same : IsSameButStamp {O = Counted} (λ o. o.key) given_stamp same_counted
counted_same = record {
  alike = on_equiv (λ o. o.key.number) nat_eq_equiv;
  stamps = λ o p s t. refl;
  exact = λ o p s k e. ap (λ x. record { key = x; stamp = s }) k;
}

-- all keys are of one kind
pub one_kind : {K : Type 0} (cmp : K → K → Ordering) → KeepsKindsTogether cmp (λ k. true) bool_cmp
one_kind cmp = λ a b e. absurd cc
