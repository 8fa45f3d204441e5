-- The percents of targets that are whole leave room for their sum.
use Rattle.std.proofs.Common.{◌≡◌, ◌<◌, ◌^◌, List, [], ◌∷◌, length, arith, refl}
use Rattle.std.specs.Prelude.{sum_by}
use Rattle.std.specs.List.{zip}
use Rattle.std.proofs.lemmas.List.Sums.{sum_by-cons}
use Rattle.resource_types.specs.declared.specification.Target.{Target}
use Rattle.control_rules.specs.declared.traffic.Found.{Found}
use Rattle.control_rules.specs.Fits.{AreWhole}
use Rattle.control_rules.specs.Resolution.{percent_of}
use Rattle.traffic_resolver.specs.Pairs.{pair_percent}

pub percents_zip : (targets : List Target) (found : List Found) → length found ≡ length targets → sum_by pair_percent (zip targets found) ≡ sum_by percent_of targets
percents_zip [] fs e = refl
percents_zip (t ∷ ts) [] e = absurd (omega arith)
percents_zip (t ∷ ts) (f ∷ fs) e =
    let rest = percents_zip ts fs (omega arith) in
    omega (arith, sum_by-cons pair_percent (t, f) (zip ts fs), sum_by-cons percent_of t ts)

pub room_of : (targets : List Target) (found : List Found) → length found ≡ length targets → AreWhole targets → sum_by pair_percent (zip targets found) < 2 ^ 64
room_of targets found e h = let whole = h.whole in let same = percents_zip targets found e in omega arith
