-- Every plane that comes about keeps the promises.
use Rattle.std.proofs.Common.{ℕ, Bool, length, subst, sym, arith}
use Rattle.resource_types.specs.declared.manifests.Manifest.{Manifest}
use Rattle.control_rules.specs.Slots.{Plane}
use Rattle.control_rules.specs.Facts.{IsKept}
use Rattle.control_rules.specs.Turns.{IsSettle}
use Rattle.control_rules.specs.Events.{IsReached}
use Rattle.control_entries.proofs.KeptSteps.{turns_kept}
use Rattle.control_entries.proofs.KeptEvents.{reached_kept}
use Rattle.control_safety.specs.Goods.{IsGoodLaws}
use Rattle.control_safety.proofs.Safety.{safe}
use Rattle.control_safety.proofs.Unused.{removes_unused}
use Rattle.control_safety.proofs.Times.{transition_times}
use Rattle.control_quiet.proofs.Planes.{kept_settle_is_quiet, kept_settle_is_final}
use Rattle.control_settle.proofs.Settles.{kept_settles, kept_is_bounded, kept_is_linear, kept_is_soon, kept_keeps_tables}
use Rattle.control_promises.specs.Promises.{IsGoodSettle, Promises}

module _ {is_good : Manifest → Bool} (laws : IsGoodLaws is_good) where
  module _ (w : Plane) (kept : IsKept is_good w) where
    settled_kept : (t : ℕ) (v : Plane) → IsSettle w t v → IsKept is_good v
    settled_kept t v s = subst (IsKept is_good) (sym s.is) (turns_kept is_good t w kept)

    good_settle : (t : ℕ) (v : Plane) → IsSettle w t v → IsGoodSettle w t v
    good_settle t v s = record {
      quiet = kept_settle_is_quiet is_good w v t kept s;
      final = kept_settle_is_final is_good w v t kept s (safe laws (settled_kept t v s).lawful (length v.journal) (omega arith));
      bound = kept_is_bounded laws w kept t v s;
      linear = kept_is_linear laws w kept t v s;
      soon = kept_is_soon laws w kept t v s;
    }

    -- a plane that is kept keeps the promises
    pub kept_promises : Promises w
    kept_promises = record {
      safe = safe laws kept.lawful;
      unused = removes_unused kept.lawful;
      times = transition_times kept.lawful;
      settles = kept_settles laws w kept;
      settled = good_settle;
      tables = kept_keeps_tables laws w kept;
    }

  -- whatever happened to it
  pub promised : (w : Plane) → IsReached is_good w → Promises w
  promised w reached = kept_promises w (reached_kept is_good w reached)
