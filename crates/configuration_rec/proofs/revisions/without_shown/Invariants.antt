use Rattle.std.proofs.Common.{◌≡◌, take}
use Rattle.control_rules.specs.NextConfiguration.{without_shown}
use Rattle.configuration_rec.proofs.revisions.without_shown.Given as goal

abbrev pub invariant-loop-entry : goal.invariant-loop-entry
invariant-loop-entry l = l.kept.entries ≡ without_shown (take l.entry-index l.entry-items)
