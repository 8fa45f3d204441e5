use Rattle.traffic_resolver.specs.Views.{view_pairs}
use Rattle.traffic_resolver.proofs.Reasons.{has_cause}
use Rattle.traffic_resolver.proofs.resolution.resolve.Goals as goal

pub returns-clause-cause : goal.returns-clause-cause
returns-clause-cause c = has_cause _ _ (view_pairs c.args.view.now) c.in_ok-answer.answer c.in_ok-answer.ensures
