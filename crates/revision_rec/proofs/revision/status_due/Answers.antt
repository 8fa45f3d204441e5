use Rattle.revision_rec.proofs.RevisionDue.{due_as}
use Rattle.revision_rec.proofs.revision.status_due.Goals as goal

pub returns : goal.returns
returns c = due_as _ _ _ _ _ c.standing-health.ensures.value c.reported_in-reported.ensures c.in_ok-status.ensures
