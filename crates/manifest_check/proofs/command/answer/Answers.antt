use Rattle.manifest_check.specs.Lines.{manifest_line, refusal_line}
use Rattle.manifest_check.proofs.Leaving.{taken_leaves, refused_leaves}
use Rattle.manifest_check.proofs.command.answer.Goals as goal

pub returns-in-Ok-clause-leaves : goal.returns-in-Ok-clause-leaves
returns-in-Ok-clause-leaves g c left rest failed now took all short =
    taken_leaves left rest _ _ failed now _ _ c.args.bytes.now c.in-Ok.manifest c.send_made.result c.in-Ok.ensures.checks took all short
    (c.send_made.ensures.sent (manifest_line c.in-Ok.manifest) c.manifest_line.ensures)

pub returns-in-Err-Refused-clause-leaves : goal.returns-in-Err-Refused-clause-leaves
returns-in-Err-Refused-clause-leaves g c left rest failed now took all short =
    refused_leaves left rest _ _ failed now _ _ c.args.bytes.now c.in-Err-Refused.refusal c.send_made-in-Err-Refused.result (rw c.in-Err-Refused.field-0-is at c.in-Err-Refused.ensures.checks) took all short
    (c.send_made-in-Err-Refused.ensures.sent (refusal_line c.in-Err-Refused.refusal) c.refusal_line.ensures)
