use Rattle.control_bodies.proofs.Moments.{reads_moment}
use Rattle.control_bodies.proofs.clock.moment_of_text.Goals as goal

pub returns-clause-value : goal.returns-clause-value
returns-clause-value c = reads_moment c.args.bytes.now c.read_moment.result c.read_moment.ensures.found c.read_moment.ensures.finds
