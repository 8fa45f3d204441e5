use Rattle.std.proofs.Common.{◌∙◌}
use Rattle.serve_names.proofs.DurationLemmas.{duration_finds, duration_if}
use Rattle.serve_names.proofs.durations.read_duration.Goals as goal

pub returns-clause-finds : goal.returns-clause-finds
returns-clause-finds c = λ n is. c.total_of_parts.ensures ∙ duration_finds n c.args.bytes.now is

pub returns-clause-found : goal.returns-clause-found
returns-clause-found c = duration_if c.args.bytes.now c.total_of_parts.result c.total_of_parts.ensures
