use Rattle.std.proofs.Common.{refl}
use Rattle.std.specs.Fmt.{digits}
use Rattle.http_session.specs.Reply.{fault_body}
use Rattle.manifest_check.specs.Lines.{long_line}
use Rattle.manifest_check.proofs.lines.long_line.Goals as goal

pub returns : goal.returns
unfolding long_line fault_body digits
returns c = refl
