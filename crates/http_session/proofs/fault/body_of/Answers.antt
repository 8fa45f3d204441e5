use Rattle.std.proofs.Common.{refl}
use Rattle.std.specs.Fmt.{digits}
use Rattle.http_session.specs.Reply.{fault_body}
use Rattle.http_session.proofs.fault.body_of.Goals as goal

pub returns-in-Malformed : goal.returns-in-Malformed
unfolding fault_body digits
returns-in-Malformed c = rw c.in-Malformed.is refl

pub returns-in-HeadTooLarge : goal.returns-in-HeadTooLarge
unfolding fault_body digits
returns-in-HeadTooLarge c = rw c.in-HeadTooLarge.is refl

pub returns-in-BadLength : goal.returns-in-BadLength
unfolding fault_body digits
returns-in-BadLength c = rw c.in-BadLength.is refl

pub returns-in-TransferEncoding : goal.returns-in-TransferEncoding
unfolding fault_body digits
returns-in-TransferEncoding c = rw c.in-TransferEncoding.is refl

pub returns-in-BodyTooLarge : goal.returns-in-BodyTooLarge
unfolding fault_body digits
returns-in-BodyTooLarge c = rw c.in-BodyTooLarge.is refl
