use Rattle.std.proofs.Common.{length}
use Rattle.http_session.specs.Stream.{Reads}
use Rattle.http_session.proofs.stream.stream_of.Given as goal

abbrev pub invariant-loop-found : goal.invariant-loop-found
invariant-loop-found l = Reads l.bytes l.requests l.rest

abbrev pub decreases-loop-found : goal.decreases-loop-found
decreases-loop-found l = length l.rest
