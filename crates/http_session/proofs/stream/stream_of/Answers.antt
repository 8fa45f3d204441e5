use Rattle.std.proofs.Common.{◌≡◌, List, ℕ, Bool, ap, subst}
use Rattle.std.proofs.lemmas.List.{take_rest}
use Rattle.http_session.specs.declared.message.Asked.{Asked}
use Rattle.http_session.specs.declared.message.Request.{Request}
use Rattle.http_session.specs.declared.front.Found.{Found}
use Rattle.http_session.specs.declared.front.Next.{Next}
use Rattle.http_session.specs.declared.front.Next.TheVariants.{Whole}
use Rattle.http_session.specs.Front.{asked_at, request_at, front_of}
use Rattle.http_session.specs.Stream.{IsFront}
use Rattle.http_session.proofs.StreamLemmas.{IsStream-ends, IsStream-shut, Reads-more}
use Rattle.http_session.proofs.stream.stream_of.Goals as goal

found_front : (bytes : List ℕ) (next : Next) (found : Found) → next ≡ Whole found → IsFront bytes (front_of bytes next) → IsFront bytes (front_of bytes (Whole found))
found_front bytes next found e is = subst (λ (n : Next). IsFront bytes (front_of bytes n)) e is

abbrev asked : Request → Bool → Asked
asked request closes = record { request = request; closes = closes }

same_asked : (rest : List ℕ) (found : Found) (request : Request) → request ≡ request_at rest found
    → record { request = request; closes = found.read.closes } ≡ asked_at rest found
same_asked rest found request e = ap (λ (r : Request). asked r found.read.closes) e

pub returns-in-Err : goal.returns-in-Err
returns-in-Err c =
    let rest = c.loop-found.rest.now in
    IsStream-ends _ _ rest c.in-Err.end c.loop-found.invariant (c.in-Err.ensures.end rest c.read_next.ensures.front)

pub returns-then-closes : goal.returns-then-closes
returns-then-closes c =
    let rest = c.loop-found.rest.now in
    IsStream-shut c.args.bytes.now rest _ c.loop-found.requests c.push.new.self (asked_at rest c.in-Ok.found) _ c.loop-found.invariant
    (found_front rest c.read_next.result c.in-Ok.found c.in-Ok.ensures.whole c.read_next.ensures.front) c.if-closes.true
    (same_asked rest c.in-Ok.found c.in_ok-request.request c.in_ok-request.ensures) c.in_ok-push.ensures.ok

pub loop-found-preserved : goal.loop-found-preserved
loop-found-preserved c =
    let rest = c.loop-found.rest.now in
    Reads-more c.args.bytes.now rest _ _ c.loop-found.requests c.push.new.self (asked_at rest c.in-Ok.found) _ c.loop-found.invariant
    (found_front rest c.read_next.result c.in-Ok.found c.in-Ok.ensures.whole c.read_next.ensures.front) c.if-closes.false
    (same_asked rest c.in-Ok.found c.in_ok-request.request c.in_ok-request.ensures) c.in_ok-push.ensures.ok
    (take_rest rest c.in-Ok.found.end)
