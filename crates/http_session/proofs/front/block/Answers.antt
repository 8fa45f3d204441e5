use Rattle.std.proofs.Common.{◌≡◌, ◌+◌, ◌-◌, refl, arith, ◌∙◌, drop, length-drop}
use Rattle.std.specs.Prelude.{Err, Ok}
use Rattle.std.proofs.lemmas.List.{drop-drop}
use Rattle.http_session.proofs.FrontLemmas.{front_from, cut_when, whole_when}
use Rattle.http_session.proofs.front.block.Goals as goal

pub returns-in-Err-clause-front : goal.returns-in-Err-clause-front
returns-in-Err-clause-front c =
    let d = c.in-Some.ensures.head in
    front_from _ _ c.in-Some.read d.0 (Err c.in-Err.fault) _ (omega arith) d.1 c.in-Err.is refl

pub returns-then-held-end-clause-front : goal.returns-then-held-end-clause-front
returns-then-held-end-clause-front c =
    let d = c.in-Some.ensures.head in
    front_from _ _ c.in-Some.read d.0 (Ok c.in-Ok.count) _ (omega arith) d.1 c.in-Ok.is
    (cut_when d.0 _ c.in-Ok.count (omega (arith, length-drop c.args.end c.args.held.now)))

pub returns-else-held-end-clause-front : goal.returns-else-held-end-clause-front
returns-else-held-end-clause-front c =
    let d = c.in-Some.ensures.head in
    let n : c.args.end + c.in-Ok.count - c.args.end ≡ c.in-Ok.count = omega arith in
    let rest : drop c.in-Ok.count (drop c.args.end c.args.held.now) ≡ drop (c.args.end + c.in-Ok.count) c.args.held.now = drop-drop c.in-Ok.count c.args.end c.args.held.now in
    front_from _ _ c.in-Some.read d.0 (Ok c.in-Ok.count) _ (omega arith) d.1 c.in-Ok.is
    (rw (d.1.method, d.1.target, d.1.closes, n, rest) refl
    ∙ whole_when d.0 _ c.in-Ok.count (omega (arith, length-drop c.args.end c.args.held.now)))

pub returns-then-held-end-clause-awaits : goal.returns-then-held-end-clause-awaits
returns-then-held-end-clause-awaits c =
    let d = c.in-Some.ensures.head in
    let body = (rw c.in-Ok.is at c.in-Some.ensures.within.body) in record {
      missing = omega arith;
      fits = omega (arith, body);
      cuts = λ after few.
          front_from _ after c.in-Some.read d.0 (Ok c.in-Ok.count) _ (omega arith) d.1 c.in-Ok.is
          (cut_when d.0 after c.in-Ok.count (omega (arith, few)));
    }
