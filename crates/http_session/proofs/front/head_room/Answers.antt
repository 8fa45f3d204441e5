use Rattle.std.proofs.Common.{arith, sym, length-take}
use Rattle.std.proofs.lemmas.List.{take_all}
use Rattle.http_session.proofs.front.head_room.Goals as goal

pub slice_bounds-result-end : goal.slice_bounds-result-end
slice_bounds-result-end c = omega (arith, length-take 8192 c.args.held.now)

pub returns-else-held-gt-MOST_HEAD-clause-bytes : goal.returns-else-held-gt-MOST_HEAD-clause-bytes
returns-else-held-gt-MOST_HEAD-clause-bytes c = sym (take_all 8192 c.args.held.now c.if-held-gt-MOST_HEAD.false)

pub returns-then-held-gt-MOST_HEAD-clause-within : goal.returns-then-held-gt-MOST_HEAD-clause-within
returns-then-held-gt-MOST_HEAD-clause-within c = omega (arith, length-take 8192 c.args.held.now)

pub returns-then-held-gt-MOST_HEAD-clause-short : goal.returns-then-held-gt-MOST_HEAD-clause-short
returns-then-held-gt-MOST_HEAD-clause-short c = omega (arith, length-take 8192 c.args.held.now)
