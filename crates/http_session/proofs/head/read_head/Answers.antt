use Rattle.std.proofs.Common.{List, ℕ, sym, subst, rules}
use Rattle.std.specs.Prelude.{IsUtf8}
use Rattle.http_session.proofs.FrontLemmas.{token_text}
use Rattle.http_session.proofs.head.read_head.Goals as goal

pub returns-after-head-eq0-clause-within : goal.returns-after-head-eq0-clause-within
returns-after-head-eq0-clause-within c =
    let found = (rw c.in-Ok-Complete.field-0-is at c.in-Ok-Complete.ensures.complete) in
    let method = found.1.reads.0.method in record {
      method = search rules;
      method_text = subst (λ (xs : List ℕ). IsUtf8 xs) (sym found.1.method) (token_text found.0.method method);
      target = search rules;
      target_text = subst (λ (xs : List ℕ). IsUtf8 xs) (sym found.1.path) found.1.reads.0.target_text;
      body = search rules;
    }
