use Rattle.std.proofs.Common.{◌≡◌, IfOk, subst}
use Rattle.std.specs.Option.{option_copied}
use Rattle.api_puts.proofs.DuePuts.{under_is_due}
use Rattle.api_puts.proofs.puts.put_under.Goals as goal

pub returns : goal.returns
returns c = subst (λ due. IfOk c.put_of.result (λ p. p ≡ due))
    (under_is_due c.args.store.now.entries c.args.key c.args.manifest (option_copied c.get-old.result) c.expect_of-expect.result c.in_ok-object.object c.get-old.ensures c.expect_of-expect.ensures
    c.in_ok-object.ensures) c.put_of.ensures
