use Rattle.std.proofs.Common.{◌++◌, ◌∷◌, [], rules, sym, subst, arith}
use Rattle.gateway_command.specs.Lines.{IsRefusedIn, HasRead}
use Rattle.gateway_command.proofs.Reading.{read_feed, refused_feed, refused_long}
use Rattle.gateway_command.proofs.following.take_byte.Goals as goal

pub returns-in_err-follow_line-clause-refused : goal.returns-in_err-follow_line-clause-refused
returns-in_err-follow_line-clause-refused c bytes read is =
    subst (λ b. IsRefusedIn (bytes ++ b ∷ [])) (sym c.if-byte-eq10.true) (refused_feed bytes c.args.gateway.now c.args.line.now.items read (search rules))

pub returns-then-byte-eq10-clause-ok : goal.returns-then-byte-eq10-clause-ok
returns-then-byte-eq10-clause-ok c bytes read =
    subst (λ xs. HasRead (bytes ++ c.args.byte ∷ []) c.follow_line.new.gateway xs) (sym c.clear.ensures.items)
    (subst (λ b. HasRead (bytes ++ b ∷ []) c.follow_line.new.gateway []) (sym c.if-byte-eq10.true)
    (read_feed bytes c.args.gateway.now c.follow_line.new.gateway c.args.line.now.items read (search rules)))

pub returns-then-len-ge-MOST_BYTES-clause-refused : goal.returns-then-len-ge-MOST_BYTES-clause-refused
returns-then-len-ge-MOST_BYTES-clause-refused c bytes read is =
    refused_long bytes c.args.gateway.now c.args.line.now.items c.args.byte read c.if-byte-eq10.false (search (rules, arith))
