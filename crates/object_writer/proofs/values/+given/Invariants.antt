use Rattle.std.proofs.Common.{◌≡◌, drop}
use Rattle.object_writer.specs.Tokens.{with_values, with_members}
use Rattle.object_writer.proofs.values.+given.Given as goal

abbrev pub invariant-write_items-loop-item : goal.invariant-write_items-loop-item
invariant-write_items-loop-item l = with_values (drop l.item-index l.items) l.out ≡ with_values l.items l.initial.out

abbrev pub invariant-write_members-loop-member : goal.invariant-write_members-loop-member
invariant-write_members-loop-member l = with_members (drop l.member-index l.members) l.out ≡ with_members l.members l.initial.out
