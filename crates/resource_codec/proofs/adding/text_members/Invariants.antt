use Rattle.std.proofs.Common.{◌≡◌, take, map}
use Rattle.resource_codec.specs.Written.{text_member}
use Rattle.resource_codec.proofs.adding.text_members.Given as goal

abbrev pub invariant-loop-text : goal.invariant-loop-text
invariant-loop-text l = l.members.entries ≡ map text_member (take l.text-index l.text-items)
