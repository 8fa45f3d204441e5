use Rattle.std.proofs.Common.{◌≡◌, drop, map}
use Rattle.resource_codec.specs.Written.{text_member}
use Rattle.object_writer.specs.Tokens.{with_members}
use Rattle.object_writer.proofs.text.JsonText.texts.Given as goal

abbrev pub invariant-loop-text : goal.invariant-loop-text
invariant-loop-text l = with_members (map text_member (drop l.text-index l.texts)) l.self ≡ with_members (map text_member l.texts) l.initial.self
