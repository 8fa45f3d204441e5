use Rattle.std.proofs.Common.{append_assoc}
use Rattle.std.specs.Prelude.{codes}
use Rattle.serde_json.specs.Written.{compact_text}
use Rattle.json_tree.specs.Tree.{data_of}
use Rattle.resource_codec.specs.Written.{object_of}
use Rattle.journal_text.specs.Texts.{line_bytes}
use Rattle.journal_text.proofs.texts.add_line.Goals as goal

pub write_json-requires-clause-well : goal.write_json-requires-clause-well
write_json-requires-clause-well c = c.requires.well

pub write_json-requires-clause-depth : goal.write_json-requires-clause-depth
write_json-requires-clause-depth c = c.requires.deep

pub returns : goal.returns
unfolding line_bytes
returns c =
    rw (c.in_ok-push.ensures.items, c.in_ok-extend_from_slice.ensures.items, c.as_slice.ensures.value, c.in_ok-bytes.ensures.text)
    (append_assoc c.args.text.now.items (compact_text (data_of (object_of c.args.members.entries))) (codes "\n"))
