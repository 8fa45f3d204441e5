use Rattle.std.proofs.Common.{◌≡◌, ◌∙◌, Some, ap, arith, rules}
use Rattle.std.specs.Prelude.{string_bytes}
use Rattle.serde_json.specs.Read.{read}
use Rattle.serde_json.specs.Written.{compact_text}
use Rattle.json_tree.specs.Tree.{data_of}
use Rattle.journal_text.proofs.puts.manifest_text.Goals as goal

pub write_json-requires-clause-well : goal.write_json-requires-clause-well
write_json-requires-clause-well c = (c.in_ok-json.ensures.well c.requires).0

pub write_json-requires-clause-depth : goal.write_json-requires-clause-depth
write_json-requires-clause-depth c = let deep = (c.in_ok-json.ensures.well c.requires).1 in omega (arith, deep)

pub unwrap-requires : goal.unwrap-requires
unwrap-requires c = c.from_utf8.ensures.succeeds c.in_ok-bytes.ensures.utf8

pub returns-clause-text : goal.returns-clause-text
returns-clause-text c =
    let told : string_bytes c.unwrap.result ≡ c.in_ok-bytes.bytes.items = search rules in
    c.from_string.ensures ∙ told ∙ c.in_ok-bytes.ensures.text ∙ ap (λ j. compact_text (data_of j)) c.in_ok-json.ensures.written

pub returns-clause-again : goal.returns-clause-again
returns-clause-again c =
    let told : string_bytes c.unwrap.result ≡ c.in_ok-bytes.bytes.items = search rules in
    ap read (c.from_string.ensures ∙ told) ∙ c.in_ok-bytes.ensures.reads_back ∙ ap (λ j. Some (data_of j)) c.in_ok-json.ensures.written
