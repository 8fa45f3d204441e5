use Rattle.std.proofs.Common.{◌≡◌, ◌++◌, subst, sym}
use Rattle.std.specs.Prelude.{OnOk}
use Rattle.resource_codec.specs.Sound.{Fits}
use Rattle.resource_codec.specs.Written.{object_of}
use Rattle.journal_text.specs.Texts.{line_bytes}
use Rattle.journal_text.proofs.Forms.{may_be_written, line_fits}
use Rattle.journal_text.proofs.texts.add_entry.Goals as goal

pub line-requires : goal.line-requires
line-requires c = c.requires

pub add_line-requires : goal.add_line-requires
add_line-requires c = subst (λ ms. Fits 64 (object_of ms)) (sym c.in_ok-members.ensures) (may_be_written _ (line_fits c.args.entry.now))

pub returns : goal.returns
returns c =
    subst (λ ms. OnOk c.add_line.result (c.add_line.new.text.items ≡ c.args.text.now.items ++ line_bytes ms)) c.in_ok-members.ensures c.add_line.ensures
