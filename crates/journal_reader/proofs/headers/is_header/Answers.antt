use Rattle.std.proofs.Common.{sym, subst}
use Rattle.resource_codec.specs.Sound.{Fits}
use Rattle.resource_codec.specs.Written.{object_of}
use Rattle.journal_text.specs.Reads.{HasShortNumbers}
use Rattle.journal_text.proofs.Forms.{may_be_written, header_fits}
use Rattle.journal_reader.proofs.Readings.{read_short}
use Rattle.journal_reader.proofs.headers.is_header.Goals as goal

pub write_json-requires-clause-well : goal.write_json-requires-clause-well
write_json-requires-clause-well c =
    let fits : Fits 64 (object_of c.in_ok-members.members.entries) = subst (λ ms. Fits 64 (object_of ms)) (sym c.in_ok-members.ensures) (may_be_written _ (header_fits _ _)) in
    fits.well

pub write_json-requires-clause-depth : goal.write_json-requires-clause-depth
write_json-requires-clause-depth c =
    let fits : Fits 64 (object_of c.in_ok-members.members.entries) = subst (λ ms. Fits 64 (object_of ms)) (sym c.in_ok-members.ensures) (may_be_written _ (header_fits _ _)) in
    fits.deep

pub returns-clause-numbers : goal.returns-clause-numbers
returns-clause-numbers c = subst HasShortNumbers c.in_ok-members.ensures (read_short _ _ c.in_ok-text.ensures.reads_back)
