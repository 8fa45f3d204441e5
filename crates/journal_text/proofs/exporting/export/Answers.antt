use Rattle.std.proofs.Common.{◌∙◌, refl, subst, sym}
use Rattle.std.specs.List.{All}
use Rattle.resource_codec.specs.Sound.{Fits}
use Rattle.resource_codec.specs.Written.{object_of}
use Rattle.manifest_intake.specs.Good.{is_good}
use Rattle.journal_text.specs.Texts.{IsTold, journal_text}
use Rattle.journal_text.proofs.Forms.{may_be_written, header_fits}
use Rattle.journal_text.proofs.Told.{all_told}
use Rattle.journal_text.proofs.exporting.export.Goals as goal

pub add_line-requires : goal.add_line-requires
add_line-requires c = subst (λ ms. Fits 64 (object_of ms)) (sym c.in_ok-first.ensures) (may_be_written _ (header_fits _ _))

pub add_entries-requires : goal.add_entries-requires
add_entries-requires c =
    let plane = c.args.plane.now.plane in
    subst (All IsTold) (sym (c.entries.ensures ∙ c.store.ensures.entries))
    (all_told is_good plane.settings plane.journal c.store.ensures.kept.lawful c.store.ensures.storable)

pub returns : goal.returns
unfolding journal_text
returns c = record {
  text = rw (c.in_ok-add_entries.ensures, c.in_ok-add_line.ensures, c.new-text.ensures.items, c.in_ok-first.ensures) (rw (c.settings.ensures, c.now.ensures, c.entries.ensures, c.store.ensures.entries) refl);
}
