use Rattle.std.proofs.Common.{◌≡◌, subst, sym}
use Rattle.std.specs.Prelude.{IfOk}
use Rattle.resource_codec.specs.Written.{IsWell}
use Rattle.journal_text.specs.Lines.{manifest_text, put_text}
use Rattle.journal_text.proofs.Told.{unversioned_well}
use Rattle.journal_text.proofs.puts.put_text.Goals as goal

pub unversioned-requires : goal.unversioned-requires
unversioned-requires c = c.requires.client

pub manifest_text-requires : goal.manifest_text-requires
manifest_text-requires c = subst IsWell (sym c.in_ok-manifest.ensures) (unversioned_well c.args.object.now c.requires.storable)

pub returns : goal.returns
unfolding put_text
returns c = subst (λ m. IfOk c.manifest_text.result (λ text. text ≡ manifest_text m)) c.in_ok-manifest.ensures c.manifest_text.ensures.text
