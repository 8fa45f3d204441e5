use Rattle.api_calls.proofs.Patchable.{document_is_readable}
use Rattle.api_calls.proofs.patch.document_of.Goals as goal

pub returns-clause-readable : goal.returns-clause-readable
returns-clause-readable c =
    document_is_readable c.args.old.now c.in_ok-manifest.manifest c.in_ok-manifest-2.field-0 c.encode_manifest.result
    c.requires.storable c.in_ok-manifest.ensures c.encode_manifest.ensures.well c.encode_manifest.ensures.deep
