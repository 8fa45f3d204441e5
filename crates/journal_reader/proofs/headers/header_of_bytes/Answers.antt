use Rattle.std.proofs.Common.{◌≡◌, Ok, Err, ap, ◌∙◌}
use Rattle.std.proofs.lemmas.Result.{err_from_is_err_and}
use Rattle.resource_codec.specs.Written.{object_of}
use Rattle.journal_reader.specs.Headers.{header_in}
use Rattle.journal_reader.proofs.Bodies.{json_is}
use Rattle.journal_reader.proofs.Steps.{error_reads, gives_reads, same_members}
use Rattle.journal_reader.proofs.headers.header_of_bytes.Goals as goal

pub returns-in_err-json-clause-found : goal.returns-in_err-json-clause-found
returns-in_err-json-clause-found c ms header body says =
    let p = err_from_is_err_and c.from_residual.result c.from_residual.ensures.1 in
    rw (p.1, p.2) (error_reads _ (object_of ms) header (json_is c.args.bytes.now (Err c.in_err-json.field-0.0) (object_of ms) body c.in_err-json.ensures))

pub returns-clause-found : goal.returns-clause-found
returns-clause-found c ms header body says =
    let same : c.in_ok-json.json ≡ object_of ms = json_is c.args.bytes.now (Ok c.in_ok-json.json) (object_of ms) body c.in_ok-json.ensures in
    gives_reads c.header_in.result _ header c.header_in.ensures (ap header_in (same_members c.in_ok-json.json ms _ same c.in_ok-members.ensures) ∙ says)
