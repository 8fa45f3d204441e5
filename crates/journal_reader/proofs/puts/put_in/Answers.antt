use Rattle.std.proofs.Common.{◌≡◌, Ok, Err, sym, ap, subst, ◌∙◌}
use Rattle.std.proofs.lemmas.Result.{err_from_is_err_and}
use Rattle.std.specs.Prelude.{IsUtf8}
use Rattle.resource_codec.specs.Written.{written}
use Rattle.journal_reader.specs.Deeds.{asked_in}
use Rattle.journal_reader.proofs.Asked.{asked_again, asked_body}
use Rattle.journal_reader.proofs.Bodies.{json_is}
use Rattle.journal_reader.proofs.Steps.{error_reads, gives_reads}
use Rattle.journal_reader.proofs.puts.put_in.Goals as goal

pub returns-in_err-json-clause-found : goal.returns-in_err-json-clause-found
returns-in_err-json-clause-found c m h is =
    let p = err_from_is_err_and c.from_residual.result c.from_residual.ensures.1 in
    let bytes = c.bytes.result.now in
    let body = asked_body bytes m h (c.bytes.ensures.value ∙ is) (subst IsUtf8 (sym c.bytes.ensures.value) c.bytes.ensures.utf8) in
    rw (p.1, p.2) (error_reads _ (written m) _ (json_is bytes (Err c.in_err-json.field-0.0) (written m) body c.in_err-json.ensures))

pub returns-clause-found : goal.returns-clause-found
returns-clause-found c m h is =
    let bytes = c.bytes.result.now in
    let body = asked_body bytes m h (c.bytes.ensures.value ∙ is) (subst IsUtf8 (sym c.bytes.ensures.value) c.bytes.ensures.utf8) in
    let same : c.in_ok-json.json ≡ written m = json_is bytes (Ok c.in_ok-json.json) (written m) body c.in_ok-json.ensures in
    gives_reads c.asked_in.result _ _ c.asked_in.ensures.value (ap asked_in same ∙ asked_again m h)
