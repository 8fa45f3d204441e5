use Rattle.std.proofs.Common.{◌≡◌, ◌∙◌, sym, ap, take, drop, arith, true, Some}
use Rattle.std.proofs.lemmas.List.{take_rest}
use Rattle.std.specs.Str.Parse.{digits_value}
use Rattle.serve_names.specs.Uids.{is_hex_number, prefix, uid_bytes}
use Rattle.serve_names.proofs.UidLemmas.{uid_found, uid_finds}
use Rattle.serve_names.proofs.uids.read_uid.Goals as goal

pub returns-then-bytes-lt-PREFIX_LEN-clause-finds : goal.returns-then-bytes-lt-PREFIX_LEN-clause-finds
returns-then-bytes-lt-PREFIX_LEN-clause-finds c = λ uid small e.
    let size = (uid_finds uid c.args.bytes.now small e).size in
    absurd (omega arith)

pub returns-then-not-is_same-clause-finds : goal.returns-then-not-is_same-clause-finds
returns-then-not-is_same-clause-finds c = λ uid small e.
    let same = c.is_same.ensures.1 (uid_finds uid c.args.bytes.now small e).front in
    cc

pub returns-then-not-is_hex_number-clause-finds : goal.returns-then-not-is_hex_number-clause-finds
returns-then-not-is_hex_number-clause-finds c = λ uid small e.
    let is = uid_finds uid c.args.bytes.now small e in
    let number : is_hex_number (drop 24 c.args.bytes.now) ≡ c.is_hex_number.result = ap is_hex_number (sym (take_rest c.args.bytes.now 24)) ∙ sym c.is_hex_number.ensures in
    let yes = is.number in
    cc

pub returns-clause-found : goal.returns-clause-found
returns-clause-found c =
    let bytes = c.args.bytes.now in
    let front : take 24 bytes ≡ prefix = c.is_same.ensures.0 c.if-not-is_same.false in
    let number : is_hex_number (drop 24 bytes) ≡ true = ap is_hex_number (sym (take_rest bytes 24)) ∙ sym c.is_hex_number.ensures ∙ c.if-not-is_hex_number.false in
    uid_found bytes front number ∙ ap uid_bytes (ap (digits_value 16) (sym (take_rest bytes 24)) ∙ sym c.hex_number.ensures)

pub returns-clause-finds : goal.returns-clause-finds
returns-clause-finds c = λ uid small e.
    let is = uid_finds uid c.args.bytes.now small e in
    ap Some (c.hex_number.ensures ∙ ap (digits_value 16) (take_rest c.args.bytes.now 24) ∙ is.value)
