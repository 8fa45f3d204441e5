use Rattle.std.proofs.Common.{rules, ◌≡◌, true, arith, sym}
use Rattle.std.specs.List.{list_all}
use Rattle.serve_names.specs.Counts.{is_digit}
use Rattle.gateway_pick.proofs.VersionDigits.{version_step}
use Rattle.gateway_pick.proofs.versions.version_of.Goals as goal

pub overflow_mul-number : goal.overflow_mul-number
overflow_mul-number c =
    let all : list_all is_digit c.args.bytes.now ≡ true = search rules in
    let step = version_step c.args.bytes.now c.loop-byte.byte-index c.loop-byte.number all (omega arith) (omega arith) c.loop-byte.invariant in
    omega arith

pub overflow_add-number : goal.overflow_add-number
overflow_add-number c =
    let all : list_all is_digit c.args.bytes.now ≡ true = search rules in
    let step = version_step c.args.bytes.now c.loop-byte.byte-index c.loop-byte.number all (omega arith) (omega arith) c.loop-byte.invariant in
    omega arith

pub loop-byte-preserved : goal.loop-byte-preserved
loop-byte-preserved c =
    let all : list_all is_digit c.args.bytes.now ≡ true = search rules in
    sym (version_step c.args.bytes.now c.loop-byte.byte-index c.loop-byte.number all (omega arith) (omega arith) c.loop-byte.invariant).0
