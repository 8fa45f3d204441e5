use Rattle.std.proofs.Common.{arith, sym}
use Rattle.api_paths.proofs.VersionLemmas.{version_step}
use Rattle.api_paths.proofs.versions.version_of.Goals as goal

pub overflow_mul-number : goal.overflow_mul-number
overflow_mul-number c =
    let step = version_step c.args.value.now c.loop-byte.byte-index c.loop-byte.number c.requires (omega arith) c.loop-byte.invariant in
    omega arith

pub overflow_add-number : goal.overflow_add-number
overflow_add-number c =
    let step = version_step c.args.value.now c.loop-byte.byte-index c.loop-byte.number c.requires (omega arith) c.loop-byte.invariant in
    omega arith

pub loop-byte-preserved : goal.loop-byte-preserved
loop-byte-preserved c =
    sym (version_step c.args.value.now c.loop-byte.byte-index c.loop-byte.number c.requires (omega arith) c.loop-byte.invariant).0
