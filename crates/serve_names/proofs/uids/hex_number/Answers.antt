use Rattle.std.proofs.Common.{arith}
use Rattle.serve_names.proofs.UidLemmas.{hex_more}
use Rattle.serve_names.proofs.uids.hex_number.Goals as goal

pub overflow_mul-number : goal.overflow_mul-number
overflow_mul-number c =
    let step = hex_more c.args.bytes.now c.loop-byte.byte-index c.loop-byte.number c.requires.digits c.requires.fits (omega arith) c.loop-byte.invariant in
    omega (arith, step.fits)

pub overflow_add-number : goal.overflow_add-number
overflow_add-number c =
    let step = hex_more c.args.bytes.now c.loop-byte.byte-index c.loop-byte.number c.requires.digits c.requires.fits (omega arith) c.loop-byte.invariant in
    omega (arith, step.fits)

pub hex_digit-requires : goal.hex_digit-requires
hex_digit-requires c = (hex_more c.args.bytes.now c.loop-byte.byte-index c.loop-byte.number c.requires.digits c.requires.fits (omega arith) c.loop-byte.invariant).digit

pub loop-byte-preserved : goal.loop-byte-preserved
loop-byte-preserved c =
    let step = hex_more c.args.bytes.now c.loop-byte.byte-index c.loop-byte.number c.requires.digits c.requires.fits (omega arith) c.loop-byte.invariant in
    omega (arith, step.value)
