use Rattle.std.proofs.Common.{arith}
use Rattle.resource_codec.proofs.Well.{written_fits}
use Rattle.codec_trial.proofs.routes.is_route.Goals as goal

pub have_same_bytes-requires-clause-one_fits : goal.have_same_bytes-requires-clause-one_fits
have_same_bytes-requires-clause-one_fits c =
    let fits = written_fits c.args.manifest.now c.requires.well in
    record { well = fits.well; deep = omega (arith, fits.deep) }

pub have_same_bytes-requires-clause-two_fits : goal.have_same_bytes-requires-clause-two_fits
have_same_bytes-requires-clause-two_fits c =
    let fits = written_fits c.in_ok-other.other c.in_ok-other.ensures.well in
    record { well = fits.well; deep = omega (arith, fits.deep) }
