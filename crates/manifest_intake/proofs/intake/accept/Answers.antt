use Rattle.json_tree.specs.Tree.{depth_of}
use Rattle.manifest_intake.proofs.Soundness.{sound_filled}
use Rattle.manifest_intake.proofs.intake.accept.Goals as goal

pub returns-clause-sound : goal.returns-clause-sound
returns-clause-sound c well =
    sound_filled c.args.kind (depth_of c.args.json.now) c.in_ok-manifest.manifest c.in_ok-full.full c.in_ok-full.ensures.filled (c.in_ok-manifest.ensures.sound well)
