use Rattle.std.proofs.Common.{◌≡◌, ◌≤◌, sym, subst, true, List}
use Rattle.json_tree.specs.Tree.{is_well_formed, depth_of}
use Rattle.resource_codec.specs.Reading.{Member}
use Rattle.resource_codec.specs.Written.{object_of}
use Rattle.resource_codec.proofs.Forms.{removal_fits}
use Rattle.resource_codec.proofs.events.removal_event.Goals as goal

pub returns-clause-well : goal.returns-clause-well
returns-clause-well c =
    let fits = removal_fits c.args.key.now c.args.version in
    subst (λ (es : List Member). (is_well_formed (object_of es) ≡ true) × (depth_of (object_of es) ≤ 1)) (sym c.in_ok-removal_members.ensures) (fits.well, fits.deep)
