use Rattle.std.proofs.Common.{◌≡◌, ◌≤◌, sym, subst, true, List}
use Rattle.json_tree.specs.Tree.{is_well_formed, depth_of}
use Rattle.resource_codec.specs.Reading.{Member}
use Rattle.resource_codec.specs.Written.{object_of}
use Rattle.resource_codec.proofs.Forms.{put_event_fits}
use Rattle.resource_codec.proofs.events.put_event.Goals as goal

pub returns-clause-well : goal.returns-clause-well
returns-clause-well c w =
    let fits = put_event_fits c.args.object.now c.args.made w in
    subst (λ (es : List Member). (is_well_formed (object_of es) ≡ true) × (depth_of (object_of es) ≤ 41)) (sym c.in_ok-put_members.ensures) (fits.well, fits.deep)
