use Rattle.std.proofs.Common.{◌≡◌, ◌≤◌, sym, subst, true, List}
use Rattle.json_tree.specs.Tree.{is_well_formed, depth_of}
use Rattle.resource_codec.specs.Reading.{Member}
use Rattle.resource_codec.specs.Written.{object_of}
use Rattle.resource_codec.proofs.Forms.{poll_fits}
use Rattle.resource_codec.proofs.events.poll_form.Goals as goal

pub returns-clause-well : goal.returns-clause-well
returns-clause-well c well deep =
    let fits = poll_fits c.args.events c.args.version well deep in
    subst (λ (es : List Member). (is_well_formed (object_of es) ≡ true) × (depth_of (object_of es) ≤ 43)) (sym c.in_ok-poll_members.ensures) (fits.well, fits.deep)
