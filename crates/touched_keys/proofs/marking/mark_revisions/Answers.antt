use Rattle.std.proofs.Common.{ap, sym, ◌∙◌}
use Rattle.resource_types.specs.declared.names.Kind.TheVariants as kind
use Rattle.resource_types.specs.Lookups.{of_kind}
use Rattle.resource_types.specs.declared.names.Controller.TheVariants as controller
use Rattle.touched_keys.specs.Changes.{ChangeView, IsTouched, walks_revisions}
use Rattle.touched_keys.proofs.Covering.{revision_split, revision_walked, all_off, all_walked}
use Rattle.touched_keys.proofs.marking.mark_revisions.Goals as goal

pub returns-in_ok-mark_each-clause-all : goal.returns-in_ok-mark_each-clause-all
returns-in_ok-mark_each-clause-all c =
    let v = c.args.change.now in
    all_walked v c.change.inside.key.now.name (ap (λ (v : ChangeView). v.key.name) c.change.view_is) controller.Revision (walks_revisions v) (revision_split v) (IsTouched v) kind.Revision c.mark_if.new.keys c.mark_each.new.keys (revision_walked v.state)
    c.in_ok-mark_if.ensures.all c.in_ok-mark_each.ensures.adds c.walk-revisions.result (c.walk-revisions.ensures ∙ ap (λ (v : ChangeView). of_kind kind.Revision v.state) c.change.view_is) c.in_ok-mark_each.ensures.all

pub returns-else-walks_revisions-clause-all : goal.returns-else-walks_revisions-clause-all
returns-else-walks_revisions-clause-all c =
    let v = c.args.change.now in
    all_off v c.change.inside.key.now.name (ap (λ (v : ChangeView). v.key.name) c.change.view_is) controller.Revision (walks_revisions v) (revision_split v) c.mark_if.new.keys (sym c.walks_revisions.ensures ∙ c.if-walks_revisions.false)
    c.in_ok-mark_if.ensures.all
