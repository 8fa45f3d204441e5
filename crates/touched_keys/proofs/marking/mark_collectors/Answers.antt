use Rattle.std.proofs.Common.{ap, sym, ◌∙◌}
use Rattle.resource_types.specs.declared.names.Kind.TheVariants as kind
use Rattle.resource_types.specs.Lookups.{of_kind}
use Rattle.touched_keys.specs.Changes.{ChangeView, IsTouched}
use Rattle.touched_keys.proofs.Covering.{collectors_off, collectors_walked}
use Rattle.touched_keys.proofs.marking.mark_collectors.Goals as goal

pub returns-in_ok-mark_each-clause-all : goal.returns-in_ok-mark_each-clause-all
returns-in_ok-mark_each-clause-all c =
    let v = c.args.change.now in
    collectors_walked v c.change.inside.key.now.name (ap (λ (v : ChangeView). v.key.name) c.change.view_is) (IsTouched v) c.mark_if.new.keys c.mark_over.new.keys c.mark_each.new.keys
    c.in_ok-mark_if.ensures.all c.in_ok-mark_over.ensures.adds c.in_ok-mark_over.ensures.all c.in_ok-mark_each.ensures.adds c.walk-configurations.result (c.walk-configurations.ensures ∙ ap (λ (v : ChangeView). of_kind kind.Configuration v.state) c.change.view_is) c.in_ok-mark_each.ensures.all

pub returns-else-names_revisions-clause-all : goal.returns-else-names_revisions-clause-all
returns-else-names_revisions-clause-all c =
    let v = c.args.change.now in
    collectors_off v c.change.inside.key.now.name (ap (λ (v : ChangeView). v.key.name) c.change.view_is) (IsTouched v) c.mark_if.new.keys c.mark_over.new.keys (sym c.names_revisions.ensures ∙ c.if-names_revisions.false)
    c.in_ok-mark_if.ensures.all c.in_ok-mark_over.ensures.adds c.in_ok-mark_over.ensures.all
