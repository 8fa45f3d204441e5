use Rattle.std.proofs.Common.{arith, ap, sym, ◌∙◌}
use Rattle.std.specs.Option.{option_copied}
use Rattle.resource_types.specs.declared.names.Kind.TheVariants as kind
use Rattle.resource_types.specs.Lookups.{in_space, of_kind, state}
use Rattle.route_rec.proofs.Spared.{found_spare, from_first, none_spare, not_spare, spare_by}
use Rattle.route_rec.proofs.spare.first_spare.Goals as goal

pub loop-place-init : goal.loop-place-init
loop-place-init c =
    from_first (state c.args.store.now.entries) c.args.route.now c.walk_space-revisions.result
    (c.walk_space-revisions.ensures ∙ ap (λ space. in_space space (of_kind kind.Revision (state c.args.store.now.entries))) c.as_str.ensures)

pub returns-then-is_spare : goal.returns-then-is_spare
returns-then-is_spare c =
    let st = state c.args.store.now.entries in
    let walked = c.walk_space-revisions.ensures ∙ ap (λ space. in_space space (of_kind kind.Revision st)) c.as_str.ensures in
    let same = spare_by st c.args.route.now (option_copied c.standing-table.result) (option_copied c.standing-object.result) c.at-revision.result.now c.standing-table.ensures.value c.standing-object.ensures.value in
    found_spare st c.args.route.now c.walk_space-revisions.result walked c.loop-place.place c.loop-place.invariant c.at-revision.result.now c.at-revision.ensures
    (sym same ∙ sym c.if-is_spare.ensures)

pub loop-place-preserved : goal.loop-place-preserved
loop-place-preserved c =
    let st = state c.args.store.now.entries in
    let walked = c.walk_space-revisions.ensures ∙ ap (λ space. in_space space (of_kind kind.Revision st)) c.as_str.ensures in
    let same = spare_by st c.args.route.now (option_copied c.standing-table.result) (option_copied c.standing-object.result) c.at-revision.result.now c.standing-table.ensures.value c.standing-object.ensures.value in
    not_spare st c.args.route.now c.walk_space-revisions.result walked c.loop-place.place c.loop-place.invariant c.at-revision.result.now c.at-revision.ensures
    (sym same ∙ sym c.if-is_spare.ensures)

pub returns : goal.returns
returns c =
    let st = state c.args.store.now.entries in
    let walked = c.walk_space-revisions.ensures ∙ ap (λ space. in_space space (of_kind kind.Revision st)) c.as_str.ensures in
    none_spare st c.args.route.now c.walk_space-revisions.result walked c.loop-place.place c.loop-place.invariant (omega arith)
