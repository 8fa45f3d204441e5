use Rattle.std.proofs.Common.{length, true, ap, ◌∙◌}
use Rattle.control_rules.specs.Collection.{first_place, is_stale}
use Rattle.revision_gc.specs.declared.choice.Pick.TheVariants.{Stale, First, Nobody}
use Rattle.revision_gc.proofs.Picks.{place_at}
use Rattle.revision_gc.proofs.choice.collect.Goals as goal

pub returns-in-Stale : goal.returns-in-Stale
returns-in-Stale c =
    place_at c.args.settings.now c.args.now c.args.candidates.now Stale _ _ c.first_place-stale.result
    (c.first_place-stale.ensures ∙ ap (first_place (is_stale c.args.settings.now c.args.now)) c.as_slice-list.ensures) c.is_some.ensures (ap length c.as_slice-list.ensures) c.in-Stale.ensures

pub returns-in-First : goal.returns-in-First
returns-in-First c =
    c.first_place.ensures ∙ ap (first_place (λ x. true)) c.as_slice-list.ensures
    ∙ place_at c.args.settings.now c.args.now c.args.candidates.now First _ _ c.first_place-stale.result
    (c.first_place-stale.ensures ∙ ap (first_place (is_stale c.args.settings.now c.args.now)) c.as_slice-list.ensures) c.is_some.ensures (ap length c.as_slice-list.ensures) c.in-First.ensures

pub returns-in-Nobody : goal.returns-in-Nobody
returns-in-Nobody c =
    place_at c.args.settings.now c.args.now c.args.candidates.now Nobody _ _ c.first_place-stale.result
    (c.first_place-stale.ensures ∙ ap (first_place (is_stale c.args.settings.now c.args.now)) c.as_slice-list.ensures) c.is_some.ensures (ap length c.as_slice-list.ensures) c.in-Nobody.ensures
