use Rattle.std.proofs.Common.{◌≡◌, ◌+◌, ◌&&◌, ℕ, Bool, drop, ap, ◌∙◌}
use Rattle.std.specs.Option.{option_copied}
use Rattle.resource_types.specs.declared.objects.Object.{Object}
use Rattle.resource_types.specs.Objects.{has_been_ready}
use Rattle.resource_types.specs.Lookups.{state}
use Rattle.control_rules.specs.Collection.{candidate_of, is_candidate, is_stale}
use Rattle.revision_gc.specs.Sweeps.{count_from, count_with, earlier_object, first_object, is_stale_candidate}
use Rattle.revision_gc.proofs.Chosen.{counted_as}
use Rattle.revision_gc.proofs.Walks.{count-next, count_with-le, first-next}
use Rattle.revision_gc.proofs.collector.swept.Goals as goal

pub loop-place-preserved : goal.loop-place-preserved
loop-place-preserved c =
    let st = state c.args.store.now.entries in
    let configuration = c.args.configuration.now in
    let counts : Object → Bool = is_candidate has_been_ready st configuration in
    let are_stale : Object → Bool = is_stale_candidate c.args.settings.now c.args.moment st configuration in
    let objects = c.args.revisions.now in
    let place = c.loop-place.place in
    let revision = c.at-revision.result.now in
    let counted : c.is_candidate-counts.result ≡ counts revision =
    counted_as st configuration revision _ _ c.is_candidate-counts.result c.newest_owned-created.ensures.value c.newest_ready-ready.ensures.value c.is_candidate-counts.ensures in
    let old : c.is_stale_candidate-is_old.result ≡ are_stale revision =
    c.is_stale_candidate-is_old.ensures ∙ ap (λ (t : Bool). t && is_stale c.args.settings.now c.args.moment (candidate_of revision)) counted in
    record {
      within = rw c.count_with-count.ensures (count_with-le c.is_candidate-counts.result c.loop-place.count place c.loop-place.invariant.within);
      count =
          ap (λ (n : ℕ). count_from counts n (drop (place + 1) objects)) (c.count_with-count.ensures ∙ ap (λ (t : Bool). count_with t c.loop-place.count) counted)
          ∙ count-next counts c.loop-place.count objects place revision c.at-revision.ensures ∙ c.loop-place.invariant.count;
      stale =
          ap (λ b. first_object are_stale b (drop (place + 1) objects)) (c.earlier-stale.ensures ∙ ap (λ (t : Bool). earlier_object t (option_copied c.loop-place.stale) revision) old)
          ∙ first-next are_stale (option_copied c.loop-place.stale) objects place revision c.at-revision.ensures ∙ c.loop-place.invariant.stale;
      first =
          ap (λ b. first_object counts b (drop (place + 1) objects)) (c.earlier-first.ensures ∙ ap (λ (t : Bool). earlier_object t (option_copied c.loop-place.first) revision) counted)
          ∙ first-next counts (option_copied c.loop-place.first) objects place revision c.at-revision.ensures ∙ c.loop-place.invariant.first;
    }
