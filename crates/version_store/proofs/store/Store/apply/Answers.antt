use Rattle.std.proofs.Common.{◌≡◌, ◌+◌, ◌-◌, ◌<◌, ◌^◌, length, map, cond, ap, sym, ◌∙◌, subst, arith}
use Rattle.std.specs.Option.{option_copied, is_some}
use Rattle.version_store.specs.State.{state, find, versions_of}
use Rattle.version_store.specs.Journal.{GenerationBelow, AreStamped, changes_guard, newest_guard, last_version}
use Rattle.version_store.specs.Apply.{answer_to, entry_for, with_entry}
use Rattle.version_store.specs.Index.{row_key, row_version, last_rows, prior_versions, search_in, put_at, removed_at}
use Rattle.version_store.proofs.States.{generation_below}
use Rattle.version_store.proofs.Step.{IsNext, next_index, answer_is, not_entry, not_spare}
use Rattle.version_store.proofs.Priors.{priors-push}
use Rattle.version_store.proofs.Growth.{grows_not}
use Rattle.version_store.proofs.store.Store.apply.Goals as goal

pub entry_of-entry-requires : goal.entry_of-entry-requires
entry_of-entry-requires g c =
    let item = g.O.Item in
    let cmp = g.O.Key.Ord.cmp in
    let entries = c.self.inside.entries.items in
    let key = c.args.write.plan.key in
    subst (GenerationBelow item.stamp (2 ^ 64 - 1)) (sym (c.of_key-of_key.ensures.standing ∙ ap (λ es. find item.key cmp key (state item.key cmp es)) c.deref.ensures.value))
    (generation_below item cmp entries key (2 ^ 64 - 1) c.self.invariant.stamped (subst (λ v. length v.entries < 2 ^ 64 - 1) (sym c.self.view_is) c.requires.room))

pub invariant_of-self : goal.invariant_of-self
invariant_of-self g c =
    let item = g.O.Item in
    let cmp = g.O.Key.Ord.cmp in
    let inside = c.self.inside in
    let entries = inside.entries.items in
    let key = c.args.write.plan.key in
    let entry = c.entry_of-entry.result in
    let old : IsNext item cmp entries inside.lasts.items inside.present.items inside.newest_guard =
    record { stamped = c.self.invariant.stamped; last_versions = c.self.invariant.last_versions; present_versions = c.self.invariant.present_versions; guard = c.self.invariant.guard } in
    let version : c.len.result + 1 ≡ length entries + 1 = omega (arith, c.len.ensures, inside.entries.ok.0) in
    let next = next_index item cmp g.met.O.Key.Ord.total g.met.O.Item.stamp_alone g.met.O.Item.spec_equivalence entries inside.lasts.items inside.present.items inside.newest_guard old
    c.args.write (option_copied c.of_key-of_key.result.standing) (c.len.result + 1) entry c.requires.key
    (c.of_key-of_key.ensures.standing ∙ ap (λ es. find item.key cmp key (state item.key cmp es)) c.deref.ensures.value) version c.entry_of-entry.ensures
    c.of_key-of_key.result.among_lasts c.of_key-of_key.result.among_present
    (c.of_key-of_key.ensures.lasts ∙ ap (λ es. search_in cmp key (map row_key (last_rows cmp es))) c.deref.ensures.value)
    (c.of_key-of_key.ensures.present ∙ ap (λ es. search_in cmp key (map item.key (state item.key cmp es))) c.deref.ensures.value) in
    let items = c.in-Ok.ensures.items in
    let stands : c.is_some.result ≡ is_some entry.object = c.is_some.ensures ∙ c.as_ref-object.ensures.variant in
    record {
      stamped = subst (AreStamped item cmp) (sym items) next.stamped;
      last_versions = c.put.ensures.items ∙ next.last_versions ∙ ap (λ es. map row_version (last_rows cmp es)) (sym items);
      present_versions =
          c.change.ensures.items
          ∙ ap (λ b. cond b (put_at (c.len.result + 1) inside.present.items c.of_key-of_key.result.among_present) (removed_at inside.present.items c.of_key-of_key.result.among_present)) stands
          ∙ next.present_versions ∙ ap (λ es. versions_of item.stamp (state item.key cmp es)) (sym items);
      priors_before =
          c.append.ensures.items
          ∙ priors-push cmp entries entry inside.priors.items key c.of_key-of_key.result.last c.self.invariant.priors_before (ap (λ e. e.key) c.entry_of-entry.ensures)
          (c.of_key-of_key.ensures.last ∙ ap (λ es. last_version cmp es key) c.deref.ensures.value)
          ∙ ap (prior_versions cmp) (sym items);
      guard =
          c.newest_after-self-inside.ensures
          ∙ ap (λ o. cond (changes_guard item (option_copied c.of_key-of_key.result.standing) o) (c.len.result + 1) inside.newest_guard) c.as_ref-object.ensures.value
          ∙ next.guard ∙ ap (newest_guard item cmp) (sym items);
      room = omega (arith, ap (λ v. v.spare) c.self.view_is, c.requires.spare, c.self.invariant.room, c.in-Ok.ensures.len, c.in-Ok.ensures.capacity);
      lasts_room = omega (arith, ap (λ v. v.spare) c.self.view_is, c.requires.spare, c.self.invariant.lasts_room, c.put.ensures.len, c.put.ensures.capacity);
      present_room = omega (arith, ap (λ v. v.spare) c.self.view_is, c.requires.spare, c.self.invariant.present_room, c.change.ensures.len, c.change.ensures.capacity);
      priors_room = omega (arith, ap (λ v. v.spare) c.self.view_is, c.requires.spare, c.self.invariant.priors_room, c.append.ensures.len, c.append.ensures.capacity);
    }

pub returns-in_default : goal.returns-in_default
returns-in_default g c =
    let item = g.O.Item in
    let cmp = g.O.Key.Ord.cmp in
    let inside = c.self.inside in
    let entries = inside.entries.items in
    let now = c.args.self.now in
    let write = c.args.write in
    let key = write.plan.key in
    let standing : option_copied c.of_key-of_key.result.standing ≡ find item.key cmp key (state item.key cmp entries) =
    c.of_key-of_key.ensures.standing ∙ ap (λ es. find item.key cmp key (state item.key cmp es)) c.deref.ensures.value in
    let last : c.of_key-of_key.result.last ≡ last_version cmp entries key = c.of_key-of_key.ensures.last ∙ ap (λ es. last_version cmp es key) c.deref.ensures.value in
    let version : c.len.result + 1 ≡ length entries + 1 = omega (arith, c.len.ensures, inside.entries.ok.0) in
    let answer : c.answer_of-answer.result ≡ answer_to item cmp now.entries write =
    c.answer_of-answer.ensures ∙ answer_is item cmp entries write _ _ _ _ standing last c.self.invariant.guard version ∙ ap (λ v. answer_to item cmp v.entries write) c.self.view_is in
    record {
      answer = answer;
      entries = not_entry c.answer_of-answer.result c.in_default.not-Done now.entries (entry_for item cmp now.entries write) ∙ ap (λ a. with_entry a now.entries (entry_for item cmp now.entries write)) answer;
      grows = grows_not now.entries;
      spare = not_spare c.answer_of-answer.result c.in_default.not-Done now.spare;
    }
