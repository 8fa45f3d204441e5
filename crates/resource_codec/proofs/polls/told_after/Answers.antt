use Rattle.std.proofs.Common.{◌+◌, length, refl, sym, ap, subst, ◌∙◌, arith}
use Rattle.std.proofs.lemmas.Option.{slice_get_read}
use Rattle.std.specs.Option.{option_copied}
use Rattle.resource_codec.proofs.Born.{event_told}
use Rattle.resource_codec.proofs.Polled.{IsToldTo, longer, told-one, told-full, told-end}
use Rattle.resource_codec.proofs.polls.told_after.Goals as goal

pub returns-then-len-eq-MOST_EVENTS-clause-events : goal.returns-then-len-eq-MOST_EVENTS-clause-events
returns-then-len-eq-MOST_EVENTS-clause-events c =
    let journal = c.args.entries.now in
    let k = c.loop-place.place in
    let entry = c.index-entries-place.result in
    let event = c.in_ok-event.field-0 in
    let events = c.loop-place.events in
    let within = c.loop-place-test.true in
    let told = c.in_ok-event.ensures ∙ event_told journal k entry c.requires.stamped (slice_get_read journal (length journal) k entry refl within c.index-entries-place.is) in
    let full = ap length (sym c.in_ok-push.ensures.ok) ∙ sym c.len.ensures ∙ c.if-len-eq-MOST_EVENTS.true in
    c.in_ok-push.ensures.ok
    ∙ (told-full journal c.args.kind (option_copied c.args.space) c.args.after events event k entry c.loop-place.invariant.so_far within c.index-entries-place.is (sym c.if-not-is_asked.false ∙ c.is_asked.ensures) told full).events

pub returns-then-len-eq-MOST_EVENTS-clause-version : goal.returns-then-len-eq-MOST_EVENTS-clause-version
returns-then-len-eq-MOST_EVENTS-clause-version c =
    let journal = c.args.entries.now in
    let k = c.loop-place.place in
    let entry = c.index-entries-place.result in
    let event = c.in_ok-event.field-0 in
    let events = c.loop-place.events in
    let within = c.loop-place-test.true in
    let told = c.in_ok-event.ensures ∙ event_told journal k entry c.requires.stamped (slice_get_read journal (length journal) k entry refl within c.index-entries-place.is) in
    let full = ap length (sym c.in_ok-push.ensures.ok) ∙ sym c.len.ensures ∙ c.if-len-eq-MOST_EVENTS.true in
    (told-full journal c.args.kind (option_copied c.args.space) c.args.after events event k entry c.loop-place.invariant.so_far within c.index-entries-place.is (sym c.if-not-is_asked.false ∙ c.is_asked.ensures) told full).version

pub loop-place-preserved : goal.loop-place-preserved
loop-place-preserved c =
    let journal = c.args.entries.now in
    let space = option_copied c.args.space in
    let k = c.loop-place.place in
    let entry = c.index-entries-place.result in
    let event = c.in_ok-event.field-0 in
    let events = c.loop-place.events in
    let within = c.loop-place-test.true in
    let told = c.in_ok-event.ensures ∙ event_told journal k entry c.requires.stamped (slice_get_read journal (length journal) k entry refl within c.index-entries-place.is) in
    record {
      few = omega (arith, c.loop-place.invariant.few, c.len.ensures, c.if-len-eq-MOST_EVENTS.false, ap length c.in_ok-push.ensures.ok, longer journal c.args.kind space c.args.after events event);
      so_far =
          subst (λ es. IsToldTo journal c.args.kind space c.args.after es (k + 1)) (sym c.in_ok-push.ensures.ok)
          (told-one journal c.args.kind space c.args.after events event k entry c.loop-place.invariant.so_far within c.index-entries-place.is (sym c.if-not-is_asked.false ∙ c.is_asked.ensures) told);
    }

pub returns-clause-events : goal.returns-clause-events
returns-clause-events c =
    (told-end c.args.entries.now c.args.kind (option_copied c.args.space) c.args.after c.loop-place.events c.loop-place.place c.loop-place.invariant.so_far c.loop-place.invariant.few c.loop-place-test.false).events

pub returns-clause-version : goal.returns-clause-version
returns-clause-version c =
    c.requires.version
    ∙ (told-end c.args.entries.now c.args.kind (option_copied c.args.space) c.args.after c.loop-place.events c.loop-place.place c.loop-place.invariant.so_far c.loop-place.invariant.few c.loop-place-test.false).version
