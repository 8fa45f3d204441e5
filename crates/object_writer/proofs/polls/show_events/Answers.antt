use Rattle.std.proofs.Common.{◌+◌, length, refl, sym, ◌∙◌, arith}
use Rattle.std.proofs.lemmas.Option.{slice_get_read}
use Rattle.std.specs.Option.{option_copied}
use Rattle.resource_codec.specs.Views.{event_json, is_born}
use Rattle.resource_codec.proofs.Born.{event_told}
use Rattle.object_writer.proofs.Told.{written-start, written-passed, written-one, written-full, written-end, events_written}
use Rattle.object_writer.proofs.polls.show_events.Goals as goal

pub loop-place-init : goal.loop-place-init
loop-place-init c = written-start c.args.entries.now c.args.kind (option_copied c.args.space) c.args.after c.args.out.now

pub overflow_add-count : goal.overflow_add-count
overflow_add-count c = omega (arith, c.loop-place.invariant.count, c.loop-place.invariant.few)

pub loop-place-preserved-then-not-is_asked : goal.loop-place-preserved-then-not-is_asked
loop-place-preserved-then-not-is_asked c =
    let journal = c.args.entries.now in
    let space = option_copied c.args.space in
    let l = c.loop-place in
    let entry = c.index-entries-place.result in
    let within = c.loop-place-test.true in
    written-passed journal c.args.kind space c.args.after c.args.out.now l.out l.count l.place entry l.invariant within c.index-entries-place.is
    (sym c.if-not-is_asked.true ∙ c.is_asked.ensures)

pub loop-place-preserved : goal.loop-place-preserved
loop-place-preserved c =
    let journal = c.args.entries.now in
    let space = option_copied c.args.space in
    let l = c.loop-place in
    let entry = c.index-entries-place.result in
    let within = c.loop-place-test.true in
    let told = event_told journal l.place entry c.requires.stamped (slice_get_read journal (length journal) l.place entry refl within c.index-entries-place.is) in
    let asked = sym c.if-not-is_asked.false ∙ c.is_asked.ensures in
    let event = event_json entry.key (l.place + 1) (is_born (l.place + 1) entry.object) entry.object in
    written-one journal c.args.kind space c.args.after c.args.out.now l.out l.count l.place entry l.invariant within c.index-entries-place.is
    event asked told c.show_event.new.out c.in_ok-show_event.ensures c.if-count-eq-MOST_EVENTS.false

pub returns-then-count-eq-MOST_EVENTS-clause-tokens : goal.returns-then-count-eq-MOST_EVENTS-clause-tokens
returns-then-count-eq-MOST_EVENTS-clause-tokens c =
    let journal = c.args.entries.now in
    let space = option_copied c.args.space in
    let l = c.loop-place in
    let entry = c.index-entries-place.result in
    let within = c.loop-place-test.true in
    let told = event_told journal l.place entry c.requires.stamped (slice_get_read journal (length journal) l.place entry refl within c.index-entries-place.is) in
    let asked = sym c.if-not-is_asked.false ∙ c.is_asked.ensures in
    let event = event_json entry.key (l.place + 1) (is_born (l.place + 1) entry.object) entry.object in
    events_written journal c.args.kind space c.args.after c.args.out.now c.show_event.new.out (l.place + 1)
    (written-full journal c.args.kind space c.args.after c.args.out.now l.out l.count l.place entry l.invariant within c.index-entries-place.is
    event asked told c.show_event.new.out c.in_ok-show_event.ensures c.if-count-eq-MOST_EVENTS.true)

pub returns-then-count-eq-MOST_EVENTS-clause-version : goal.returns-then-count-eq-MOST_EVENTS-clause-version
returns-then-count-eq-MOST_EVENTS-clause-version c =
    let journal = c.args.entries.now in
    let space = option_copied c.args.space in
    let l = c.loop-place in
    let entry = c.index-entries-place.result in
    let within = c.loop-place-test.true in
    let told = event_told journal l.place entry c.requires.stamped (slice_get_read journal (length journal) l.place entry refl within c.index-entries-place.is) in
    let asked = sym c.if-not-is_asked.false ∙ c.is_asked.ensures in
    let event = event_json entry.key (l.place + 1) (is_born (l.place + 1) entry.object) entry.object in
    (written-full journal c.args.kind space c.args.after c.args.out.now l.out l.count l.place entry l.invariant within c.index-entries-place.is
    event asked told c.show_event.new.out c.in_ok-show_event.ensures c.if-count-eq-MOST_EVENTS.true).polled.version

pub returns-clause-tokens : goal.returns-clause-tokens
returns-clause-tokens c =
    let journal = c.args.entries.now in
    let space = option_copied c.args.space in
    let l = c.loop-place in
    events_written journal c.args.kind space c.args.after c.args.out.now l.out (length journal)
    (written-end journal c.args.kind space c.args.after c.args.out.now l.out l.count l.place l.invariant c.loop-place-test.false)

pub returns-clause-version : goal.returns-clause-version
returns-clause-version c =
    let journal = c.args.entries.now in
    let space = option_copied c.args.space in
    let l = c.loop-place in
    c.requires.version ∙ (written-end journal c.args.kind space c.args.after c.args.out.now l.out l.count l.place l.invariant c.loop-place-test.false).polled.version
