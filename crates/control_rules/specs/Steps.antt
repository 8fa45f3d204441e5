-- What the events of a plane do: a client's write, a report, a step, and a step of the cursor.
use Rattle.std.specs.Prelude.{ℕ, zero, suc, Bool, true, false, ◌&&◌, ◌||◌, List, [], ◌∷◌, length, cond, Option, Some, None}
use Rattle.std.specs.List.{find}
use Rattle.std.specs.Option.{option_or}
use Rattle.std.specs.Ordering.{is_lt}
use Rattle.version_store.specs.declared.write.Applied.{Applied}
use Rattle.version_store.specs.declared.write.Applied.TheVariants as applied
use Rattle.version_store.specs.declared.write.Change.TheVariants.{Put}
use Rattle.version_store.specs.declared.write.Expect.{Expect}
use Rattle.version_store.specs.declared.write.Expect.TheVariants as expect
use Rattle.resource_types.specs.declared.names.Kind.TheVariants as kind
use Rattle.resource_types.specs.declared.names.Name.{Name}
use Rattle.resource_types.specs.declared.names.SlotKey.{SlotKey}
use Rattle.resource_types.specs.declared.names.Actor.{Actor}
use Rattle.resource_types.specs.declared.names.Actor.TheVariants.{Client, Reporter, Controller}
use Rattle.resource_types.specs.declared.conditions.Part.{Part}
use Rattle.resource_types.specs.declared.conditions.Truth.TheVariants as truth
use Rattle.resource_types.specs.declared.objects.Body.TheVariants.{Health}
use Rattle.resource_types.specs.declared.objects.Object.{Object}
use Rattle.resource_types.specs.contracts.names.SlotKeyOrd.TheImpl as slot_order
use Rattle.resource_types.specs.contracts.conditions.TruthPartialEq.TheImpl as truth_eq
use Rattle.resource_types.specs.Spec.{no_stamp}
use Rattle.resource_types.specs.Lookups as lookups
use Rattle.resource_types.specs.Lookups.{is_given, version_of}
use Rattle.control_rules.specs.declared.slots.StepOutcome.{StepOutcome}
use Rattle.control_rules.specs.declared.slots.StepOutcome.TheVariants as outcome
use Rattle.control_rules.specs.declared.slots.Report.{Report}
use Rattle.control_rules.specs.Standing.{key_at, standing}
use Rattle.control_rules.specs.Differences.{ObjectPlan}
use Rattle.control_rules.specs.Statuses.{Reported, reported_in, ever_of}
use Rattle.control_rules.specs.Next.{next_write}
use Rattle.control_rules.specs.Slots.{ObjectWrite, state_at, answer_in, entries_in, is_key, all_keys, Look, look_of, held, idle_at, Plane, present}

-- ---- writes

-- a plan as a write of its maker, who saw so many entries and looked at that moment
abbrev pub write_of : Plane → Actor → ℕ → ℕ → ObjectPlan → ObjectWrite
write_of w actor seen read_at plan = record { plan = plan; actor = actor; seen = seen; read_at = read_at; moment = w.now }

-- what a write comes to
abbrev pub answer_of : Plane → ObjectWrite → Applied
answer_of w write = answer_in w.journal write

-- the plane after a write
abbrev pub after_write : Plane → ObjectWrite → Plane
after_write w write = record w { journal = entries_in w.journal write }

-- a write by one who sees all that was written, at the present moment
abbrev pub present_write : Plane → Actor → ObjectPlan → ObjectWrite
present_write w actor plan = write_of w actor (length w.journal) w.now plan

-- a plane after an event, and what the event was answered
pub record Event (A : Type 0) : Type 0 where
  pub plane : Plane
  pub answer : A

abbrev pub event_of : Plane → ObjectWrite → Event Applied
event_of w write = record { plane = after_write w write; answer = answer_of w write }

-- a client's write
abbrev pub client_write_of : Plane → ObjectPlan → Event Applied
client_write_of w plan = event_of w (present_write w Client plan)

-- ---- reports

-- whether a part is in order
abbrev pub is_true : Part → Bool
is_true part = truth_eq.ghosts.eq part.truth truth.True

-- whether both parts are in order
abbrev pub are_true : Part → Part → Bool
are_true resources container = is_true resources && is_true container

-- whether what is reported says that both parts are in order
abbrev pub says_ready : Option Reported → Bool
says_ready None = false
says_ready (Some h) = are_true h.resources h.container

-- whether a Revision was ready once: both parts are in order now, or the Health that stands says so of its uid
abbrev pub is_ever : ℕ → Part → Part → Option Object → Bool
is_ever uid resources container old = are_true resources container || ever_of (reported_in uid old)

-- the Health of a Revision of that name and uid
abbrev pub health_of : Name → ℕ → Part → Part → Option Object → Object
health_of name uid resources container old = record {
  key = key_at kind.Health name;
  meta = record { stamp = no_stamp; owner = None; labels = record { entries = [] }; annotations = record { entries = [] } };
  body = Health uid resources container (is_ever uid resources container old);
}

-- what is expected to stand is what stands
abbrev pub expect_of : Option Object → Expect
expect_of None = expect.Absent
expect_of (Some o) = expect.At (version_of o)

-- the plan of a report on a Revision, where this Health stands
abbrev pub report_plan : Report → Object → Option Object → ObjectPlan
report_plan report revision old = record {
  key = key_at kind.Health report.revision;
  expect = expect_of old;
  guarded = false;
  change = Put (health_of report.revision revision.meta.stamp.uid report.resources report.container old);
}

-- a report on the Revision that stands under the name; where none stands, nothing is answered and nothing changes
abbrev pub report_on : Plane → Report → Option Object → Event (Option Applied)
report_on w report None = record { plane = w; answer = None }
report_on w report (Some revision) =
    let write = present_write w Reporter (report_plan report revision (lookups.find (key_at kind.Health report.revision) (present w))) in
    record { plane = after_write w write; answer = Some (answer_of w write) }

unfoldable pub report_of : Plane → Report → Event (Option Applied)
report_of w report = report_on w report (standing kind.Revision report.revision (present w))

-- ---- steps

-- what comes of a controller's write
abbrev pub outcome_of : Applied → StepOutcome
outcome_of (applied.Done version) = outcome.Wrote version
outcome_of (applied.Stale newer) = outcome.Stale newer
outcome_of (applied.Exists version) = outcome.Stale version
outcome_of (applied.Absent last) = outcome.Stale last
outcome_of (applied.Same version) = outcome.Nothing

-- the plan of a look: what was to be done in the state that it saw, at its moment
abbrev pub plan_of : Plane → Look → Option ObjectPlan
plan_of w look = next_write w.settings look.key (state_at w.journal look.seen) look.read_at

-- the slot becomes idle
abbrev pub drops : Plane → SlotKey → StepOutcome → Event StepOutcome
drops w key answer = record { plane = record w { slots = idle_at key w.slots }; answer = answer }

-- an idle slot looks
abbrev pub looks : Plane → SlotKey → Event StepOutcome
looks w key = record {
  plane = record w { slots = held (record { key = key; planned = false; seen = length w.journal; read_at = w.now }) w.slots };
  answer = outcome.Looked (length w.journal);
}

-- one that has looked plans
abbrev pub plans : Plane → Look → Option ObjectPlan → Event StepOutcome
plans w look None = drops w look.key outcome.Nothing
plans w look (Some plan) = record { plane = record w { slots = held (record look { planned = true }) w.slots }; answer = outcome.Planned }

-- one that has planned writes that same plan
abbrev pub writes : Plane → Look → Option ObjectPlan → Event StepOutcome
writes w look None = drops w look.key outcome.Nothing
writes w look (Some plan) =
    let write = write_of w (Controller look.key) look.seen look.read_at plan in
    record { plane = record (after_write w write) { slots = idle_at look.key w.slots }; answer = outcome_of (answer_of w write) }

-- a step of a slot, by what it holds
abbrev pub goes_on : Plane → SlotKey → Option Look → Event StepOutcome
goes_on w key None = looks w key
goes_on w key (Some look) = cond look.planned (writes w look (plan_of w look)) (plans w look (plan_of w look))

-- a step on a key; where it is no key, its slot becomes idle
unfoldable pub step_of : Plane → SlotKey → Event StepOutcome
step_of w key = cond (is_key key (present w)) (goes_on w key (look_of key w.slots)) (drops w key outcome.Unknown)

-- ---- the cursor

-- whether the key comes after the one that was stepped last
abbrev pub is_after : Option SlotKey → SlotKey → Bool
is_after None key = true
is_after (Some last) key = is_lt (slot_order.ghosts.cmp last key)

-- the first of these, if there is one
abbrev pub first_of : List SlotKey → Option SlotKey
first_of [] = None
first_of (k ∷ ks) = Some k

-- the key after the one that was stepped last; the first one follows the last one
unfoldable pub next_key : Option SlotKey → List SlotKey → Option SlotKey
next_key cursor keys = option_or (find (is_after cursor) keys) (first_of keys)

-- whether the cursor stays at the key: it is one, and its slot isn't idle
abbrev pub stays : Plane → SlotKey → Bool
stays w key = is_key key (present w) && is_given (λ look. true) (look_of key w.slots)

-- the key that is stepped
abbrev pub picked : Plane → Option SlotKey → Option SlotKey
picked w None = next_key None (all_keys (present w))
picked w (Some last) = cond (stays w last) (Some last) (next_key (Some last) (all_keys (present w)))

abbrev pub step_picked : Plane → Option SlotKey → Event StepOutcome
step_picked w None = record { plane = w; answer = outcome.Empty }
step_picked w (Some key) = step_of (record w { cursor = Some key }) key

-- a step of the cursor
unfoldable pub cursor_step_of : Plane → Event StepOutcome
cursor_step_of w = step_picked w (picked w w.cursor)

-- so many steps of the cursor; where there are no keys, they change nothing
unfoldable pub automatic_steps : ℕ → Plane → Plane
automatic_steps zero w = w
automatic_steps (suc n) w = automatic_steps n (cursor_step_of w).plane
