-- What each kind of step comes to: the step of the rules, and a plane that keeps what planes keep.
use Rattle.std.proofs.Common.{◌≡◌, ℕ, Bool, true, false, cond, List, length, Option, Some, None, refl, sym, ap, subst, ◌∙◌}
use Rattle.std.specs.Prelude.{map}
use Rattle.std.specs.Option.{option_map, IfSome}
use Rattle.std.specs.Ordering.{is_eq}
use Rattle.version_store.specs.State.{Grows}
use Rattle.version_store.proofs.Keyed.{find-put, find-without}
use Rattle.version_store.proofs.Standing.{find_key}
use Rattle.version_store.proofs.Growth.{state_at-grows, state_at-all, grows_after}
use Rattle.resource_types.specs.declared.names.SlotKey.{SlotKey}
use Rattle.resource_types.specs.declared.objects.Object.{Object}
use Rattle.resource_types.specs.contracts.names.KeyOrd.TheImpl as key_order
use Rattle.resource_types.specs.contracts.names.SlotKeyOrd.TheImpl as slot_order
use Rattle.resource_types.specs.contracts.names.SlotKeyOrd.TheImpl.Laws as slot_laws
use Rattle.resource_types.specs.contracts.item.ObjectItem.TheImpl as object_item
use Rattle.resource_types.specs.Lookups.{Journal}
use Rattle.resource_types.proofs.Exact.{slot-exact}
use Rattle.manifest_intake.specs.Good.{is_good}
use Rattle.control_rules.specs.declared.settings.Settings.{Settings}
use Rattle.control_rules.specs.declared.slots.StepOutcome.{StepOutcome}
use Rattle.control_rules.specs.declared.slots.StepOutcome.TheVariants as outcome
use Rattle.control_rules.specs.Differences.{ObjectPlan}
use Rattle.control_rules.specs.Next.{next_write}
use Rattle.control_rules.specs.Slots.{is_key, state_at, entries_in, Slots, look_of, held, idle_at, Plane, present}
use Rattle.control_rules.specs.Steps.{plan_of, Event, drops, looks, plans, writes, goes_on, step_of}
use Rattle.control_rules.specs.Facts.{IsKept}
use Rattle.control_rules.proofs.KeptPlanes.{drops_kept}
use Rattle.control_rules.proofs.RoundJournal.{step_looks, step_goes}
use Rattle.control_rules.proofs.Makeable.{write_makeable}
use Rattle.control_entries.proofs.KeptSteps.{step_kept}
use Rattle.step_scheduler.specs.declared.held.Held.{Held}
use Rattle.step_scheduler.specs.declared.held.Held.TheVariants as held_by
use Rattle.step_scheduler.specs.declared.held.Stage.TheVariants as stage
use Rattle.step_scheduler.specs.Rows.{Row, row_of, with_row, without_row, is_plan, look_in, meaning, stage_by, stage_of}
use Rattle.step_scheduler.specs.Works.{HoldsLook, IsPlannedAt, write_in, Writes}
use Rattle.step_scheduler.specs.Planes.{PlaneView, plane_of, AreMeant, AreSlots, Steps, Stays}
use Rattle.step_scheduler.proofs.Rows.{look-found, look-held, look-idle}

-- ---- stages

pub idle_stage : (o : Option Row) → stage.Idle ≡ stage_of o → o ≡ None
idle_stage None e = refl
idle_stage (Some row) e = absurd (held_not row.held e)
  where
    held_not : (h : Held) → stage.Idle ≡ stage_by h → ⊥
    held_not (held_by.View view) e = cc
    held_not (held_by.Plan plan) e = cc

-- the slot has looked, and its view means this
pub record HasLooked (o : Option Row) (plan : Option ObjectPlan) : Type 0 where
  pub row : Row
  pub found : o ≡ Some row
  pub planned : is_plan row.held ≡ false
  pub meant : meaning row.held ≡ plan

pub looked_stage : (o : Option Row) (plan : Option ObjectPlan) → stage.Looked plan ≡ stage_of o → HasLooked o plan
looked_stage None plan e = absurd cc
looked_stage (Some row) plan e = record { row = row; found = refl; planned = not_plan row.held e; meant = meant row.held e }
  where
    not_plan : (h : Held) → stage.Looked plan ≡ stage_by h → is_plan h ≡ false
    not_plan (held_by.View view) e = refl
    not_plan (held_by.Plan plan) e = absurd cc

    meant : (h : Held) → stage.Looked plan ≡ stage_by h → meaning h ≡ plan
    meant (held_by.View view) e = cc
    meant (held_by.Plan plan) e = absurd cc

-- the slot has planned this
pub record HasPlanned (o : Option Row) : Type 0 where
  pub row : Row
  pub plan : ObjectPlan
  pub found : o ≡ Some row
  pub planned : row.held ≡ held_by.Plan plan

pub planned_stage : (o : Option Row) → stage.Planned ≡ stage_of o → HasPlanned o
planned_stage None e = absurd cc
planned_stage (Some row) e = go row.held refl e
  where
    go : (h : Held) → row.held ≡ h → stage.Planned ≡ stage_by h → HasPlanned (Some row)
    go (held_by.View view) is e = absurd cc
    go (held_by.Plan plan) is e = record { row = row; plan = plan; found = refl; planned = is }

-- ---- steps

module _ (settings : Settings) where
  -- a plane after the event keeps what planes keep
  pub record Becomes (w : Plane) (key : SlotKey) (journal : Journal) (now : ℕ) (rows : List Row) (cursor : Option SlotKey) (answer : StepOutcome) : Type 0 where
    pub event : Steps w key (plane_of settings journal now rows cursor) answer
    pub plane : AreSlots settings journal now rows cursor

  module _ (journal : Journal) (now : ℕ) (rows : List Row) (cursor : Option SlotKey) (key : SlotKey)
      (k : AreSlots settings journal now rows cursor) where
    abbrev w : Plane
    w = plane_of settings journal now rows cursor

    -- the row that is found has the key
    found_key : (row : Row) → row_of key rows ≡ Some row → row.key ≡ key
    found_key row e = slot-exact row.key key (find_key (λ (r : Row). r.key) slot_order.ghosts.cmp slot_laws.total-law key rows row e)

    look_is : (row : Row) → row_of key rows ≡ Some row → look_of key w.slots ≡ Some (look_in row)
    look_is row e = look-found key rows ∙ ap (option_map look_in) e

    -- what the slots that stay idle or as they are hold means the same
    meant_without : AreMeant w (without_row key rows)
    meant_without q row e = go (is_eq (slot_order.ghosts.cmp key q)) (sym (find-without (λ (r : Row). r.key) slot_order.ghosts.cmp slot_laws.total-law q key rows) ∙ e)
      where
        go : (b : Bool) → cond b None (row_of q rows) ≡ Some row → meaning row.held ≡ plan_of w (look_in row)
        go true e = absurd cc
        go false e = k.meant q row e

    meant_with : (new : Row) → meaning new.held ≡ plan_of w (look_in new) → AreMeant w (with_row new rows)
    meant_with new is q row e = go (is_eq (slot_order.ghosts.cmp new.key q)) (sym (find-put (λ (r : Row). r.key) slot_order.ghosts.cmp slot_laws.total-law q new rows) ∙ e)
      where
        go : (b : Bool) → cond b (Some new) (row_of q rows) ≡ Some row → meaning row.held ≡ plan_of w (look_in row)
        go true e = subst (λ r. meaning r.held ≡ plan_of w (look_in r)) (same e) is
          where
            same : Some new ≡ Some row → new ≡ row
            same s = cc
        go false e = k.meant q row e

    -- what a plane becomes, where the rules' step and the plane's agree
    finish : (E : Event StepOutcome) (journal' : Journal) (rows' : List Row) (answer : StepOutcome) → step_of w key ≡ E → plane_of settings journal' now rows' cursor ≡ E.plane → answer ≡ E.answer
        → AreMeant (plane_of settings journal' now rows' cursor) rows' → Becomes w key journal' now rows' cursor answer
    finish E journal' rows' answer step plane same meant =
        let is : plane_of settings journal' now rows' cursor ≡ (step_of w key).plane = plane ∙ ap (λ e. e.plane) (sym step) in
        record {
          event = record { event = record { plane_is = is; answer_is = same ∙ ap (λ e. e.answer) (sym step) }; kept = k.kept };
          plane = record { kept = subst (IsKept is_good) (sym is) (step_kept is_good w key k.kept); meant = meant };
        }

    -- other slots, which the rules have too
    with_slots : (rows' : List Row) (slots : Slots) → map look_in rows' ≡ slots → plane_of settings journal now rows' cursor ≡ record w { slots = slots }
    with_slots rows' slots e = ap (λ (s : Slots). record w { slots = s }) e

    -- the name is none of the controller's
    pub steps_off : is_key key (present w) ≡ false → (rows' : List Row) → rows' ≡ without_row key rows → Becomes w key journal now rows' cursor outcome.Unknown
    unfolding step_of
    steps_off off rows' e =
        finish (drops w key outcome.Unknown) journal rows' outcome.Unknown (ap (λ b. cond b (goes_on w key (look_of key w.slots)) (drops w key outcome.Unknown)) off)
        (with_slots rows' (idle_at key w.slots) (ap (map look_in) e ∙ look-idle key rows)) refl (subst (AreMeant w) (sym e) meant_without)

    module _ (known : is_key key (present w) ≡ true) where
      -- an idle slot looks
      pub steps_look : row_of key rows ≡ None → (rows' : List Row) (seen : ℕ) → HoldsLook settings journal now key rows rows' seen → Becomes w key journal now rows' cursor (outcome.Looked seen)
      steps_look none rows' seen h =
          let new : Row = record { key = key; seen = length journal; read_at = now; held = held_by.View h.view } in
          let due_now = ap (λ st. next_write settings key st now) (state_at-all (λ (o : Object). o.key) key_order.ghosts.cmp journal) in
          finish (looks w key) journal rows' (outcome.Looked seen) (step_looks w key known (look-found key rows ∙ ap (option_map look_in) none))
          (with_slots rows' (held (look_in new) w.slots) (ap (map look_in) h.rows ∙ look-held new rows)) (ap outcome.Looked h.count)
          (subst (AreMeant w) (sym h.rows) (meant_with new (h.due ∙ sym due_now)))

      -- one that has looked goes on by its plan
      goes_by : (row : Row) (plan : Option ObjectPlan) → row_of key rows ≡ Some row → is_plan row.held ≡ false → meaning row.held ≡ plan → step_of w key ≡ plans w (look_in row) plan
      goes_by row plan found planned meant =
          step_goes w key (look_in row) known (look_is row found)
          ∙ ap (λ b. cond b (writes w (look_in row) (plan_of w (look_in row))) (plans w (look_in row) (plan_of w (look_in row)))) planned
          ∙ ap (plans w (look_in row)) (sym (k.meant key row found) ∙ meant)

      -- there is nothing to write
      pub steps_nothing : HasLooked (row_of key rows) None → (rows' : List Row) → rows' ≡ without_row key rows → Becomes w key journal now rows' cursor outcome.Nothing
      steps_nothing h rows' e =
          finish (drops w key outcome.Nothing) journal rows' outcome.Nothing (goes_by h.row None h.found h.planned h.meant ∙ ap (λ q. drops w q outcome.Nothing) (found_key h.row h.found))
          (with_slots rows' (idle_at key w.slots) (ap (map look_in) e ∙ look-idle key rows)) refl (subst (AreMeant w) (sym e) meant_without)

      -- a plan takes the view's place
      pub steps_plan : (plan : ObjectPlan) → HasLooked (row_of key rows) (Some plan) → (rows' : List Row) → IfSome (row_of key rows) (λ row. rows' ≡ with_row (record row { held = held_by.Plan plan }) rows)
          → Becomes w key journal now rows' cursor outcome.Planned
      steps_plan plan h rows' e =
          let new : Row = record h.row { held = held_by.Plan plan } in
          let is : rows' ≡ with_row new rows = subst (λ o. IfSome o (λ row. rows' ≡ with_row (record row { held = held_by.Plan plan }) rows)) h.found e in
          finish (plans w (look_in h.row) (Some plan)) journal rows' outcome.Planned (goes_by h.row (Some plan) h.found h.planned h.meant)
          (with_slots rows' (held (look_in new) w.slots) (ap (map look_in) is ∙ look-held new rows)) refl
          (subst (AreMeant w) (sym is) (meant_with new (sym h.meant ∙ k.meant key h.row h.found)))

      -- what a slot has planned is due, and can be made
      due_plan : (h : HasPlanned (row_of key rows)) → plan_of w (look_in h.row) ≡ Some h.plan
      due_plan h = sym (k.meant key h.row h.found) ∙ ap (meaning) h.planned

      pub planned_at : HasPlanned (row_of key rows) → IsPlannedAt key rows
      planned_at h = record {
        row = h.row;
        plan = h.plan;
        found = h.found;
        planned = h.planned;
        makeable = write_makeable settings h.row.key (state_at journal h.row.seen) h.row.read_at h.plan (due_plan h);
      }

      still : (q : SlotKey) (row : Row) → row_of q (without_row key rows) ≡ Some row → row_of q rows ≡ Some row
      still q row e = go (is_eq (slot_order.ghosts.cmp key q)) (sym (find-without (λ (r : Row). r.key) slot_order.ghosts.cmp slot_laws.total-law q key rows) ∙ e)
        where
          go : (b : Bool) → cond b None (row_of q rows) ≡ Some row → row_of q rows ≡ Some row
          go true e = absurd cc
          go false e = e

      -- what slots hold means the same in a journal that grew
      meant_grown : (journal' : Journal) → Grows journal journal' → (rows' : List Row) → AreMeant (plane_of settings journal' now rows' cursor) (without_row key rows)
      meant_grown journal' grows rows' q row e =
          let found = still q row e in
          let seen = k.kept.slots q (look_in row) (look-found q rows ∙ ap (option_map look_in) found) in
          k.meant q row found
          ∙ sym (ap (λ st. next_write settings row.key st row.read_at) (state_at-grows (λ (o : Object). o.key) key_order.ghosts.cmp journal journal' row.seen grows seen.before))

      -- the journal grows, if at all
      pub steps_grow : (h : HasPlanned (row_of key rows)) → (journal' : Journal) (rows' : List Row) (answer : StepOutcome) → Writes journal journal' now key rows rows' answer → Grows journal journal'
      steps_grow h journal' rows' answer e =
          subst (Grows journal) (sym (e.written h.row h.plan h.found h.planned)) (grows_after object_item.ghosts key_order.ghosts.cmp journal (write_in now h.row h.plan))

      -- the plan is written
      pub steps_write : HasPlanned (row_of key rows) → (journal' : Journal) (rows' : List Row) (answer : StepOutcome) → Writes journal journal' now key rows rows' answer → Becomes w key journal' now rows' cursor answer
      steps_write h journal' rows' answer e =
          let row = h.row in
          let write = write_in now row h.plan in
          let written = e.written row h.plan h.found h.planned in
          let step : step_of w key ≡ writes w (look_in row) (Some h.plan) =
          step_goes w key (look_in row) known (look_is row h.found)
          ∙ ap (λ b. cond b (writes w (look_in row) (plan_of w (look_in row))) (plans w (look_in row) (plan_of w (look_in row)))) (ap is_plan h.planned)
          ∙ ap (writes w (look_in row)) (due_plan h) in
          let idled : map look_in rows' ≡ idle_at row.key w.slots = ap (map look_in) e.rows ∙ look-idle key rows ∙ ap (λ q. idle_at q w.slots) (sym (found_key row h.found)) in
          let plane : plane_of settings journal' now rows' cursor ≡ (writes w (look_in row) (Some h.plan)).plane =
          ap (λ (j : Journal). record w { journal = j; slots = map look_in rows' }) written
          ∙ ap (λ (s : Slots). record w { journal = entries_in journal write; slots = s }) idled in
          finish (writes w (look_in row) (Some h.plan)) journal' rows' answer step plane (e.answered row h.plan h.found h.planned)
          (subst (AreMeant (plane_of settings journal' now rows' cursor)) (sym e.rows) (meant_grown journal' (steps_grow h journal' rows' answer e) rows'))

-- ---- from the parts of a plane to the plane

-- an event of a plane is one of the plane by another name
pub at_view : (key : SlotKey) (u v : PlaneView) (plane : Plane) (answer : StepOutcome) → u ≡ v → Steps u.plane key plane answer → Steps v.plane key plane answer
at_view key u v plane answer e = subst (λ z. Steps z.plane key plane answer) e

-- nothing changes
pub stays_same : (u v : PlaneView) → u ≡ v → IsKept is_good u.plane → Stays v.plane v.plane
stays_same u v e kept = subst (λ z. Stays z.plane z.plane) e (record { same = refl; kept = kept })

-- an idled slot, and a slot that is found
module _ (settings : Settings) (journal : Journal) (now : ℕ) (rows : List Row) (cursor : Option SlotKey) (key : SlotKey)
    (k : AreSlots settings journal now rows cursor) where
  idled_meant : AreMeant (plane_of settings journal now rows cursor) (without_row key rows)
  idled_meant q row e = go (is_eq (slot_order.ghosts.cmp key q)) (sym (find-without (λ (r : Row). r.key) slot_order.ghosts.cmp slot_laws.total-law q key rows) ∙ e)
    where
      go : (b : Bool) → cond b None (row_of q rows) ≡ Some row → meaning row.held ≡ plan_of (plane_of settings journal now rows cursor) (look_in row)
      go true e = absurd cc
      go false e = k.meant q row e

  pub idled_is : (rows' : List Row) → rows' ≡ without_row key rows → plane_of settings journal now rows' cursor ≡ record (plane_of settings journal now rows cursor) { slots = idle_at key (map look_in rows) }
  idled_is rows' e = ap (λ (s : Slots). record (plane_of settings journal now rows cursor) { slots = s }) (ap (map look_in) e ∙ look-idle key rows)

  pub idled : (rows' : List Row) → rows' ≡ without_row key rows → AreSlots settings journal now rows' cursor
  idled rows' e = record {
    kept = subst (IsKept is_good) (sym (idled_is rows' e)) (drops_kept is_good (plane_of settings journal now rows cursor) key k.kept);
    meant = subst (AreMeant (plane_of settings journal now rows cursor)) (sym e) idled_meant;
  }
