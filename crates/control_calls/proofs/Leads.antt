-- Control calls are made of events of the rules.
use Rattle.std.proofs.Common.{◌≡◌, ℕ, ◌≤◌, Bool, true, false, Option, Some, None, Result, Ok, Err, refl, sym, subst, arith}
use Rattle.std.specs.Prelude.{nat_le, if◌then◌else◌}
use Rattle.std.proofs.lemmas.Bool.Decides.{nat_tests}
use Rattle.serve_names.specs.Moments.{last_moment}
use Rattle.resource_types.specs.declared.names.SlotKey.{SlotKey}
use Rattle.manifest_intake.specs.Good.{is_good}
use Rattle.control_rules.specs.declared.slots.Report.{Report}
use Rattle.control_rules.specs.Slots.{Plane}
use Rattle.control_rules.specs.Events.{Moves, Hears, Steps, Points, Drops, Leads, Stands, Goes, Works, Rests, ThenSteps, ThenPoints, ThenDrops}
use Rattle.control_bodies.specs.declared.fields.Field.{Field}
use Rattle.control_calls.specs.declared.refusal.ControlRefusal.TheVariants.{ClockBack}
use Rattle.control_calls.specs.Texts.{success, clock_text}
use Rattle.control_calls.specs.Calls.{refuses, saying, reports, sets_clock, steps}

-- what is left of turns where memory ran out is made of events
pub works_lead : (w v : Plane) → Works w v → Leads is_good w v
works_lead w v Rests = Stands
works_lead w v (ThenSteps {v = x} works key) = Goes (works_lead w x works) (Steps key)
works_lead w v (ThenPoints {v = x} works cursor) = Goes (works_lead w x works) (Points cursor)
works_lead w v (ThenDrops {v = x} works key) = Goes (works_lead w x works) (Drops key)

pub report_leads : (w : Plane) (read : Result Report Field) → Leads is_good w (saying w (reports w) read).plane
report_leads w (Ok report) = Goes Stands (Hears report)
report_leads w (Err field) = Stands

pub step_leads : (w : Plane) (read : Result SlotKey Field) → Leads is_good w (saying w (steps w) read).plane
step_leads w (Ok key) = Goes Stands (Steps key)
step_leads w (Err field) = Stands

set_leads : (w : Plane) (m : ℕ) → m ≤ last_moment → Leads is_good w (sets_clock w m).plane
set_leads w m range = go (nat_le w.now m) refl
  where
    go : (b : Bool) → nat_le w.now m ≡ b
        → Leads is_good w (if b then record { plane = record w { now = m }; answer = success (clock_text m) } else refuses w (ClockBack w.now)).plane
    go true e = Goes Stands (Moves m (grind (arith, nat_tests)) range)
    go false e = Stands

pub clock_leads : (w : Plane) (read : Result ℕ Field) → ((m : ℕ) → read ≡ Ok m → m ≤ last_moment) → Leads is_good w (saying w (sets_clock w) read).plane
clock_leads w (Ok m) range = set_leads w m (range m refl)
clock_leads w (Err field) range = Stands
