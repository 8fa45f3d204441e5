-- What a call's answer and its plane say of the event.
use Rattle.std.proofs.Common.{◌≡◌, ℕ, ◌<◌, Bool, true, false, Result, Ok, Err, refl, sym, ap, subst, ◌∙◌, arith}
use Rattle.std.specs.Prelude.{nat_le, IfOk, OnErr, if◌then◌else◌}
use Rattle.std.proofs.lemmas.Bool.Decides.{nat_tests}
use Rattle.http_session.specs.declared.message.Reply.{Reply}
use Rattle.manifest_intake.specs.Good.{is_good}
use Rattle.control_rules.specs.Slots.{Plane}
use Rattle.control_rules.specs.Steps.{Event}
use Rattle.control_rules.specs.Events.{Leads, Stands}
use Rattle.step_scheduler.specs.Planes.{Is}
use Rattle.control_calls.specs.declared.refusal.ControlRefusal.TheVariants.{ClockBack}
use Rattle.control_calls.specs.Refusals.{refused}
use Rattle.control_calls.specs.Texts.{success, clock_text}
use Rattle.control_calls.specs.Calls.{refuses, sets_clock}

-- a call that made the event, or changed nothing, made events alone
pub event_leads : {E : Type 0} (e : Event Reply) (w v : Plane) (result : Result Reply E) → Leads is_good w e.plane → IfOk result (Is e v) → OnErr result (v ≡ w)
    → Leads is_good w v
event_leads e w v (Ok reply) leads ok err = subst (λ (x : Plane). Leads is_good w x) (sym ok.plane_is) leads
event_leads e w v (Err error) leads ok err = subst (λ (x : Plane). Leads is_good w x) (sym err) Stands

-- a clock that stands later isn't set
stands_later : (w : Plane) (m : ℕ) → m < w.now → sets_clock w m ≡ refuses w (ClockBack w.now)
stands_later w m lt =
    let later : nat_le w.now m ≡ false = grind (arith, nat_tests) in
    ap (λ (b : Bool). if b then record { plane = record w { now = m }; answer = success (clock_text m) } else refuses w (ClockBack w.now)) later

-- the refusal of a clock that stands later
pub clock_back : {E : Type 0} (w v : Plane) (m now : ℕ) (result : Result Reply E) → m < w.now → v ≡ w → now ≡ w.now
    → IfOk result (λ (r : Reply). r ≡ refused (ClockBack now)) → IfOk result (Is (sets_clock w m) v)
clock_back w v m now (Ok reply) lt same stands value =
    subst (λ (e : Event Reply). Is e v reply) (sym (stands_later w m lt)) (record { plane_is = same; answer_is = value ∙ ap (λ (n : ℕ). refused (ClockBack n)) stands })
clock_back w v m now (Err error) lt same stands value = tt
