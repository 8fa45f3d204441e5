-- What is answered over the plane at a request's moment is what the request asks of a world.
use Rattle.std.proofs.Common.{◌≡◌, ℕ, List, Option, ◌++◌, ◌∷◌, [], refl, sym, ap, subst, ◌∙◌}
use Rattle.http_session.specs.declared.message.Request.{Request}
use Rattle.http_session.specs.declared.message.Reply.{Reply}
use Rattle.manifest_intake.specs.Good.{is_good}
use Rattle.control_rules.specs.Slots.{Plane}
use Rattle.control_rules.specs.Events.{Leads, Stands}
use Rattle.control_rules.specs.Facts.{IsKept}
use Rattle.control_entries.proofs.KeptEvents.{leads_kept}
use Rattle.step_scheduler.proofs.Promising.{kept_safe, kept_unused}
use Rattle.api_server.specs.declared.mark.Mark.{Mark}
use Rattle.api_server.proofs.Unique.{one_answer}
use Rattle.api_server.proofs.AsPut.{patches_as_replaced}
use Rattle.api_server.specs.Ask.{WorldView, Asks, Answers, at_moment, mark_at}

pub asks_of : (old new : WorldView) (now : Option ℕ) (request : Request) (reply : Reply) → Answers (at_moment old.plane now) request reply new.plane
    → IsKept is_good (at_moment old.plane now) → Leads is_good (at_moment old.plane now) new.plane
    → new.marks ≡ old.marks ++ mark_at (at_moment old.plane now) ∷ [] → new.auto ≡ old.auto → Asks old now request reply new
asks_of old new now request reply answers kept leads marked auto =
    let after = leads_kept is_good (at_moment old.plane now) new.plane kept leads in
    record {
      answers = answers;
      only = λ other v a. one_answer (at_moment old.plane now) request other reply v new.plane a answers;
      as_put = patches_as_replaced (at_moment old.plane now) request reply new.plane answers;
      marked = marked;
      auto = auto;
      kept = after;
      safe = kept_safe new.plane after;
      unused = kept_unused new.plane after;
    }

-- a plane that stayed
pub same_leads : (w v : Plane) → v ≡ w → Leads is_good w v
same_leads w v same = subst (λ (x : Plane). Leads is_good w x) (sym same) Stands

-- the same, where the world was moved to the moment first, and is seen by its parts
pub asks_from : (old moved seen new : WorldView) (now : Option ℕ) (request : Request) (reply : Reply) (mark : Mark)
    → moved ≡ record old { plane = at_moment old.plane now } → moved ≡ seen → mark ≡ mark_at moved.plane → IsKept is_good moved.plane
    → Answers seen.plane request reply new.plane → Leads is_good seen.plane new.plane → new.marks ≡ seen.marks ++ mark ∷ [] → new.auto ≡ seen.auto → Asks old now request reply new
asks_from old moved seen new now request reply mark is by noted kept answers leads marked auto =
    let whole : seen ≡ record old { plane = at_moment old.plane now } = sym by ∙ is in
    let plane = ap (λ (w : WorldView). w.plane) whole in
    let here : mark ≡ mark_at (at_moment old.plane now) = noted ∙ ap (λ (w : WorldView). mark_at w.plane) is in
    asks_of old new now request reply (subst (λ (w : Plane). Answers w request reply new.plane) plane answers)
    (subst (λ (w : WorldView). IsKept is_good w.plane) is kept) (subst (λ (w : Plane). Leads is_good w new.plane) plane leads)
    (marked ∙ ap (λ (w : WorldView). w.marks ++ mark ∷ []) whole ∙ ap (λ (m : Mark). old.marks ++ m ∷ []) here) (auto ∙ ap (λ (w : WorldView). w.auto) whole)
