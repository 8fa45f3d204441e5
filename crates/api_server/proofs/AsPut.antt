-- A patch that isn't refused has the reply and the write of the replacement that its result makes.
use Rattle.std.proofs.Common.{◌≡◌, ℕ, List, Option, Some, Result, Ok, sym, ap, subst, ◌∙◌}
use Rattle.json_tree.specs.declared.value.Json.{Json}
use Rattle.http_session.specs.declared.message.Request.{Request}
use Rattle.http_session.specs.declared.message.Reply.{Reply}
use Rattle.resource_types.specs.declared.names.ClientKind.{ClientKind}
use Rattle.control_rules.specs.Slots.{Plane}
use Rattle.api_paths.specs.declared.calls.PathError.{PathError}
use Rattle.api_paths.specs.Paths.{Call, patch, replace}
use Rattle.manifest_intake.specs.Bodies.{IsBody}
use Rattle.manifest_intake.proofs.Bodies.{one_body}
use Rattle.api_outcomes.specs.declared.outcome.Outcome.{Outcome}
use Rattle.api_outcomes.specs.Outcomes.{outcome_of}
use Rattle.api_calls.specs.Agreement.{version_text}
use Rattle.api_calls.specs.Calls.{patching, patched_document}
use Rattle.api_calls.specs.Versioned.{versioned, IsPutOf}
use Rattle.api_calls.proofs.Versioned.{patch_is_put}
use Rattle.api_server.specs.Calls.{Due, by_body, of_body, AnswersDue, AnswersClient}
use Rattle.api_server.specs.Ask.{AnswersRoute, Answers, Makes, IsAsPut, PatchesAsPut}

-- the outcome of a patch with this body that comes to `made`
its_outcome : (w : Plane) (kind : ClientKind) (space name : List ℕ) (bytes : List ℕ) (document : Json) (made outcome : Outcome)
    → IsBody bytes (Some document) → patching w.journal w.now kind space name document ≡ Ok made
    → AnswersDue bytes (by_body (patching w.journal w.now kind space name)) outcome → outcome ≡ made
its_outcome w kind space name bytes document made outcome is h (b, other, e) =
    e ∙ ap (λ (x : Option Json). outcome_of (of_body x (patching w.journal w.now kind space name))) (one_body bytes b (Some document) other is) ∙ ap outcome_of h

as_put : (w : Plane) (kind : ClientKind) (space name : List ℕ) (document : Json) (made : Outcome) (bytes : List ℕ) (due : Due) (reply : Reply) (v : Plane)
    → (a : AnswersClient w bytes due reply v) → a.outcome ≡ made → IsPutOf w.journal w.now kind space name document made → IsAsPut w kind space name document reply v
unfolding Answers
as_put w kind space name document made bytes due reply v a same put = record {
  old = put.old;
  stands = put.stands;
  put = λ other makes is.
      subst (λ (route : Result Call PathError). AnswersRoute w other.body route reply v) (sym makes)
      (record { outcome = a.outcome; answers = (Some (versioned (version_text put.old) (patched_document put.old document)), is, same ∙ sym (ap outcome_of put.put)); replies = a.replies; written = a.written });
}

-- the answer to a request that is a patch
pub patches_as_replaced : (w : Plane) (request : Request) (reply : Reply) (v : Plane) → Answers w request reply v → PatchesAsPut w request reply v
unfolding Answers
patches_as_replaced w request reply v answers kind space name document made makes is h =
    let here = subst (λ (route : Result Call PathError). AnswersRoute w request.body route reply v) makes answers in
    as_put w kind space name document made request.body (by_body (patching w.journal w.now kind space name)) reply v here
    (its_outcome w kind space name request.body document made here.outcome is h here.answers) (patch_is_put w.journal w.now kind space name document made h)
