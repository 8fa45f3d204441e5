-- What a request gets, and what it changes.
use Rattle.std.specs.Prelude.{◌≡◌, ℕ, ◌≤◌, ◌⊎◌, max, List, [], ◌∷◌, ◌++◌, length, Option, Some, None, Result, Ok, Err}
use Rattle.json_tree.specs.declared.value.Json.{Json}
use Rattle.http_session.specs.declared.message.Request.{Request}
use Rattle.http_session.specs.declared.message.Reply.{Reply}
use Rattle.resource_types.specs.declared.names.ClientKind.{ClientKind}
use Rattle.resource_types.specs.declared.objects.Object.{Object}
use Rattle.resource_types.specs.Manifests.{object_kind}
use Rattle.manifest_intake.specs.Bodies.{IsBody}
use Rattle.manifest_intake.specs.Good.{is_good}
use Rattle.control_rules.specs.Slots.{Plane}
use Rattle.control_rules.specs.Steps.{automatic_steps}
use Rattle.control_rules.specs.Events.{Works}
use Rattle.control_rules.specs.Facts.{IsKept}
use Rattle.step_scheduler.specs.Planes.{IsSafeThroughout, RemovesUnusedAlone}
use Rattle.api_paths.specs.declared.calls.PathError.{PathError}
use Rattle.api_paths.specs.Paths as paths
use Rattle.api_paths.specs.Route.{call_of}
use Rattle.api_outcomes.specs.declared.outcome.Outcome.{Outcome}
use Rattle.api_outcomes.specs.Replies.{path_refused}
use Rattle.api_puts.specs.Puts.{standing}
use Rattle.api_calls.specs.Agreement.{version_text}
use Rattle.api_calls.specs.Calls.{patching, patched_document}
use Rattle.api_calls.specs.Versioned.{versioned}
use Rattle.api_server.specs.declared.mark.Mark.{Mark}
use Rattle.api_server.specs.Calls.{AnswersCall, AnswersOnly}

-- a world: its plane, how many automatic steps follow a request, and a mark for each request that was answered
pub record WorldView : Type 0 where
  pub plane : Plane
  pub auto : ℕ
  pub marks : List Mark

-- ---- the reply, and the plane behind it

-- what a method and a target come to: a call, or a fault of the path, which changes nothing
abbrev pub AnswersRoute : Plane → List ℕ → Result paths.Call PathError → Reply → Plane → Type 0
AnswersRoute w bytes (Err fault) reply v = AnswersOnly w (path_refused fault) reply v
AnswersRoute w bytes (Ok call) reply v = AnswersCall w bytes call reply v

-- the reply to a request over a plane, and the plane behind it
unfoldable pub Answers : Plane → Request → Reply → Plane → Type 0
Answers w request reply v = AnswersRoute w request.body (call_of request.method request.target) reply v

-- the request makes the call
abbrev pub Makes : Request → paths.Call → Type 0
Makes request call = call_of request.method request.target ≡ Ok call

-- ---- a patch is a replacement

-- The reply and the plane behind it are those of each replacement of the same object whose body is a text of what the patch makes of the document that
-- stands, with the version that stands.
pub record IsAsPut (w : Plane) (kind : ClientKind) (space name : List ℕ) (patch : Json) (reply : Reply) (v : Plane) : Type 0 where
  pub old : Object
  pub stands : standing w.journal (object_kind kind) space name ≡ Some old
  pub put : (other : Request) → Makes other (paths.replace kind space name)
      → IsBody other.body (Some (versioned (version_text old) (patched_document old patch))) → Answers w other reply v

-- where the request is a patch that isn't refused, it comes to what such a replacement comes to, over the same plane
abbrev pub PatchesAsPut : Plane → Request → Reply → Plane → Type 0
PatchesAsPut w request reply v =
    (kind : ClientKind) (space name : List ℕ) (patch : Json) (made : Outcome) → Makes request (paths.patch kind space name)
    → IsBody request.body (Some patch) → patching w.journal w.now kind space name patch ≡ Ok made → IsAsPut w kind space name patch reply v

-- ---- a request

-- the moment, which never falls
abbrev pub later : ℕ → Option ℕ → ℕ
later moment None = moment
later moment (Some now) = max moment now

-- the plane at the moment of a request
abbrev pub at_moment : Plane → Option ℕ → Plane
at_moment w now = record w { now = later w.now now }

-- what a request found: the journal's length and the moment
abbrev pub mark_at : Plane → Mark
mark_at w = record { position = length w.journal; moment = w.now }

-- A request: its reply and the plane behind it are those over the plane at its mark, and the plane and the request give no other; a patch that isn't
-- refused has those of the replacement that its result makes. Its mark is added. The plane is then kept, its journal safe at every position, and
-- what was removed wasn't used.
pub record Asks (old : WorldView) (now : Option ℕ) (request : Request) (reply : Reply) (new : WorldView) : Type 0 where
  pub answers : Answers (at_moment old.plane now) request reply new.plane
  pub only : (other : Reply) (v : Plane) → Answers (at_moment old.plane now) request other v → (other ≡ reply) × (v ≡ new.plane)
  pub as_put : PatchesAsPut (at_moment old.plane now) request reply new.plane
  pub marked : new.marks ≡ old.marks ++ mark_at (at_moment old.plane now) ∷ []
  pub auto : new.auto ≡ old.auto
  pub kept : IsKept is_good new.plane
  pub safe : IsSafeThroughout new.plane.journal
  pub unused : RemovesUnusedAlone new.plane.journal

-- what is left of a request's plane where memory ran out: it is as before, or the request is a settle, of which some steps were made, each whole
abbrev pub IsCutShort : Plane → Request → Plane → Type 0
IsCutShort w request v = (v ≡ w) ⊎ (Makes request paths.settle × Works w v)

-- after a want of memory the clock may have moved; else the world is as before, but for the steps of a settle
pub record AskCut (old : WorldView) (now : Option ℕ) (request : Request) (new : WorldView) : Type 0 where
  pub plane : IsCutShort (at_moment old.plane now) request new.plane
  pub marks : new.marks ≡ old.marks
  pub auto : new.auto ≡ old.auto

-- ---- behind a reply

-- so many automatic steps are made; all else stays
abbrev pub stepped : WorldView → ℕ → WorldView
stepped w steps = record w { plane = automatic_steps steps w.plane }

-- behind a reply the world makes its automatic steps
abbrev pub After : WorldView → WorldView → Type 0
After old new = new ≡ stepped old old.auto

-- where memory ran out, some of them
abbrev pub AfterCut : WorldView → WorldView → Type 0
AfterCut old new = (steps : ℕ) × (steps ≤ old.auto) × (new ≡ stepped old steps)
