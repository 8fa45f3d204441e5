-- The replies.
use Rattle.std.specs.Prelude.{ℕ, codes}
use Rattle.serde_json.specs.Data.{Data}
use Rattle.serde_json.specs.Written.{compact_text}
use Rattle.json_tree.specs.Tree.{data_of}
use Rattle.http_session.specs.declared.message.Reply.{Reply}
use Rattle.http_session.specs.declared.message.Allow.{Allow}
use Rattle.http_session.specs.declared.message.Allow.TheVariants as allow
use Rattle.resource_types.specs.declared.objects.Object.{Object}
use Rattle.resource_codec.specs.Objects.{encoded}
use Rattle.api_status.specs.Status.{failure, success}
use Rattle.api_paths.specs.declared.calls.PathError.{PathError}
use Rattle.api_paths.specs.declared.calls.PathError.TheVariants as path
use Rattle.api_outcomes.specs.declared.refusal.Refusal.{Refusal}
use Rattle.api_outcomes.specs.declared.refusal.Refusal.TheVariants.{NoSuchPath}
use Rattle.api_outcomes.specs.Refusals.{code_of, reason_of, message_of}

-- a reply whose body is the compact text of a value
abbrev pub reply_with : ℕ → Allow → Data → Reply
reply_with code methods body = record { code = code; allow = methods; body = compact_text body }

-- the same, where no methods are named
abbrev pub reply_of : ℕ → Data → Reply
reply_of code body = reply_with code allow.None body

-- an object is shown
abbrev pub shown : ℕ → Object → Reply
shown code o = reply_of code (data_of (encoded o))

-- an object was removed
abbrev pub removed : Reply
removed = reply_of 200 success

-- a call is refused
abbrev pub refused : Refusal → Reply
refused refusal = reply_of (code_of refusal) (failure (code_of refusal) (reason_of refusal) (message_of refusal))

-- a method and a target make no call
abbrev pub path_refused : PathError → Reply
path_refused path.NoSuchPath = refused NoSuchPath
path_refused (path.NoSuchMethod methods) = reply_with 405 methods (failure 405 (codes "MethodNotAllowed") (codes "no such method on this path"))
path_refused path.BadQuery = reply_of 400 (failure 400 (codes "BadRequest") (codes "bad query"))
