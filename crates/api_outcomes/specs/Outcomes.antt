-- What a request comes to: a reply and perhaps a write, or a reason to refuse it; that a call is out of memory is free.
use Rattle.std.specs.Prelude.{◌≡◌, ◌<◌, ◌-◌, ◌^◌, length, None, Result, Ok, Err}
use Rattle.std.specs.Option.{ForSome}
use Rattle.answers.specs.declared.stop.Stop.{Stop}
use Rattle.answers.specs.declared.stop.Stop.TheVariants.{Refused, Memory}
use Rattle.http_session.specs.declared.message.Reply.{Reply}
use Rattle.http_session.specs.Reply.{IsReply}
use Rattle.version_store.specs.declared.write.Plan.{Plan}
use Rattle.resource_types.specs.declared.names.Kind.{Kind}
use Rattle.resource_types.specs.declared.names.Key.{Key}
use Rattle.resource_types.specs.declared.names.Name.{Name}
use Rattle.resource_types.specs.declared.names.Actor.{Actor}
use Rattle.resource_types.specs.declared.objects.Object.{Object}
use Rattle.resource_types.specs.Lookups.{Journal, State, state}
use Rattle.resource_codec.specs.Storable.{AreStorable}
use Rattle.manifest_intake.specs.Good.{is_good}
use Rattle.control_rules.specs.Lawful.{MayPut, MayRemove, MayWrite}
use Rattle.api_outcomes.specs.declared.outcome.Outcome.{Outcome}
use Rattle.api_outcomes.specs.declared.refusal.Refusal.{Refusal}
use Rattle.api_outcomes.specs.Replies.{refused}

-- a plan of a client
abbrev pub ClientPlan : Type 0
ClientPlan = Plan Object Kind Key Name Actor

-- what a call comes to
abbrev pub Answer : Type 0
Answer = Result Outcome Refusal

-- a reply and no write
abbrev pub only : Reply → Outcome
only reply = record { reply = reply; plan = None }

-- a refusal is a reply, and writes nothing
abbrev pub outcome_of : Answer → Outcome
outcome_of (Ok outcome) = outcome
outcome_of (Err refusal) = only (refused refusal)

-- the outcome of what a call answered, where it isn't out of memory
abbrev pub IsReplyTo : Result Outcome (Stop Refusal) → Outcome → Type 0
IsReplyTo (Ok outcome) reply = reply ≡ outcome
IsReplyTo (Err (Refused refusal)) reply = reply ≡ only (refused refusal)
IsReplyTo (Err Memory) reply = ⊥

-- ---- what clients write

-- a client puts a good object of a kind that clients write, with the owner and the status of what stands under its key
abbrev pub IsClientPut : State → Key → Object → Type 0
IsClientPut st k o = MayPut is_good st k o

-- a client removes an object of a kind that clients write, or a Revision that isn't in use
abbrev pub IsClientRemoval : State → Key → Type 0
IsClientRemoval st k = MayRemove st k

-- ---- outcomes that a session and the store can take

-- a write can be planned over the journal: what stands may be stored, and there is room for an entry
pub record TakesWrite (journal : Journal) : Type 0 where
  pub storable : AreStorable journal
  pub room : length journal < 2 ^ 64 - 1

-- a plan that the store takes, and whose change is one of clients over what stands
abbrev pub CanBeMade : Journal → ClientPlan → Type 0
CanBeMade journal plan = MayWrite is_good (state journal) plan

-- a reply that a session can write, and a plan that can be made, if there is one
pub record IsFit (journal : Journal) (outcome : Outcome) : Type 0 where
  pub reply : IsReply outcome.reply
  pub plan : ForSome outcome.plan (CanBeMade journal)
