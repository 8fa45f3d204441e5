-- What the counting of refusals adds to a world.
use Rattle.std.specs.Prelude.{◌≡◌, ℕ, List, length, Option, nat_le, if◌then◌else◌}
use Rattle.serve_io.specs.Causes.{one_more}
use Rattle.http_session.specs.declared.message.Request.{Request}
use Rattle.http_session.specs.declared.message.Reply.{Reply}
use Rattle.http_session.specs.Session.{Exchange}
use Rattle.api_server.specs.Ask.{Asks, AskCut, After, AfterCut}
use Rattle.request_drill.specs.declared.tally.Tally.{Tally}
use Rattle.request_drill.specs.Runs.{RunsOver, refusals}

-- the same world is lent to both
abbrev pub LendsSame : Tally → Tally → Type 0
LendsSame old new = new.world.ghost_name ≡ old.world.ghost_name

-- the world answers, and a refusal is counted
pub record AsksCounting (old : Tally) (now : Option ℕ) (request : Request) (reply : Reply) (new : Tally) : Type 0 where
  pub same : LendsSame old new
  pub asks : Asks old.world.now now request reply new.world.now
  pub counts : new.refused ≡ if nat_le 400 reply.code then one_more old.refused else old.refused

-- the world is out of memory for a request
pub record CutsCounting (old : Tally) (now : Option ℕ) (request : Request) (new : Tally) : Type 0 where
  pub same : LendsSame old new
  pub cut : AskCut old.world.now now request new.world.now

-- the world does its own work
pub record WorksBehind (old new : Tally) : Type 0 where
  pub same : LendsSame old new
  pub after : After old.world.now new.world.now
  pub counts : new.refused ≡ old.refused

-- the world is out of memory for its own work
pub record CutsBehind (old new : Tally) : Type 0 where
  pub same : LendsSame old new
  pub cut : AfterCut old.world.now new.world.now

-- the requests of the bytes were answered, and these are the counts of the answers and of the refusals
pub record Counts (bytes : List ℕ) (old new : Tally) (answered : ℕ) : Type 0 where
  pub done : List Exchange
  pub runs : RunsOver bytes old.world.now done new.world.now
  pub count : answered ≡ length done
  pub refused : new.refused ≡ refusals done
