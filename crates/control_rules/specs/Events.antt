-- What may happen to a plane. All that a plane does is made of these events.
use Rattle.std.specs.Prelude.{◌≡◌, ℕ, ◌≤◌, Bool, [], Option}
use Rattle.resource_types.specs.declared.names.SlotKey.{SlotKey}
use Rattle.resource_types.specs.declared.manifests.Manifest.{Manifest}
use Rattle.serve_names.specs.Moments.{last_moment}
use Rattle.control_rules.specs.declared.settings.Settings.{Settings}
use Rattle.control_rules.specs.declared.slots.Report.{Report}
use Rattle.control_rules.specs.Differences.{ObjectPlan}
use Rattle.control_rules.specs.Slots.{idle_at, Plane, present, new_plane}
use Rattle.control_rules.specs.Steps.{client_write_of, report_of, step_of}
use Rattle.control_rules.specs.Lawful.{MayWrite}

-- the moment moves on; the settings are set before the first entry; a client writes; a report comes; a slot is stepped; the cursor moves; a slot is dropped
pub data Happens (is_good : Manifest → Bool) (w : Plane) : Plane → Type 0 where
  Moves : (now : ℕ) → w.now ≤ now → now ≤ last_moment → Happens is_good w (record w { now = now })
  Sets : (settings : Settings) → w.journal ≡ [] → Happens is_good w (record w { settings = settings })
  Writes : (plan : ObjectPlan) → MayWrite is_good (present w) plan → Happens is_good w (client_write_of w plan).plane
  Hears : (report : Report) → Happens is_good w (report_of w report).plane
  Steps : (key : SlotKey) → Happens is_good w (step_of w key).plane
  Points : (cursor : Option SlotKey) → Happens is_good w (record w { cursor = cursor })
  Drops : (key : SlotKey) → Happens is_good w (record w { slots = idle_at key w.slots })

-- a chain of events
pub data Leads (is_good : Manifest → Bool) : Plane → Plane → Type 0 where
  Stands : {w : Plane} → Leads is_good w w
  Goes : {w v x : Plane} → Leads is_good w v → Happens is_good v x → Leads is_good w x

-- a plane that comes about from a new one
abbrev pub IsReached : (Manifest → Bool) → Plane → Type 0
IsReached is_good w = (settings : Settings) × Leads is_good (new_plane settings) w

-- what is left of turns, or of automatic steps, where memory ran out: some of their events, each made whole
pub data Works : Plane → Plane → Type 0 where
  Rests : {w : Plane} → Works w w
  ThenSteps : {w v : Plane} → Works w v → (key : SlotKey) → Works w (step_of v key).plane
  ThenPoints : {w v : Plane} → Works w v → (cursor : Option SlotKey) → Works w (record v { cursor = cursor })
  ThenDrops : {w v : Plane} → Works w v → (key : SlotKey) → Works w (record v { slots = idle_at key v.slots })
