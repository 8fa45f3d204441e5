-- Plans by what is kept of the object that stands.
use Rattle.std.specs.Prelude.{◌≡◌, Bool, false}
use Rattle.version_store.specs.declared.write.Expect.TheVariants as expect
use Rattle.version_store.specs.declared.write.Change.TheVariants.{Put, Remove}
use Rattle.resource_types.specs.declared.objects.Body.{Body}
use Rattle.resource_types.specs.declared.objects.Object.{Object}
use Rattle.control_rules.specs.Differences.{ObjectPlan, replacement, timed}
use Rattle.control_rules.specs.Standing.{with_status}
use Rattle.resource_types.specs.Objects.{status_of}
use Rattle.controller_parts.specs.declared.plans.Frame.{Frame}
use Rattle.controller_parts.specs.declared.plans.Removed.{Removed}
use Rattle.controller_parts.specs.declared.settling.Settling.{Settling}

-- what is kept of an object that stands
abbrev pub frame : Object → Frame
frame o = record { of_plan = o.key; key = o.key; meta = o.meta }

abbrev pub IsFrameOf : Object → Frame → Type 0
IsFrameOf o f = f ≡ frame o

-- the object in the frame gets the body
abbrev pub replacement_in : Frame → Body → ObjectPlan
replacement_in f body = record { key = f.of_plan; expect = expect.At f.meta.stamp.version; guarded = false; change = Put (record { key = f.key; meta = f.meta; body = body }) }

-- the plan of an object that gets a status
abbrev pub settling_plan : Settling → ObjectPlan
settling_plan s = replacement s.object (with_status (timed (status_of s.object.body) s.status s.moment) s.object.body)

-- the plan of a removal
abbrev pub removed_plan : Removed → ObjectPlan
removed_plan r = record { key = r.key; expect = expect.At r.version; guarded = r.guarded; change = Remove }

-- what its removal says of an object
abbrev pub removed_of : Bool → Object → Removed
removed_of guarded o = record { key = o.key; version = o.meta.stamp.version; guarded = guarded }
