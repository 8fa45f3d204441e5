-- The put of a status.
use Rattle.std.proofs.Common.{◌≡◌, ℕ, refl}
use Rattle.resource_types.specs.declared.status.ObjectStatus.{ObjectStatus}
use Rattle.resource_types.specs.declared.objects.Body.{Body}
use Rattle.resource_types.specs.declared.objects.Object.{Object}
use Rattle.control_rules.specs.Standing.{with_status}
use Rattle.control_rules.specs.Differences.{ObjectPlan, replacement, timed}
use Rattle.resource_types.specs.Objects.{status_of}
use Rattle.controller_parts.specs.declared.plans.Frame.{Frame}
use Rattle.controller_parts.specs.Plans.{frame, replacement_in, settling_plan}

-- the put in the frame of an object is its replacement
pub put_as : (o : Object) (f : Frame) (before after : Body) (new due : ObjectStatus) (plan : ObjectPlan)
    → f ≡ frame o → before ≡ o.body → new ≡ due → after ≡ with_status new before → plan ≡ replacement_in f after
    → plan ≡ replacement o (with_status due o.body)
put_as o f before after new due plan e g h i j = rw (j, i, e, g, h) refl

-- the plan of a copy of the object is that of the object
pub settled_as : (o copy : Object) (s : ObjectStatus) (now : ℕ) → copy ≡ o
    → settling_plan (record { object = copy; status = s; moment = now }) ≡ replacement o (with_status (timed (status_of o.body) s now) o.body)
settled_as o copy s now e = rw e refl
