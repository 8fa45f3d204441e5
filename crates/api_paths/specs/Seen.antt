-- Calls and resources as the code has them, with their texts behind references.
use Rattle.std.specs.Prelude.{ℕ, List, Option, option_map, Result, Ok, Err}
use Rattle.std.specs.Borrow.{Bor}
use Rattle.api_paths.specs.declared.calls.Call.{Call}
use Rattle.api_paths.specs.declared.calls.Call.TheVariants as call
use Rattle.api_paths.specs.declared.calls.PathError.{PathError}
use Rattle.api_paths.specs.declared.resources.Resource.{Resource}
use Rattle.api_paths.specs.declared.resources.Resource.TheVariants as resource
use Rattle.api_paths.specs.Paths as paths

abbrev pub call_seen : Call → paths.Call
call_seen (call.List k space) = paths.list k space.now
call_seen (call.Poll k space after) = paths.poll k space.now after
call_seen (call.Create k space) = paths.create k space.now
call_seen (call.Read k space name) = paths.read k space.now name.now
call_seen (call.Replace k space name) = paths.replace k space.now name.now
call_seen (call.Patch k space name) = paths.patch k space.now name.now
call_seen (call.Remove k space name) = paths.remove k space.now name.now
call_seen call.Report = paths.report
call_seen call.SetClock = paths.set_clock
call_seen call.Step = paths.step
call_seen call.Settle = paths.settle
call_seen call.Summary = paths.summary

abbrev pub answer_seen : Result Call PathError → Result paths.Call PathError
answer_seen (Ok c) = Ok (call_seen c)
answer_seen (Err e) = Err e

abbrev pub resource_seen : Resource → paths.Resource
resource_seen (resource.Collection k space) = paths.collection k space.now
resource_seen (resource.One k space name) = paths.one k space.now name.now
resource_seen resource.Reports = paths.reports
resource_seen resource.Clock = paths.clock
resource_seen resource.Steps = paths.steps
resource_seen resource.Settling = paths.settling
resource_seen resource.Overview = paths.overview

-- two parts of a text
abbrev pub parts_seen : Option (Bor (List ℕ) × Bor (List ℕ)) → Option (List ℕ × List ℕ)
parts_seen parts = option_map (λ p. (p.0.now, p.1.now)) parts
