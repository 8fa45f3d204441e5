-- The calls of an end in memory.
use Rattle.std.specs.Prelude.{◌==◌, Bool, if◌then◌else◌}
use Rattle.std.specs.List.{list_any}
use Rattle.serve_io.specs.declared.calls.Calls.{Calls}
use Rattle.serve_io.specs.Causes.{one_more}

-- the number of the next call is among those that fail
abbrev pub fails_next : Calls → Bool
fails_next calls = list_any (λ number. number == one_more calls.count) calls.failing.items

-- one call was counted, and where it failed one fault
abbrev pub calls_after : Calls → Bool → Calls
calls_after calls failed =
    record calls { count = one_more calls.count; faults = if failed then one_more calls.faults else calls.faults }
