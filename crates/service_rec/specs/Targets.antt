-- Targets on another Configuration.
use Rattle.std.specs.Prelude.{ℕ, List}
use Rattle.resource_types.specs.declared.specification.Target.{Target}

-- the target on that Configuration, and all else as it is
abbrev pub target_on : List ℕ → Target → Target
target_on configuration t = record { configuration = configuration; revision = t.revision; latest = t.latest; percent = t.percent; tag = t.tag; url = t.url }
