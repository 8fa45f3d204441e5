-- The settings where none are given.
use Rattle.std.specs.Prelude.{codes}
use Rattle.control_rules.specs.declared.settings.Settings.{Settings}
use Rattle.revision_gc.specs.Settings.{standard_settings}

-- the domain `example.com`, and the standard settings of collection
abbrev pub standard_plane_settings : Settings
standard_plane_settings = record { domain = codes "example.com"; gc = standard_settings }
