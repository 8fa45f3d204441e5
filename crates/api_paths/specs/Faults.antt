-- What a fault of a path says.
use Rattle.std.specs.Prelude.{◌≢◌}
use Rattle.http_session.specs.declared.message.Allow.TheVariants as allow
use Rattle.api_paths.specs.declared.calls.PathError.{PathError}
use Rattle.api_paths.specs.declared.calls.PathError.TheVariants.{NoSuchMethod}

-- where there is no such method, there are others
abbrev pub NamesMethods : PathError → Type 0
NamesMethods (NoSuchMethod methods) = methods ≢ allow.None
NamesMethods other = Unit {0}
