-- A Service's target as one of its Route, part by part.
use Rattle.std.proofs.Common.{◌≡◌, ℕ, Bool, true, false, cond, List, refl}
use Rattle.resource_types.specs.declared.names.Name.{Name}
use Rattle.resource_types.specs.declared.specification.Target.{Target}
use Rattle.resource_types.specs.Lookups.{is_empty}
use Rattle.control_rules.specs.NextService.{converted_target}
use Rattle.service_rec.specs.Targets.{target_on}

module _ (n : Name) (t : Target) where
  by_test : (blank : Bool) → target_on (cond blank (target_on n.name t) t).configuration t ≡ cond blank (target_on n.name t) t
  by_test true = refl
  by_test false = refl

  -- only its Configuration is another
  pub on_its_own : target_on (converted_target n t).configuration t ≡ converted_target n t
  on_its_own = by_test (is_empty t.revision)

  pub on_services : is_empty t.revision ≡ true → n.name ≡ (converted_target n t).configuration
  on_services e = rw e refl

  pub on_given : is_empty t.revision ≡ false → t.configuration ≡ (converted_target n t).configuration
  on_given e = rw e refl

  pub as_converted : (configuration : List ℕ) → configuration ≡ (converted_target n t).configuration → target_on configuration t ≡ converted_target n t
  as_converted configuration e = rw e on_its_own

  -- a target of its parts
  abbrev pub made : List ℕ → List ℕ → List ℕ → List ℕ → Target
  made configuration revision tag url = record { configuration = configuration; revision = revision; latest = t.latest; percent = t.percent; tag = tag; url = url }

  pub made_of : (configuration revision tag url : List ℕ) → configuration ≡ (converted_target n t).configuration → revision ≡ t.revision → tag ≡ t.tag → url ≡ t.url
      → made configuration revision tag url ≡ converted_target n t
  made_of configuration revision tag url e f g h = rw (f, g, h) (as_converted configuration e)
