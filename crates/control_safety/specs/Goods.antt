-- What is asked of the test of good manifests: the laws on which safety stands.
use Rattle.std.specs.Prelude.{◌≡◌, ◌≢◌, ℕ, Bool, true, List, [], Some, slice_get}
use Rattle.resource_types.specs.declared.names.Kind.{Kind}
use Rattle.resource_types.specs.declared.names.Kind.TheVariants as kind
use Rattle.resource_types.specs.declared.names.Name.{Name}
use Rattle.resource_types.specs.declared.specification.Target.{Target}
use Rattle.resource_types.specs.declared.objects.Body.TheVariants.{Configuration, Route}
use Rattle.resource_types.specs.declared.objects.Object.{Object}
use Rattle.resource_types.specs.declared.manifests.Manifest.{Manifest}
use Rattle.resource_types.specs.Objects.{no_status, targets_of, kind_of_body}
use Rattle.control_rules.specs.Standing.{key_at, template_of, with_template, with_targets}
use Rattle.control_rules.specs.Differences.{rebodied}
use Rattle.control_rules.specs.NextService.{service_child, converted}
use Rattle.control_rules.specs.Fits.{AreWhole}
use Rattle.control_rules.specs.Lawful.{asked_of}

-- an object of the kind, of the name
pub record IsAt (kind : Kind) (n : Name) (o : Object) : Type 0 where
  pub key : o.key ≡ key_at kind n
  pub fits : kind_of_body o.body ≡ kind

-- the targets are whole, and their tags differ
pub record AreWellTagged (targets : List Target) : Type 0 where
  pub whole : AreWhole targets
  pub tags : (a b : ℕ) (s t : Target) → slice_get targets a ≡ Some s → slice_get targets b ≡ Some t → s.tag ≢ [] → s.tag ≡ t.tag → a ≡ b

-- A good Route has such targets. The Configuration and the Route that are made of a good Service are good, and so are they once their template or
-- their targets were replaced by those of a good Service of their name.
pub record IsGoodLaws (is_good : Manifest → Bool) : Type 0 where
  pub route : (n : Name) (r : Object) → IsAt kind.Route n r → is_good (asked_of r) ≡ true → AreWellTagged (targets_of r.body)
  pub makes_configuration : (n : Name) (s : Object) → IsAt kind.Service n s → is_good (asked_of s) ≡ true
      → is_good (asked_of (service_child n s kind.Configuration (Configuration (template_of s.body) no_status))) ≡ true
  pub makes_route : (n : Name) (s : Object) → IsAt kind.Service n s → is_good (asked_of s) ≡ true
      → is_good (asked_of (service_child n s kind.Route (Route (converted n s) no_status))) ≡ true
  pub templates : (n : Name) (s c : Object) → IsAt kind.Service n s → IsAt kind.Configuration n c → is_good (asked_of s) ≡ true
      → is_good (asked_of c) ≡ true → is_good (asked_of (rebodied c (with_template (template_of s.body) c.body))) ≡ true
  pub targets : (n : Name) (s r : Object) → IsAt kind.Service n s → IsAt kind.Route n r → is_good (asked_of s) ≡ true → is_good (asked_of r) ≡ true
      → is_good (asked_of (rebodied r (with_targets (converted n s) r.body))) ≡ true
