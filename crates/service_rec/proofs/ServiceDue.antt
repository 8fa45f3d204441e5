-- What is due to a Service, by the first difference that holds.
use Rattle.std.proofs.Common.{◌≡◌, ◌&&◌, ℕ, true, false, Some, None, refl, ◌∙◌}
use Rattle.std.specs.Prelude.{not}
use Rattle.resource_types.specs.declared.names.Kind.TheVariants as kind
use Rattle.resource_types.specs.declared.names.Name.{Name}
use Rattle.resource_types.specs.declared.objects.Object.{Object}
use Rattle.resource_types.specs.Objects.{targets_of}
use Rattle.resource_types.specs.Lookups.{State}
use Rattle.control_rules.specs.Standing.{standing, is_owned_by_uid, template_of, with_targets, with_template}
use Rattle.control_rules.specs.Differences.{creation, replacement, status_change}
use Rattle.control_rules.specs.NextService.{converted, same_targets, same_template, service_next}
use Rattle.controller_parts.proofs.Firsts.{given-none, given-some, missing-none, missing-some, when-true, when-false, first-some, first-none}
use Rattle.service_rec.specs.Children.{made_configuration, made_route}
use Rattle.service_rec.specs.Sights.{status_by}

module _ (st : State) (n : Name) (now : ℕ) where
  pub due_nothing : standing kind.Service n st ≡ None → service_next st n now ≡ None
  unfolding service_next
  due_nothing e = given-none _ e

  module _ (s : Object) (stands : standing kind.Service n st ≡ Some s) where
    pub due_configuration : standing kind.Configuration n st ≡ None → service_next st n now ≡ Some (creation (made_configuration n s))
    unfolding service_next
    due_configuration e = given-some _ stands ∙ first-some _ (missing-none _ e)

    module _ (c : Object) (made : standing kind.Configuration n st ≡ Some c) where
      pub due_template : (is_owned_by_uid s.meta.stamp.uid c && not (same_template (template_of c.body) (template_of s.body))) ≡ true
          → service_next st n now ≡ Some (replacement c (with_template (template_of s.body) c.body))
      unfolding service_next
      due_template h = given-some _ stands ∙ first-none _ (missing-some _ made) ∙ first-some _ (given-some _ made ∙ when-true _ h)

      module _ (same : (is_owned_by_uid s.meta.stamp.uid c && not (same_template (template_of c.body) (template_of s.body))) ≡ false) where
        pub due_route : standing kind.Route n st ≡ None → service_next st n now ≡ Some (creation (made_route n s))
        unfolding service_next
        due_route e =
            given-some _ stands ∙ first-none _ (missing-some _ made) ∙ first-none _ (given-some _ made ∙ when-false _ same)
            ∙ first-some _ (missing-none _ e)

        module _ (r : Object) (there : standing kind.Route n st ≡ Some r) where
          pub due_targets : (is_owned_by_uid s.meta.stamp.uid r && not (same_targets (targets_of r.body) (converted n s))) ≡ true
              → service_next st n now ≡ Some (replacement r (with_targets (converted n s) r.body))
          unfolding service_next
          due_targets h =
              given-some _ stands ∙ first-none _ (missing-some _ made) ∙ first-none _ (given-some _ made ∙ when-false _ same)
              ∙ first-none _ (missing-some _ there) ∙ first-some _ (given-some _ there ∙ when-true _ h)

          pub due_status : (is_owned_by_uid s.meta.stamp.uid r && not (same_targets (targets_of r.body) (converted n s))) ≡ false
              → service_next st n now ≡ status_change s (status_by n s c r) now
          unfolding service_next
          due_status h =
              given-some _ stands ∙ first-none _ (missing-some _ made) ∙ first-none _ (given-some _ made ∙ when-false _ same)
              ∙ first-none _ (missing-some _ there) ∙ first-none _ (given-some _ there ∙ when-false _ h)
              ∙ rw (made, there) refl
