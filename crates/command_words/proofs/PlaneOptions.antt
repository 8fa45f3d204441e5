-- What texts say of a plane.
use Rattle.std.proofs.Common.{◌≡◌, ◌∙◌, ℕ, Bool, true, false, Option, Some, None, refl, ap, codes, cond}
use Rattle.std.specs.Prelude.{option_and_then, unwrap_or}
use Rattle.serve_names.specs.Labels.{is_domain_of}
use Rattle.control_rules.specs.declared.settings.GcSettings.{GcSettings}
use Rattle.command_words.specs.Options.{Word}
use Rattle.command_words.specs.Settings.{count_between, gc_in, options_of}
use Rattle.command_words.specs.declared.settings.Options.{Options}

module _ (steps : Word) (value : Word → Option Word) where
  abbrev pub steps_text : Word
  steps_text = unwrap_or (value (codes "auto")) steps

  abbrev pub domain_text : Word
  domain_text = unwrap_or (value (codes "domain")) (codes "example.com")

  abbrev gc : Option GcSettings
  gc = gc_in (unwrap_or (value (codes "retain-since-create-time")) (codes "48h"))
      (unwrap_or (value (codes "retain-since-last-active-time")) (codes "15h"))
      (unwrap_or (value (codes "min-non-active-revisions")) (codes "20"))
      (unwrap_or (value (codes "max-non-active-revisions")) (codes "1000"))

  -- the options by what each text says
  abbrev options_by : Option ℕ → Bool → Option GcSettings → Option Options
  options_by auto is_domain gc =
      option_and_then (λ a. option_and_then (λ d. option_and_then (λ g. Some (record { auto = a; settings = record { domain = d; gc = g } })) gc)
      (cond is_domain (Some domain_text) None)) auto

  by_parts : options_of steps value ≡ options_by (count_between 0 10000 steps_text) (is_domain_of domain_text) gc
  unfolding options_of
  by_parts = refl

  pub all_read : (auto : ℕ) (g : GcSettings) → count_between 0 10000 steps_text ≡ Some auto → is_domain_of domain_text ≡ true → gc ≡ Some g
      → options_of steps value ≡ Some (record { auto = auto; settings = record { domain = domain_text; gc = g } })
  all_read auto g is_auto is_domain is_gc = by_parts ∙ (λ i. options_by (is_auto i) (is_domain i) (is_gc i))

  pub no_steps : count_between 0 10000 steps_text ≡ None → options_of steps value ≡ None
  no_steps none = by_parts ∙ ap (λ auto. options_by auto (is_domain_of domain_text) gc) none

  pub no_domain : is_domain_of domain_text ≡ false → options_of steps value ≡ None
  no_domain none = by_parts ∙ ap (λ b. options_by (count_between 0 10000 steps_text) b gc) none ∙ go (count_between 0 10000 steps_text)
    where
      go : (auto : Option ℕ) → options_by auto false gc ≡ None
      go None = refl
      go (Some a) = refl

  pub no_gc : gc ≡ None → options_of steps value ≡ None
  no_gc none = by_parts ∙ ap (options_by (count_between 0 10000 steps_text) (is_domain_of domain_text)) none ∙ go (count_between 0 10000 steps_text) (is_domain_of domain_text)
    where
      go : (auto : Option ℕ) (b : Bool) → options_by auto b None ≡ None
      go None b = refl
      go (Some a) false = refl
      go (Some a) true = refl
