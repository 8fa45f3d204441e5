-- The settings of four texts, step by step.
use Rattle.std.proofs.Common.{◌≡◌, ℕ, true, false, List, Option, Some, None, Ok, Err, refl}
use Rattle.serve_names.specs.Counts.{count_of}
use Rattle.revision_gc.specs.declared.settings.SettingsError.TheVariants as error
use Rattle.revision_gc.specs.Settings.{is_below, most_in, settings_of, time_in}

module _ (create active least most : List ℕ) where
  pub no_create : time_in create ≡ None → settings_of create active least most ≡ Err error.CreateTime
  unfolding settings_of
  no_create e = rw e refl

  module _ (a : Option ℕ) (create-is : time_in create ≡ Some a) where
    pub no_active : time_in active ≡ None → settings_of create active least most ≡ Err error.ActiveTime
    unfolding settings_of
    no_active e = rw (create-is, e) refl

    module _ (b : Option ℕ) (active-is : time_in active ≡ Some b) where
      pub no_least : count_of least ≡ None → settings_of create active least most ≡ Err error.Least
      unfolding settings_of
      no_least e = rw (create-is, active-is, e) refl

      module _ (c : ℕ) (least-is : count_of least ≡ Some c) where
        pub no_most : most_in most ≡ None → settings_of create active least most ≡ Err error.Most
        unfolding settings_of
        no_most e = rw (create-is, active-is, least-is, e) refl

        module _ (d : Option ℕ) (most-is : most_in most ≡ Some d) where
          pub above : is_below d c ≡ true → settings_of create active least most ≡ Err error.LeastAboveMost
          unfolding settings_of
          above e = rw (create-is, active-is, least-is, most-is, e) refl

          pub fits : is_below d c ≡ false → settings_of create active least most ≡ Ok (record { create = a; active = b; least = c; most = d })
          unfolding settings_of
          fits e = rw (create-is, active-is, least-is, most-is, e) refl
