-- Each entry of a lawful journal has one of the forms.
use Rattle.std.proofs.Common.{◌≡◌, ◌⊎◌, inl, inr, ℕ, true, Some, subst}
use Rattle.resource_types.specs.declared.names.Actor.{Actor}
use Rattle.resource_types.specs.declared.names.Actor.TheVariants.{Client, Reporter, Controller}
use Rattle.resource_types.specs.declared.objects.Object.{Object}
use Rattle.resource_types.specs.Lookups.{Journal}
use Rattle.manifest_intake.specs.Good.{is_good, asked_of}
use Rattle.control_rules.specs.declared.settings.Settings.{Settings}
use Rattle.control_rules.specs.Slots.{ObjectEntry, state_at}
use Rattle.control_rules.specs.Lawful.{PutsObject, RemovesObject, RemovesRevision, IsLawfulAs}
use Rattle.journal_reader.specs.Lines.{IsHealth, HasForm}

module _ (settings : Settings) (j : Journal) (n : ℕ) (e : ObjectEntry) where
  put_good : (o : Object) → e.object ≡ Some o → PutsObject is_good (state_at j n) e ⊎ (RemovesObject (state_at j n) e ⊎ RemovesRevision (state_at j n) e) → is_good (asked_of o) ≡ true
  put_good o is (inl puts) = (let same : puts.object ≡ o = (let p = puts.puts in cc) in subst (λ x. is_good (asked_of x) ≡ true) same puts.good)
  put_good o is (inr (inl removes)) = (let p = removes.removes in absurd cc)
  put_good o is (inr (inr removes)) = (let p = removes.removes in absurd cc)

  good_of : (a : Actor) → IsLawfulAs is_good settings a j n e → a ≡ Client → (o : Object) → e.object ≡ Some o → is_good (asked_of o) ≡ true
  good_of Client lawful by o is = put_good o is lawful.1
  good_of Reporter lawful by o is = absurd cc
  good_of (Controller key) lawful by o is = absurd cc

  health_of : (a : Actor) → IsLawfulAs is_good settings a j n e → a ≡ Reporter → (o : Object) × (e.object ≡ Some o) × IsHealth o.body
  health_of Reporter lawful by = (_, lawful.1.puts, tt)
  health_of Client lawful by = absurd cc
  health_of (Controller key) lawful by = absurd cc

  -- a lawful entry has one of the forms
  pub formed : IsLawfulAs is_good settings e.actor j n e → HasForm e
  formed lawful = record { good = λ o by is. good_of e.actor lawful by o is; health = health_of e.actor lawful }
