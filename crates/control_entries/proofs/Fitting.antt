-- After a lawful journal bodies fit their keys, and each entry has its stamp.
use Rattle.std.proofs.Common.{ℕ, ◌≤◌, Bool, length, ap, ◌∙◌, arith}
use Rattle.version_store.proofs.Growth.{state_at-all}
use Rattle.resource_types.specs.declared.objects.Object.{Object}
use Rattle.resource_types.specs.declared.manifests.Manifest.{Manifest}
use Rattle.resource_types.specs.contracts.names.KeyOrd.TheImpl as key_order
use Rattle.resource_types.specs.Lookups.{Journal, find}
use Rattle.control_rules.specs.declared.settings.Settings.{Settings}
use Rattle.control_rules.specs.Slots.{state_at}
use Rattle.control_rules.specs.Lawful.{IsLawful}
use Rattle.control_entries.specs.Ground.{AreFitting, IsStamped}
use Rattle.control_entries.proofs.Sound.{fits}

module _ (is_good : Manifest → Bool) (settings : Settings) (j : Journal) (lawful : IsLawful is_good settings j) where
  -- at each position of a lawful journal bodies fit their keys
  pub lawful_fits : (n : ℕ) → n ≤ length j → AreFitting (state_at j n)
  lawful_fits n le key o e = fits lawful n le key o e

  -- after it bodies fit their keys, and each entry has its stamp
  pub lawful_stamped : IsStamped j
  lawful_stamped = record {
    stamped = lawful.stamps;
    fitting = λ key o e. lawful_fits (length j) (omega arith) key o (ap (find key) (state_at-all (λ (x : Object). x.key) key_order.ghosts.cmp j) ∙ e);
  }
