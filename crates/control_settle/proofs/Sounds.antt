-- The present state of a lawful journal is sound.
use Rattle.std.proofs.Common.{◌≡◌, inl, inr, ◌≤◌, Bool, length, refl, subst, arith}
use Rattle.version_store.proofs.Growth.{state_at-all}
use Rattle.resource_types.specs.declared.names.Kind.TheVariants as kind
use Rattle.resource_types.specs.declared.objects.Object.{Object}
use Rattle.resource_types.specs.declared.manifests.Manifest.{Manifest}
use Rattle.resource_types.specs.contracts.names.KeyOrd.TheImpl as key_order
use Rattle.resource_types.specs.Lookups.{Journal, state}
use Rattle.control_rules.specs.declared.settings.Settings.{Settings}
use Rattle.control_rules.specs.Slots.{state_at}
use Rattle.control_rules.specs.Lawful.{IsLawful}
use Rattle.control_entries.proofs.Sound.{sound}
use Rattle.control_safety.specs.Goods.{IsGoodLaws}
use Rattle.control_safety.proofs.Owners.{served}
use Rattle.control_safety.proofs.Good.{route_targets}
use Rattle.control_safety.proofs.Ranks.{owned_below, owned_apart, none_ahead}
use Rattle.control_settle.specs.Grounds.{IsSoundState}

module _ {is_good : Manifest → Bool} {settings : Settings} {j : Journal} (laws : IsGoodLaws is_good) (lawful : IsLawful is_good settings j) where
  whole : state_at j (length j) ≡ state j
  whole = state_at-all (λ (o : Object). o.key) key_order.ghosts.cmp j

  all : length j ≤ length j
  all = omega arith

  pub sound_state : IsSoundState (length j) (state j)
  sound_state = subst (IsSoundState (length j)) whole (record {
    key = λ k o e. let s = sound lawful (length j) k o all e in (s.key, s.fits);
    serve = λ n o e. served lawful kind.Configuration (inl refl) (length j) n o all e;
    serve_route = λ n o e. served lawful kind.Route (inr refl) (length j) n o all e;
    tops = λ n c m v at on owned. owned_below lawful (length j) all n m c v at on owned;
    distinct = λ c l m v w at on a b same. owned_apart lawful (length j) all c l m v w at on a b same;
    past = λ m. none_ahead lawful (length j) all m;
    few = λ m o e. (route_targets laws lawful (length j) all m o e).whole.few;
  })
