-- The targets of a Route that stands are whole, where the controller may look.
use Rattle.std.proofs.Common.{◌≡◌, ℕ, suc, ◌<◌, Bool, true, false, cond, List, [], ◌∷◌, length, Option, Some, None, arith, refl, sym, ap, subst, ◌∙◌}
use Rattle.std.specs.Prelude.{All, get_or, map}
use Rattle.std.specs.List.{zip}
use Rattle.std.specs.Ordering.{is_eq}
use Rattle.resource_types.specs.declared.names.Kind.{Kind}
use Rattle.resource_types.specs.declared.names.Kind.TheVariants as kind
use Rattle.resource_types.specs.declared.names.Key.{Key}
use Rattle.resource_types.specs.declared.names.Name.{Name}
use Rattle.resource_types.specs.declared.specification.Target.{Target}
use Rattle.resource_types.specs.declared.objects.Object.{Object}
use Rattle.resource_types.specs.contracts.names.KeyOrd.TheImpl as key_order
use Rattle.resource_types.specs.Objects.{IsOf, is_of, targets_of}
use Rattle.resource_types.specs.Lookups.{State, find}
use Rattle.control_rules.specs.declared.traffic.Found.{Found}
use Rattle.control_rules.specs.declared.traffic.Resolved.{Resolved}
use Rattle.control_rules.specs.Standing.{key_at, of_its_kind, standing}
use Rattle.control_rules.specs.Resolution.{found_of, resolution, resolved, stored}
use Rattle.control_rules.specs.Fits.{AreWhole, RouteFits}
use Rattle.traffic_resolver.specs.Pairs.{found_in}
use Rattle.traffic_resolver.proofs.FoundInSpace.{found_beside}
use Rattle.traffic_resolver.proofs.ResolutionFound.{resolution_as}

-- what holds of all holds of the one of the key
all_find : (P : Object → Type 0) (key : Key) (st : State) (o : Object) → ((i : ℕ) (d : Object) → i < length st → P (get_or st i d)) → find key st ≡ Some o → P o
all_find P key [] o all e = absurd cc
all_find P key (x ∷ xs) o all e = go (is_eq (key_order.ghosts.cmp x.key key)) e (all 0 x (omega arith)) (all_find P key xs o (λ i d lt. all (suc i) d (omega arith)))
  where
    go : (t : Bool) → cond t (Some x) (find key xs) ≡ Some o → P x → (find key xs ≡ Some o → P o) → P o
    go true f first rest = let same : x ≡ o = cc in subst P same first
    go false f first rest = rest f

its_kind : (k : Kind) (found : Option Object) (o : Object) → of_its_kind k found ≡ Some o → found ≡ Some o
its_kind k None o e = absurd cc
its_kind k (Some x) o e = go (is_of k x) e
  where
    go : (t : Bool) → cond t (Some x) None ≡ Some o → Some x ≡ Some o
    go true f = f
    go false f = absurd cc

-- what holds of all holds of what stands
pub all_standing : (P : Object → Type 0) (k : Kind) (n : Name) (st : State) (o : Object) → All P st → standing k n st ≡ Some o → P o
unfolding standing
all_standing P k n st o all e = all_find P (key_at k n) st o all (its_kind k (find (key_at k n) st) o e)

-- the targets of a Route that stands are whole
pub route_whole : (st : State) (n : Name) (o : Object) → RouteFits st → standing kind.Route n st ≡ Some o → IsOf kind.Route o → AreWhole (targets_of o.body)
route_whole st n o fits e h = all_standing (λ (o : Object). IsOf kind.Route o → AreWhole (targets_of o.body)) kind.Route n st o fits.routes e h

-- what was found in the Route's namespace is what its targets mean
pub found_alike : (st : State) (n : Name) (targets : List Target) → map (found_in st n.space) targets ≡ map (found_of stored st n) targets
found_alike st n [] = refl
found_alike st n (t ∷ ts) = ap (λ (f : Found). f ∷ map (found_in st n.space) ts) (found_beside st n t) ∙ ap (λ (fs : List Found). found_of stored st n t ∷ fs) (found_alike st n ts)

-- what a look saw, by its calls
module _ (st : State) (r : Name) (o : Object) (targets : List Target) (found : List Found) (asked : targets ≡ targets_of o.body) (same : found ≡ map (found_in st r.space) targets) where
  pub asked_whole : RouteFits st → standing kind.Route r st ≡ Some o → IsOf kind.Route o → AreWhole targets
  asked_whole fits e h = subst AreWhole (sym asked) (route_whole st r o fits e h)

  pub meant_as : found ≡ map (found_of stored st r) (targets_of o.body)
  meant_as = same ∙ found_alike st r targets ∙ ap (map (found_of stored st r)) asked

  pub outcome_as : (domain : List ℕ) (res : Resolved) → res ≡ resolved r domain (zip targets found) → res ≡ resolution stored domain st r (targets_of o.body)
  outcome_as domain res e = e ∙ resolution_as st r domain targets found same ∙ ap (resolution stored domain st r) asked
