-- What is due to the Collector of a Configuration stays, where no entry touches it.
use Rattle.std.proofs.Common.{◌≡◌, ℕ, Bool, true, false, ◌&&◌, ◌||◌, not, List, [], ◌∷◌, ◌++◌, Option, Some, None, refl, sym, ap, ◌∙◌, subst}
use Rattle.std.specs.Prelude.{bytes_eq, map, slice_get}
use Rattle.std.specs.List.{filter, list_any}
use Rattle.std.proofs.lemmas.List.Folds.{list_any-append}
use Rattle.resource_types.specs.declared.names.Kind.{Kind}
use Rattle.resource_types.specs.declared.names.Kind.TheVariants as kind
use Rattle.resource_types.specs.declared.names.Controller.TheVariants as controller
use Rattle.resource_types.specs.declared.names.Key.{Key}
use Rattle.resource_types.specs.declared.names.Name.{Name}
use Rattle.resource_types.specs.declared.specification.Target.{Target}
use Rattle.resource_types.specs.declared.objects.Object.{Object}
use Rattle.resource_types.specs.Objects.{has_been_ready, is_of, targets_of}
use Rattle.resource_types.specs.Lookups.{State, find, is_empty, is_given, is_owned_by, is_target_on, is_naming, is_called, is_free, latest_created}
use Rattle.resource_types.specs.Lookups as lookups
use Rattle.resource_types.proofs.Exact.{left, right, bytes-exact, kind-exact}
use Rattle.control_rules.specs.declared.settings.GcSettings.{GcSettings}
use Rattle.control_rules.specs.Standing.{key_at, standing}
use Rattle.control_rules.specs.Collection.{is_candidate, candidates, candidate_of, collected_place, collection_choice}
use Rattle.control_rules.specs.Differences.{ObjectPlan, given, guarded_removal}
use Rattle.control_rules.specs.NextCollector.{collector_next}
use Rattle.control_rules.specs.Slots.{ObjectEntry, slot_key}
use Rattle.control_entries.proofs.Tests.{both, false_from, key_of_kind}
use Rattle.control_entries.proofs.Each.{each_by, each_passing}
use Rattle.control_entries.proofs.Standing.{IsFound, all_found, stands}
use Rattle.control_touches.specs.Touches.{is_one, is_under, is_changed, is_renamed, is_retargeted, is_retargeted_at, targets_in, touches, touches_collector, is_touched_by}
use Rattle.control_touches.specs.Named.{AreNamed}
use Rattle.control_touches.proofs.Paths.{after, ArePuts}
use Rattle.control_touches.proofs.Own.{or_left, or_right, one_is, find_kept, stands_kept}
use Rattle.control_touches.proofs.Freedom.{first_false, second_false, free_kept}
use Rattle.control_touches.proofs.Narrow.{filter_narrow, filter_each, passing}
use Rattle.control_touches.proofs.Under.{under, under_kind, under_parts, narrow_under, passing_kept, latest_kept}

-- ---- what names a Revision under the name

pub any_by : {X : Type 0} (f g : X → Bool) (xs : List X) → ((x : X) → f x ≡ true → g x ≡ true) → list_any f xs ≡ true → list_any g xs ≡ true
any_by f g [] h e = e
any_by f g (x ∷ xs) h e = go (f x) refl (any_by f g xs h) e
  where
    go : (t : Bool) → f x ≡ t → (list_any f xs ≡ true → list_any g xs ≡ true) → (t || list_any f xs) ≡ true → (g x || list_any g xs) ≡ true
    go true q ih e = or_left _ _ (h x q)
    go false q ih e = or_right (g x) _ (ih e)

-- what names it has a target of the name
naming_target : (k : Kind) (v : Name) (o : Option Object) → is_given (is_naming k v) o ≡ true → list_any (λ (t : Target). bytes_eq t.revision v.name) (targets_in o) ≡ true
unfolding targets_in
naming_target k v None e = absurd cc
naming_target k v (Some o) e =
    any_by (is_target_on v.name) (λ (t : Target). bytes_eq t.revision v.name) (targets_of o.body) (λ t q. right (not (is_empty t.revision)) (bytes_eq t.revision v.name) q)
    (right (is_of k o && bytes_eq o.key.name.space v.space) _ e)

changed_some : (a b : Bool) → is_changed a b ≡ true → (a || b) ≡ true
unfolding is_changed
changed_some true b e = refl
changed_some false b e = e

renamed_target : (k : Kind) (v : Name) (old new : Option Object) → is_renamed k v old new ≡ true → list_any (λ (t : Target). bytes_eq t.revision v.name) (targets_in old ++ targets_in new) ≡ true
unfolding is_renamed
renamed_target k v old new e = list_any-append test (targets_in old) (targets_in new) ∙ go (is_given (is_naming k v) old) refl (changed_some _ _ e)
  where
    test : Target → Bool
    test t = bytes_eq t.revision v.name

    go : (t : Bool) → is_given (is_naming k v) old ≡ t → (t || is_given (is_naming k v) new) ≡ true → (list_any test (targets_in old) || list_any test (targets_in new)) ≡ true
    go true q h = or_left _ _ (naming_target k v old q)
    go false q h = or_right (list_any test (targets_in old)) _ (naming_target k v new h)

retargeted_target : (v : Name) (old new : Option Object) → is_retargeted v old new ≡ true → list_any (λ (t : Target). bytes_eq t.revision v.name) (targets_in old ++ targets_in new) ≡ true
unfolding is_retargeted
retargeted_target v old new e = go (is_renamed kind.Service v old new) refl e
  where
    go : (t : Bool) → is_renamed kind.Service v old new ≡ t → (t || is_renamed kind.Route v old new) ≡ true → list_any (λ (t : Target). bytes_eq t.revision v.name) (targets_in old ++ targets_in new) ≡ true
    go true q h = renamed_target kind.Service v old new q
    go false q h = renamed_target kind.Route v old new h

-- where nothing under the name is retargeted, one that is under it isn't
not_retargeted : (n v : Name) (old new : Option Object) → v.space ≡ n.space → is_under n.name v.name ≡ true → is_retargeted_at n.space (is_under n.name) old new ≡ false → is_retargeted v old new ≡ false
unfolding is_retargeted_at
not_retargeted n v old new space under h =
    false_from (λ e. let t = any_by (λ (t : Target). bytes_eq t.revision v.name) at (targets_in old ++ targets_in new) (λ t q. by e t (bytes-exact t.revision v.name q)) (retargeted_target v old new e) in absurd (clash t h))
  where
    at : Target → Bool
    at t = is_under n.name t.revision && is_retargeted (record { space = n.space; name = t.revision }) old new

    by : is_retargeted v old new ≡ true → (t : Target) → t.revision ≡ v.name → at t ≡ true
    by e t q = both (subst (λ z. is_under n.name z ≡ true) (sym q) under) (subst (λ z. is_retargeted z old new ≡ true) (λ i. record { space = space i; name = sym q i }) e)

    clash : {t : Bool} → t ≡ true → t ≡ false → ⊥
    clash p q = cc

-- ---- what is due

abbrev due : GcSettings → ℕ → List Object → Option ObjectPlan
due gc now cs = given (lookups.given (collected_place gc now (map candidate_of cs)) (slice_get cs)) (λ v. Some (guarded_removal v))

abbrev rest : GcSettings → State → ℕ → Object → Option ObjectPlan
rest gc st now c = due gc now (candidates has_been_ready st c)

rest_is : (gc : GcSettings) (st : State) (n : Name) (now : ℕ) → collector_next gc st n now ≡ given (standing kind.Configuration n st) (rest gc st now)
unfolding collector_next collection_choice
rest_is gc st n now = refl

owns : (st : State) (c v : Object) → is_candidate has_been_ready st c v ≡ true → is_owned_by c v ≡ true
unfolding is_candidate
owns st c v t = left (is_owned_by c v) (is_free st v.key.name) (left (is_owned_by c v && is_free st v.key.name) _ t)

module _ (b st : State) (es : List ObjectEntry) (puts : ArePuts es) (n : Name) (named : AreNamed st) (now_named : AreNamed (after st es)) (calm : is_touched_by b st es (slot_key controller.Collector n) ≡ false) where
  off : (k : Key) (old new : Option Object) → touches b k old new (slot_key controller.Collector n) ≡ false → under n k ≡ false
  unfolding touches touches_collector
  off k old new t = first_false _ _ (second_false _ _ t)

  stand : standing kind.Configuration n (after st es) ≡ standing kind.Configuration n st
  unfolding touches touches_collector
  stand = stands_kept b st es puts _ calm kind.Configuration n (λ old new. or_left _ _ (one_is _ kind.Configuration n refl))

  free : (v : Object) → under n v.key ≡ true → is_free (after st es) v.key.name ≡ is_free st v.key.name
  unfolding touches touches_collector
  free v t =
      free_kept b st es puts _ calm named.ordered now_named.ordered v.key.name
      (find_kept b st es puts _ calm (key_at kind.Revision v.key.name) (λ old new. or_right (is_one_here (key_at kind.Revision v.key.name)) _ (or_left _ _ at)))
      (λ k old new u. let parts = under_parts n v.key t in not_retargeted n v.key.name old new parts.0 parts.1 (second_false _ _ (second_false _ _ u)))
    where
      is_one_here : Key → Bool
      is_one_here k = is_one (kind.Configuration ∷ []) n k

      at : under n (key_at kind.Revision v.key.name) ≡ true
      at = subst (λ k. under n k ≡ true) (key_of_kind v.key kind.Revision (kind-exact v.key.kind kind.Revision (under_kind n v.key t))) t

  candidates_kept : (c : Object) → c.key.name ≡ n → candidates has_been_ready (after st es) c ≡ candidates has_been_ready st c
  unfolding candidates is_candidate
  candidates_kept c at =
      filter_narrow (is_candidate has_been_ready (after st es) c) _ _ (after st es) (narrow_under (after st es) now_named n c at _ (owns (after st es) c))
      ∙ ap (filter (is_candidate has_been_ready (after st es) c)) (passing_kept b st es puts _ calm n named now_named off)
      ∙ filter_each (is_candidate has_been_ready (after st es) c) (is_candidate has_been_ready st c) (passing (under n) st)
      (each_by _ _ (passing (under n) st)
      (λ v h. λ i. (is_owned_by c v && free v h.0 i)
      && not (is_called v.key.name.name (latest_kept b st es puts _ calm n named now_named off c at (is_owned_by c) (λ v t. t) i)
      || is_called v.key.name.name (latest_kept b st es puts _ calm n named now_named off c at (λ v. is_owned_by c v && has_been_ready v) (λ v t. left (is_owned_by c v) (has_been_ready v) t) i)))
      (each_passing (IsFound st) (λ (o : Object). under n o.key) st (all_found st named.ordered)))
      ∙ sym (filter_narrow (is_candidate has_been_ready st c) _ _ st (narrow_under st named n c at _ (owns st c)))

  pub collector_kept : (gc : GcSettings) (now : ℕ) → collector_next gc (after st es) n now ≡ collector_next gc st n now
  unfolding given
  collector_kept gc now = rest_is gc (after st es) n now ∙ go (standing kind.Configuration n st) refl ∙ sym (rest_is gc st n now)
    where
      go : (o : Option Object) → standing kind.Configuration n st ≡ o → given (standing kind.Configuration n (after st es)) (rest gc (after st es) now) ≡ given (standing kind.Configuration n st) (rest gc st now)
      go None e = ap (λ o. given o (rest gc (after st es) now)) (stand ∙ e) ∙ ap (λ o. given o (rest gc st now)) (sym e)
      go (Some c) e =
          ap (λ o. given o (rest gc (after st es) now)) (stand ∙ e)
          ∙ ap (due gc now) (candidates_kept c (ap (λ (k : Key). k.name) (stands kind.Configuration n st c e).key))
          ∙ ap (λ o. given o (rest gc st now)) (sym e)
