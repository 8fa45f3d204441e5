-- Nothing becomes due to a Route that no entry touches.
use Rattle.std.proofs.Common.{◌≡◌, ℕ, Bool, true, false, ◌||◌, not, List, [], ◌∷◌, Option, Some, None, refl, sym, ap, ◌∙◌, subst, ◌&&◌, arith}
use Rattle.std.proofs.lemmas.Bool.Decides.{nat_tests}
use Rattle.std.specs.Prelude.{◌==◌, bytes_eq}
use Rattle.std.specs.List.{list_any}
use Rattle.resource_types.specs.declared.names.Kind.TheVariants as kind
use Rattle.resource_types.specs.declared.names.Controller.TheVariants as controller
use Rattle.resource_types.specs.declared.names.Key.{Key}
use Rattle.resource_types.specs.declared.names.Name.{Name}
use Rattle.resource_types.specs.declared.specification.Target.{Target}
use Rattle.resource_types.specs.declared.objects.Object.{Object}
use Rattle.resource_types.specs.Objects.{pins_of, targets_of}
use Rattle.resource_types.specs.Lookups.{State, find}
use Rattle.resource_types.proofs.Exact.{left, right, kind-own}
use Rattle.control_rules.specs.declared.traffic.Found.{Found}
use Rattle.control_rules.specs.declared.traffic.Resolved.{Resolved}
use Rattle.control_rules.specs.Standing.{listed, of_its_kind, beside, key_at, read, standing, is_orphan}
use Rattle.control_rules.specs.Resolution.{stored, Meant, first_hindrance, meant_of, meant_unless, pairs_of, resolved, resolution, assigned, host_of}
use Rattle.control_rules.specs.TrafficStatuses.{route_status}
use Rattle.control_rules.specs.Readings.{own_targets}
use Rattle.control_rules.specs.Differences.{ObjectPlan, first_plan, when, given, removal, status_change}
use Rattle.control_rules.specs.NextRoute.{add_pin, drop_pin, first_unpinned, repinned, first_spare, assigned_of, assigned_at, is_own_table, table_of, published, route_orphaned, table_foreign, pin_lacking, table_differs, route_status_differs, pin_spare, route_next}
use Rattle.control_rules.specs.Slots.{ObjectEntry, slot_key}
use Rattle.control_entries.proofs.Tests.{not_both, not_true, false_from, both, bytes_self, some_same, none_some}
use Rattle.control_entries.proofs.Each.{Each, each_by}
use Rattle.control_entries.proofs.Standing.{stands}
use Rattle.control_touches.specs.Touches.{is_changed, is_alike, is_same_sight, sight_of, is_one, is_one_of, is_on, meant_name, is_meaning, is_pinned, targets_in, targets_at, touches, touches_route, is_touched_by}
use Rattle.control_touches.specs.Named.{AreNamed}
use Rattle.control_touches.proofs.Paths.{after, ArePuts}
use Rattle.control_touches.proofs.Own.{get_kept, or_left, or_right, one_is, find_kept, stands_kept}
use Rattle.control_touches.proofs.Freedom.{unchanged, first_false, second_false}
use Rattle.control_touches.proofs.Revisions.{first_none, none_first}
use Rattle.control_touches.proofs.Configurations.{orphan_kept}
use Rattle.control_touches.proofs.Meanings.{IsReadAlike, ReadsAlike, each_any, pairs_alike, unpinned_alike, meant_alike}
use Rattle.control_touches.proofs.Spares.{pin_kept, spare_kept}

-- ---- parts

-- the differences by what they read
abbrev pin : Name → ℕ → Object → Option ObjectPlan
pin r now v = Some (repinned v (add_pin r.name (pins_of v.body)) now)

abbrev pins : State → Name → ℕ → List Meant → Option ObjectPlan
pins st r now ms = given (first_unpinned st r ms) (pin r now)

abbrev unpin : Name → ℕ → Object → Option ObjectPlan
unpin r now v = Some (repinned v (drop_pin r.name (pins_of v.body)) now)

abbrev told : List ℕ → Name → ℕ → Option Object → Object → List (Target × Found) → Option ObjectPlan
told domain r now table o ps = status_change o (route_status o.meta.stamp.generation (host_of [] r domain) (resolved r domain ps) (own_targets o.meta.stamp.uid table)) now

-- where all targets are ready, what they mean
meant_some : (h : Option Resolved) (ms ns : List Meant) → meant_unless h ms ≡ Some ns → ms ≡ ns
meant_some None ms ns e = some_same e
meant_some (Some x) ms ns e = absurd cc

-- a plan for what is there, by the same answers
given_alike : {A : Type 0} (o : Option A) (f g : A → Option ObjectPlan) → ((a : A) → o ≡ Some a → f a ≡ g a) → given o f ≡ given o g
unfolding given
given_alike None f g h = refl
given_alike (Some a) f g h = h a refl

-- the first that is due to a Route
none_six : (a b c d e f : Option ObjectPlan) → first_plan a (first_plan b (first_plan c (first_plan d (first_plan e f)))) ≡ None
    → (a ≡ None) × ((b ≡ None) × ((c ≡ None) × ((d ≡ None) × ((e ≡ None) × (f ≡ None)))))
none_six a b c d e f h =
    let one = first_none a _ h in
    let two = first_none b _ one.1 in
    let three = first_none c _ two.1 in
    let four = first_none d _ three.1 in
    (one.0, (two.0, (three.0, (four.0, first_none e f four.1))))

six_none : (a b c d e f : Option ObjectPlan) → a ≡ None → b ≡ None → c ≡ None → d ≡ None → e ≡ None → f ≡ None → first_plan a (first_plan b (first_plan c (first_plan d (first_plan e f)))) ≡ None
six_none a b c d e f p q r s t u = none_first a _ p (none_first b _ q (none_first c _ r (none_first d _ s (none_first e f t u))))

-- ---- what is read of a Revision

sight_same : (a b : Option (ℕ × (Bool × Bool))) → is_same_sight a b ≡ true → a ≡ b
sight_same None None e = refl
sight_same None (Some b) e = absurd cc
sight_same (Some a) None e = absurd cc
sight_same (Some a) (Some b) e =
    let uid = number a.0 b.0 (left (a.0 == b.0) _ e) in
    let off = not_true (right (a.0 == b.0) _ e) in
    λ i. Some (uid i, (sym (unchanged a.1.0 b.1.0 (first_false _ _ off)) i, sym (unchanged a.1.1 b.1.1 (second_false _ _ off)) i))
  where
    number : (x y : ℕ) → (x == y) ≡ true → x ≡ y
    number x y e = grind (arith, nat_tests)

alike_from : (a b : Bool) → b ≡ true → (not a && b) ≡ false → a ≡ true
alike_from true b e h = refl
alike_from false b e h = absurd (not_both e h)

-- ---- keys that a Route reads

of_space : (k : Key) (r : Name) (test : List ℕ → Bool) → k.name.space ≡ r.space → test k.name.name ≡ true → is_one_of k.kind r.space test k ≡ true
unfolding is_one_of
of_space k r test e h = both (kind-own k.kind) (both (subst (λ s. bytes_eq k.name.space s ≡ true) e (bytes_self k.name.space)) h)

space_off : (k : Key) (r : Name) (test : List ℕ → Bool) → k.name.space ≡ r.space → is_one_of k.kind r.space test k ≡ false → test k.name.name ≡ false
space_off k r test e h = false_from (λ t. not_both (of_space k r test e t) h)

module _ (st : State) (es : List ObjectEntry) (puts : ArePuts es) (r : Name) (named : AreNamed st) (now_named : AreNamed (after st es)) (calm : is_touched_by (after st es) st es (slot_key controller.Route r) ≡ false) where
  route : standing kind.Route r (after st es) ≡ standing kind.Route r st
  unfolding touches touches_route
  route = stands_kept (after st es) st es puts _ calm kind.Route r (λ old new. or_left _ _ (one_is _ kind.Route r refl))

  table : standing kind.Table r (after st es) ≡ standing kind.Table r st
  unfolding touches touches_route
  table = stands_kept (after st es) st es puts _ calm kind.Table r (λ old new. or_left _ _ (one_is _ kind.Table r refl))

  service : find (key_at kind.Service r) (after st es) ≡ find (key_at kind.Service r) st
  unfolding touches touches_route
  service = find_kept (after st es) st es puts _ calm (key_at kind.Service r) (λ old new. or_left _ _ (one_is _ kind.Service r refl))

  configuration : (name : List ℕ) → list_any (is_on name) (targets_at (after st es) r) ≡ true → standing kind.Configuration (beside r name) (after st es) ≡ standing kind.Configuration (beside r name) st
  unfolding touches touches_route
  configuration name h =
      stands_kept (after st es) st es puts _ calm kind.Configuration (beside r name)
      (λ old new. or_right (is_one (kind.Route ∷ kind.Table ∷ kind.Service ∷ []) r (key_at kind.Configuration (beside r name))) _
      (or_left _ _ (of_space (key_at kind.Configuration (beside r name)) r (λ name. list_any (is_on name) (targets_at (after st es) r)) refl h)))

  sight : (name : List ℕ) → list_any (is_meaning (after st es) r name) (targets_at (after st es) r) ≡ true
      → sight_of (standing kind.Revision (beside r name) (after st es)) ≡ sight_of (standing kind.Revision (beside r name) st)
  unfolding touches touches_route standing is_alike
  sight name h =
      get_kept (after st es) st es puts _ calm (λ o. sight_of (of_its_kind kind.Revision o)) (key_at kind.Revision (beside r name))
      (λ old new t. sym (sight_same (sight_of (of_its_kind kind.Revision old)) (sight_of (of_its_kind kind.Revision new))
      (alike_from _ _ h (second_false _ _ (space_off (key_at kind.Revision (beside r name)) r (λ name. is_changed (is_pinned r old) (is_pinned r new) || (not (is_alike old new) && list_any (is_meaning (after st es) r name) (targets_at (after st es) r))) refl
      (second_false _ _ (second_false _ _ t)))))))

  pinned : (name : List ℕ) → listed r.name (read [] pins_of (standing kind.Revision (beside r name) (after st es))) ≡ listed r.name (read [] pins_of (standing kind.Revision (beside r name) st))
  unfolding standing is_pinned
  pinned name = pin_kept (after st es) st es puts r calm (key_at kind.Revision (beside r name)) refl refl

  -- its targets read the same
  alike : (o : Object) → standing kind.Route r st ≡ Some o → Each (ReadsAlike (after st es) st r) (targets_of o.body)
  unfolding is_on is_meaning targets_at targets_in
  alike o e =
      subst (λ z. Each (ReadsAlike (after st es) st r) (read [] targets_of z)) (route ∙ e)
      (each_by _ _ (targets_at (after st es) r)
      (λ t h. record {
        configuration = λ empty. configuration t.configuration (h (is_on t.configuration) (both empty (bytes_self t.configuration)));
        revision = record { sight = sight (meant_name (after st es) r t) (h (is_meaning (after st es) r (meant_name (after st es) r t)) (bytes_self (meant_name (after st es) r t))); pinned = pinned (meant_name (after st es) r t) };
      })
      (each_any (targets_at (after st es) r)))

  -- ---- the differences

  orphaned_kept : route_orphaned (after st es) r ≡ route_orphaned st r
  orphaned_kept =
      ap (λ o. given o (λ o. when (is_orphan (after st es) o) (removal o))) route
      ∙ given_alike (standing kind.Route r st) _ _
      (λ o e. ap (λ t. when t (removal o)) (orphan_kept (after st es) st r o (named.routed r o e) (ap (λ (k : Key). k.name) (stands kind.Route r st o e).key) service))

  foreign_kept : table_foreign (after st es) r ≡ table_foreign st r
  foreign_kept = λ i. given (table i) (λ t. when (not (is_own_table (route i) t)) (removal t))

  assigned_kept : assigned_at stored (after st es) r ≡ assigned_at stored st r
  unfolding assigned_at assigned
  assigned_kept = go (standing kind.Route r st) refl
    where
      go : (o : Option Object) → standing kind.Route r st ≡ o → assigned_at stored (after st es) r ≡ assigned_at stored st r
      go None e = ap (assigned_of stored (after st es) r) (route ∙ e) ∙ ap (assigned_of stored st r) (sym e)
      go (Some o) e =
          ap (assigned_of stored (after st es) r) (route ∙ e)
          ∙ ap (λ ps. meant_unless (first_hindrance 0 ps) (meant_of ps)) (pairs_alike (after st es) st r (targets_of o.body) (alike o e))
          ∙ ap (assigned_of stored st r) (sym e)

  unpinned_kept : (ms : List Meant) → assigned_at stored (after st es) r ≡ Some ms → first_unpinned st r ms ≡ None → first_unpinned (after st es) r ms ≡ None
  unfolding assigned_at assigned
  unpinned_kept ms h = go (standing kind.Route r st) refl
    where
      go : (o : Option Object) → standing kind.Route r st ≡ o → first_unpinned st r ms ≡ None → first_unpinned (after st es) r ms ≡ None
      go None e = absurd (none_some (ap (assigned_of stored (after st es) r) (route ∙ e)) h)
      go (Some o) e =
          unpinned_alike (after st es) st r ms
          (subst (λ z. Each (λ (m : Meant). IsReadAlike (after st es) st r m.name) z)
          (meant_some _ _ ms (sym (ap (assigned_of stored (after st es) r) (route ∙ e)) ∙ h))
          (meant_alike (after st es) st r (targets_of o.body) (alike o e)))

  lacking_none : (now : ℕ) → pin_lacking st r now ≡ None → pin_lacking (after st es) r now ≡ None
  unfolding given
  lacking_none now h = go (assigned_at stored (after st es) r) refl
    where
      none : (o : Option Object) → given o (pin r now) ≡ None → o ≡ None
      none None e = refl
      none (Some v) e = absurd cc

      go : (a : Option (List Meant)) → assigned_at stored (after st es) r ≡ a → pin_lacking (after st es) r now ≡ None
      go None e = ap (λ a. given a (pins (after st es) r now)) e
      go (Some ms) e =
          ap (λ a. given a (pins (after st es) r now)) e
          ∙ ap (λ v. given v (pin r now)) (unpinned_kept ms e (none (first_unpinned st r ms) (sym (ap (λ a. given a (pins st r now)) (sym assigned_kept ∙ e)) ∙ h)))

  differs_kept : (domain : List ℕ) → table_differs domain (after st es) r ≡ table_differs domain st r
  differs_kept domain = λ i. given (route i) (λ o. given (assigned_kept i) (λ ms. published r (table i) (table_of r domain o ms)))

  told_kept : (domain : List ℕ) (now : ℕ) → route_status_differs domain (after st es) r now ≡ route_status_differs domain st r now
  unfolding resolution
  told_kept domain now =
      ap (λ o. given o (λ o. told domain r now (standing kind.Table r (after st es)) o (pairs_of stored (after st es) r (targets_of o.body)))) route
      ∙ given_alike (standing kind.Route r st) _ _
      (λ o e. λ i. told domain r now (table i) o (pairs_alike (after st es) st r (targets_of o.body) (alike o e) i))

  spare_none : (now : ℕ) → pin_spare st r now ≡ None → pin_spare (after st es) r now ≡ None
  unfolding given
  spare_none now h = ap (λ o. given o (unpin r now)) (spare_kept (after st es) st es puts r calm named.ordered now_named.ordered table route (none (first_spare st r) h))
    where
      none : (o : Option Object) → given o (unpin r now) ≡ None → o ≡ None
      none None e = refl
      none (Some v) e = absurd cc

  -- nothing becomes due
  pub route_kept : (domain : List ℕ) (now : ℕ) → route_next domain st r now ≡ None → route_next domain (after st es) r now ≡ None
  unfolding route_next
  route_kept domain now h =
      let parts = none_six (route_orphaned st r) (table_foreign st r) (pin_lacking st r now) (table_differs domain st r) (route_status_differs domain st r now) (pin_spare st r now) h in
      six_none (route_orphaned (after st es) r) (table_foreign (after st es) r) (pin_lacking (after st es) r now) (table_differs domain (after st es) r) (route_status_differs domain (after st es) r now) (pin_spare (after st es) r now)
      (orphaned_kept ∙ parts.0) (foreign_kept ∙ parts.1.0) (lacking_none now parts.1.1.0) (differs_kept domain ∙ parts.1.1.1.0) (told_kept domain now ∙ parts.1.1.1.1.0) (spare_none now parts.1.1.1.1.1)
