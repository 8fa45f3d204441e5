-- No Revision gets a spare pin of a Route, where no entry touches the Route.
use Rattle.std.proofs.Common.{◌≡◌, ℕ, Bool, true, false, ◌&&◌, ◌||◌, not, List, [], ◌∷◌, Option, Some, None, refl, sym, ap, ◌∙◌, subst}
use Rattle.std.specs.Prelude.{bytes_eq, cond}
use Rattle.std.specs.List.{list_any}
use Rattle.resource_types.specs.declared.names.Kind.TheVariants as kind
use Rattle.resource_types.specs.declared.names.Controller.TheVariants as controller
use Rattle.resource_types.specs.declared.names.Key.{Key}
use Rattle.resource_types.specs.declared.names.Name.{Name}
use Rattle.resource_types.specs.declared.objects.Object.{Object}
use Rattle.resource_types.specs.Objects.{is_of, no_status, pins_of, same_kind, status_of}
use Rattle.resource_types.specs.Lookups.{State, find, of_kind}
use Rattle.resource_types.proofs.Exact.{left, right, bytes-exact}
use Rattle.control_rules.specs.Standing.{listed, read, standing, published_of, published_at, target_names, traffic_at}
use Rattle.control_rules.specs.NextRoute.{is_spare, first_spare}
use Rattle.control_rules.specs.Slots.{ObjectEntry, slot_key}
use Rattle.control_entries.specs.Ground.{IsOrdered}
use Rattle.control_entries.proofs.Tests.{both, listed_none, not_both, false_from, bytes_self}
use Rattle.control_entries.proofs.Each.{Each, each_by, each_passing, find_none, none_found}
use Rattle.control_entries.proofs.Standing.{found_key, IsFound, all_found, is_of_parts}
use Rattle.control_touches.specs.Touches.{is_changed, is_one_of, is_pinned, is_alike, is_meaning, targets_at, touches, touches_route, is_touched_by}
use Rattle.control_touches.proofs.Paths.{after, ArePuts}
use Rattle.control_touches.proofs.Own.{get_kept}
use Rattle.control_touches.proofs.Freedom.{unchanged, first_false, second_false}
use Rattle.control_touches.proofs.Among.{any_found}

-- ---- a Revision's key

revision_off : (r : Name) (q : Key) (test : List ℕ → Bool) → q.kind ≡ kind.Revision → q.name.space ≡ r.space → is_one_of kind.Revision r.space test q ≡ false → test q.name.name ≡ false
unfolding is_one_of
revision_off r q test of space h =
    sym (subst (λ k. (same_kind k kind.Revision && (bytes_eq q.name.space r.space && test q.name.name)) ≡ test q.name.name) (sym of)
    (subst (λ s. (bytes_eq s r.space && test q.name.name) ≡ test q.name.name) (sym space) (ap (λ t. t && test q.name.name) (bytes_self r.space))))
    ∙ h

any_none_at : {X : Type 0} (f : X → Bool) (xs : List X) → Each (λ x. f x ≡ false) xs → list_any f xs ≡ false
any_none_at f [] h = refl
any_none_at f (x ∷ xs) h = ap (λ b. b || list_any f xs) h.0 ∙ any_none_at f xs h.1

module _ (b st : State) (es : List ObjectEntry) (puts : ArePuts es) (r : Name) (calm : is_touched_by b st es (slot_key controller.Route r) ≡ false) where
  -- an entry on a Revision in the namespace doesn't change whether that has the Route's pin
  pub pin_kept : (q : Key) → q.kind ≡ kind.Revision → q.name.space ≡ r.space → is_pinned r (find q (after st es)) ≡ is_pinned r (find q st)
  unfolding touches touches_route
  pin_kept q of space =
      get_kept b st es puts _ calm (is_pinned r) q
      (λ old new t. unchanged (is_pinned r old) (is_pinned r new)
      (first_false _ _ (revision_off r q (λ name. is_changed (is_pinned r old) (is_pinned r new) || (not (is_alike old new) && list_any (is_meaning b r name) (targets_at b r))) of space (second_false _ _ (second_false _ _ t)))))

  -- what has the Route's pin is spare, where nothing names it
  spare_stands : (q : Key) (o : Option Object) → q.kind ≡ kind.Revision → q.name.space ≡ r.space → find q st ≡ o → is_pinned r o ≡ true
      → not (listed q.name.name (published_at st r) || listed q.name.name (traffic_at st r)) ≡ true → first_spare st r ≡ None → ⊥
  unfolding first_spare is_spare is_pinned
  spare_stands q None of space e pin spare h = listed_none r.name pin
  spare_stands q (Some v) of space e pin spare h = go (is_of kind.Revision v) refl pin
    where
      same : v.key ≡ q
      same = found_key q st v e

      go : (t : Bool) → is_of kind.Revision v ≡ t → listed r.name (read [] pins_of (cond t (Some v) None)) ≡ true → ⊥
      go false f pin = listed_none r.name pin
      go true f pin = not_both
          (any_found (is_spare st r) kind.Revision st q v of e
          (both (both f (subst (λ (k : Key). bytes_eq k.name.space r.space ≡ true) (sym same) (subst (λ z. bytes_eq q.name.space z ≡ true) space (bytes_self q.name.space))))
          (both pin (subst (λ (k : Key). not (listed k.name.name (published_at st r) || listed k.name.name (traffic_at st r)) ≡ true) (sym same) spare))))
          (any_none_at (is_spare st r) (of_kind kind.Revision st) (none_found (is_spare st r) (of_kind kind.Revision st) h))

  pub spare_kept : IsOrdered st → IsOrdered (after st es) → standing kind.Table r (after st es) ≡ standing kind.Table r st → standing kind.Route r (after st es) ≡ standing kind.Route r st
      → first_spare st r ≡ None → first_spare (after st es) r ≡ None
  unfolding first_spare is_spare is_pinned
  spare_kept ordered now table route h =
      find_none (is_spare (after st es) r) (of_kind kind.Revision (after st es))
      (each_by _ _ (of_kind kind.Revision (after st es)) (λ v t. none v t.1)
      (each_passing (IsFound (after st es)) (λ (o : Object). same_kind o.key.kind kind.Revision) (after st es) (all_found (after st es) now)))
    where
      rest : (x : List ℕ) → not (listed x (published_at (after st es) r) || listed x (traffic_at (after st es) r)) ≡ not (listed x (published_at st r) || listed x (traffic_at st r))
      rest x = λ i. not (listed x (read [] published_of (table i)) || listed x (target_names (read no_status status_of (route i)).traffic))

      none : (v : Object) → IsFound (after st es) v → is_spare (after st es) r v ≡ false
      none v found = false_from (λ t.
          let one = left (is_of kind.Revision v && bytes_eq v.key.name.space r.space) _ t in
          let two = right (is_of kind.Revision v && bytes_eq v.key.name.space r.space) _ t in
          let of = left (is_of kind.Revision v) (bytes_eq v.key.name.space r.space) one in
          let space = bytes-exact v.key.name.space r.space (right (is_of kind.Revision v) (bytes_eq v.key.name.space r.space) one) in
          let pinned : is_pinned r (find v.key (after st es)) ≡ true = ap (is_pinned r) found ∙ ap (λ z. listed r.name (read [] pins_of (cond z (Some v) None))) of ∙ left (listed r.name (pins_of v.body)) _ two in
          spare_stands v.key (find v.key st) (is_of_parts kind.Revision v of).0 space refl (sym (pin_kept v.key (is_of_parts kind.Revision v of).0 space) ∙ pinned)
          (sym (rest v.key.name.name) ∙ right (listed r.name (pins_of v.body)) _ two) h)
