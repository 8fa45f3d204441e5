-- Routes that read what was changed: what is walked is the Route of its name, and it is touched.
use Rattle.std.proofs.Common.{◌≡◌, ◌⊎◌, inl, inr, ℕ, ◌+◌, ◌<◌, ◌≤◌, Bool, true, false, ◌&&◌, ◌||◌, not, List, [], ◌∷◌, Some, cond, bytes_eq, length, refl, sym, ap, ◌∙◌, subst, arith}
use Rattle.std.specs.Prelude.{slice_get}
use Rattle.std.specs.List.{list_any}
use Rattle.resource_types.specs.declared.names.Kind.TheVariants as kind
use Rattle.resource_types.specs.declared.names.Key.{Key}
use Rattle.resource_types.specs.declared.names.Name.{Name}
use Rattle.resource_types.specs.declared.names.SlotKey.{SlotKey}
use Rattle.resource_types.specs.declared.names.Controller.TheVariants as controller
use Rattle.resource_types.specs.declared.specification.Target.{Target}
use Rattle.resource_types.specs.declared.objects.Object.{Object}
use Rattle.resource_types.specs.Objects.{same_kind}
use Rattle.resource_types.specs.Lookups.{Journal, find, of_kind, in_space, state}
use Rattle.resource_types.proofs.Exact.{left, right, bytes-exact, kind-exact}
use Rattle.resource_types.proofs.Ordered.{state-order}
use Rattle.control_rules.specs.Standing.{of_its_kind, standing}
use Rattle.control_rules.specs.Slots.{slot_key}
use Rattle.control_entries.specs.Ground.{IsOrdered}
use Rattle.control_entries.proofs.Tests.{bytes_self, both, some_same, key_of_kind}
use Rattle.control_entries.proofs.Lists.{filter_at, get_below}
use Rattle.control_entries.proofs.Standing.{kind_at}
use Rattle.control_touches.specs.Touches.{is_one, is_one_of, is_changed, is_alike, is_pinned, is_on, is_meaning, targets_in, targets_at, touches, touches_route}
use Rattle.control_touches.proofs.Own.{or_left, or_right}
use Rattle.touched_keys.specs.declared.marks.Mark.{Mark}
use Rattle.touched_keys.specs.Marks.{is_marked, Adds}
use Rattle.touched_keys.specs.Changes.{ChangeView, IsTouched, is_read_by_targets, route_targets, routes_beside, is_any_reading, is_reader, IsRouteBeside, MarksReaders, MarksReadersFirst}
use Rattle.touched_keys.proofs.Over.{last_or_before}

-- ---- what targets are asked

-- a Revision is no Configuration
pub revision_only : (k : Key) → same_kind k.kind kind.Revision ≡ true → same_kind k.kind kind.Configuration ≡ false
revision_only k e = ap (λ z. same_kind z kind.Configuration) (kind-exact k.kind kind.Revision e)

-- what targets are asked, by whether a Configuration was changed
pub reading_as : (c : ChangeView) (n : Name) (ts : List Target) (t : Bool) → same_kind c.key.kind kind.Configuration ≡ t
    → cond t (list_any (is_on c.key.name.name) ts) (list_any (is_meaning c.state n c.key.name.name) ts) ≡ true → is_any_reading c n ts ≡ true
reading_as c n ts t e h = ap (λ b. cond b (list_any (is_on c.key.name.name) ts) (list_any (is_meaning c.state n c.key.name.name) ts)) e ∙ h

-- ---- what is walked

-- what is walked is the Route that stands under its name
pub route_beside : (c : ChangeView) → IsOrdered c.state → (i : ℕ) (o : Object) → slice_get (routes_beside c) i ≡ Some o → IsRouteBeside c o
unfolding targets_at standing
route_beside c ordered i o g =
    (let (same, k, at) = filter_at (λ (x : Object). bytes_eq x.key.name.space c.key.name.space) (of_kind kind.Route c.state) i o g in
    let (of, found) = kind_at kind.Route c.state k o ordered at in
    record {
      space = bytes-exact o.key.name.space c.key.name.space same;
      targets = ap (λ w. targets_in (of_its_kind kind.Route w)) (sym (ap (λ z. find z c.state) (key_of_kind o.key kind.Route of)) ∙ found);
    })

-- a Route that reads what was changed is touched
pub reader_touched : (c : ChangeView) (o : Object) → is_read_by_targets c ≡ true → IsRouteBeside c o → is_reader c o ≡ true → IsTouched c (slot_key controller.Route o.key.name)
unfolding touches touches_route is_one_of
reader_touched c o read beside h = go (same_kind c.key.kind kind.Configuration) refl read h
  where
    n : Name
    n = o.key.name

    space : bytes_eq c.key.name.space n.space ≡ true
    space = subst (λ z. bytes_eq c.key.name.space z ≡ true) (sym beside.space) (bytes_self c.key.name.space)

    go : (t : Bool) → same_kind c.key.kind kind.Configuration ≡ t → (t || (same_kind c.key.kind kind.Revision && not (is_alike c.old c.new))) ≡ true
        → cond t (list_any (is_on c.key.name.name) (route_targets o)) (list_any (is_meaning c.state n c.key.name.name) (route_targets o)) ≡ true → IsTouched c (slot_key controller.Route n)
    go true q read h = or_right (is_one (kind.Route ∷ kind.Table ∷ kind.Service ∷ []) n c.key) _
        (or_left _ _ (both q (both space (ap (list_any (is_on c.key.name.name)) beside.targets ∙ h))))
    go false q read h = or_right (is_one (kind.Route ∷ kind.Table ∷ kind.Service ∷ []) n c.key) _
        (or_right (is_one_of kind.Configuration n.space (λ name. list_any (is_on name) (targets_at c.state n)) c.key) _
        (both (left (same_kind c.key.kind kind.Revision) _ read)
        (both space (or_right (is_changed (is_pinned n c.old) (is_pinned n c.new)) _
        (both (right (same_kind c.key.kind kind.Revision) _ read) (ap (list_any (is_meaning c.state n c.key.name.name)) beside.targets ∙ h))))))

-- the state of a change is in order
pub ordered_in : (c : ChangeView) (j : Journal) → state j ≡ c.state → IsOrdered c.state
ordered_in c j e = subst IsOrdered e (state-order j)

-- ---- the walk

pub readers_next : (P : SlotKey → Type 0) (c : ChangeView) (os : List Object) (n : ℕ) (x : Object) (before after : List Mark) → slice_get os n ≡ Some x → Adds P before after
    → (is_reader c x ≡ true → is_marked (slot_key controller.Route x.key.name) after ≡ true) → MarksReadersFirst n c os before → MarksReadersFirst (n + 1) c os after
readers_next P c os n x before after g adds here all i o lt e = go (last_or_before i n lt)
  where
    go : (i ≡ n) ⊎ (i < n) → is_reader c o ≡ true → is_marked (slot_key controller.Route o.key.name) after ≡ true
    go (inl q) = subst (λ (z : Object). is_reader c z ≡ true → is_marked (slot_key controller.Route z.key.name) after ≡ true) (some_same (sym g ∙ ap (slice_get os) (sym q) ∙ e)) here
    go (inr below) = λ h. adds.kept (slot_key controller.Route o.key.name) (all i o below e h)

pub readers_all : (c : ChangeView) (os walked : List Object) (n : ℕ) (keys : List Mark) → walked ≡ os → length walked ≤ n → MarksReadersFirst n c walked keys → MarksReaders c os keys
readers_all c os walked n keys same le all = subst (λ xs. MarksReaders c xs keys) same (λ i o e. let below = get_below walked i o e in all i o (omega arith) e)
