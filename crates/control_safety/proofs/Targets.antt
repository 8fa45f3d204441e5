-- While no guard changes, no target comes up.
use Rattle.std.proofs.Common.{◌≡◌, ◌⊎◌, inl, inr, ℕ, suc, ◌≤◌, Bool, true, false, length, Option, Some, None, refl, sym, ap, ◌∙◌, subst, arith}
use Rattle.std.specs.Prelude.{slice_get, ◌&&◌, bytes_eq}
use Rattle.std.specs.List.{list_any}
use Rattle.std.proofs.lemmas.Bool.{or_left, or_right}
use Rattle.version_store.specs.Index.{AreInOrder}
use Rattle.version_store.specs.Journal.{is_new_spec, changes_guard}
use Rattle.resource_types.specs.declared.names.Kind.{Kind}
use Rattle.resource_types.specs.declared.names.Kind.TheVariants as kind
use Rattle.resource_types.specs.declared.names.Name.{Name}
use Rattle.resource_types.specs.declared.names.Key.{Key}
use Rattle.resource_types.specs.declared.objects.Body.{Body}
use Rattle.resource_types.specs.declared.objects.Body.TheVariants.{Service, Route}
use Rattle.resource_types.specs.declared.objects.Object.{Object}
use Rattle.resource_types.specs.declared.manifests.Manifest.{Manifest}
use Rattle.resource_types.specs.contracts.names.KeyOrd.TheImpl as key_order
use Rattle.resource_types.specs.contracts.item.ObjectItem.TheImpl as object_item
use Rattle.resource_types.specs.Objects.{is_of, kind_of_body, targets_of}
use Rattle.resource_types.specs.Spec.{spec_of, same_spec, is_guarding}
use Rattle.resource_types.specs.Lookups.{Journal, State, find, of_kind, is_naming, is_target, is_target_on}
use Rattle.resource_types.proofs.Exact.{spec-exact, left, right}
use Rattle.resource_types.proofs.Latest.{key_of_object}
use Rattle.control_rules.specs.declared.settings.Settings.{Settings}
use Rattle.control_rules.specs.Slots.{ObjectEntry, state_at}
use Rattle.control_rules.specs.Lawful.{IsUnguarded, IsLawful}
use Rattle.control_entries.proofs.Tests.{both, not_both, false_from, or_cases, kind_same, not_false}
use Rattle.control_entries.proofs.Lists.{any_at, at_any, along}
use Rattle.control_entries.proofs.Standing.{found_key, is_of_parts, is_of_both, kind_at, at_kind}
use Rattle.control_entries.proofs.Positions.{ordered_at, at_more}
use Rattle.control_entries.proofs.Stamps.{put_key}
use Rattle.control_entries.proofs.Sound.{fits}

targets-spec : (b : Body) → targets_of (spec_of b) ≡ targets_of b
targets-spec (Service t ts s) = refl
targets-spec _ = refl

-- Services and Routes guard
abbrev pub IsGuard : Kind → Type 0
IsGuard k = (k ≡ kind.Service) ⊎ (k ≡ kind.Route)

guarding : (k : Kind) (b : Body) → IsGuard k → kind_of_body b ≡ k → is_guarding k b ≡ true
guarding k b (inl e) h = go b (h ∙ e)
  where
    go : (b : Body) → kind_of_body b ≡ kind.Service → is_guarding k b ≡ true
    go (Service t ts s) q = ap (λ z. is_guarding z (Service t ts s)) e
    go _ q = absurd cc
guarding k b (inr e) h = go b (h ∙ e)
  where
    go : (b : Body) → kind_of_body b ≡ kind.Route → is_guarding k b ≡ true
    go (Route ts s) q = ap (λ z. is_guarding z (Route ts s)) e
    go _ q = absurd cc

-- an object of the kind stands that names the Revision
pub record Names (k : Kind) (st : State) (v : Name) : Type 0 where
  pub key : Key
  pub object : Object
  pub stands : find key st ≡ Some object
  pub naming : is_naming k v object ≡ true

pub names_from : (k : Kind) (st : State) (v : Name) → AreInOrder key_of_object key_order.ghosts.cmp st
    → list_any (is_naming k v) (of_kind k st) ≡ true → Names k st v
names_from k st v ordered h =
    (let (i, o, e, t) = any_at (is_naming k v) (of_kind k st) h in record { key = o.key; object = o; stands = (kind_at k st i o ordered e).1; naming = t })

names_to : (k : Kind) (st : State) (v : Name) → Names k st v → list_any (is_naming k v) (of_kind k st) ≡ true
names_to k st v n =
    (let kinds = is_of_parts k n.object (left _ (bytes_eq n.object.key.name.space v.space) (left _ _ n.naming)) in
    let key = found_key n.key st n.object n.stands in
    let (i, e) = at_kind k st n.key n.object n.stands (kind_same (sym key) ∙ kinds.0) in
    at_any (is_naming k v) (of_kind k st) i n.object e n.naming)

module _ {is_good : Manifest → Bool} {settings : Settings} {j : Journal} (lawful : IsLawful is_good settings j) where
  -- an entry that changes no guard brings up no target
  names_was : (k : Kind) → IsGuard k → (n : ℕ) (e : ObjectEntry) → slice_get j n ≡ Some e → n ≤ length j
      → changes_guard object_item.ghosts (find e.key (state_at j n)) e.object ≡ false → (v : Name) → Names k (state_at j (suc n)) v
      → Names k (state_at j n) v
  names_was k guard n e g len quiet v x =
      at_more j lawful.stamps n e g x.key (λ w. w ≡ Some x.object → Names k (state_at j n) v)
      (λ q s. new q s (find e.key (state_at j n)) refl (subst (λ w. changes_guard object_item.ghosts (find e.key (state_at j n)) w ≡ false) s quiet))
      (λ _ s. record { key = x.key; object = x.object; stands = s; naming = x.naming })
      x.stands
    where
      kinds : (x.object.key.kind ≡ k) × (kind_of_body x.object.body ≡ k)
      kinds = is_of_parts k x.object (left _ (bytes_eq x.object.key.name.space v.space) (left _ _ x.naming))

      guards : is_guarding x.object.key.kind x.object.body ≡ true
      guards = ap (λ z. is_guarding z x.object.body) kinds.0 ∙ guarding k x.object.body guard kinds.1

      new : e.key ≡ x.key → e.object ≡ Some x.object → (w : Option Object) → find e.key (state_at j n) ≡ w
          → (is_guarding x.object.key.kind x.object.body && is_new_spec same_spec (find e.key (state_at j n)) x.object) ≡ false
          → Names k (state_at j n) v
      new q s w a t = from w a (unchanged w a)
        where
          unchanged : (w : Option Object) → find e.key (state_at j n) ≡ w → is_new_spec same_spec w x.object ≡ false
          unchanged w a = subst (λ z. is_new_spec same_spec z x.object ≡ false) a (subst (λ b. (b && is_new_spec same_spec (find e.key (state_at j n)) x.object) ≡ false) guards t)

          from : (w : Option Object) → find e.key (state_at j n) ≡ w → is_new_spec same_spec w x.object ≡ false → Names k (state_at j n) v
          from None a u = absurd cc
          from (Some old) a u = record { key = e.key; object = old; stands = a; naming = both (both (is_of_both k old kind_is fit) space) names }
            where
              key : old.key ≡ x.object.key
              key = found_key e.key (state_at j n) old a ∙ sym (put_key lawful n e g x.object s)

              kind_is : old.key.kind ≡ k
              kind_is = kind_same key ∙ kinds.0

              fit : kind_of_body old.body ≡ k
              fit = fits lawful n len e.key old a ∙ kind_same (sym (found_key e.key (state_at j n) old a)) ∙ kind_is

              space : bytes_eq old.key.name.space v.space ≡ true
              space = ap (λ (z : Key). bytes_eq z.name.space v.space) key ∙ right (is_of k x.object) _ (left _ _ x.naming)

              same : same_spec old x.object ≡ true
              same = not_false u

              targets : targets_of old.body ≡ targets_of x.object.body
              targets = sym (targets-spec old.body) ∙ ap targets_of (spec-exact old x.object same) ∙ targets-spec x.object.body

              names : list_any (is_target_on v.name) (targets_of old.body) ≡ true
              names = ap (list_any (is_target_on v.name)) targets
                  ∙ right (is_of k x.object && bytes_eq x.object.key.name.space v.space) _ x.naming

  names_since : (k : Kind) → IsGuard k → (m n : ℕ) → m ≤ n → n ≤ length j → IsUnguarded j m n → (v : Name) → Names k (state_at j n) v
      → Names k (state_at j m) v
  names_since k guard m n le len quiet v =
      along j (λ i. Names k (state_at j i) v → Names k (state_at j m) v) m n le len
      (λ i e a b g ih x. ih (names_was k guard i e g (omega arith) (quiet i e a b g) v x))
      (λ x. x)

  -- under the guard what is no target stays none
  pub untargeted_since : (m n : ℕ) → m ≤ n → n ≤ length j → IsUnguarded j m n → (v : Name) → is_target (state_at j m) v ≡ false
      → is_target (state_at j n) v ≡ false
  untargeted_since m n le len quiet v none = false_from (λ h. not_both (back (or_cases h)) none)
    where
      back : (list_any (is_naming kind.Service v) (of_kind kind.Service (state_at j n)) ≡ true) ⊎ (list_any (is_naming kind.Route v) (of_kind kind.Route (state_at j n)) ≡ true)
          → is_target (state_at j m) v ≡ true
      back (inl h) = or_left _ _ (names_to kind.Service (state_at j m) v (names_since kind.Service (inl refl) m n le len quiet v (names_from kind.Service (state_at j n) v (ordered_at j n) h)))
      back (inr h) = or_right _ _ (names_to kind.Route (state_at j m) v (names_since kind.Route (inr refl) m n le len quiet v (names_from kind.Route (state_at j n) v (ordered_at j n) h)))
