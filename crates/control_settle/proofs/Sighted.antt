-- What a Route's targets come to stays, once all is calm: nearly in all rounds, and wholly where no Revision comes.
use Rattle.std.proofs.Common.{◌≡◌, ◌≢◌, ◌⊎◌, inl, inr, ℕ, suc, Bool, true, false, ◌||◌, not, List, [], ◌∷◌, Option, Some, None, bytes_eq, refl, sym, ap, ◌∙◌, subst}
use Rattle.std.specs.List.{list_any}
use Rattle.resource_types.specs.declared.names.Kind.TheVariants as kind
use Rattle.resource_types.specs.declared.names.Controller.{Controller}
use Rattle.resource_types.specs.declared.names.Name.{Name}
use Rattle.resource_types.specs.declared.conditions.CondName.TheVariants as condition
use Rattle.resource_types.specs.declared.specification.Target.{Target}
use Rattle.resource_types.specs.declared.objects.Object.{Object}
use Rattle.resource_types.specs.Objects.{same_kind, kind_of_body, has_been_ready, status_of, targets_of}
use Rattle.resource_types.specs.Lookups.{State, is_empty, is_target, is_naming, is_target_on, of_kind}
use Rattle.resource_types.proofs.Exact.{left}
use Rattle.control_rules.specs.declared.settings.Settings.{Settings}
use Rattle.control_rules.specs.declared.traffic.Found.TheVariants as found
use Rattle.control_rules.specs.Standing.{beside, key_at, standing}
use Rattle.control_rules.specs.Resolution.{stored, found_revision, found_of, pairs_of, assigned, resolved, resolution}
use Rattle.control_rules.specs.Collection.{latest_been}
use Rattle.control_rules.specs.Readings.{simple_name_of, revision_name}
use Rattle.control_rules.specs.NextConfiguration.{made_revision}
use Rattle.control_rules.specs.NextRoute.{assigned_of, assigned_at}
use Rattle.control_settle.specs.Grounds.{IsSoundState}
use Rattle.control_settle.proofs.Machine.{In, First, Later}
use Rattle.control_entries.proofs.Changes.{Change, stands_elsewhere, put_here}
use Rattle.control_entries.proofs.Tests.{not_both, both, some_same, none_some, bytes_self}
use Rattle.control_entries.proofs.Standing.{key_or_not, stands}
use Rattle.control_entries.specs.Ground.{IsOrdered}
use Rattle.control_settle.proofs.Lists.{in_found}
use Rattle.control_settle.proofs.Likeness.{Like, KeptAt, restated_like}
use Rattle.control_settle.proofs.Members.{sound_key, Going}
use Rattle.control_settle.proofs.Effects.{born, Effect}
use Rattle.control_settle.proofs.Settled.{settled_kept}
use Rattle.control_settle.proofs.Known.{Known}
use Rattle.control_settle.proofs.Past.{past, owned_parts, been_chosen, filter_in}
use Rattle.control_settle.proofs.Readies.{says_same, configuration_from, Remains, Same, Told, told_names, name_after}
use Rattle.control_settle.proofs.Calming.{Calm}
use Rattle.control_settle.proofs.Sights.{Revisions, Keep, Make, Lose, revisions, Sees, sees_same, found_like, ready_if, found_same, Nearly, Comes, equally, assigned_near}

-- ---- what is no target

pub any_in : {A : Type 0} (test : A → Bool) (xs : List A) (x : A) → In x xs → test x ≡ true → list_any test xs ≡ true
any_in test (y ∷ xs) x (Later m) e = go (test y) (any_in test xs x m e)
  where
    go : (t : Bool) → list_any test xs ≡ true → (t || list_any test xs) ≡ true
    go true h = refl
    go false h = h
any_in test (_ ∷ xs) x First e = ap (λ t. t || list_any test xs) e
any_in test [] x m e = elim m [ ]

second_false : (x y : Bool) → (x || y) ≡ false → y ≡ false
second_false true y e = absurd cc
second_false false y e = e

pub untargeted : (a : State) (w r : Name) (o : Object) (t : Target) → is_target a w ≡ false → standing kind.Route r a ≡ Some o → o.key.name.space ≡ w.space → In t (targets_of o.body) → is_empty t.revision ≡ false → t.revision ≡ w.name → ⊥
untargeted a w r o t none at space among some names =
    let f = stands kind.Route r a o at in
    let naming : is_naming kind.Route w o ≡ true = both (both f.of (subst (λ z. bytes_eq o.key.name.space z ≡ true) space (bytes_self o.key.name.space))) (any_in (is_target_on w.name) (targets_of o.body) t among (both (ap not some) (subst (λ z. bytes_eq t.revision z ≡ true) names (bytes_self t.revision)))) in
    let member : In o (of_kind kind.Route a) = filter_in (λ (p : Object). same_kind p.key.kind kind.Route) a o (in_found a (key_at kind.Route r) o f.found) (left (same_kind o.key.kind kind.Route) (same_kind (kind_of_body o.body) kind.Route) f.of) in
    not_both (any_in (is_naming kind.Route w) (of_kind kind.Route a) o member naming) (second_false (list_any (is_naming kind.Service w) (of_kind kind.Service a)) (list_any (is_naming kind.Route w) (of_kind kind.Route a)) none)

-- ---- what a Configuration names stands

pub record NamedReady (a : State) (q : Name) (x : List ℕ) : Type 0 where
  pub configuration : Object
  pub stands : standing kind.Configuration q a ≡ Some configuration
  pub chosen : Object
  pub is : latest_been has_been_ready a configuration ≡ Some chosen
  pub at : standing kind.Revision (beside q x) a ≡ Some chosen

pub named_ready : (n : ℕ) (a : State) (q : Name) (x : List ℕ) → IsSoundState n a → IsOrdered a → Calm a → ready_if (standing kind.Configuration q a) ≡ Some x → is_empty x ≡ false → NamedReady a q x
named_ready n a q x sound order calm e full = go (standing kind.Configuration q a) refl e
  where
    go : (w : Option Object) → standing kind.Configuration q a ≡ w → ready_if w ≡ Some x → NamedReady a q x
    go None s e = absurd cc
    go (Some c) s e = by (latest_been has_been_ready a c) refl (sym (some_same e) ∙ calm.ready q c s)
      where
        by : (p : Option Object) → latest_been has_been_ready a c ≡ p → x ≡ simple_name_of (latest_been has_been_ready a c) → NamedReady a q x
        by None g h = absurd (let z = ap is_empty (h ∙ ap simple_name_of g) in not_both z full)
        by (Some p) g h =
            let chosen = been_chosen has_been_ready a c p order g in
            let parts = owned_parts c p chosen.owned in
            let name : p.key.name ≡ beside q x = λ i. record { space = (parts.space ∙ ap (λ k. k.name.space) (sound_key n a sound kind.Configuration q c s)) i; name = (sym (h ∙ ap simple_name_of g)) i } in
            record { configuration = c; stands = s; chosen = p; is = g; at = ap (λ k. standing kind.Revision k a) (sym name) ∙ chosen.stands }

-- ---- after a round

module _ (settings : Settings) (n now : ℕ) (c : Controller) (m : Name) (a b : State) (sound : IsSoundState n a) (after : IsSoundState (suc n) b) (order : IsOrdered a) (f : Effect settings n now c m a b) (calm : Calm a) (known : (q : Name) → Known b q) where
  -- what a Configuration names stays
  pub names_kept : (q : Name) → ready_if (standing kind.Configuration q b) ≡ ready_if (standing kind.Configuration q a)
  names_kept q = go (standing kind.Configuration q b) refl
    where
      go : (w : Option Object) → standing kind.Configuration q b ≡ w → ready_if w ≡ ready_if (standing kind.Configuration q a)
      go None e = none (standing kind.Configuration q a) refl
        where
          none : (w : Option Object) → standing kind.Configuration q a ≡ w → None ≡ ready_if w
          none None g = refl
          none (Some o) g = absurd (let k = (settled_kept settings n now c m a b calm.informed.settled f kind.Configuration refl q).on o g in none_some e k.1)
      go (Some x) e = by (configuration_from settings n now c m a b calm.informed.settled f q x e)
        where
          by : Remains settings n now m a b q x → Some (status_of x.body).ready ≡ ready_if (standing kind.Configuration q a)
          by (Same s) = ap ready_if (sym s)
          by (Told o same at new) =
              ap Some (told_names settings n now c m a b sound after order f calm.informed known q x o at new
              ∙ name_after settings n now c m a b sound order f calm.informed known m o x at (subst (λ z. Like o z) (sym new) (restated_like n now o _))
              ∙ sym (calm.ready m o at))
              ∙ ap ready_if (sym (ap (λ z. standing kind.Configuration z a) same ∙ at))

  -- a Revision that keeps is seen as before
  pub sees_kept : (v : Name) → KeptAt kind.Revision v a b → Sees v a b
  sees_kept v kept = go (standing kind.Revision v a) refl
    where
      go : (w : Option Object) → standing kind.Revision v a ≡ w → Sees v a b
      go None e = sees_same v a b (none (standing kind.Revision v b) refl ∙ sym e)
        where
          none : (w : Option Object) → standing kind.Revision v b ≡ w → standing kind.Revision v b ≡ None
          none None g = g
          none (Some x) g = absurd (let k = kept.back x g in none_some e k.1)
      go (Some o) e =
          let k = kept.on o e in
          record {
            been = λ name. ap (found_revision stored.been name) k.1 ∙ found_like stored.been name o k.0 (says_same settings n now c m a b sound order f calm.informed known v o k.0 e k.1 k.2 condition.HasBeenReady) k.2.uid ∙ sym (ap (found_revision stored.been name) e);
            good = λ name. ap (found_revision stored.good name) k.1 ∙ found_like stored.good name o k.0 (says_same settings n now c m a b sound order f calm.informed known v o k.0 e k.1 k.2 condition.Ready) k.2.uid ∙ sym (ap (found_revision stored.good name) e);
          }

  -- where Revisions keep, all is seen as before
  pub found_kept : ((v : Name) → KeptAt kind.Revision v a b) → (r : Name) (t : Target) → found_of stored b r t ≡ found_of stored a r t
  found_kept kept r t = found_same a b r t (names_kept (beside r t.configuration)) (λ q. sees_kept (beside r t.revision) (kept (beside r t.revision))) (λ x q full e. sees_kept (beside r x) (kept (beside r x)))

  elsewhere : (w v : Name) (x : Option Object) → Change (key_at kind.Revision w) x a b → (w ≢ v) → Sees v a b
  elsewhere w v x h apart = sees_same v a b (stands_elsewhere (key_at kind.Revision w) x a b h kind.Revision v (λ e. apart (ap (λ k. k.name) e)))

  -- where one goes, a target doesn't mean it
  pub found_lost : (w : Name) (v : Object) → standing kind.Revision w a ≡ Some v → Going a w v → Change (key_at kind.Revision w) None a b → (r : Name) (o : Object) (t : Target) → standing kind.Route r a ≡ Some o → In t (targets_of o.body) → found_of stored b r t ≡ found_of stored a r t
  found_lost w v on going h r o t at among =
      let p = past n a w v sound order on going in
      let key : o.key.name ≡ r = ap (λ k. k.name) (sound_key n a sound kind.Route r o at) in
      found_same a b r t (names_kept (beside r t.configuration))
      (λ q. elsewhere w (beside r t.revision) None h (λ e. untargeted a w r o t p.untargeted at (ap (λ z. z.space) key ∙ sym (ap (λ z. z.space) e)) among q (sym (ap (λ z. z.name) e))))
      (λ x q full e. elsewhere w (beside r x) None h (λ same.
      let named = named_ready n a (beside r t.configuration) x sound order calm e full in
      let one : v ≡ named.chosen = some_same (sym on ∙ ap (λ z. standing kind.Revision z a) same ∙ named.at) in
      p.been (beside r t.configuration) named.configuration named.chosen named.stands named.is (ap (λ (z : Object). z.key) (sym one))))

  -- where one comes, a target on it isn't ready yet
  pub found_made : (o : Object) → standing kind.Revision (revision_name o) a ≡ None → Change (key_at kind.Revision (revision_name o)) (Some (born n now (made_revision o))) a b → (r : Name) (t : Target) → Nearly (found_of stored a r t) (found_of stored b r t)
  unfolding found_of
  found_made o none h r t = go (is_empty t.revision) refl (key_or_not (key_at kind.Revision (revision_name o)) (key_at kind.Revision (beside r t.revision)))
    where
      ready : (x : List ℕ) → is_empty t.revision ≡ true → is_empty x ≡ false → ready_if (standing kind.Configuration (beside r t.configuration) a) ≡ Some x → Sees (beside r x) a b
      ready x q full e = elsewhere (revision_name o) (beside r x) _ h (λ same.
          let named = named_ready n a (beside r t.configuration) x sound order calm e full in
          none_some none (ap (λ z. standing kind.Revision z a) same ∙ named.at))

      all : (is_empty t.revision ≡ false → Sees (beside r t.revision) a b) → Nearly (found_of stored a r t) (found_of stored b r t)
      all s = equally _ _ (found_same a b r t (names_kept (beside r t.configuration)) s ready)

      new : key_at kind.Revision (revision_name o) ≡ key_at kind.Revision (beside r t.revision) → found_revision stored.good t.revision (standing kind.Revision (beside r t.revision) b) ≡ found.RevisionUnready
      new e = ap (λ k. found_revision stored.good t.revision (standing kind.Revision k.name b)) (sym e) ∙ ap (found_revision stored.good t.revision) (put_here _ _ a b h kind.Revision (revision_name o) refl refl)

      old : key_at kind.Revision (revision_name o) ≡ key_at kind.Revision (beside r t.revision) → found_revision stored.good t.revision (standing kind.Revision (beside r t.revision) a) ≡ found.RevisionAbsent
      old e = ap (λ k. found_revision stored.good t.revision (standing kind.Revision k.name a)) (sym e) ∙ ap (found_revision stored.good t.revision) none

      go : (u : Bool) → is_empty t.revision ≡ u → (key_at kind.Revision (revision_name o) ≡ key_at kind.Revision (beside r t.revision)) ⊎ (key_at kind.Revision (revision_name o) ≢ key_at kind.Revision (beside r t.revision)) → Nearly (found_of stored a r t) (found_of stored b r t)
      go true q k = all (λ f. absurd (not_both q f))
      go false q (inr apart) = all (λ f. elsewhere (revision_name o) (beside r t.revision) _ h (λ e. apart (ap (key_at kind.Revision) e)))
      go false q (inl e) = rw q (rw (new e, old e) Comes)

  pub found_nearly : (r : Name) (o : Object) → standing kind.Route r a ≡ Some o → (t : Target) → In t (targets_of o.body) → Nearly (found_of stored a r t) (found_of stored b r t)
  found_nearly r o at t among = go (revisions settings n now c m a b f)
    where
      go : Revisions n now c m a b → Nearly (found_of stored a r t) (found_of stored b r t)
      go (Keep kept) = equally _ _ (found_kept kept r t)
      go (Make o d on none h) = found_made o none h r t
      go (Lose w v d on going h) = equally _ _ (found_lost w v on going h r o t at among)

  -- ---- what is assigned stays

  pub assigned_kept : (r : Name) → assigned_at stored b r ≡ assigned_at stored a r
  unfolding assigned_at
  assigned_kept r = go (standing kind.Route r a) refl
    where
      kept : KeptAt kind.Route r a b
      kept = settled_kept settings n now c m a b calm.informed.settled f kind.Route refl r

      go : (w : Option Object) → standing kind.Route r a ≡ w → assigned_of stored b r (standing kind.Route r b) ≡ assigned_of stored a r w
      go None e = none (standing kind.Route r b) refl
        where
          none : (w : Option Object) → standing kind.Route r b ≡ w → assigned_of stored b r w ≡ None
          none None g = refl
          none (Some x) g = absurd (let k = kept.back x g in none_some e k.1)
      go (Some o) e =
          let k = kept.on o e in
          ap (assigned_of stored b r) k.1 ∙ ap (assigned stored b r) k.2.targets ∙ assigned_near a b r (targets_of o.body) (found_nearly r o e)

  -- and where no Revision comes, all that targets come to
  pub resolution_kept : (domain : List ℕ) (r : Name) (o : Object) → standing kind.Route r a ≡ Some o → ((t : Target) → In t (targets_of o.body) → found_of stored b r t ≡ found_of stored a r t) → resolution stored domain b r (targets_of o.body) ≡ resolution stored domain a r (targets_of o.body)
  unfolding resolution
  resolution_kept domain r o at same = ap (resolved r domain) (pairs (targets_of o.body) same)
    where
      pairs : (ts : List Target) → ((t : Target) → In t ts → found_of stored b r t ≡ found_of stored a r t) → pairs_of stored b r ts ≡ pairs_of stored a r ts
      pairs [] h = refl
      pairs (t ∷ ts) h = λ i. (t, h t First i) ∷ pairs ts (λ u j. h u (Later j)) i
