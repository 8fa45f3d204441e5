-- No round raises the burden, and a Revision that is made or removed lowers it.
use Rattle.std.proofs.Common.{◌≡◌, ◌≢◌, ◌⊎◌, inl, inr, ℕ, suc, ◌+◌, ◌≤◌, ◌==◌, Bool, true, false, cond, not, ◌&&◌, ◌||◌, Option, Some, None, bytes_eq, refl, sym, ap, ◌∙◌, subst, arith}
use Rattle.std.proofs.lemmas.Bool.Decides.{nat_tests}
use Rattle.resource_types.specs.declared.names.Kind.{Kind}
use Rattle.resource_types.specs.declared.names.Kind.TheVariants as kind
use Rattle.resource_types.specs.declared.names.Controller.{Controller}
use Rattle.resource_types.specs.declared.names.Name.{Name}
use Rattle.resource_types.specs.declared.metadata.Owner.{Owner}
use Rattle.resource_types.specs.declared.objects.Object.{Object}
use Rattle.resource_types.specs.Objects.{is_of, same_kind, kind_of_body, generation_of}
use Rattle.resource_types.specs.Lookups.{State, is_given, is_owner, is_owned_by, owner_stands, is_empty}
use Rattle.serve_names.specs.Generated.{generated_bytes}
use Rattle.control_rules.specs.declared.settings.Settings.{Settings}
use Rattle.control_rules.specs.Standing.{beside, key_at, standing, is_owned_by_uid, is_orphan, template_of, with_targets}
use Rattle.control_rules.specs.Statuses.{is_current}
use Rattle.control_rules.specs.Readings.{revision_name}
use Rattle.control_rules.specs.NextService.{same_template, converted}
use Rattle.control_rules.specs.NextConfiguration.{made_revision}
use Rattle.control_settle.specs.Burden.{one_if, two_if, has_current, is_behind, weight, burden}
use Rattle.control_settle.specs.Grounds.{IsSoundState}
use Rattle.control_settle.proofs.Machine.{In}
use Rattle.control_entries.proofs.Changes.{Change, stands_other, stands_elsewhere, put_here}
use Rattle.control_entries.proofs.Tests.{not_both, both, some_same, none_some, bytes_self}
use Rattle.control_entries.proofs.Standing.{key_or_not, stands, is_of_parts, is_not, is_of_both}
use Rattle.control_entries.specs.Ground.{IsOrdered}
use Rattle.control_settle.proofs.Lists.{in_found, weigh-without, weigh_put_any, weigh_put_at, weigh_put_falls, weigh_removed}
use Rattle.control_settle.proofs.Likeness.{rebodied, Like, like_own, KeptAt, same_kept, like_kept, restated_like, repinned_like}
use Rattle.control_settle.proofs.Members.{sound_key, member_stands}
use Rattle.control_settle.proofs.Effects.{born, Effect, NewConfiguration, NewTemplate, NewRoute, NewTargets, GoneConfiguration, GoneRoute, Restated, NewRevision, GoneRevision, Repinned, GoneTable, NewTable}
use Rattle.control_settle.proofs.Children.{owner_by_standing, orphan_same, services_kept}
use Rattle.control_settle.proofs.Settled.{HasChild, owned_like, made_configuration, mended_configuration}
use Rattle.control_settle.proofs.Past.{IsPast, past}
use Rattle.resource_types.specs.declared.names.Controller.TheVariants as controller
use Rattle.control_entries.proofs.Bodies.{kind-with_template}

-- ---- likes weigh the same

pub is_of_like : (k : Kind) (o x : Object) → Like o x → is_of k x ≡ is_of k o
is_of_like k o x l = λ i. same_kind (l.key i).kind k && same_kind (l.fits i) k

pub owned_by_like : (c v w : Object) → Like v w → is_owned_by c w ≡ is_owned_by c v
owned_by_like c v w l = λ i. (is_of_like kind.Revision v w l i && bytes_eq (l.key i).name.space c.key.name.space) && is_given (is_owner c) (l.owner i)

pub owner_like : (c d v : Object) → Like c d → is_owned_by d v ≡ is_owned_by c v
owner_like c d v l = λ i. (is_of kind.Revision v && bytes_eq v.key.name.space (l.key i).name.space) && is_given (λ (w : Owner). (same_kind w.kind (l.key i).kind && bytes_eq w.name (l.key i).name.name) && (w.uid == l.uid i)) v.meta.owner

pub current_like : (c v w : Object) → Like v w → is_current c w ≡ is_current c v
current_like c v w l = λ i. owned_by_like c v w l i && (l.made_for i == c.meta.stamp.generation)

pub current_of_like : (c d v : Object) → Like c d → is_current d v ≡ is_current c v
current_of_like c d v l = λ i. owner_like c d v l i && (generation_of v.body == l.generation i)

pub revision_name_like : (c d : Object) → Like c d → revision_name d ≡ revision_name c
unfolding revision_name
revision_name_like c d l = λ i. beside (l.key i).name (cond (is_empty (l.template i).name) (generated_bytes (l.key i).name.name (l.generation i)) (l.template i).name)

pub has_current_like : (st : State) (c d : Object) → Like c d → has_current st d ≡ has_current st c
unfolding has_current
has_current_like st c d l = ap (λ q. is_given (is_current d) (standing kind.Revision q st)) (revision_name_like c d l) ∙ go (standing kind.Revision (revision_name c) st)
  where
    go : (v : Option Object) → is_given (is_current d) v ≡ is_given (is_current c) v
    go None = refl
    go (Some v) = current_of_like c d v l

behind_like : (st : State) (s t : Object) (c : Option Object) → Like s t → is_behind st t c ≡ is_behind st s c
behind_like st s t None l = refl
behind_like st s t (Some c) l = λ i. is_orphan st c || (is_owned_by_uid (l.uid i) c && not (same_template (template_of c.body) (l.template i)))

-- ---- what lightens

-- no Configuration loses its current Revision, and none that was right gets behind
pub record Lightens (a b : State) : Type 0 where
  pub current : (q : Name) (c : Object) → standing kind.Configuration q a ≡ Some c → has_current a c ≡ true → has_current b c ≡ true
  pub behind : (q : Name) (s : Object) → standing kind.Service q a ≡ Some s → is_behind b s (standing kind.Configuration q b) ≡ true → is_behind a s (standing kind.Configuration q a) ≡ true

less_two : (t u v : Bool) → (t ≡ true → u ≡ true → v ≡ true) → two_if (t && u) ≤ two_if (t && v)
less_two false u v h = omega arith
less_two true false v h = omega arith
less_two true true true h = omega arith
less_two true true false h = absurd (not_both (h refl refl) refl)

not_not : (t u : Bool) → (u ≡ true → t ≡ true) → not t ≡ true → not u ≡ true
not_not t false h e = refl
not_not true true h e = absurd cc
not_not false true h e = absurd (not_both (h refl) refl)

pub weight_like : (a b : State) → IsOrdered a → Lightens a b → (o x : Object) → In o a → Like o x → weight b x ≤ weight a o
unfolding weight
weight_like a b order light o x m l =
    let one : one_if (is_of kind.Revision x) ≡ one_if (is_of kind.Revision o) = ap one_if (is_of_like kind.Revision o x l) in
    let two : two_if (is_of kind.Configuration x && not (has_current b x)) ≤ two_if (is_of kind.Configuration o && not (has_current a o)) =
    rw (is_of_like kind.Configuration o x l, has_current_like b o x l) (less_two (is_of kind.Configuration o) (not (has_current b o)) (not (has_current a o))
    (λ t. not_not (has_current b o) (has_current a o) (light.current o.key.name o (member_stands a order kind.Configuration o m t)))) in
    let three : two_if (is_of kind.Service x && is_behind b x (standing kind.Configuration x.key.name b)) ≤ two_if (is_of kind.Service o && is_behind a o (standing kind.Configuration o.key.name a)) =
    rw (is_of_like kind.Service o x l, l.key, behind_like b o x (standing kind.Configuration o.key.name b) l) (less_two (is_of kind.Service o) (is_behind b o (standing kind.Configuration o.key.name b)) (is_behind a o (standing kind.Configuration o.key.name a))
    (λ t. light.behind o.key.name o (member_stands a order kind.Service o m t))) in
    omega arith

-- ---- each effect lightens

-- whether a Configuration is behind, where it keeps
behind_kept : (n : ℕ) (a b : State) (q : Name) (s : Object) → IsSoundState n a → ((q : Name) → KeptAt kind.Service q a b) → KeptAt kind.Configuration q a b → is_behind b s (standing kind.Configuration q b) ≡ is_behind a s (standing kind.Configuration q a)
behind_kept n a b q s sound services kept = go (standing kind.Configuration q a) refl
  where
    go : (w : Option Object) → standing kind.Configuration q a ≡ w → is_behind b s (standing kind.Configuration q b) ≡ is_behind a s w
    go None e = none (standing kind.Configuration q b) refl
      where
        none : (y : Option Object) → standing kind.Configuration q b ≡ y → is_behind b s y ≡ true
        none None f = refl
        none (Some x) f = absurd (let k = kept.back x f in none_some e k.1)
    go (Some o) e =
        let k = kept.on o e in
        ap (is_behind b s) k.1 ∙ (λ i. orphan_same a b o k.0 services (sound.serve q o e) k.2.key k.2.owner i || (owned_like s s o k.0 (like_own s) k.2 i && not (same_template (k.2.template i) (template_of s.body))))

-- a child that the Service owns by uid is no orphan
pub owned_uid_stands : (n : ℕ) (a : State) (q : Name) (s o : Object) → IsSoundState n a → standing kind.Service q a ≡ Some s → standing kind.Configuration q a ≡ Some o → is_owned_by_uid s.meta.stamp.uid o ≡ true → is_orphan a o ≡ false
unfolding is_orphan
owned_uid_stands n a q s o sound at on owned = go o.meta.owner refl owned
  where
    go : (w : Option Owner) → o.meta.owner ≡ w → is_given (λ (w : Owner). w.uid == s.meta.stamp.uid) w ≡ true → is_given (λ (w : Owner). not (owner_stands a o.key.name.space w)) w ≡ false
    go None e h = refl
    go (Some w) e h =
        let serve = sound.serve q o on w e in
        let name : o.key.name ≡ q = ap (λ k. k.name) (sound_key n a sound kind.Configuration q o on) in
        let same : record { space = o.key.name.space; name = w.name } ≡ q = ap (λ z. record { space = o.key.name.space; name = z }) serve.1 ∙ name in
        ap not (owner_by_standing a o.key.name.space w serve.0 ∙ ap (λ z. is_given (λ (p : Object). p.meta.stamp.uid == w.uid) (standing kind.Service z a)) same ∙ ap (is_given (λ (p : Object). p.meta.stamp.uid == w.uid)) at ∙ flipped w.uid s.meta.stamp.uid h)
      where
        flipped : (x y : ℕ) → (x == y) ≡ true → (y == x) ≡ true
        flipped x y e = grind (arith, nat_tests)

-- a Service is not behind, where its child is its own and right
caught_up : (n : ℕ) (b : State) (q : Name) (s o : Object) → IsSoundState n b → standing kind.Service q b ≡ Some s → standing kind.Configuration q b ≡ Some o → is_owned_by_uid s.meta.stamp.uid o ≡ true → HasChild kind.Configuration b q → is_behind b s (standing kind.Configuration q b) ≡ false
caught_up n b q s o sound at on owned has = ap (is_behind b s) on ∙ rw (owned_uid_stands n b q s o sound at on owned, right) go
  where
    right : same_template (template_of o.body) (template_of s.body) ≡ true
    right = let same : (has s at).object ≡ o = some_same (sym (has s at).stands ∙ on) in subst (λ z. is_owned_by_uid s.meta.stamp.uid z ≡ true → same_template (template_of z.body) (template_of s.body) ≡ true) same (has s at).right owned

    go : (is_owned_by_uid s.meta.stamp.uid o && not true) ≡ false
    go = rw owned refl

module _ (settings : Settings) (n now : ℕ) (c : Controller) (m : Name) (a b : State) (sound : IsSoundState n a) (after : IsSoundState (suc n) b) (order : IsOrdered a) (f : Effect settings n now c m a b) where
  services : (q : Name) → KeptAt kind.Service q a b
  services q = services_kept settings n now c m a b sound f q

  by_revisions : ((q : Name) → KeptAt kind.Revision q a b) → (d : Object) → has_current a d ≡ true → has_current b d ≡ true
  unfolding has_current
  by_revisions kept d h = go (standing kind.Revision (revision_name d) a) refl h
    where
      go : (w : Option Object) → standing kind.Revision (revision_name d) a ≡ w → is_given (is_current d) w ≡ true → is_given (is_current d) (standing kind.Revision (revision_name d) b) ≡ true
      go None e h = absurd cc
      go (Some v) e h = let k = (kept (revision_name d)).on v e in ap (is_given (is_current d)) k.1 ∙ current_like d v k.0 k.2 ∙ h

  by_configurations : ((q : Name) → KeptAt kind.Configuration q a b) → (q : Name) (s : Object) → is_behind b s (standing kind.Configuration q b) ≡ true → is_behind a s (standing kind.Configuration q a) ≡ true
  by_configurations kept q s h = sym (behind_kept n a b q s sound services (kept q)) ∙ h

  other : (k l : Kind) (w : Name) (x : Option Object) → Change (key_at l w) x a b → (l ≢ k) → (q : Name) → KeptAt k q a b
  other k l w x h apart q = same_kept k q a b (stands_other (key_at l w) x a b h k apart q)

  -- a Configuration that was behind may be any
  at_configuration : (x : Option Object) → Change (key_at kind.Configuration m) x a b → ((s : Object) → standing kind.Service m a ≡ Some s → is_behind a s (standing kind.Configuration m a) ≡ true) → (q : Name) (s : Object) → standing kind.Service q a ≡ Some s → is_behind b s (standing kind.Configuration q b) ≡ true → is_behind a s (standing kind.Configuration q a) ≡ true
  at_configuration x h was q s at now = go (key_or_not (key_at kind.Configuration m) (key_at kind.Configuration q))
    where
      go : (key_at kind.Configuration m ≡ key_at kind.Configuration q) ⊎ (key_at kind.Configuration m ≢ key_at kind.Configuration q) → is_behind a s (standing kind.Configuration q a) ≡ true
      go (inl e) = subst (λ k. is_behind a s (standing kind.Configuration k.name a) ≡ true) e (was s (subst (λ k. standing kind.Service k.name a ≡ Some s) (sym e) at))
      go (inr apart) = sym (behind_kept n a b q s sound services (same_kept kind.Configuration q a b (stands_elsewhere (key_at kind.Configuration m) x a b h kind.Configuration q apart))) ∙ now

  one_service : (s t : Object) → standing kind.Service m a ≡ Some s → standing kind.Service m a ≡ Some t → s ≡ t
  one_service s t e g = some_same (sym e ∙ g)

  absent_behind : (s : Object) → standing kind.Configuration m a ≡ None → is_behind a s (standing kind.Configuration m a) ≡ true
  absent_behind s none = ap (is_behind a s) none

  changed_behind : (s o : Object) → standing kind.Configuration m a ≡ Some o → is_owned_by_uid s.meta.stamp.uid o ≡ true → same_template (template_of o.body) (template_of s.body) ≡ false → is_behind a s (standing kind.Configuration m a) ≡ true
  changed_behind s o on owned differs = ap (is_behind a s) on ∙ rw (owned, differs) (go (is_orphan a o))
    where
      go : (t : Bool) → (t || (true && not false)) ≡ true
      go true = refl
      go false = refl

  gone_behind : (s o : Object) → standing kind.Configuration m a ≡ Some o → is_orphan a o ≡ true → is_behind a s (standing kind.Configuration m a) ≡ true
  gone_behind s o on gone = ap (is_behind a s) on ∙ rw gone refl

  revision_made : (o : Object) → standing kind.Revision (revision_name o) a ≡ None → (x : Object) → Change (key_at kind.Revision (revision_name o)) (Some x) a b → (d : Object) → has_current a d ≡ true → has_current b d ≡ true
  unfolding has_current
  revision_made o none x h d was = go (key_or_not (key_at kind.Revision (revision_name o)) (key_at kind.Revision (revision_name d)))
    where
      go : (key_at kind.Revision (revision_name o) ≡ key_at kind.Revision (revision_name d)) ⊎ (key_at kind.Revision (revision_name o) ≢ key_at kind.Revision (revision_name d)) → is_given (is_current d) (standing kind.Revision (revision_name d) b) ≡ true
      go (inl e) = absurd (let f = sym was ∙ ap (is_given (is_current d)) (ap (λ k. standing kind.Revision k.name a) (sym e) ∙ none) in cc)
      go (inr apart) = ap (is_given (is_current d)) (stands_elsewhere _ _ a b h kind.Revision (revision_name d) apart) ∙ was

  revision_gone : (w : Name) (v : Object) → standing kind.Revision w a ≡ Some v → IsPast a w v → Change (key_at kind.Revision w) None a b → (q : Name) (d : Object) → standing kind.Configuration q a ≡ Some d → has_current a d ≡ true → has_current b d ≡ true
  unfolding has_current
  revision_gone w v on p h q d at was = go (key_or_not (key_at kind.Revision w) (key_at kind.Revision (revision_name d)))
    where
      go : (key_at kind.Revision w ≡ key_at kind.Revision (revision_name d)) ⊎ (key_at kind.Revision w ≢ key_at kind.Revision (revision_name d)) → is_given (is_current d) (standing kind.Revision (revision_name d) b) ≡ true
      go (inl e) = absurd (p.current q d at (sym (ap (is_given (is_current d)) (ap (λ k. standing kind.Revision k.name a) (sym e) ∙ on)) ∙ was))
      go (inr apart) = ap (is_given (is_current d)) (stands_elsewhere _ _ a b h kind.Revision (revision_name d) apart) ∙ was

  pub lightens : (g : Effect settings n now c m a b) → Lightens a b
  lightens (NewConfiguration s d at none h) = record {
    current = λ q o e. by_revisions (other kind.Revision kind.Configuration m _ h (λ e. cc)) o;
    behind = at_configuration _ h (λ t e. absent_behind t none);
  }
  lightens (NewTemplate s o d at on owned differs h) = record {
    current = λ q o e. by_revisions (other kind.Revision kind.Configuration m _ h (λ e. cc)) o;
    behind = at_configuration _ h (λ t e. changed_behind t o on (subst (λ z. is_owned_by_uid z.meta.stamp.uid o ≡ true) (one_service s t at e) owned) (subst (λ z. same_template (template_of o.body) (template_of z.body) ≡ false) (one_service s t at e) differs));
  }
  lightens (NewRoute s d at none h) = record { current = λ q o e. by_revisions (other kind.Revision kind.Route m _ h (λ e. cc)) o; behind = λ q t e. by_configurations (other kind.Configuration kind.Route m _ h (λ e. cc)) q t }
  lightens (NewTargets s o d at on owned differs h) = record { current = λ q o e. by_revisions (other kind.Revision kind.Route m _ h (λ e. cc)) o; behind = λ q t e. by_configurations (other kind.Configuration kind.Route m _ h (λ e. cc)) q t }
  lightens (GoneConfiguration o d at gone h) = record {
    current = λ q o e. by_revisions (other kind.Revision kind.Configuration m _ h (λ e. cc)) o;
    behind = at_configuration _ h (λ t e. gone_behind t o at gone);
  }
  lightens (GoneRoute o d at gone h) = record { current = λ q o e. by_revisions (other kind.Revision kind.Route m _ h (λ e. cc)) o; behind = λ q t e. by_configurations (other kind.Configuration kind.Route m _ h (λ e. cc)) q t }
  lightens (Restated k o is d at differs h) = record {
    current = λ q p e. by_revisions (λ r. like_kept a b (key_at k m) o _ k m h refl at (restated_like n now o _) kind.Revision r) p;
    behind = λ q t e. by_configurations (λ r. like_kept a b (key_at k m) o _ k m h refl at (restated_like n now o _) kind.Configuration r) q t;
  }
  lightens (NewRevision o d at none h) = record { current = λ q p e. revision_made o none _ h p; behind = λ q t e. by_configurations (other kind.Configuration kind.Revision (revision_name o) _ h (λ e. cc)) q t }
  lightens (GoneRevision w v d at going h) = record { current = λ q p e. revision_gone w v at (past n a w v sound order at going) h q p e; behind = λ q t e. by_configurations (other kind.Configuration kind.Revision w _ h (λ e. cc)) q t }
  lightens (Repinned w v ps moment d at space pins h) = record {
    current = λ q p e. by_revisions (λ r. like_kept a b (key_at kind.Revision w) v _ kind.Revision w h refl at (repinned_like n now v ps moment) kind.Revision r) p;
    behind = λ q t e. by_configurations (other kind.Configuration kind.Revision w _ h (λ e. cc)) q t;
  }
  lightens (GoneTable t d at h) = record { current = λ q o e. by_revisions (other kind.Revision kind.Table m _ h (λ e. cc)) o; behind = λ q t e. by_configurations (other kind.Configuration kind.Table m _ h (λ e. cc)) q t }
  lightens (NewTable x d h) = record { current = λ q o e. by_revisions (other kind.Revision kind.Table m _ h (λ e. cc)) o; behind = λ q t e. by_configurations (other kind.Configuration kind.Table m _ h (λ e. cc)) q t }

  -- ---- the burden

  less : (g : Effect settings n now c m a b) → (p : Object) → In p a → weight b p ≤ weight a p
  less g p i = weight_like a b order (lightens g) p p i (like_own p)

  -- a put in place of one like it
  alike : (g : Effect settings n now c m a b) (k : Kind) (w : Name) (o x : Object) → standing k w a ≡ Some o → Like o x → Change (key_at k w) (Some x) a b → burden b ≤ burden a
  unfolding burden
  alike g k w o x at l h =
      let found = (stands k w a o at).found in
      let all = weigh_put_at (weight b) (weight a) (key_at k w) x o a b h found (λ p i _. less g p i) in
      let here = weight_like a b order (lightens g) o x (in_found a (key_at k w) o found) l in
      omega arith

  -- a put of what weighs nothing
  light : (g : Effect settings n now c m a b) (k : Kind) (w : Name) (x : Object) → is_of kind.Service x ≡ false → is_of kind.Configuration x ≡ false → is_of kind.Revision x ≡ false → Change (key_at k w) (Some x) a b → burden b ≤ burden a
  unfolding burden weight
  light g k w x s o v h =
      let all = weigh_put_any (weight b) (weight a) (key_at k w) x a b h (λ p i _. less g p i) in
      let zero : weight b x ≡ 0 = rw (s, o, v) refl in
      omega arith

  -- a removal
  gone : (g : Effect settings n now c m a b) (k : Kind) (w : Name) (o : Object) → standing k w a ≡ Some o → Change (key_at k w) None a b → burden b + weight a o ≤ burden a
  unfolding burden
  gone g k w o at h = weigh_removed (weight b) (weight a) (key_at k w) o a b h (stands k w a o at).found (λ p i _. less g p i)

  at_most_two : (x : Object) → is_of kind.Service x ≡ false → is_of kind.Revision x ≡ false → weight b x ≤ 2
  unfolding weight
  at_most_two x s v = rw (s, v) (go (is_of kind.Configuration x && not (has_current b x)))
    where
      go : (t : Bool) → 0 + (two_if t + 0) ≤ 2
      go true = omega arith
      go false = omega arith

  service_falls : (s : Object) → standing kind.Service m a ≡ Some s → is_behind a s (standing kind.Configuration m a) ≡ true → is_behind b s (standing kind.Configuration m b) ≡ false → weight b s + 2 ≤ weight a s
  unfolding weight
  service_falls s at was now =
      let is = (stands kind.Service m a s at).of in
      let name : s.key.name ≡ m = ap (λ k. k.name) (sound_key n a sound kind.Service m s at) in
      let parts = is_of_parts kind.Service s is in
      let not_revision : is_of kind.Revision s ≡ false = is_not kind.Revision kind.Service s parts.0 refl in
      let not_configuration : is_of kind.Configuration s ≡ false = is_not kind.Configuration kind.Service s parts.0 refl in
      rw (not_revision, not_configuration, is, name, was, now) (omega arith)

  -- a Configuration that its Service makes or changes
  child_put : (g : Effect settings n now c m a b) (s x : Object) → standing kind.Service m a ≡ Some s → is_behind a s (standing kind.Configuration m a) ≡ true → x.key ≡ key_at kind.Configuration m → kind_of_body x.body ≡ kind.Configuration
      → is_owned_by_uid s.meta.stamp.uid x ≡ true → HasChild kind.Configuration b m → Change (key_at kind.Configuration m) (Some x) a b → burden b ≤ burden a
  unfolding burden
  child_put g s x at was key fits owned has h =
      let still : standing kind.Service m b ≡ Some s = stands_other _ _ a b h kind.Service (λ e. cc) m ∙ at in
      let on : standing kind.Configuration m b ≡ Some x = put_here _ x a b h kind.Configuration m refl (is_of_both kind.Configuration x (ap (λ k. k.kind) key) fits) in
      let found = (stands kind.Service m a s at).found in
      let falls = service_falls s at was (caught_up (suc n) b m s x after still on owned has) in
      let all = weigh_put_falls (weight b) (weight a) (key_at kind.Configuration m) x s 2 a b h (λ p i _. less g p i) (in_found a (key_at kind.Service m) s found) (λ e. (let z = ap (λ k. k.kind) (e ∙ sound_key n a sound kind.Service m s at) in cc)) falls in
      let two = at_most_two x (is_not kind.Service kind.Configuration x (ap (λ k. k.kind) key) refl) (is_not kind.Revision kind.Configuration x (ap (λ k. k.kind) key) refl) in
      let rest = weigh-without (weight a) (key_at kind.Configuration m) a in
      omega arith

  own_uid : (u : ℕ) → (u == u) ≡ true
  own_uid u = grind (arith, nat_tests)

  -- a Revision that a Configuration makes is its current one
  pub makes_current : (o : Object) → standing kind.Configuration m a ≡ Some o → is_current o (born n now (made_revision o)) ≡ true
  unfolding revision_name
  makes_current o at =
      let k = (is_of_parts kind.Configuration o (stands kind.Configuration m a o at).of).0 in
      both (both (bytes_self o.key.name.space) (both (both (subst (λ z. same_kind kind.Configuration z ≡ true) (sym k) refl) (bytes_self o.key.name.name)) (own_uid o.meta.stamp.uid))) (own_uid o.meta.stamp.generation)

  revision_put : (g : Effect settings n now c m a b) (o : Object) → standing kind.Configuration m a ≡ Some o → standing kind.Revision (revision_name o) a ≡ None → Change (key_at kind.Revision (revision_name o)) (Some (born n now (made_revision o))) a b → suc (burden b) ≤ burden a
  unfolding burden weight has_current
  revision_put g o at none h =
      let x = born n now (made_revision o) in
      let found = stands kind.Configuration m a o at in
      let parts = is_of_parts kind.Configuration o found.of in
      let new : standing kind.Revision (revision_name o) b ≡ Some x = put_here _ x a b h kind.Revision (revision_name o) refl refl in
      let had : is_given (is_current o) (standing kind.Revision (revision_name o) a) ≡ false = ap (is_given (is_current o)) none in
      let has : is_given (is_current o) (standing kind.Revision (revision_name o) b) ≡ true = ap (is_given (is_current o)) new ∙ makes_current o at in
      let not_revision : is_of kind.Revision o ≡ false = is_not kind.Revision kind.Configuration o parts.0 refl in
      let not_service : is_of kind.Service o ≡ false = is_not kind.Service kind.Configuration o parts.0 refl in
      let falls : weight b o + 2 ≤ weight a o = rw (not_revision, not_service, found.of, had, has) (omega arith) in
      let all = weigh_put_falls (weight b) (weight a) (key_at kind.Revision (revision_name o)) x o 2 a b h (λ p i _. less g p i) (in_found a (key_at kind.Configuration m) o found.found) (λ e. (let z = ap (λ k. k.kind) (e ∙ sound_key n a sound kind.Configuration m o at) in cc)) falls in
      let one : weight b x ≡ 1 = refl in
      let rest = weigh-without (weight a) (key_at kind.Revision (revision_name o)) a in
      omega arith

  revision_weighs : (w : Name) (v : Object) → standing kind.Revision w a ≡ Some v → 1 ≤ weight a v
  unfolding weight
  revision_weighs w v at = rw (stands kind.Revision w a v at).of (omega arith)

  not_of : (k l : Kind) (w : Name) (x : Object) → x.key ≡ key_at l w → same_kind l k ≡ false → is_of k x ≡ false
  not_of k l w x key h = is_not k l x (ap (λ z. z.kind) key) h

  pub no_heavier : (g : Effect settings n now c m a b) → burden b ≤ burden a
  no_heavier (NewConfiguration s d at none h) = child_put (NewConfiguration s d at none h) s _ at (absent_behind s none) refl refl (own_uid s.meta.stamp.uid) (made_configuration settings n now c m a b sound f s at h) h
  no_heavier (NewTemplate s o d at on owned differs h) = child_put (NewTemplate s o d at on owned differs h) s _ at (changed_behind s o on owned differs) (sound_key n a sound kind.Configuration m o on) (kind-with_template (template_of s.body) o.body ∙ (is_of_parts kind.Configuration o (stands kind.Configuration m a o on).of).1) owned (mended_configuration settings n now c m a b sound f s o at on h) h
  no_heavier (NewRoute s d at none h) = light (NewRoute s d at none h) kind.Route m _ refl refl refl h
  no_heavier (NewTargets s o d at on owned differs h) = let x = rebodied n now o (with_targets (converted m s) o.body) in light (NewTargets s o d at on owned differs h) kind.Route m x (not_of kind.Service kind.Route m x h.puts refl) (not_of kind.Configuration kind.Route m x h.puts refl) (not_of kind.Revision kind.Route m x h.puts refl) h
  no_heavier (GoneConfiguration o d at going h) = let z = gone (GoneConfiguration o d at going h) kind.Configuration m o at h in omega arith
  no_heavier (GoneRoute o d at going h) = let z = gone (GoneRoute o d at going h) kind.Route m o at h in omega arith
  no_heavier (Restated k o is d at differs h) = alike (Restated k o is d at differs h) k m o _ at (restated_like n now o _) h
  no_heavier (NewRevision o d at none h) = let z = revision_put (NewRevision o d at none h) o at none h in omega arith
  no_heavier (GoneRevision w v d at going h) = let z = gone (GoneRevision w v d at going h) kind.Revision w v at h in omega arith
  no_heavier (Repinned w v ps moment d at space pins h) = alike (Repinned w v ps moment d at space pins h) kind.Revision w v _ at (repinned_like n now v ps moment) h
  no_heavier (GoneTable t d at h) = let z = gone (GoneTable t d at h) kind.Table m t at h in omega arith
  no_heavier (NewTable x d h) = light (NewTable x d h) kind.Table m x (not_of kind.Service kind.Table m x h.puts refl) (not_of kind.Configuration kind.Table m x h.puts refl) (not_of kind.Revision kind.Table m x h.puts refl) h

  pub made_lighter : (o : Object) (d : c ≡ controller.Configuration) (at : standing kind.Configuration m a ≡ Some o) (none : standing kind.Revision (revision_name o) a ≡ None) → Change (key_at kind.Revision (revision_name o)) (Some (born n now (made_revision o))) a b → suc (burden b) ≤ burden a
  made_lighter o d at none h = revision_put (NewRevision o d at none h) o at none h

  pub gone_lighter : (w : Name) (v : Object) → (g : Effect settings n now c m a b) → standing kind.Revision w a ≡ Some v → Change (key_at kind.Revision w) None a b → suc (burden b) ≤ burden a
  gone_lighter w v g at h = let z = gone g kind.Revision w v at h in let o = revision_weighs w v at in omega arith
