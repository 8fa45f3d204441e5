-- Each Service comes to have its Configuration and its Route, with its template and its targets, and keeps them.
use Rattle.std.proofs.Common.{◌≡◌, ◌≢◌, ◌⊎◌, inl, inr, ℕ, Bool, true, false, map, Option, Some, None, refl, sym, ap, ◌∙◌, subst}
use Rattle.resource_types.specs.declared.names.Kind.{Kind}
use Rattle.resource_types.specs.declared.names.Kind.TheVariants as kind
use Rattle.resource_types.specs.declared.names.Controller.{Controller}
use Rattle.resource_types.specs.declared.names.Name.{Name}
use Rattle.resource_types.specs.declared.objects.Body.TheVariants.{Configuration, Route}
use Rattle.resource_types.specs.declared.objects.Object.{Object}
use Rattle.resource_types.specs.Objects.{kind_of_body, no_status, targets_of}
use Rattle.resource_types.specs.Lookups.{State, is_given}
use Rattle.control_rules.specs.declared.settings.Settings.{Settings}
use Rattle.control_rules.specs.Standing.{key_at, standing, is_owned_by_uid, template_of, with_template, with_targets}
use Rattle.control_rules.specs.Readings.{revision_name}
use Rattle.control_rules.specs.NextService.{converted_target, converted, same_template, same_targets}
use Rattle.control_rules.proofs.Same.{same_template-own, same_targets-own}
use Rattle.control_entries.proofs.Bodies.{template-with_template, targets-with_targets, kind-with_template, kind-with_targets}
use Rattle.control_settle.specs.Grounds.{IsSoundState}
use Rattle.control_entries.proofs.Changes.{Change, stands_other, stands_elsewhere, put_here}
use Rattle.control_entries.proofs.Tests.{not_both, some_same, none_some}
use Rattle.control_entries.proofs.Standing.{stands, is_of_parts, is_of_both, key_or_not}
use Rattle.control_settle.proofs.Likeness.{rebodied, Like, like_own, KeptAt, same_kept, like_kept, restated_like}
use Rattle.control_settle.proofs.Effects.{born, child_of_service, Effect, NewConfiguration, NewTemplate, NewRoute, NewTargets, GoneConfiguration, GoneRoute, Restated, NewRevision, GoneRevision, Repinned, GoneTable, NewTable}
use Rattle.control_settle.proofs.Children.{services_kept, is_child, no_child, NoOrphan}

-- whether the child has what its Service says
abbrev pub is_right : Kind → Name → Object → Object → Bool
is_right kind.Configuration q s o = same_template (template_of o.body) (template_of s.body)
is_right kind.Route q s o = same_targets (targets_of o.body) (converted q s)
is_right kind.Service q s o = true
is_right kind.Revision q s o = true
is_right kind.Health q s o = true
is_right kind.Table q s o = true

-- a child that stands, and is right where the Service owns it
pub record Child (k : Kind) (st : State) (q : Name) (s : Object) : Type 0 where
  pub object : Object
  pub stands : standing k q st ≡ Some object
  pub right : is_owned_by_uid s.meta.stamp.uid object ≡ true → is_right k q s object ≡ true

-- each Service of the name has the child
abbrev pub HasChild : Kind → State → Name → Type 0
HasChild k st q = (s : Object) → standing kind.Service q st ≡ Some s → Child k st q s

converted_like : (q : Name) (s t : Object) → Like s t → converted q t ≡ converted q s
unfolding converted
converted_like q s t like = ap (map (converted_target q)) like.targets

pub right_like : (k : Kind) (q : Name) (s t o p : Object) → Like s t → Like o p → is_right k q t p ≡ is_right k q s o
right_like kind.Configuration q s t o p a b = λ i. same_template (b.template i) (a.template i)
right_like kind.Route q s t o p a b = λ i. same_targets (b.targets i) (converted_like q s t a i)
right_like kind.Service q s t o p a b = refl
right_like kind.Revision q s t o p a b = refl
right_like kind.Health q s t o p a b = refl
right_like kind.Table q s t o p a b = refl

pub owned_like : (s t o p : Object) → Like s t → Like o p → is_owned_by_uid t.meta.stamp.uid p ≡ is_owned_by_uid s.meta.stamp.uid o
owned_like s t o p a b = λ i. is_given (λ w. Rattle.std.specs.Prelude.◌==◌ w.uid (a.uid i)) (b.owner i)

-- where the Service and the child keep
pub child_kept : (k : Kind) (q : Name) (a b : State) → KeptAt kind.Service q a b → KeptAt k q a b → HasChild k a q → HasChild k b q
child_kept k q a b service kept has t at =
    let s = service.back t at in
    let old = has s.0 s.1 in
    let new = kept.on old.object old.stands in
    record {
      object = new.0;
      stands = new.1;
      right = λ owned. right_like k q s.0 t old.object new.0 s.2 new.2 ∙ old.right (sym (owned_like s.0 t old.object new.0 s.2 new.2) ∙ owned);
    }

-- a child that was just put is right
put_right : (k : Kind) (q : Name) (s x : Object) (a b : State) → Change (key_at k q) (Some x) a b → x.key ≡ key_at k q → kind_of_body x.body ≡ k → KeptAt kind.Service q a b → standing kind.Service q a ≡ Some s → is_right k q s x ≡ true → HasChild k b q
put_right k q s x a b h key fits service at right t now = record {
  object = x;
  stands = put_here (key_at k q) x a b h k q refl (is_of_both k x (ap (λ z. z.kind) key) fits);
  right = λ owned. let u = service.back t now in right_like k q s t x x (subst (λ z. Like z t) (some_same (sym u.1 ∙ at)) u.2) (like_own x) ∙ right;
}

module _ (settings : Settings) (n now : ℕ) (c : Controller) (m : Name) (a b : State) (sound : IsSoundState n a) (f : Effect settings n now c m a b) where
  service : (q : Name) → KeptAt kind.Service q a b
  service q = services_kept settings n now c m a b sound f q

  pub made_configuration : (s : Object) → standing kind.Service m a ≡ Some s → Change (key_at kind.Configuration m) (Some (born n now (child_of_service m s kind.Configuration (Configuration (template_of s.body) no_status)))) a b → HasChild kind.Configuration b m
  made_configuration s at h = put_right kind.Configuration m s _ a b h refl refl (service m) at (same_template-own (template_of s.body))

  pub made_route : (s : Object) → standing kind.Service m a ≡ Some s → Change (key_at kind.Route m) (Some (born n now (child_of_service m s kind.Route (Route (converted m s) no_status)))) a b → HasChild kind.Route b m
  made_route s at h = put_right kind.Route m s _ a b h refl refl (service m) at (same_targets-own (converted m s))

  pub mended_configuration : (s o : Object) → standing kind.Service m a ≡ Some s → standing kind.Configuration m a ≡ Some o → Change (key_at kind.Configuration m) (Some (rebodied n now o (with_template (template_of s.body) o.body))) a b → HasChild kind.Configuration b m
  mended_configuration s o at on h =
      let fits = (is_of_parts kind.Configuration o (stands kind.Configuration m a o on).of).1 in
      put_right kind.Configuration m s _ a b h (sound.key (key_at kind.Configuration m) o (stands kind.Configuration m a o on).found).0 (kind-with_template (template_of s.body) o.body ∙ fits) (service m) at
      (ap (λ z. same_template z (template_of s.body)) (template-with_template (template_of s.body) o.body fits) ∙ same_template-own (template_of s.body))

  pub mended_route : (s o : Object) → standing kind.Service m a ≡ Some s → standing kind.Route m a ≡ Some o → Change (key_at kind.Route m) (Some (rebodied n now o (with_targets (converted m s) o.body))) a b → HasChild kind.Route b m
  mended_route s o at on h =
      let fits = (is_of_parts kind.Route o (stands kind.Route m a o on).of).1 in
      put_right kind.Route m s _ a b h (sound.key (key_at kind.Route m) o (stands kind.Route m a o on).found).0 (kind-with_targets (converted m s) o.body ∙ fits) (service m) at
      (ap (λ z. same_targets z (converted m s)) (targets-with_targets (converted m s) o.body fits) ∙ same_targets-own (converted m s))

  -- a change at another key
  off : (k l : Kind) (q w : Name) (x : Option Object) → Change (key_at l w) x a b → (key_at l w ≢ key_at k q) → HasChild k a q → HasChild k b q
  off k l q w x h apart has = child_kept k q a b (service q) (same_kept k q a b (stands_elsewhere (key_at l w) x a b h k q apart)) has

  off_kind : (k l : Kind) (q w : Name) (x : Option Object) → Change (key_at l w) x a b → is_child k ≡ true → is_child l ≡ false → HasChild k a q → HasChild k b q
  off_kind k l q w x h child isnt has = off k l q w x h (λ e. no_child k l child isnt (ap (λ z. z.kind) e)) has

  -- at its key, or off it
  by_key : (k l : Kind) (q : Name) (x : Option Object) → Change (key_at l m) x a b → (HasChild l a m → HasChild l b m) → HasChild k a q → HasChild k b q
  by_key k l q x h here has = go (key_or_not (key_at l m) (key_at k q))
    where
      go : (key_at l m ≡ key_at k q) ⊎ (key_at l m ≢ key_at k q) → HasChild k b q
      go (inl e) = subst (λ z. HasChild z.kind b z.name) e (here (subst (λ z. HasChild z.kind a z.name) (sym e) has))
      go (inr apart) = off k l q m x h apart has

  absent : (l : Kind) (s : Object) → standing kind.Service m a ≡ Some s → standing l m a ≡ None → HasChild l a m → HasChild l b m
  absent l s at none has = absurd (let o = has s at in none_some none o.stands)

  pub child_stays : Effect settings n now c m a b → (k : Kind) → is_child k ≡ true → ((q : Name) → NoOrphan kind.Configuration a q) → ((q : Name) → NoOrphan kind.Route a q) → (q : Name) → HasChild k a q → HasChild k b q
  child_stays (NewConfiguration s d at none h) k child calm calm2 q has = by_key k kind.Configuration q _ h (absent kind.Configuration s at none) has
  child_stays (NewTemplate s o d at on owned differs h) k child calm calm2 q has = by_key k kind.Configuration q _ h (λ _. mended_configuration s o at on h) has
  child_stays (NewRoute s d at none h) k child calm calm2 q has = by_key k kind.Route q _ h (absent kind.Route s at none) has
  child_stays (NewTargets s o d at on owned differs h) k child calm calm2 q has = by_key k kind.Route q _ h (λ _. mended_route s o at on h) has
  child_stays (GoneConfiguration o d at gone h) k child calm calm2 q has = absurd (not_both gone (calm m o at))
  child_stays (GoneRoute o d at gone h) k child calm calm2 q has = absurd (not_both gone (calm2 m o at))
  child_stays (Restated l o is d at differs h) k child calm calm2 q has = child_kept k q a b (service q) (like_kept a b (key_at l m) o _ l m h refl at (restated_like n now o _) k q) has
  child_stays (NewRevision o d at none h) k child calm calm2 q has = off_kind k kind.Revision q (revision_name o) _ h child refl has
  child_stays (GoneRevision w v d at going h) k child calm calm2 q has = off_kind k kind.Revision q w _ h child refl has
  child_stays (Repinned w v ps moment d at space pins h) k child calm calm2 q has = off_kind k kind.Revision q w _ h child refl has
  child_stays (GoneTable t d at h) k child calm calm2 q has = off_kind k kind.Table q m _ h child refl has
  child_stays (NewTable y d h) k child calm calm2 q has = off_kind k kind.Table q m _ h child refl has

-- ---- from then on no Configuration or Route comes, goes, or changes its spec

pub record Settled (st : State) : Type 0 where
  pub kin : (q : Name) → NoOrphan kind.Configuration st q
  pub kin_route : (q : Name) → NoOrphan kind.Route st q
  pub configuration : (q : Name) → HasChild kind.Configuration st q
  pub route : (q : Name) → HasChild kind.Route st q

module _ (settings : Settings) (n now : ℕ) (c : Controller) (m : Name) (a b : State) (settled : Settled a) where
  wrong : (k : Kind) (s o : Object) → standing kind.Service m a ≡ Some s → standing k m a ≡ Some o → is_owned_by_uid s.meta.stamp.uid o ≡ true → is_right k m s o ≡ false → HasChild k a m → ⊥
  wrong k s o at on owned differs has =
      let child = has s at in
      let same : child.object ≡ o = some_same (sym child.stands ∙ on) in
      not_both (subst (λ z. is_owned_by_uid s.meta.stamp.uid z ≡ true → is_right k m s z ≡ true) same child.right owned) differs

  pub settled_kept : Effect settings n now c m a b → (k : Kind) → is_child k ≡ true → (q : Name) → KeptAt k q a b
  settled_kept (NewConfiguration s d at none h) k child q = absurd (let o = settled.configuration m s at in none_some none o.stands)
  settled_kept (NewTemplate s o d at on owned differs h) k child q = absurd (wrong kind.Configuration s o at on owned differs (settled.configuration m))
  settled_kept (NewRoute s d at none h) k child q = absurd (let o = settled.route m s at in none_some none o.stands)
  settled_kept (NewTargets s o d at on owned differs h) k child q = absurd (wrong kind.Route s o at on owned differs (settled.route m))
  settled_kept (GoneConfiguration o d at gone h) k child q = absurd (not_both gone (settled.kin m o at))
  settled_kept (GoneRoute o d at gone h) k child q = absurd (not_both gone (settled.kin_route m o at))
  settled_kept (Restated l o is d at differs h) k child q = like_kept a b (key_at l m) o _ l m h refl at (restated_like n now o _) k q
  settled_kept (NewRevision o d at none h) k child q = same_kept k q a b (stands_other _ _ a b h k (no_child k kind.Revision child refl) q)
  settled_kept (GoneRevision w v d at going h) k child q = same_kept k q a b (stands_other _ _ a b h k (no_child k kind.Revision child refl) q)
  settled_kept (Repinned w v ps moment d at space pins h) k child q = same_kept k q a b (stands_other _ _ a b h k (no_child k kind.Revision child refl) q)
  settled_kept (GoneTable t d at h) k child q = same_kept k q a b (stands_other _ _ a b h k (no_child k kind.Table child refl) q)
  settled_kept (NewTable y d h) k child q = same_kept k q a b (stands_other _ _ a b h k (no_child k kind.Table child refl) q)
