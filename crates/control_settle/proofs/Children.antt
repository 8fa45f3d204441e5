-- Services keep; a Configuration or a Route that stands after a round stood before, or was made by its Service; none becomes an orphan.
use Rattle.std.proofs.Common.{◌≡◌, ◌≢◌, ℕ, suc, ◌==◌, Bool, true, false, cond, not, ◌&&◌, List, Option, Some, None, refl, sym, ap, ◌∙◌, subst, arith}
use Rattle.std.proofs.lemmas.Bool.Decides.{nat_tests}
use Rattle.resource_types.specs.declared.names.Kind.{Kind}
use Rattle.resource_types.specs.declared.names.Kind.TheVariants as kind
use Rattle.resource_types.specs.declared.names.Controller.{Controller}
use Rattle.resource_types.specs.declared.names.Name.{Name}
use Rattle.resource_types.specs.declared.metadata.Owner.{Owner}
use Rattle.resource_types.specs.declared.objects.Object.{Object}
use Rattle.resource_types.specs.Objects.{is_of}
use Rattle.resource_types.specs.Lookups.{State, find, key_of, is_given, owner_stands}
use Rattle.control_rules.specs.declared.settings.Settings.{Settings}
use Rattle.control_rules.specs.FurtherFacts.{IsServed}
use Rattle.control_rules.specs.Standing.{key_at, standing, of_its_kind, is_orphan}
use Rattle.control_rules.specs.Readings.{revision_name}
use Rattle.control_rules.specs.Differences.{owner_by}
use Rattle.control_settle.specs.Grounds.{IsSoundState}
use Rattle.control_entries.proofs.Changes.{Change, stands_other, after_put, after_removal}
use Rattle.control_entries.proofs.Tests.{not_both, none_some}
use Rattle.control_settle.proofs.Likeness.{KeptAt, same_kept, like_kept, restated_like}
use Rattle.control_settle.proofs.Members.{sound_key}
use Rattle.control_settle.proofs.Effects.{restated, Effect, NewConfiguration, NewTemplate, NewRoute, NewTargets, GoneConfiguration, GoneRoute, Restated, NewRevision, GoneRevision, Repinned, GoneTable, NewTable}

module _ (settings : Settings) (n now : ℕ) (c : Controller) (m : Name) (a b : State) (sound : IsSoundState n a) where
  -- Services stay, but for their statuses
  pub services_kept : Effect settings n now c m a b → (q : Name) → KeptAt kind.Service q a b
  services_kept (NewConfiguration s d at none h) q = same_kept kind.Service q a b (stands_other _ _ a b h kind.Service (λ e. cc) q)
  services_kept (NewTemplate s o d at on owned differs h) q = same_kept kind.Service q a b (stands_other _ _ a b h kind.Service (λ e. cc) q)
  services_kept (NewRoute s d at none h) q = same_kept kind.Service q a b (stands_other _ _ a b h kind.Service (λ e. cc) q)
  services_kept (NewTargets s o d at on owned differs h) q = same_kept kind.Service q a b (stands_other _ _ a b h kind.Service (λ e. cc) q)
  services_kept (GoneConfiguration o d at gone h) q = same_kept kind.Service q a b (stands_other _ _ a b h kind.Service (λ e. cc) q)
  services_kept (GoneRoute o d at gone h) q = same_kept kind.Service q a b (stands_other _ _ a b h kind.Service (λ e. cc) q)
  services_kept (Restated k o is d at differs h) q = like_kept a b (key_at k m) o (restated settings n now a k m o) k m h refl at (restated_like n now o _) kind.Service q
  services_kept (NewRevision o d at none h) q = same_kept kind.Service q a b (stands_other _ _ a b h kind.Service (λ e. cc) q)
  services_kept (GoneRevision w v d at going h) q = same_kept kind.Service q a b (stands_other _ _ a b h kind.Service (λ e. cc) q)
  services_kept (Repinned w v ps moment d at space pins h) q = same_kept kind.Service q a b (stands_other _ _ a b h kind.Service (λ e. cc) q)
  services_kept (GoneTable t d at h) q = same_kept kind.Service q a b (stands_other _ _ a b h kind.Service (λ e. cc) q)
  services_kept (NewTable x d h) q = same_kept kind.Service q a b (stands_other _ _ a b h kind.Service (λ e. cc) q)

-- ---- owners

pub owner_by_standing : (st : State) (space : List ℕ) (w : Owner) → w.kind ≡ kind.Service → owner_stands st space w ≡ is_given (λ (o : Object). o.meta.stamp.uid == w.uid) (standing kind.Service (record { space = space; name = w.name }) st)
unfolding standing
owner_by_standing st space w e = rw e (go (find (key_of kind.Service space w.name) st))
  where
    go : (x : Option Object) → is_given (λ (o : Object). is_of kind.Service o && (o.meta.stamp.uid == w.uid)) x ≡ is_given (λ (o : Object). o.meta.stamp.uid == w.uid) (of_its_kind kind.Service x)
    go None = refl
    go (Some o) = by (is_of kind.Service o)
      where
        by : (t : Bool) → (t && (o.meta.stamp.uid == w.uid)) ≡ is_given (λ (p : Object). p.meta.stamp.uid == w.uid) (cond t (Some o) None)
        by true = refl
        by false = refl

uid_kept : (a b : State) (q : Name) (uid : ℕ) → KeptAt kind.Service q a b → is_given (λ (o : Object). o.meta.stamp.uid == uid) (standing kind.Service q b) ≡ is_given (λ (o : Object). o.meta.stamp.uid == uid) (standing kind.Service q a)
uid_kept a b q uid kept = go (standing kind.Service q b) refl
  where
    go : (x : Option Object) → standing kind.Service q b ≡ x → is_given (λ (o : Object). o.meta.stamp.uid == uid) x ≡ is_given (λ (o : Object). o.meta.stamp.uid == uid) (standing kind.Service q a)
    go (Some x) e = let k = kept.back x e in ap (λ z. z == uid) k.2.uid ∙ sym (ap (is_given (λ (o : Object). o.meta.stamp.uid == uid)) k.1)
    go None e = none (standing kind.Service q a) refl
      where
        none : (y : Option Object) → standing kind.Service q a ≡ y → false ≡ is_given (λ (o : Object). o.meta.stamp.uid == uid) y
        none None f = refl
        none (Some o) f = absurd (let k = kept.on o f in none_some e k.1)

-- where Services keep, an object of the same key and owner is as much an orphan as before
pub orphan_same : (a b : State) (o x : Object) → ((q : Name) → KeptAt kind.Service q a b) → IsServed o → x.key ≡ o.key → x.meta.owner ≡ o.meta.owner → is_orphan b x ≡ is_orphan a o
unfolding is_orphan
orphan_same a b o x kept serve key owner = rw (key, owner) (go o.meta.owner refl)
  where
    go : (w : Option Owner) → o.meta.owner ≡ w → is_given (λ (w : Owner). not (owner_stands b o.key.name.space w)) w ≡ is_given (λ (w : Owner). not (owner_stands a o.key.name.space w)) w
    go None e = refl
    go (Some w) e =
        let service = (serve w e).0 in
        ap not (owner_by_standing b o.key.name.space w service ∙ uid_kept a b (record { space = o.key.name.space; name = w.name }) w.uid (kept (record { space = o.key.name.space; name = w.name })) ∙ sym (owner_by_standing a o.key.name.space w service))

-- what a Service that stands made is no orphan
pub made_child : (n : ℕ) (a : State) (k : Kind) (q : Name) (s x : Object) → IsSoundState n a → standing kind.Service q a ≡ Some s → x.key ≡ key_at k q → x.meta.owner ≡ Some (owner_by kind.Service s) → is_orphan a x ≡ false
unfolding is_orphan
made_child n a k q s x sound at key owner =
    rw (key, owner) (ap not (owner_by_standing a q.space (owner_by kind.Service s) refl ∙ ap (λ z. is_given (λ (o : Object). o.meta.stamp.uid == s.meta.stamp.uid) (standing kind.Service (record { space = q.space; name = z }) a)) (ap (λ z. z.name.name) (sound_key n a sound kind.Service q s at)) ∙ ap (is_given (λ (o : Object). o.meta.stamp.uid == s.meta.stamp.uid)) at ∙ equal_self s.meta.stamp.uid))
  where
    equal_self : (u : ℕ) → (u == u) ≡ true
    equal_self u = grind (arith, nat_tests)

-- ---- where children come from

abbrev pub is_child : Kind → Bool
is_child kind.Configuration = true
is_child kind.Route = true
is_child kind.Service = false
is_child kind.Revision = false
is_child kind.Health = false
is_child kind.Table = false

pub data Came (k : Kind) (q : Name) (x : Object) (a : State) : Type 0 where
  Stayed : (o : Object) → standing k q a ≡ Some o → x.key ≡ o.key → x.meta.owner ≡ o.meta.owner → x.meta.stamp.uid ≡ o.meta.stamp.uid → Came k q x a
  Fresh : (s : Object) → standing kind.Service q a ≡ Some s → x.key ≡ key_at k q → x.meta.owner ≡ Some (owner_by kind.Service s) → standing k q a ≡ None → Came k q x a

pub no_child : (k l : Kind) → is_child k ≡ true → is_child l ≡ false → l ≢ k
no_child k l h g = λ e. not_both h (ap is_child (sym e) ∙ g)

module _ (settings : Settings) (n now : ℕ) (c : Controller) (m : Name) (a b : State) (sound : IsSoundState n a) where
  stayed : (k : Kind) (q : Name) (x : Object) → standing k q a ≡ Some x → Came k q x a
  stayed k q x e = Stayed x e refl refl refl

  apart : (k l : Kind) (q w : Name) (o : Option Object) (x : Object) → Change (key_at l w) o a b → is_child k ≡ true → is_child l ≡ false → standing k q b ≡ Some x → Came k q x a
  apart k l q w o x h is isnt e = stayed k q x (sym (stands_other (key_at l w) o a b h k (no_child k l is isnt) q) ∙ e)

  replaced : (k l : Kind) (q : Name) (o x y : Object) → Change (key_at l m) (Some y) a b → standing l m a ≡ Some o → y.key ≡ o.key → y.meta.owner ≡ o.meta.owner → y.meta.stamp.uid ≡ o.meta.stamp.uid → standing k q b ≡ Some x → Came k q x a
  replaced k l q o x y h at key owner uid e = after_put (key_at l m) y a b h k q x e (Came k q x a)
      (λ same is. Stayed o (subst (λ z. standing z.kind z.name a ≡ Some o) same at) (ap (λ z. z.key) is ∙ key) (ap (λ z. z.meta.owner) is ∙ owner) (ap (λ z. z.meta.stamp.uid) is ∙ uid))
      (λ s. stayed k q x s)

  fresh : (k l : Kind) (q : Name) (s x y : Object) → Change (key_at l m) (Some y) a b → standing kind.Service m a ≡ Some s → standing l m a ≡ None → y.key ≡ key_at l m → y.meta.owner ≡ Some (owner_by kind.Service s) → standing k q b ≡ Some x → Came k q x a
  fresh k l q s x y h at none key owner e = after_put (key_at l m) y a b h k q x e (Came k q x a)
      (λ same is. Fresh s (subst (λ z. standing kind.Service z.name a ≡ Some s) same at) (ap (λ z. z.key) is ∙ key ∙ same) (ap (λ z. z.meta.owner) is ∙ owner) (subst (λ z. standing z.kind z.name a ≡ None) same none))
      (λ s. stayed k q x s)

  pub came : Effect settings n now c m a b → (k : Kind) (q : Name) (x : Object) → is_child k ≡ true → standing k q b ≡ Some x → Came k q x a
  came (NewConfiguration s d at none h) k q x child e = fresh k kind.Configuration q s x _ h at none refl refl e
  came (NewTemplate s o d at on owned differs h) k q x child e = replaced k kind.Configuration q o x _ h on refl refl refl e
  came (NewRoute s d at none h) k q x child e = fresh k kind.Route q s x _ h at none refl refl e
  came (NewTargets s o d at on owned differs h) k q x child e = replaced k kind.Route q o x _ h on refl refl refl e
  came (GoneConfiguration o d at gone h) k q x child e = stayed k q x (after_removal _ a b h k q x e).0
  came (GoneRoute o d at gone h) k q x child e = stayed k q x (after_removal _ a b h k q x e).0
  came (Restated l o is d at differs h) k q x child e = replaced k l q o x _ h at refl refl refl e
  came (NewRevision o d at none h) k q x child e = apart k kind.Revision q (revision_name o) _ x h child refl e
  came (GoneRevision w v d at going h) k q x child e = apart k kind.Revision q w _ x h child refl e
  came (Repinned w v ps moment d at space pins h) k q x child e = apart k kind.Revision q w _ x h child refl e
  came (GoneTable t d at h) k q x child e = apart k kind.Table q m _ x h child refl e
  came (NewTable y d h) k q x child e = apart k kind.Table q m _ x h child refl e

-- ---- no child is an orphan

abbrev pub NoOrphan : Kind → State → Name → Type 0
NoOrphan k st q = (o : Object) → standing k q st ≡ Some o → is_orphan st o ≡ false

pub served : (n : ℕ) (a : State) → IsSoundState n a → (k : Kind) → is_child k ≡ true → (q : Name) (o : Object) → standing k q a ≡ Some o → IsServed o
served n a sound kind.Configuration h q o e = sound.serve q o e
served n a sound kind.Route h q o e = sound.serve_route q o e
served n a sound kind.Service h q o e = absurd cc
served n a sound kind.Revision h q o e = absurd cc
served n a sound kind.Health h q o e = absurd cc
served n a sound kind.Table h q o e = absurd cc

pub orphans_kept : (settings : Settings) (n now : ℕ) (c : Controller) (m : Name) (a b : State) → IsSoundState n a → IsSoundState (suc n) b → Effect settings n now c m a b → (k : Kind) → is_child k ≡ true → (q : Name) → NoOrphan k a q → NoOrphan k b q
orphans_kept settings n now c m a b sound after f k child q none x e = go (came settings n now c m a b sound f k q x child e)
  where
    kept : (q : Name) → KeptAt kind.Service q a b
    kept = services_kept settings n now c m a b sound f

    go : Came k q x a → is_orphan b x ≡ false
    go (Stayed o at key owner uid) = orphan_same a b o x kept (served n a sound k child q o at) key owner ∙ none o at
    go (Fresh s at key owner absent) =
        let y = (kept q).on s at in
        made_child (suc n) b k q y.0 x after y.1 key (owner ∙ ap Some (λ i. record { kind = kind.Service; name = (sym y.2.key i).name.name; uid = sym y.2.uid i }))
