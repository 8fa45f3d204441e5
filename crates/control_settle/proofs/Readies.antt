-- The latest ready Revision that a Configuration's status names comes to be the one that it is, and stays so.
use Rattle.std.proofs.Common.{◌≡◌, ◌≢◌, ◌⊎◌, inl, inr, ℕ, suc, Bool, true, false, ◌&&◌, Option, Some, None, refl, sym, ap, ◌∙◌, subst}
use Rattle.resource_types.specs.declared.names.Kind.{Kind}
use Rattle.resource_types.specs.declared.names.Kind.TheVariants as kind
use Rattle.resource_types.specs.declared.names.Controller.{Controller}
use Rattle.resource_types.specs.declared.names.Name.{Name}
use Rattle.resource_types.specs.declared.names.Key.{Key}
use Rattle.resource_types.specs.declared.conditions.CondName.TheVariants as condition
use Rattle.resource_types.specs.declared.objects.Object.{Object}
use Rattle.resource_types.specs.Objects.{same_kind, generation_of, has_been_ready, status_of}
use Rattle.resource_types.specs.Lookups.{State, find, is_owned_by, latest}
use Rattle.resource_types.proofs.Exact.{kind-exact}
use Rattle.control_rules.specs.declared.settings.Settings.{Settings}
use Rattle.control_rules.specs.Standing.{key_at, standing, is_owned_by_uid, template_of}
use Rattle.control_rules.specs.Statuses.{configuration_status}
use Rattle.control_rules.specs.Collection.{latest_been}
use Rattle.control_rules.specs.Readings.{simple_name_of, revision_name}
use Rattle.control_rules.specs.NextConfiguration.{made_revision}
use Rattle.control_settle.specs.Burden.{has_current}
use Rattle.control_settle.specs.Grounds.{IsSoundState}
use Rattle.control_entries.proofs.Changes.{Change, stands_other, after_put}
use Rattle.control_entries.proofs.Tests.{not_both, some_same, none_some}
use Rattle.control_entries.proofs.Standing.{stands, is_of_parts}
use Rattle.control_entries.specs.Ground.{IsOrdered}
use Rattle.control_settle.proofs.Likeness.{Like, like_own, like_stands, restated_like, repinned_like}
use Rattle.control_settle.proofs.Members.{sound_key, sound_none}
use Rattle.control_settle.proofs.Effects.{born, restated, Effect, NewConfiguration, NewTemplate, NewRoute, NewTargets, GoneConfiguration, GoneRoute, Restated, NewRevision, GoneRevision, Repinned, GoneTable, NewTable}
use Rattle.control_settle.proofs.Settled.{Settled}
use Rattle.control_settle.proofs.Known.{says, restated_status, healths_same, revision_status_same, Known}
use Rattle.control_settle.proofs.Latests.{view, of_these, Fits, IsOther, latest_put, latest_removed}
use Rattle.control_settle.proofs.Past.{past, been_chosen}
use Rattle.control_settle.proofs.Burdens.{owner_like, owned_by_like, lightens}
use Rattle.resource_types.specs.declared.conditions.CondName.{CondName}
use Rattle.control_rules.specs.NextService.{same_template}
use Rattle.resource_types.specs.declared.status.ObjectStatus.{ObjectStatus}

-- what is settled of a state, and known of Revisions
pub record Informed (st : State) : Type 0 where
  pub settled : Settled st
  pub known : (q : Name) → Known st q

name_by_view : (x y : Option Object) → view x ≡ view y → simple_name_of x ≡ simple_name_of y
name_by_view None None e = refl
name_by_view None (Some y) e = absurd cc
name_by_view (Some x) None e = absurd cc
name_by_view (Some x) (Some y) e = ap (λ (p : Key × ℕ). p.0.name.name) (some_same e)

-- the Revisions that count for a Configuration
abbrev pub counting : Object → Object → Bool
counting c v = is_owned_by c v && has_been_ready v

counting_like : (c d : Object) → Like c d → counting d ≡ counting c
counting_like c d l = λ i v. owner_like c d v l i && has_been_ready v

module _ (settings : Settings) (n now : ℕ) (c : Controller) (m : Name) (a b : State) (sound : IsSoundState n a) (order : IsOrdered a) (f : Effect settings n now c m a b) (was : Informed a) (is : (q : Name) → Known b q) where
  -- a Revision that keeps, but for status and pins, says the same
  pub says_same : (w : Name) (o x : Object) → standing kind.Revision w a ≡ Some o → standing kind.Revision w b ≡ Some x → Like o x → (name : CondName) → says name (status_of x.body) ≡ says name (status_of o.body)
  says_same w o x at on l name = is w x on name ∙ ap (says name) (revision_status_same a b o x (healths_same settings n now c m a b f) l) ∙ sym (was.known w o at name)

  -- ---- the latest of a fixed Configuration's

  unfit : (e : Object) (k : Kind) (w : Name) (x : Object) → Change (key_at k w) (Some x) a b → (k ≢ kind.Revision) → Fits (of_these (counting e)) x a
  unfit e k w x h apart = record {
    new = λ _. none x (ap (λ z. z.kind) h.puts);
    old = λ o found. (none x (ap (λ z. z.kind) h.puts) ∙ sym (none o (ap (λ z. z.kind) (at o found))), λ t. absurd (not_both t (none x (ap (λ z. z.kind) h.puts))));
  }
    where
      at : (o : Object) → find x.key a ≡ Some o → o.key ≡ key_at k w
      at o found = (sound.key (key_at k w) o (sym (ap (λ q. find q a) h.puts) ∙ found)).0

      differs : (t : Bool) → same_kind k kind.Revision ≡ t → t ≡ false
      differs true g = absurd (apart (kind-exact k kind.Revision g))
      differs false g = refl

      none : (o : Object) → o.key.kind ≡ k → of_these (counting e) o ≡ false
      none o g = ap (λ z. same_kind z kind.Revision && counting e o) g ∙ ap (λ t. t && counting e o) (differs (same_kind k kind.Revision) refl)

  fit : (e : Object) (w : Name) (o x : Object) → Change (key_at kind.Revision w) (Some x) a b → standing kind.Revision w a ≡ Some o → standing kind.Revision w b ≡ Some x → Like o x → Fits (of_these (counting e)) x a
  fit e w o x h at on l = record {
    new = λ none. absurd (none_some (sym (ap (λ q. find q a) h.puts) ∙ none) (stands kind.Revision w a o at).found);
    old = λ p found.
        let same : p ≡ o = some_same (sym found ∙ ap (λ q. find q a) h.puts ∙ (stands kind.Revision w a o at).found) in
        subst (λ z. (of_these (counting e) x ≡ of_these (counting e) z) × ((of_these (counting e) x ≡ true) → generation_of x.body ≡ generation_of z.body)) (sym same)
        ((λ i. same_kind (l.key i).kind kind.Revision && (owned_by_like e o x l i && says_same w o x at on l condition.HasBeenReady i)), λ _. l.made_for);
  }

  other_key : (e : Object) (k : Key) → (k.kind ≢ kind.Revision) → IsOther (counting e) k (latest_been has_been_ready a e)
  other_key e k apart p g = λ same. apart (sym (ap (λ z. z.kind) same) ∙ (is_of_parts kind.Revision p (stands kind.Revision p.key.name a p (been_chosen has_been_ready a e p order g).stands).of).0)

  none_been : (e o : Object) → counting e (born n now (made_revision o)) ≡ false
  none_been e o = go (is_owned_by e (born n now (made_revision o)))
    where
      go : (t : Bool) → (t && false) ≡ false
      go true = refl
      go false = refl

  put_view : (e : Object) (k : Kind) (w : Name) (x : Object) → Change (key_at k w) (Some x) a b → Fits (of_these (counting e)) x a → view (latest_been has_been_ready b e) ≡ view (latest_been has_been_ready a e)
  put_view e k w x h fits = latest_put (counting e) (key_at k w) x a b h fits

  pub latest_view : (q : Name) (e : Object) → standing kind.Configuration q a ≡ Some e → view (latest_been has_been_ready b e) ≡ view (latest_been has_been_ready a e)
  latest_view q e at = go f
    where
      go : Effect settings n now c m a b → view (latest_been has_been_ready b e) ≡ view (latest_been has_been_ready a e)
      go (NewConfiguration s d at none h) = put_view e kind.Configuration m _ h (unfit e kind.Configuration m _ h (λ e. cc))
      go (NewTemplate s o d at on owned differs h) = put_view e kind.Configuration m _ h (unfit e kind.Configuration m _ h (λ e. cc))
      go (NewRoute s d at none h) = put_view e kind.Route m _ h (unfit e kind.Route m _ h (λ e. cc))
      go (NewTargets s o d at on owned differs h) = put_view e kind.Route m _ h (unfit e kind.Route m _ h (λ e. cc))
      go (GoneConfiguration o d at gone h) = ap view (latest_removed (counting e) (key_at kind.Configuration m) a b h (other_key e (key_at kind.Configuration m) (λ e. cc)))
      go (GoneRoute o d at gone h) = ap view (latest_removed (counting e) (key_at kind.Route m) a b h (other_key e (key_at kind.Route m) (λ e. cc)))
      go (Restated kind.Service o i d at differs h) = put_view e kind.Service m _ h (unfit e kind.Service m _ h (λ e. cc))
      go (Restated kind.Configuration o i d at differs h) = put_view e kind.Configuration m _ h (unfit e kind.Configuration m _ h (λ e. cc))
      go (Restated kind.Revision o i d on differs h) = put_view e kind.Revision m _ h (fit e m o _ h on (like_stands a b kind.Revision m o _ h on (restated_like n now o _)) (restated_like n now o _))
      go (Restated kind.Route o i d at differs h) = put_view e kind.Route m _ h (unfit e kind.Route m _ h (λ e. cc))
      go (Restated kind.Health o i d at differs h) = absurd cc
      go (Restated kind.Table o i d at differs h) = absurd cc
      go (NewRevision o d at none h) = put_view e kind.Revision (revision_name o) _ h (record {
        new = λ _. none_been e o;
        old = λ p found. absurd (none_some (sound_none n a sound kind.Revision (revision_name o) none) found);
      })
      go (GoneRevision w v d on going h) = ap view (latest_removed (counting e) (key_at kind.Revision w) a b h (λ p g same. (past n a w v sound order on going).been q e p at g (same ∙ sym (sound_key n a sound kind.Revision w v on))))
      go (Repinned w v ps moment d on space pins h) = put_view e kind.Revision w _ h (fit e w v _ h on (like_stands a b kind.Revision w v _ h on (repinned_like n now v ps moment)) (repinned_like n now v ps moment))
      go (GoneTable t d at h) = ap view (latest_removed (counting e) (key_at kind.Table m) a b h (other_key e (key_at kind.Table m) (λ e. cc)))
      go (NewTable x d h) = put_view e kind.Table m x h (unfit e kind.Table m x h (λ e. cc))

  -- and of the Configuration as it is after the round
  pub latest_after : (q : Name) (e x : Object) → standing kind.Configuration q a ≡ Some e → Like e x → view (latest_been has_been_ready b x) ≡ view (latest_been has_been_ready a e)
  latest_after q e x at l = ap (λ (test : Object → Bool). view (latest test b)) (counting_like e x l) ∙ latest_view q e at

  pub name_after : (q : Name) (e x : Object) → standing kind.Configuration q a ≡ Some e → Like e x → simple_name_of (latest_been has_been_ready b x) ≡ simple_name_of (latest_been has_been_ready a e)
  name_after q e x at l = name_by_view (latest_been has_been_ready b x) (latest_been has_been_ready a e) (latest_after q e x at l)

-- ---- a Configuration after a round

-- it stands as it stood, or got the status that is due
pub data Remains (settings : Settings) (n now : ℕ) (m : Name) (a b : State) (q : Name) (x : Object) : Type 0 where
  Same : standing kind.Configuration q a ≡ Some x → Remains settings n now m a b q x
  Told : (o : Object) → q ≡ m → standing kind.Configuration m a ≡ Some o → x ≡ restated settings n now a kind.Configuration m o → Remains settings n now m a b q x

module _ (settings : Settings) (n now : ℕ) (c : Controller) (m : Name) (a b : State) (settled : Settled a) where
  off : (k : Kind) (w : Name) (o : Option Object) → Change (key_at k w) o a b → (k ≢ kind.Configuration) → (q : Name) (x : Object) → standing kind.Configuration q b ≡ Some x → Remains settings n now m a b q x
  off k w o h apart q x e = Same (sym (stands_other (key_at k w) o a b h kind.Configuration apart q) ∙ e)

  pub configuration_from : Effect settings n now c m a b → (q : Name) (x : Object) → standing kind.Configuration q b ≡ Some x → Remains settings n now m a b q x
  configuration_from (NewConfiguration s d at none h) q x e = absurd (let o = settled.configuration m s at in none_some none o.stands)
  configuration_from (NewTemplate s o d at on owned differs h) q x e = absurd (let child = settled.configuration m s at in let same : child.object ≡ o = some_same (sym child.stands ∙ on) in not_both (subst (λ z. is_owned_by_uid s.meta.stamp.uid z ≡ true → same_template (template_of z.body) (template_of s.body) ≡ true) same child.right owned) differs)
  configuration_from (NewRoute s d at none h) q x e = off kind.Route m _ h (λ e. cc) q x e
  configuration_from (NewTargets s o d at on owned differs h) q x e = off kind.Route m _ h (λ e. cc) q x e
  configuration_from (GoneConfiguration o d at gone h) q x e = absurd (not_both gone (settled.kin m o at))
  configuration_from (GoneRoute o d at gone h) q x e = off kind.Route m _ h (λ e. cc) q x e
  configuration_from (Restated kind.Service o i d at differs h) q x e = off kind.Service m _ h (λ e. cc) q x e
  configuration_from (Restated kind.Configuration o i d at differs h) q x e = after_put _ _ a b h kind.Configuration q x e (Remains settings n now m a b q x) (λ same new. Told o (ap (λ k. k.name) (sym same)) at new) (λ s. Same s)
  configuration_from (Restated kind.Revision o i d at differs h) q x e = off kind.Revision m _ h (λ e. cc) q x e
  configuration_from (Restated kind.Route o i d at differs h) q x e = off kind.Route m _ h (λ e. cc) q x e
  configuration_from (Restated kind.Health o i d at differs h) q x e = absurd cc
  configuration_from (Restated kind.Table o i d at differs h) q x e = absurd cc
  configuration_from (NewRevision o d at none h) q x e = off kind.Revision (revision_name o) _ h (λ e. cc) q x e
  configuration_from (GoneRevision w v d at going h) q x e = off kind.Revision w _ h (λ e. cc) q x e
  configuration_from (Repinned w v ps moment d at space pins h) q x e = off kind.Revision w _ h (λ e. cc) q x e
  configuration_from (GoneTable t d at h) q x e = off kind.Table m _ h (λ e. cc) q x e
  configuration_from (NewTable y d h) q x e = off kind.Table m _ h (λ e. cc) q x e

-- ---- the latest ready one is named

abbrev pub NamesReady : State → Object → Type 0
NamesReady st c = (status_of c.body).ready ≡ simple_name_of (latest_been has_been_ready st c)

abbrev pub IsReady : State → Name → Type 0
IsReady st q = (c : Object) → standing kind.Configuration q st ≡ Some c → NamesReady st c

-- or at least the current Revision stands
abbrev pub IsReadyOrCurrent : State → Name → Type 0
IsReadyOrCurrent st q = (c : Object) → standing kind.Configuration q st ≡ Some c → NamesReady st c ⊎ (has_current st c ≡ true)

told_ready : (settings : Settings) (n now : ℕ) (a : State) (m : Name) (o : Object) → standing kind.Configuration m a ≡ Some o → (status_of (restated settings n now a kind.Configuration m o).body).ready ≡ simple_name_of (latest_been has_been_ready a o)
unfolding configuration_status
told_ready settings n now a m o at = ap (λ (s : ObjectStatus). s.ready) (restated_status settings n now a kind.Configuration m o refl at)

module _ (settings : Settings) (n now : ℕ) (c : Controller) (m : Name) (a b : State) (sound : IsSoundState n a) (after : IsSoundState (suc n) b) (order : IsOrdered a) (f : Effect settings n now c m a b) (was : Informed a) (is : (q : Name) → Known b q) where
  name_at : (q : Name) (e x : Object) → standing kind.Configuration q a ≡ Some e → Like e x → simple_name_of (latest_been has_been_ready b x) ≡ simple_name_of (latest_been has_been_ready a e)
  name_at q e x at l = name_after settings n now c m a b sound order f was is q e x at l

  pub told_names : (q : Name) (x o : Object) → standing kind.Configuration m a ≡ Some o → x ≡ restated settings n now a kind.Configuration m o → NamesReady b x
  told_names q x o at new = subst (NamesReady b) (sym new) (told_ready settings n now a m o at ∙ sym (name_at m o (restated settings n now a kind.Configuration m o) at (restated_like n now o _)))

  pub ready_stays : (q : Name) → IsReady a q → IsReady b q
  ready_stays q ready x e = go (configuration_from settings n now c m a b was.settled f q x e)
    where
      go : Remains settings n now m a b q x → NamesReady b x
      go (Same s) = ready x s ∙ sym (name_at q x x s (like_own x))
      go (Told o same at new) = told_names q x o at new

  pub ready_or_current_stays : (q : Name) → IsReadyOrCurrent a q → IsReadyOrCurrent b q
  ready_or_current_stays q ready x e = go (configuration_from settings n now c m a b was.settled f q x e)
    where
      by : (e : Object) → standing kind.Configuration q a ≡ Some e → NamesReady a e ⊎ (has_current a e ≡ true) → NamesReady b e ⊎ (has_current b e ≡ true)
      by e s (inl r) = inl (r ∙ sym (name_at q e e s (like_own e)))
      by e s (inr r) = inr ((lightens settings n now c m a b sound after order f f).current q e s r)

      go : Remains settings n now m a b q x → NamesReady b x ⊎ (has_current b x ≡ true)
      go (Same s) = by x s (ready x s)
      go (Told o same at new) = inl (told_names q x o at new)
