-- Pins of a Route after a round: a round of another name leaves them.
use Rattle.std.proofs.Common.{◌≡◌, ◌≢◌, ℕ, Bool, true, false, cond, not, List, [], ◌∷◌, Option, Some, None, bytes_eq, refl, sym, ap, ◌∙◌, subst}
use Rattle.std.specs.Ordering.{nat_cmp, is_lt}
use Rattle.std.specs.Cmp.Lexicographic.{slice_cmp}
use Rattle.resource_types.specs.declared.names.Kind.TheVariants as kind
use Rattle.resource_types.specs.declared.names.Controller.{Controller}
use Rattle.resource_types.specs.declared.names.Controller.TheVariants as controller
use Rattle.resource_types.specs.declared.names.Name.{Name}
use Rattle.resource_types.specs.declared.objects.Object.{Object}
use Rattle.resource_types.specs.Objects.{pins_of}
use Rattle.resource_types.specs.Lookups.{State}
use Rattle.resource_types.proofs.Exact.{bytes-exact}
use Rattle.control_rules.specs.declared.settings.Settings.{Settings}
use Rattle.control_rules.specs.Standing.{key_at, listed, standing, with_pins}
use Rattle.control_rules.specs.Readings.{revision_name}
use Rattle.control_rules.specs.NextRoute.{add_pin, drop_pin}
use Rattle.control_entries.proofs.Changes.{Change, stands_elsewhere, stands_other, after_put, after_removal}
use Rattle.control_entries.proofs.Tests.{not_both, bytes_apart}
use Rattle.control_entries.proofs.Standing.{stands, is_of_parts}
use Rattle.control_settle.proofs.Likeness.{rebodied}
use Rattle.control_settle.proofs.Members.{PinChange, Adds, Drops}
use Rattle.control_settle.proofs.Effects.{is_stated, Effect, NewConfiguration, NewTemplate, NewRoute, NewTargets, GoneConfiguration, GoneRoute, Restated, NewRevision, GoneRevision, Repinned, GoneTable, NewTable}
use Rattle.resource_types.specs.declared.names.Kind.{Kind}
use Rattle.control_entries.proofs.Bodies.{pins-with_status, pins-with_pins}

-- ---- texts among pins

pub listed_beside_added : (x r : List ℕ) (ps : List (List ℕ)) → (x ≢ r) → listed x (add_pin r ps) ≡ listed x ps
unfolding listed add_pin
listed_beside_added x r [] h = ap (λ t. cond t true false) (bytes_apart x r h)
listed_beside_added x r (p ∷ ps) h = go (is_lt (slice_cmp nat_cmp r p)) (listed_beside_added x r ps h)
  where
    go : (t : Bool) → listed x (add_pin r ps) ≡ listed x ps → listed x (cond t (r ∷ p ∷ ps) (p ∷ add_pin r ps)) ≡ cond (bytes_eq x p) true (listed x ps)
    go true ih = ap (λ t. cond t true (listed x (p ∷ ps))) (bytes_apart x r h)
    go false ih = ap (cond (bytes_eq x p) true) ih

pub listed_beside_dropped : (x r : List ℕ) (ps : List (List ℕ)) → (x ≢ r) → listed x (drop_pin r ps) ≡ listed x ps
unfolding listed drop_pin
listed_beside_dropped x r [] h = refl
listed_beside_dropped x r (p ∷ ps) h = go (bytes_eq p r) refl (listed_beside_dropped x r ps h)
  where
    go : (t : Bool) → bytes_eq p r ≡ t → listed x (drop_pin r ps) ≡ listed x ps → listed x (cond (not t) (p ∷ drop_pin r ps) (drop_pin r ps)) ≡ cond (bytes_eq x p) true (listed x ps)
    go true e ih = ih ∙ sym (ap (λ t. cond t true (listed x ps)) (bytes_apart x p (λ q. h (q ∙ bytes-exact p r e))))
    go false e ih = ap (cond (bytes_eq x p) true) ih

pub change_beside : (x r : List ℕ) (old new : List (List ℕ)) → (x ≢ r) → PinChange r old new → listed x new ≡ listed x old
change_beside x r old new h (Adds e) = ap (listed x) e ∙ listed_beside_added x r old h
change_beside x r old new h (Drops e) = ap (listed x) e ∙ listed_beside_dropped x r old h

pub repinned_pins : (n now : ℕ) (a : State) (w : Name) (v : Object) (ps : List (List ℕ)) (moment : Option ℕ) → standing kind.Revision w a ≡ Some v → pins_of (rebodied n now v (with_pins ps moment v.body)).body ≡ ps
repinned_pins n now a w v ps moment at = pins-with_pins ps moment v.body (is_of_parts kind.Revision v (stands kind.Revision w a v at).of).1

-- ---- a Revision after a round, and the pin

pub data PinsFrom (r : Name) (v : Name) (x : Object) (a : State) : Type 0 where
  Had : (o : Object) → standing kind.Revision v a ≡ Some o → listed r.name (pins_of x.body) ≡ listed r.name (pins_of o.body) → PinsFrom r v x a
  Born : standing kind.Revision v a ≡ None → pins_of x.body ≡ [] → PinsFrom r v x a

module _ (settings : Settings) (n now : ℕ) (c : Controller) (m : Name) (a b : State) (r : Name) (others : c ≡ controller.Route → m ≢ r) where
  as_stood : (v : Name) (x : Object) → standing kind.Revision v a ≡ Some x → PinsFrom r v x a
  as_stood v x e = Had x e refl

  apart : (k : Kind) (w v : Name) (o : Option Object) (x : Object) → Change (key_at k w) o a b → (k ≢ kind.Revision) → standing kind.Revision v b ≡ Some x → PinsFrom r v x a
  apart k w v o x h other e = as_stood v x (sym (stands_other (key_at k w) o a b h kind.Revision other v) ∙ e)

  pub pins_from : Effect settings n now c m a b → (v : Name) (x : Object) → v.space ≡ r.space → standing kind.Revision v b ≡ Some x → PinsFrom r v x a
  pins_from (NewConfiguration s d at none h) v x near e = apart kind.Configuration m v _ x h (λ e. cc) e
  pins_from (NewTemplate s o d at on owned differs h) v x near e = apart kind.Configuration m v _ x h (λ e. cc) e
  pins_from (NewRoute s d at none h) v x near e = apart kind.Route m v _ x h (λ e. cc) e
  pins_from (NewTargets s o d at on owned differs h) v x near e = apart kind.Route m v _ x h (λ e. cc) e
  pins_from (GoneConfiguration o d at gone h) v x near e = apart kind.Configuration m v _ x h (λ e. cc) e
  pins_from (GoneRoute o d at gone h) v x near e = apart kind.Route m v _ x h (λ e. cc) e
  pins_from (Restated k o is d at differs h) v x near e = after_put _ _ a b h kind.Revision v x e (PinsFrom r v x a)
      (λ same new. Had o (subst (λ z. standing z.kind z.name a ≡ Some o) same at) (ap (λ (z : Object). listed r.name (pins_of z.body)) new ∙ ap (listed r.name) (pins-with_status _ o.body)))
      (λ s. as_stood v x s)
  pins_from (NewRevision o d at none h) v x near e = after_put _ _ a b h kind.Revision v x e (PinsFrom r v x a)
      (λ same new. Born (subst (λ z. standing kind.Revision z.name a ≡ None) same none) (ap (λ (z : Object). pins_of z.body) new))
      (λ s. as_stood v x s)
  pins_from (GoneRevision w u d at going h) v x near e = as_stood v x (after_removal _ a b h kind.Revision v x e).0
  pins_from (Repinned w u ps moment d at space pins h) v x near e = after_put _ _ a b h kind.Revision v x e (PinsFrom r v x a)
      (λ same new. Had u (subst (λ z. standing kind.Revision z.name a ≡ Some u) same at)
      (ap (λ (z : Object). listed r.name (pins_of z.body)) new ∙ ap (listed r.name) (repinned_pins n now a w u ps moment at)
      ∙ change_beside r.name m.name (pins_of u.body) ps (λ q. others d (λ i. record { space = (sym space ∙ ap (λ z. z.name.space) same ∙ near) i; name = sym q i })) pins))
      (λ s. as_stood v x s)
  pins_from (GoneTable t d at h) v x near e = apart kind.Table m v _ x h (λ e. cc) e
  pins_from (NewTable y d h) v x near e = apart kind.Table m v _ x h (λ e. cc) e

  -- and the Table of the Route
  off_table : (k : Kind) (w : Name) (o : Option Object) → Change (key_at k w) o a b → (k ≢ kind.Table) → standing kind.Table r b ≡ standing kind.Table r a
  off_table k w o h other = stands_other (key_at k w) o a b h kind.Table other r

  pub table_same : Effect settings n now c m a b → standing kind.Table r b ≡ standing kind.Table r a
  table_same (NewConfiguration s d at none h) = off_table kind.Configuration m _ h (λ e. cc)
  table_same (NewTemplate s o d at on owned differs h) = off_table kind.Configuration m _ h (λ e. cc)
  table_same (NewRoute s d at none h) = off_table kind.Route m _ h (λ e. cc)
  table_same (NewTargets s o d at on owned differs h) = off_table kind.Route m _ h (λ e. cc)
  table_same (GoneConfiguration o d at gone h) = off_table kind.Configuration m _ h (λ e. cc)
  table_same (GoneRoute o d at gone h) = off_table kind.Route m _ h (λ e. cc)
  table_same (Restated k o is d at differs h) = off_table k m _ h (λ e. not_both is (ap is_stated e))
  table_same (NewRevision o d at none h) = off_table kind.Revision (revision_name o) _ h (λ e. cc)
  table_same (GoneRevision w v d at going h) = off_table kind.Revision w _ h (λ e. cc)
  table_same (Repinned w v ps moment d at space pins h) = off_table kind.Revision w _ h (λ e. cc)
  table_same (GoneTable t d at h) = stands_elsewhere _ _ a b h kind.Table r (λ e. others d (ap (λ z. z.name) e))
  table_same (NewTable y d h) = stands_elsewhere _ _ a b h kind.Table r (λ e. others d (ap (λ z. z.name) e))
