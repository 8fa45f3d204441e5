-- Who owns a Configuration, a Route and a Revision, and what a Revision keeps.
use Rattle.std.proofs.Common.{◌≡◌, ℕ, zero, suc, ◌<◌, ◌≤◌, Bool, length, Option, Some, None, refl, sym, ap, ◌∙◌, subst, arith, add-one, ◌⊎◌, inl, inr}
use Rattle.std.specs.Prelude.{slice_get}
use Rattle.resource_types.specs.declared.names.Kind.{Kind}
use Rattle.resource_types.specs.declared.names.Kind.TheVariants as kind
use Rattle.resource_types.specs.declared.names.Name.{Name}
use Rattle.resource_types.specs.declared.names.Key.{Key}
use Rattle.resource_types.specs.declared.metadata.Owner.{Owner}
use Rattle.resource_types.specs.declared.objects.Body.{Body}
use Rattle.resource_types.specs.declared.objects.Object.{Object}
use Rattle.resource_types.specs.declared.manifests.Manifest.{Manifest}
use Rattle.resource_types.specs.Objects.{generation_of}
use Rattle.resource_types.specs.Spec.{stamped}
use Rattle.resource_types.specs.Lookups.{Journal, find}
use Rattle.control_rules.specs.declared.settings.Settings.{Settings}
use Rattle.control_rules.specs.Standing.{key_at, standing}
use Rattle.control_rules.specs.Differences.{owner_by, rebodied}
use Rattle.control_rules.specs.Slots.{ObjectEntry, state_at}
use Rattle.control_rules.specs.Lawful.{PutsObject, owner_of, IsLawful}
use Rattle.control_rules.specs.FurtherFacts.{IsServed, WasMade, KeepsRevision}
use Rattle.control_entries.proofs.Tests.{some_same, name_same, owner_same}
use Rattle.control_entries.proofs.Lists.{get_some}
use Rattle.control_entries.proofs.Standing.{stands, of_kind_some}
use Rattle.control_entries.proofs.Positions.{at_standing}
use Rattle.control_entries.proofs.Stamps.{put_key}
use Rattle.control_entries.proofs.Bodies.{generation-with_status, generation-with_pins}
use Rattle.control_entries.proofs.Puts.{ConfigurationPut, ConfigurationPutByClient, ConfigurationPutMade, ConfigurationPutTemplated, ConfigurationPutStated, RevisionPut, PutMade, PutStated, PutPinned, PutUnpinned, RoutePut, RoutePutByClient, RoutePutMade, RoutePutTargeted, RoutePutStated, configuration_put, revision_put, route_put}
use Rattle.control_entries.proofs.Sound.{standing_at}

-- a status, a template, targets or pins that change leave the owner
pub owner_kept : (o old : Object) (b : Body) → o ≡ stamped (rebodied old b) o.meta.stamp → o.meta.owner ≡ old.meta.owner
owner_kept o old b is = owner_same is

-- with the owner and the name of one that is served, an object is served
served_as : (o old : Object) → o.meta.owner ≡ old.meta.owner → o.key.name ≡ old.key.name → IsServed old → IsServed o
served_as o old w k h = λ x e. (let (a, b) = h x (sym w ∙ e) in (a, b ∙ ap (λ (z : Name). z.name) (sym k)))

served_none : (o : Object) → o.meta.owner ≡ None → IsServed o
served_none o h x e = absurd cc

served_by : (o s : Object) (v : Name) → o.meta.owner ≡ Some (owner_by kind.Service s) → s.key.name ≡ v → o.key.name ≡ v → IsServed o
served_by o s v w k q x e =
    (let same : owner_by kind.Service s ≡ x = some_same (sym w ∙ e) in
    (ap (λ (z : Owner). z.kind) (sym same), ap (λ (z : Owner). z.name) (sym same) ∙ ap (λ (z : Name). z.name) (k ∙ sym q)))

-- the kinds that a Service makes
abbrev pub IsChild : Kind → Type 0
IsChild k = (k ≡ kind.Configuration) ⊎ (k ≡ kind.Route)

-- who owns what is put: as a client may have it; the Service that makes it; or the owner of the one that stands
data ChildPut (is_good : Manifest → Bool) (j : Journal) (n : ℕ) (e : ObjectEntry) (k : Kind) (v : Name) (o : Object) : Type 0 where
  ChildByClient : PutsObject is_good (state_at j n) e → ChildPut is_good j n e k v o
  ChildMade : (s : Object) → standing kind.Service v (state_at j e.seen) ≡ Some s → o.meta.owner ≡ Some (owner_by kind.Service s)
      → ChildPut is_good j n e k v o
  ChildOver : (old : Object) → standing k v (state_at j n) ≡ Some old → o.meta.owner ≡ old.meta.owner → ChildPut is_good j n e k v o

module _ {is_good : Manifest → Bool} {settings : Settings} {j : Journal} (lawful : IsLawful is_good settings j) where
  child_put : (n : ℕ) (e : ObjectEntry) → slice_get j n ≡ Some e → (k : Kind) → IsChild k → (v : Name) → e.key ≡ key_at k v → (o : Object)
      → e.object ≡ Some o → ChildPut is_good j n e k v o
  child_put n e g k child v q o h = go child
    where
      configuration : ConfigurationPut is_good j n e v o → ChildPut is_good j n e kind.Configuration v o
      configuration (ConfigurationPutByClient p) = ChildByClient p
      configuration (ConfigurationPutMade s a b at none is) = ChildMade s at (owner_same is)
      configuration (ConfigurationPutTemplated s old a b at now is) = ChildOver old now (owner_same is)
      configuration (ConfigurationPutStated old a b at seen is) = ChildOver old at (owner_same is)

      route : RoutePut is_good settings j n e v o → ChildPut is_good j n e kind.Route v o
      route (RoutePutByClient p) = ChildByClient p
      route (RoutePutMade s a b at none is) = ChildMade s at (owner_same is)
      route (RoutePutTargeted s old a b at now is) = ChildOver old now (owner_same is)
      route (RoutePutStated old a b at seen is) = ChildOver old at (owner_same is)

      go : IsChild k → ChildPut is_good j n e k v o
      go (inl s) = subst (λ z. ChildPut is_good j n e z v o) (sym s) (configuration (configuration_put lawful n e g v (q ∙ ap (λ z. key_at z v) s) o h))
      go (inr s) = subst (λ z. ChildPut is_good j n e z v o) (sym s) (route (route_put lawful n e g v (q ∙ ap (λ z. key_at z v) s) o h))

  -- the owner of a Configuration or a Route is the Service of its name
  pub served : (k : Kind) → IsChild k → (n : ℕ) (v : Name) (o : Object) → n ≤ length j → standing k v (state_at j n) ≡ Some o → IsServed o
  served k child zero v o len h = absurd (let z = (stands k v (state_at j 0) o h).found in cc)
  served k child (suc n) v o len h = go (get_some j n (omega arith)) (λ p s. served k child n v p (omega arith) s)
    where
      go : ((e : ObjectEntry) × (slice_get j n ≡ Some e)) → ((p : Object) → standing k v (state_at j n) ≡ Some p → IsServed p) → IsServed o
      go (e, g) ih = at_standing j lawful.stamps n e g k v (λ w. w ≡ Some o → IsServed o) (λ q s. put q (of_kind_some k e.object o s)) (λ _ s. ih o s) h
        where
          put : e.key ≡ key_at k v → e.object ≡ Some o → IsServed o
          put q s = from (child_put n e g k child v q o s)
            where
              name : o.key.name ≡ v
              name = name_same (put_key lawful n e g o s ∙ q)

              over : (old : Object) → standing k v (state_at j n) ≡ Some old → o.meta.owner ≡ old.meta.owner → IsServed o
              over old at w = served_as o old w (name ∙ sym (name_same (stands k v (state_at j n) old at).key)) (ih old at)

              client : (w : Option Object) → find e.key (state_at j n) ≡ w → o.meta.owner ≡ owner_of w → IsServed o
              client None a w = served_none o w
              client (Some old) a w = over old (standing_at lawful n (omega arith) k v old (subst (λ z. find z (state_at j n) ≡ Some old) q a)) w

              from : ChildPut is_good j n e k v o → IsServed o
              from (ChildByClient p) = client (find e.key (state_at j n)) refl (owner_same (some_same (sym s ∙ p.puts)) ∙ p.owner)
              from (ChildMade m at w) = served_by o m v w (name_same (stands kind.Service v (state_at j e.seen) m at).key) name
              from (ChildOver old at w) = over old at w

  -- ---- Revisions

  -- a Revision that is put over one keeps its owner and its generation
  pub revision_over : (n : ℕ) (e : ObjectEntry) → (v : Name) (old o : Object) → RevisionPut j n e v o
      → standing kind.Revision v (state_at j n) ≡ Some old → (o.meta.owner ≡ old.meta.owner) × (generation_of o.body ≡ generation_of old.body)
  revision_over n e v old o (PutMade m c a b at named none is) h = absurd cc
  revision_over n e v old o (PutStated p a b at seen is) h = (let same = some_same (sym at ∙ h) in
      (owner_kept o p _ is ∙ owner_same same, ap (λ (z : Object). generation_of z.body) is ∙ generation-with_status _ p.body ∙ ap (λ (z : Object). generation_of z.body) same))
  revision_over n e v old o (PutPinned r p a b near at lacks is) h = (let same = some_same (sym at ∙ h) in
      (owner_kept o p _ is ∙ owner_same same, ap (λ (z : Object). generation_of z.body) is ∙ generation-with_pins _ _ p.body ∙ ap (λ (z : Object). generation_of z.body) same))
  revision_over n e v old o (PutUnpinned r p a b near at spare is) h = (let same = some_same (sym at ∙ h) in
      (owner_kept o p _ is ∙ owner_same same, ap (λ (z : Object). generation_of z.body) is ∙ generation-with_pins _ _ p.body ∙ ap (λ (z : Object). generation_of z.body) same))

  -- a Revision that stands before and after an entry keeps them
  pub revision_keeps : (n : ℕ) → n < length j → KeepsRevision j n
  revision_keeps n lt v o p at then = go (get_some j n lt)
    where
      go : ((e : ObjectEntry) × (slice_get j n ≡ Some e)) → (p.meta.owner ≡ o.meta.owner) × (generation_of p.body ≡ generation_of o.body)
      go (e, g) = at_standing j lawful.stamps n e g kind.Revision v (λ w. w ≡ Some p → (p.meta.owner ≡ o.meta.owner) × (generation_of p.body ≡ generation_of o.body))
          (λ q s. revision_over n e v o p (revision_put lawful n e g v q p (of_kind_some kind.Revision e.object p s)) at)
          (λ _ s. (let same = some_same (sym s ∙ at) in (owner_same same, ap (λ (z : Object). generation_of z.body) same)))
          (subst (λ m. standing kind.Revision v (state_at j m) ≡ Some p) (add-one n) then)

  made_as : (m n : ℕ) (old o : Object) → m ≤ n → o.meta.owner ≡ old.meta.owner → generation_of o.body ≡ generation_of old.body
      → o.key.name ≡ old.key.name → WasMade j m old → WasMade j n o
  made_as m n old o le w q k x = record { place = x.place; name = x.name; maker = x.maker; before = let b = x.before in omega arith; stands = x.stands; owner = w ∙ x.owner; generation = q ∙ x.generation; named = k ∙ x.named }

  -- a Revision was made by a Configuration
  pub revision_made : (n : ℕ) (v : Name) (o : Object) → n ≤ length j → standing kind.Revision v (state_at j n) ≡ Some o → WasMade j n o
  revision_made zero v o len h = absurd (let z = (stands kind.Revision v (state_at j 0) o h).found in cc)
  revision_made (suc n) v o len h = go (get_some j n (omega arith)) (λ p s. revision_made n v p (omega arith) s)
    where
      go : ((e : ObjectEntry) × (slice_get j n ≡ Some e)) → ((p : Object) → standing kind.Revision v (state_at j n) ≡ Some p → WasMade j n p)
          → WasMade j (suc n) o
      go (e, g) ih = at_standing j lawful.stamps n e g kind.Revision v (λ w. w ≡ Some o → WasMade j (suc n) o) (λ q s. put q (of_kind_some kind.Revision e.object o s)) (λ _ s. made_as n (suc n) o o (omega arith) refl refl refl (ih o s)) h
        where
          put : e.key ≡ key_at kind.Revision v → e.object ≡ Some o → WasMade j (suc n) o
          put q s = from (revision_put lawful n e g v q o s)
            where
              name : o.key.name ≡ v
              name = name_same (put_key lawful n e g o s ∙ q)

              over : (old : Object) → standing kind.Revision v (state_at j n) ≡ Some old → RevisionPut j n e v o → WasMade j (suc n) o
              over old at x =
                  (let (w, r) = revision_over n e v old o x at in made_as n (suc n) old o (omega arith) w r (name ∙ sym (name_same (stands kind.Revision v (state_at j n) old at).key)) (ih old at))

              from : RevisionPut j n e v o → WasMade j (suc n) o
              from (PutMade m c a b at named none is) = record {
                place = e.seen;
                name = m;
                maker = c;
                before = omega arith;
                stands = at;
                owner = owner_same is ∙ ap (λ (k : Key). Some (record { kind = kind.Configuration; name = k.name.name; uid = c.meta.stamp.uid })) (stands kind.Configuration m (state_at j e.seen) c at).key;
                generation = ap (λ (z : Object). generation_of z.body) is;
                named = name ∙ named;
              }
              from (PutStated old a b at seen is) = over old at (PutStated old a b at seen is)
              from (PutPinned r old a b near at lacks is) = over old at (PutPinned r old a b near at lacks is)
              from (PutUnpinned r old a b near at spare is) = over old at (PutUnpinned r old a b near at spare is)
