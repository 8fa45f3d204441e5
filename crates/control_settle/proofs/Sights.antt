-- What a Route's targets come to stays, whatever a round does, once all is calm.
use Rattle.std.proofs.Common.{◌≡◌, ◌≢◌, ℕ, ◌+◌, Bool, true, false, cond, List, [], ◌∷◌, Option, Some, None, refl, sym, ap, ◌∙◌, subst}
use Rattle.std.specs.Prelude.{is_some}
use Rattle.resource_types.specs.declared.names.Kind.{Kind}
use Rattle.resource_types.specs.declared.names.Kind.TheVariants as kind
use Rattle.resource_types.specs.declared.names.Controller.{Controller}
use Rattle.resource_types.specs.declared.names.Controller.TheVariants as controller
use Rattle.resource_types.specs.declared.names.Name.{Name}
use Rattle.resource_types.specs.declared.specification.Target.{Target}
use Rattle.resource_types.specs.declared.objects.Object.{Object}
use Rattle.resource_types.specs.Objects.{status_of}
use Rattle.resource_types.specs.Lookups.{State, is_empty}
use Rattle.control_rules.specs.declared.settings.Settings.{Settings}
use Rattle.control_rules.specs.declared.traffic.Found.{Found}
use Rattle.control_rules.specs.declared.traffic.Found.TheVariants as found
use Rattle.control_rules.specs.declared.traffic.Resolved.{Resolved}
use Rattle.control_rules.specs.Standing.{beside, key_at, standing}
use Rattle.control_rules.specs.Resolution.{Meant, stored, found_revision, found_latest, found_configuration, found_of, hindrance, first_hindrance, with_meant, meant_of, pairs_of, meant_unless, assigned}
use Rattle.std.specs.Option.{option_or}
use Rattle.control_rules.specs.Readings.{revision_name}
use Rattle.control_rules.specs.NextConfiguration.{made_revision}
use Rattle.control_settle.proofs.Machine.{In, First, Later}
use Rattle.control_entries.proofs.Changes.{Change, stands_other}
use Rattle.control_settle.proofs.Likeness.{KeptAt, same_kept, like_kept, restated_like, repinned_like}
use Rattle.control_settle.proofs.Members.{Going}
use Rattle.control_settle.proofs.Effects.{born, Effect, NewConfiguration, NewTemplate, NewRoute, NewTargets, GoneConfiguration, GoneRoute, Restated, NewRevision, GoneRevision, Repinned, GoneTable, NewTable}

-- ---- what becomes of Revisions

pub data Revisions (n now : ℕ) (c : Controller) (m : Name) (a b : State) : Type 0 where
  Keep : ((v : Name) → KeptAt kind.Revision v a b) → Revisions n now c m a b
  Make : (o : Object) → c ≡ controller.Configuration → standing kind.Configuration m a ≡ Some o → standing kind.Revision (revision_name o) a ≡ None → Change (key_at kind.Revision (revision_name o)) (Some (born n now (made_revision o))) a b → Revisions n now c m a b
  Lose : (w : Name) (v : Object) → c ≢ controller.Route → standing kind.Revision w a ≡ Some v → Going a w v → Change (key_at kind.Revision w) None a b → Revisions n now c m a b

module _ (settings : Settings) (n now : ℕ) (c : Controller) (m : Name) (a b : State) where
  other : (k : Kind) (w : Name) (x : Option Object) → Change (key_at k w) x a b → (k ≢ kind.Revision) → Revisions n now c m a b
  other k w x h apart = Keep (λ v. same_kept kind.Revision v a b (stands_other (key_at k w) x a b h kind.Revision apart v))

  pub revisions : Effect settings n now c m a b → Revisions n now c m a b
  revisions (NewConfiguration s d at none h) = other kind.Configuration m _ h (λ e. cc)
  revisions (NewTemplate s o d at on owned differs h) = other kind.Configuration m _ h (λ e. cc)
  revisions (NewRoute s d at none h) = other kind.Route m _ h (λ e. cc)
  revisions (NewTargets s o d at on owned differs h) = other kind.Route m _ h (λ e. cc)
  revisions (GoneConfiguration o d at gone h) = other kind.Configuration m _ h (λ e. cc)
  revisions (GoneRoute o d at gone h) = other kind.Route m _ h (λ e. cc)
  revisions (Restated k o is d at differs h) = Keep (λ v. like_kept a b (key_at k m) o _ k m h refl at (restated_like n now o _) kind.Revision v)
  revisions (NewRevision o d at none h) = Make o d at none h
  revisions (GoneRevision w v d at going h) = Lose w v d at going h
  revisions (Repinned w v ps moment d at space pins h) = Keep (λ u. like_kept a b (key_at kind.Revision w) v _ kind.Revision w h refl at (repinned_like n now v ps moment) kind.Revision u)
  revisions (GoneTable t d at h) = other kind.Table m _ h (λ e. cc)
  revisions (NewTable x d h) = other kind.Table m _ h (λ e. cc)

-- ---- what is found under a name

-- what is found of a Revision stays
pub record Sees (v : Name) (a b : State) : Type 0 where
  pub been : (name : List ℕ) → found_revision stored.been name (standing kind.Revision v b) ≡ found_revision stored.been name (standing kind.Revision v a)
  pub good : (name : List ℕ) → found_revision stored.good name (standing kind.Revision v b) ≡ found_revision stored.good name (standing kind.Revision v a)

pub sees_same : (v : Name) (a b : State) → standing kind.Revision v b ≡ standing kind.Revision v a → Sees v a b
sees_same v a b e = record { been = λ name. ap (found_revision stored.been name) e; good = λ name. ap (found_revision stored.good name) e }

pub found_like : (counts : Object → Bool) (name : List ℕ) (o x : Object) → counts x ≡ counts o → x.meta.stamp.uid ≡ o.meta.stamp.uid → found_revision counts name (Some x) ≡ found_revision counts name (Some o)
found_like counts name o x e u = λ i. cond (e i) (found.Ready name (u i)) found.RevisionUnready

-- of what a Configuration names
abbrev pub ready_if : Option Object → Option (List ℕ)
ready_if None = None
ready_if (Some c) = Some (status_of c.body).ready

abbrev found_by : State → Name → Option (List ℕ) → Found
found_by st r None = found.ConfigurationAbsent
found_by st r (Some name) = found_latest stored st r name

found_ready : (st : State) (r : Name) (c : Option Object) → found_configuration stored st r c ≡ found_by st r (ready_if c)
found_ready st r None = refl
found_ready st r (Some c) = refl

-- where what a target means is seen as before
pub found_same : (a b : State) (r : Name) (t : Target) → ready_if (standing kind.Configuration (beside r t.configuration) b) ≡ ready_if (standing kind.Configuration (beside r t.configuration) a)
    → (is_empty t.revision ≡ false → Sees (beside r t.revision) a b)
    → ((x : List ℕ) → is_empty t.revision ≡ true → is_empty x ≡ false → ready_if (standing kind.Configuration (beside r t.configuration) a) ≡ Some x → Sees (beside r x) a b)
    → found_of stored b r t ≡ found_of stored a r t
unfolding found_of
found_same a b r t names target ready = go (is_empty t.revision) refl
  where
    latest : (w : Option (List ℕ)) → ready_if (standing kind.Configuration (beside r t.configuration) a) ≡ w → is_empty t.revision ≡ true → found_by b r w ≡ found_by a r w
    latest None e q = refl
    latest (Some []) e q = refl
    latest (Some (x ∷ xs)) e q = (ready (x ∷ xs) q refl e).been (x ∷ xs)

    go : (u : Bool) → is_empty t.revision ≡ u → cond u (found_configuration stored b r (standing kind.Configuration (beside r t.configuration) b)) (found_revision stored.good t.revision (standing kind.Revision (beside r t.revision) b))
        ≡ cond u (found_configuration stored a r (standing kind.Configuration (beside r t.configuration) a)) (found_revision stored.good t.revision (standing kind.Revision (beside r t.revision) a))
    go false q = (target q).good t.revision
    go true q = found_ready b r (standing kind.Configuration (beside r t.configuration) b) ∙ ap (found_by b r) names ∙ latest (ready_if (standing kind.Configuration (beside r t.configuration) a)) refl q ∙ sym (found_ready a r (standing kind.Configuration (beside r t.configuration) a))

-- ---- nearly the same

-- the same, or a Revision that didn't stand isn't ready now
pub data Nearly : Found → Found → Type 0 where
  Equally : {f : Found} → Nearly f f
  Comes : Nearly found.RevisionAbsent found.RevisionUnready

pub equally : (f g : Found) → g ≡ f → Nearly f g
equally f g e = subst (Nearly f) (sym e) Equally

hindered : (t : Target) (p : ℕ) (f g : Found) → Nearly f g → is_some (hindrance p t g) ≡ is_some (hindrance p t f)
hindered t p f _ Equally = refl
hindered t p _ _ Comes = refl

meant_same : (t : Target) (ms : List Meant) (f g : Found) → Nearly f g → with_meant t g ms ≡ with_meant t f ms
meant_same t ms f _ Equally = refl
meant_same t ms _ _ Comes = refl

first_some_same : (x y u v : Option Resolved) → is_some x ≡ is_some y → is_some u ≡ is_some v → is_some (option_or x u) ≡ is_some (option_or y v)
first_some_same None None u v e g = g
first_some_same None (Some y) u v e g = absurd cc
first_some_same (Some x) None u v e g = absurd cc
first_some_same (Some x) (Some y) u v e g = refl

unless_same : (x y : Option Resolved) (ms : List Meant) → is_some x ≡ is_some y → meant_unless x ms ≡ meant_unless y ms
unless_same None None ms e = refl
unless_same None (Some y) ms e = absurd cc
unless_same (Some x) None ms e = absurd cc
unless_same (Some x) (Some y) ms e = refl

hindrances_same : (a b : State) (r : Name) (p : ℕ) (ts : List Target) → ((t : Target) → In t ts → Nearly (found_of stored a r t) (found_of stored b r t)) → is_some (first_hindrance p (pairs_of stored b r ts)) ≡ is_some (first_hindrance p (pairs_of stored a r ts))
unfolding first_hindrance
hindrances_same a b r p [] h = refl
hindrances_same a b r p (t ∷ ts) h = first_some_same _ _ _ _ (hindered t p _ _ (h t First)) (hindrances_same a b r (p + 1) ts (λ u i. h u (Later i)))

meants_same : (a b : State) (r : Name) (ts : List Target) → ((t : Target) → In t ts → Nearly (found_of stored a r t) (found_of stored b r t)) → meant_of (pairs_of stored b r ts) ≡ meant_of (pairs_of stored a r ts)
unfolding meant_of
meants_same a b r [] h = refl
meants_same a b r (t ∷ ts) h = ap (with_meant t (found_of stored b r t)) (meants_same a b r ts (λ u i. h u (Later i))) ∙ meant_same t (meant_of (pairs_of stored a r ts)) _ _ (h t First)

pub assigned_near : (a b : State) (r : Name) (ts : List Target) → ((t : Target) → In t ts → Nearly (found_of stored a r t) (found_of stored b r t)) → assigned stored b r ts ≡ assigned stored a r ts
unfolding assigned
assigned_near a b r ts h = unless_same _ _ (meant_of (pairs_of stored b r ts)) (hindrances_same a b r 0 ts h) ∙ ap (meant_unless (first_hindrance 0 (pairs_of stored a r ts))) (meants_same a b r ts h)
