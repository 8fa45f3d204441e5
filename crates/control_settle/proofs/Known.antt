-- What the status of a Revision says of its conditions comes to be what the reports say, and stays so.
use Rattle.std.proofs.Common.{◌≡◌, ◌≢◌, ℕ, suc, ◌+◌, Bool, true, false, ◌&&◌, List, [], ◌∷◌, map, Option, Some, None, refl, sym, ap, ◌∙◌, subst, arith}
use Rattle.std.specs.List.{list_any}
use Rattle.resource_types.specs.declared.names.Kind.{Kind}
use Rattle.resource_types.specs.declared.names.Kind.TheVariants as kind
use Rattle.resource_types.specs.declared.names.Controller.{Controller}
use Rattle.resource_types.specs.declared.names.Name.{Name}
use Rattle.resource_types.specs.declared.conditions.Condition.{Condition}
use Rattle.resource_types.specs.declared.conditions.CondName.{CondName}
use Rattle.resource_types.specs.declared.conditions.CondName.TheVariants as condition
use Rattle.resource_types.specs.declared.conditions.Truth.TheVariants as truth
use Rattle.resource_types.specs.declared.status.ObjectStatus.{ObjectStatus}
use Rattle.resource_types.specs.declared.objects.Body.{Body}
use Rattle.resource_types.specs.declared.objects.Body.TheVariants.{Service, Configuration, Revision, Route, Health, Table}
use Rattle.resource_types.specs.declared.objects.Object.{Object}
use Rattle.resource_types.specs.contracts.conditions.CondNamePartialEq.TheImpl as condition_eq
use Rattle.resource_types.specs.contracts.conditions.TruthPartialEq.TheImpl as truth_eq
use Rattle.resource_types.specs.Objects.{kind_of_body, status_of}
use Rattle.resource_types.specs.Lookups.{State}
use Rattle.conditions.specs.Times.{with_time}
use Rattle.control_rules.specs.declared.settings.Settings.{Settings}
use Rattle.control_rules.specs.Standing.{key_at, standing, with_status, with_pins}
use Rattle.control_rules.specs.Statuses.{Reported, reported_in, reported_of, revision_status}
use Rattle.control_rules.specs.Readings.{revision_name, revision_status_in}
use Rattle.control_rules.specs.Differences.{timed, untimed, timeless, same_untimed}
use Rattle.control_rules.specs.NextConfiguration.{made_revision}
use Rattle.control_rules.proofs.Same.{same_untimed-exact}
use Rattle.control_entries.proofs.Bodies.{status-with_pins}
use Rattle.control_settle.specs.Grounds.{IsSoundState}
use Rattle.control_entries.proofs.Changes.{Change, stands_other, after_put, after_removal, here_is}
use Rattle.control_entries.proofs.Tests.{not_both}
use Rattle.control_entries.proofs.Standing.{stands, is_of_parts}
use Rattle.control_settle.proofs.Likeness.{rebodied, Like, like_own, restated_like, repinned_like}
use Rattle.control_settle.proofs.Effects.{born, is_stated, due_status, restated, Effect, NewConfiguration, NewTemplate, NewRoute, NewTargets, GoneConfiguration, GoneRoute, Restated, NewRevision, GoneRevision, Repinned, GoneTable, NewTable}

-- whether a status has the condition True
abbrev pub says : CondName → ObjectStatus → Bool
says name s = list_any (λ (c : Condition). condition_eq.ghosts.eq c.name name && truth_eq.ghosts.eq c.truth truth.True) s.conditions

says_times : (name : CondName) (old new : List Condition) (now : ℕ) → list_any (λ (c : Condition). condition_eq.ghosts.eq c.name name && truth_eq.ghosts.eq c.truth truth.True) (map (with_time old now) new) ≡ list_any (λ (c : Condition). condition_eq.ghosts.eq c.name name && truth_eq.ghosts.eq c.truth truth.True) new
says_times name old [] now = refl
says_times name old (c ∷ cs) now = ap (λ t. Rattle.std.specs.Prelude.◌||◌ (condition_eq.ghosts.eq c.name name && truth_eq.ghosts.eq c.truth truth.True) t) (says_times name old cs now)

pub says_timed : (name : CondName) (old new : ObjectStatus) (now : ℕ) → says name (timed old new now) ≡ says name new
says_timed name old new now = says_times name old.conditions new.conditions now

says_timeless : (name : CondName) (cs : List Condition) → list_any (λ (c : Condition). condition_eq.ghosts.eq c.name name && truth_eq.ghosts.eq c.truth truth.True) (map timeless cs) ≡ list_any (λ (c : Condition). condition_eq.ghosts.eq c.name name && truth_eq.ghosts.eq c.truth truth.True) cs
says_timeless name [] = refl
says_timeless name (c ∷ cs) = ap (λ t. Rattle.std.specs.Prelude.◌||◌ (condition_eq.ghosts.eq c.name name && truth_eq.ghosts.eq c.truth truth.True) t) (says_timeless name cs)

pub says_untimed : (name : CondName) (s t : ObjectStatus) → untimed s ≡ untimed t → says name s ≡ says name t
says_untimed name s t e = sym (says_timeless name s.conditions) ∙ ap (says name) e ∙ says_timeless name t.conditions

-- what was never reported says nothing
says_nothing : (name : CondName) (g : ℕ) → says name (revision_status g None) ≡ false
unfolding revision_status
says_nothing condition.Ready g = refl
says_nothing condition.HasBeenReady g = refl
says_nothing condition.ResourcesAvailable g = refl
says_nothing condition.ContainerHealthy g = refl
says_nothing condition.ConfigurationsReady g = refl
says_nothing condition.RoutesReady g = refl
says_nothing condition.AllTrafficAssigned g = refl
says_nothing condition.IngressReady g = refl

-- ---- statuses of bodies

pub status_put : (s : ObjectStatus) (b : Body) → is_stated (kind_of_body b) ≡ true → status_of (with_status s b) ≡ s
status_put s (Service template traffic status) h = refl
status_put s (Configuration template status) h = refl
status_put s (Revision spec generation pins active status) h = refl
status_put s (Route traffic status) h = refl
status_put s (Health uid resources container ever) h = absurd cc
status_put s (Table route rows targets) h = absurd cc

pub restated_status : (settings : Settings) (n now : ℕ) (a : State) (k : Kind) (m : Name) (o : Object) → is_stated k ≡ true → standing k m a ≡ Some o → status_of (restated settings n now a k m o).body ≡ timed (status_of o.body) (due_status settings a k m o) now
restated_status settings n now a k m o h at = status_put _ o.body (ap is_stated (is_of_parts k o (stands k m a o at).of).1 ∙ h)

-- ---- Healths

module _ (settings : Settings) (n now : ℕ) (c : Controller) (m : Name) (a b : State) where
  pub healths_same : Effect settings n now c m a b → (q : Name) → standing kind.Health q b ≡ standing kind.Health q a
  healths_same (NewConfiguration s d at none h) q = stands_other _ _ a b h kind.Health (λ e. cc) q
  healths_same (NewTemplate s o d at on owned differs h) q = stands_other _ _ a b h kind.Health (λ e. cc) q
  healths_same (NewRoute s d at none h) q = stands_other _ _ a b h kind.Health (λ e. cc) q
  healths_same (NewTargets s o d at on owned differs h) q = stands_other _ _ a b h kind.Health (λ e. cc) q
  healths_same (GoneConfiguration o d at gone h) q = stands_other _ _ a b h kind.Health (λ e. cc) q
  healths_same (GoneRoute o d at gone h) q = stands_other _ _ a b h kind.Health (λ e. cc) q
  healths_same (Restated k o is d at differs h) q = stands_other _ _ a b h kind.Health (λ e. not_both is (ap is_stated e)) q
  healths_same (NewRevision o d at none h) q = stands_other _ _ a b h kind.Health (λ e. cc) q
  healths_same (GoneRevision w v d at going h) q = stands_other _ _ a b h kind.Health (λ e. cc) q
  healths_same (Repinned w v ps moment d at space pins h) q = stands_other _ _ a b h kind.Health (λ e. cc) q
  healths_same (GoneTable t d at h) q = stands_other _ _ a b h kind.Health (λ e. cc) q
  healths_same (NewTable x d h) q = stands_other _ _ a b h kind.Health (λ e. cc) q

-- the status that is due to a Revision depends on its uid, its generation and its Health
pub revision_status_same : (a b : State) (o x : Object) → ((q : Name) → standing kind.Health q b ≡ standing kind.Health q a) → Like o x → revision_status_in b x ≡ revision_status_in a o
unfolding reported_of
revision_status_same a b o x healths like = λ i. revision_status (like.generation i) (reported_in (like.uid i) ((ap (λ k. standing kind.Health k.name b) like.key ∙ healths o.key.name) i))

-- ---- what is known of Revisions

abbrev pub Known : State → Name → Type 0
Known st q = (v : Object) → standing kind.Revision q st ≡ Some v → (name : CondName) → says name (status_of v.body) ≡ says name (revision_status_in st v)

pub known_by : (a : State) (q : Name) → ((v : Object) → standing kind.Revision q a ≡ Some v → same_untimed (status_of v.body) (revision_status_in a v) ≡ true) → Known a q
known_by a q h v e name = says_untimed name (status_of v.body) (revision_status_in a v) (same_untimed-exact (status_of v.body) (revision_status_in a v) (h v e))

-- of a Revision that is like one before
pub known_like : (a b : State) (q w : Name) (o x : Object) → ((q : Name) → standing kind.Health q b ≡ standing kind.Health q a) → Like o x → status_of x.body ≡ status_of o.body → standing kind.Revision w a ≡ Some o → Known a w → (name : CondName) → says name (status_of x.body) ≡ says name (revision_status_in b x)
known_like a b q w o x healths like status at known name = ap (says name) status ∙ known o at name ∙ ap (says name) (sym (revision_status_same a b o x healths like))

module _ (settings : Settings) (n now : ℕ) (c : Controller) (m : Name) (a b : State) (sound : IsSoundState n a) (f : Effect settings n now c m a b) where
  healths : (q : Name) → standing kind.Health q b ≡ standing kind.Health q a
  healths q = healths_same settings n now c m a b f q

  -- one that stood as it stands
  still : (q : Name) (x : Object) → standing kind.Revision q a ≡ Some x → Known a q → (name : CondName) → says name (status_of x.body) ≡ says name (revision_status_in b x)
  still q x e known name = known_like a b q q x x healths (like_own x) refl e known name

  other : (k : Kind) (w q : Name) (o : Option Object) → Change (key_at k w) o a b → (k ≢ kind.Revision) → Known a q → Known b q
  other k w q o h apart known x e name = still q x (sym (stands_other _ o a b h kind.Revision apart q) ∙ e) known name

  pub told : (k : Kind) (o : Object) (w : Name) → k ≡ kind.Revision → standing k m a ≡ Some o → Change (key_at k m) (Some (restated settings n now a k m o)) a b → Known a w → Known b w
  told k o w is at h known x e name = after_put _ _ a b h kind.Revision w x e (says name (status_of x.body) ≡ says name (revision_status_in b x))
      (λ same new. ap (λ z. says name (status_of z.body)) new
      ∙ ap (says name) (restated_status settings n now a k m o (ap is_stated is) at)
      ∙ says_timed name (status_of o.body) (due_status settings a k m o) now
      ∙ ap (λ z. says name (due_status settings a z m o)) is
      ∙ ap (says name) (sym (revision_status_same a b o x healths (subst (λ z. Like o z) (sym new) (restated_like n now o _)))))
      (λ s. still w x s known name)

  unreported : (r : Name) → reported_in (n + 1) (standing kind.Health r b) ≡ None
  unreported r = let e : suc n ≡ n + 1 = omega arith in ap (reported_in (n + 1)) (healths r) ∙ subst (λ z. reported_in z (standing kind.Health r a) ≡ None) e (sound.past r)

  nothing : (o : Object) (name : CondName) → says name (revision_status_in b (born n now (made_revision o))) ≡ false
  unfolding reported_of
  nothing o name = ap (λ (r : Option Reported). says name (revision_status 1 r)) (unreported (revision_name o)) ∙ says_nothing name 1

  -- one that is made says nothing, as nothing was reported of it
  made : (o : Object) (q : Name) → Change (key_at kind.Revision (revision_name o)) (Some (born n now (made_revision o))) a b → Known a q → Known b q
  made o q h known x e name = after_put _ _ a b h kind.Revision q x e (says name (status_of x.body) ≡ says name (revision_status_in b x))
      (λ same new. ap (λ (z : Object). says name (status_of z.body)) new ∙ sym (ap (λ (z : Object). says name (revision_status_in b z)) new ∙ nothing o name))
      (λ s. still q x s known name)

  repinned : (w q : Name) (v : Object) (ps : List (List ℕ)) (moment : Option ℕ) → standing kind.Revision w a ≡ Some v → Change (key_at kind.Revision w) (Some (rebodied n now v (with_pins ps moment v.body))) a b → Known a q → Known b q
  repinned w q v ps moment at h known x e name = after_put _ _ a b h kind.Revision q x e (says name (status_of x.body) ≡ says name (revision_status_in b x))
      (λ same new. subst (λ z. says name (status_of z.body) ≡ says name (revision_status_in b z)) (sym new)
      (known_like a b q q v _ healths (repinned_like n now v ps moment) (status-with_pins ps moment v.body) (subst (λ z. standing kind.Revision z.name a ≡ Some v) same at) known name))
      (λ s. still q x s known name)

  pub known_stays : (g : Effect settings n now c m a b) → (q : Name) → Known a q → Known b q
  known_stays (NewConfiguration s d at none h) q known = other kind.Configuration m q _ h (λ e. cc) known
  known_stays (NewTemplate s o d at on owned differs h) q known = other kind.Configuration m q _ h (λ e. cc) known
  known_stays (NewRoute s d at none h) q known = other kind.Route m q _ h (λ e. cc) known
  known_stays (NewTargets s o d at on owned differs h) q known = other kind.Route m q _ h (λ e. cc) known
  known_stays (GoneConfiguration o d at gone h) q known = other kind.Configuration m q _ h (λ e. cc) known
  known_stays (GoneRoute o d at gone h) q known = other kind.Route m q _ h (λ e. cc) known
  known_stays (Restated kind.Service o is d at differs h) q known = other kind.Service m q _ h (λ e. cc) known
  known_stays (Restated kind.Configuration o is d at differs h) q known = other kind.Configuration m q _ h (λ e. cc) known
  known_stays (Restated kind.Revision o is d at differs h) q known = told kind.Revision o q refl at h known
  known_stays (Restated kind.Route o is d at differs h) q known = other kind.Route m q _ h (λ e. cc) known
  known_stays (Restated kind.Health o is d at differs h) q known = absurd cc
  known_stays (Restated kind.Table o is d at differs h) q known = absurd cc
  known_stays (NewRevision o d at none h) q known = made o q h known
  known_stays (GoneRevision w v d at going h) q known = λ x e name. still q x (after_removal _ a b h kind.Revision q x e).0 known name
  known_stays (Repinned w v ps moment d at space pins h) q known = repinned w q v ps moment at h known
  known_stays (GoneTable t d at h) q known = other kind.Table m q _ h (λ e. cc) known
  known_stays (NewTable x d h) q known = other kind.Table m q _ h (λ e. cc) known

  -- what is told is known, whatever was known before
  pub told_now : (o : Object) → standing kind.Revision m a ≡ Some o → Change (key_at kind.Revision m) (Some (restated settings n now a kind.Revision m o)) a b → Known b m
  told_now o at h x e name = ap (λ (z : Object). says name (status_of z.body)) new
      ∙ ap (says name) (restated_status settings n now a kind.Revision m o refl at)
      ∙ says_timed name (status_of o.body) (due_status settings a kind.Revision m o) now
      ∙ ap (says name) (sym (revision_status_same a b o x healths (subst (λ z. Like o z) (sym new) (restated_like n now o _))))
    where
      new : x ≡ restated settings n now a kind.Revision m o
      new = here_is _ _ a b h kind.Revision m x e refl
