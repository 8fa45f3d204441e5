-- Once nothing is left at Routes, only statuses are written, or the burden falls; each kind's statuses come to be right, in order.
use Rattle.std.proofs.Common.{◌≡◌, ◌≢◌, ◌⊎◌, inl, inr, ℕ, suc, ◌≤◌, Bool, true, false, cond, ◌&&◌, Option, Some, None, refl, sym, ap, ◌∙◌, subst, arith}
use Rattle.resource_types.specs.declared.names.Kind.{Kind}
use Rattle.resource_types.specs.declared.names.Kind.TheVariants as kind
use Rattle.resource_types.specs.declared.names.Controller.{Controller}
use Rattle.resource_types.specs.declared.names.Controller.TheVariants as controller
use Rattle.resource_types.specs.declared.names.Name.{Name}
use Rattle.resource_types.specs.declared.names.Key.{Key}
use Rattle.resource_types.specs.declared.names.SlotKey.{SlotKey}
use Rattle.resource_types.specs.declared.status.ObjectStatus.{ObjectStatus}
use Rattle.resource_types.specs.declared.objects.Object.{Object}
use Rattle.resource_types.specs.Objects.{same_kind, has_been_ready, status_of}
use Rattle.resource_types.specs.Lookups.{State, find, is_owned_by, latest, latest_created}
use Rattle.resource_types.proofs.Exact.{kind-exact}
use Rattle.control_rules.specs.declared.settings.Settings.{Settings}
use Rattle.control_rules.specs.Standing.{key_at, standing, is_owned_by_uid}
use Rattle.control_rules.specs.Collection.{latest_been}
use Rattle.control_rules.specs.Statuses.{Current, Taken, child_of, configuration_status}
use Rattle.control_rules.specs.TrafficStatuses.{service_status}
use Rattle.control_rules.specs.Readings.{stored_status, simple_name_of, revision_name, sight_of, revision_status_in, configuration_status_in, service_status_in}
use Rattle.control_rules.specs.Differences.{untimed, same_untimed}
use Rattle.control_entries.proofs.Bodies.{untimed-timed, same_untimed-of}
use Rattle.control_settle.specs.Burden.{burden}
use Rattle.control_entries.proofs.Changes.{Change, stands_other, after_put}
use Rattle.control_entries.proofs.Tests.{not_both, some_same, none_some}
use Rattle.control_settle.proofs.Likeness.{Like, like_own, restated_like}
use Rattle.control_settle.proofs.Effects.{Act, is_stated, keeper, due_status, restated, Effect, NewConfiguration, NewTemplate, NewRoute, NewTargets, GoneConfiguration, GoneRoute, Restated, NewRevision, GoneRevision, Repinned, GoneTable, NewTable}
use Rattle.control_settle.proofs.Settled.{is_right, Child}
use Rattle.control_settle.proofs.Known.{healths_same, revision_status_same, restated_status}
use Rattle.control_settle.proofs.Latests.{view, of_these, Fits, latest_put}
use Rattle.control_settle.proofs.Readies.{latest_after}
use Rattle.control_settle.proofs.Burdens.{owner_like, current_of_like, revision_name_like, made_lighter, gone_lighter}
use Rattle.control_settle.proofs.Calming.{informed_kept}
use Rattle.control_settle.proofs.Owning.{left_own}
use Rattle.control_settle.proofs.Settling.{Fixed, Done, RevisionRight, ConfigurationRight, ServiceRight}

-- ---- what rounds do then

pub data Quiet (settings : Settings) (n now : ℕ) (c : Controller) (m : Name) (a b : State) : Type 0 where
  Lighter : suc (burden b) ≤ burden a → Quiet settings n now c m a b
  States : (k : Kind) (o : Object) → is_stated k ≡ true → (k ≢ kind.Route) → c ≡ keeper k → standing k m a ≡ Some o → same_untimed (status_of o.body) (due_status settings a k m o) ≡ false → Change (key_at k m) (Some (restated settings n now a k m o)) a b → Quiet settings n now c m a b

module _ (settings : Settings) (now : ℕ) where
  module _ (key : SlotKey) (n : ℕ) (a b : State) (act : Act settings now n key a b) (fixed : Fixed settings.domain a) (done : Done settings.domain a) where
    -- the Route controller rests
    no_route : key.controller ≡ controller.Route → ⊥
    no_route e =
        let z = left_own settings now key.name n a b (subst (λ k. Act settings now n k a b) (λ i. record { controller = e i; name = key.name }) act) fixed in
        let w = done key.name in
        absurd (omega arith)

    wrong : (k : Kind) (s o : Object) → Child k a key.name s → standing k key.name a ≡ Some o → is_owned_by_uid s.meta.stamp.uid o ≡ true → is_right k key.name s o ≡ false → ⊥
    wrong k s o child on owned differs =
        let same : child.object ≡ o = some_same (sym child.stands ∙ on) in
        not_both (subst (λ z. is_owned_by_uid s.meta.stamp.uid z ≡ true → is_right k key.name s z ≡ true) same child.right owned) differs

    pub quiet : Quiet settings n now key.controller key.name a b
    quiet = go act.effect
      where
        go : Effect settings n now key.controller key.name a b → Quiet settings n now key.controller key.name a b
        go (NewConfiguration s d at none h) = absurd (let o = fixed.calm.informed.settled.configuration key.name s at in none_some none o.stands)
        go (NewTemplate s o d at on owned differs h) = absurd (wrong kind.Configuration s o (fixed.calm.informed.settled.configuration key.name s at) on owned differs)
        go (NewRoute s d at none h) = absurd (let o = fixed.calm.informed.settled.route key.name s at in none_some none o.stands)
        go (NewTargets s o d at on owned differs h) = absurd (wrong kind.Route s o (fixed.calm.informed.settled.route key.name s at) on owned differs)
        go (GoneConfiguration o d at gone h) = absurd (not_both gone (fixed.calm.informed.settled.kin key.name o at))
        go (GoneRoute o d at gone h) = absurd (no_route d)
        go (Restated k o is d at differs h) = States k o is (λ e. no_route (d ∙ ap keeper e)) d at differs h
        go (NewRevision o d at none h) = Lighter (made_lighter settings n now key.controller key.name a b act.before act.after act.order act.effect o d at none h)
        go (GoneRevision w v d at going h) = Lighter (gone_lighter settings n now key.controller key.name a b act.before act.after act.order act.effect w v act.effect at h)
        go (Repinned w v ps moment d at space pins h) = absurd (no_route d)
        go (GoneTable t d at h) = absurd (no_route d)
        go (NewTable x d h) = absurd (no_route d)

    -- ---- Revisions

    revision_due : (o x : Object) → Like o x → revision_status_in b x ≡ revision_status_in a o
    revision_due o x l = revision_status_same a b o x (healths_same settings n now key.controller key.name a b act.effect) l

    -- what is told is right
    told_right : (k : Kind) (o x : Object) (due : ObjectStatus) → is_stated k ≡ true → standing k key.name a ≡ Some o → x ≡ restated settings n now a k key.name o → due ≡ due_status settings a k key.name o → same_untimed (status_of x.body) due ≡ true
    told_right k o x due is at new e = same_untimed-of _ _ (ap (λ (z : Object). untimed (status_of z.body)) new ∙ ap untimed (restated_status settings n now a k key.name o is at) ∙ untimed-timed (status_of o.body) (due_status settings a k key.name o) now ∙ ap untimed (sym e))

    pub revision_told : (k : Kind) (o x : Object) → k ≡ kind.Revision → is_stated k ≡ true → standing k key.name a ≡ Some o → x ≡ restated settings n now a k key.name o → same_untimed (status_of x.body) (revision_status_in b x) ≡ true
    revision_told k o x e is at new = told_right k o x (revision_status_in b x) is at new (revision_due o x (subst (λ z. Like o z) (sym new) (restated_like n now o _)) ∙ ap (λ z. due_status settings a z key.name o) (sym e))

    revision_still : (q : Name) (x : Object) → RevisionRight q a → standing kind.Revision q a ≡ Some x → same_untimed (status_of x.body) (revision_status_in b x) ≡ true
    revision_still q x was s = ap (same_untimed (status_of x.body)) (revision_due x x (like_own x)) ∙ was x s

    pub revision_stays : (q : Name) → RevisionRight q a → (suc (burden b) ≤ burden a) ⊎ RevisionRight q b
    revision_stays q was = go quiet
      where
        go : Quiet settings n now key.controller key.name a b → (suc (burden b) ≤ burden a) ⊎ RevisionRight q b
        go (Lighter l) = inl l
        go (States k o is other d at differs h) = inr (λ x e. after_put _ _ a b h kind.Revision q x e (same_untimed (status_of x.body) (revision_status_in b x) ≡ true)
            (λ same new. revision_told k o x (ap (λ z. z.kind) same) is at new) (λ s. revision_still q x was s))

    -- ---- Configurations

    unfit : (counts : Object → Bool) (k : Kind) (w : Name) (x : Object) → Change (key_at k w) (Some x) a b → (k ≢ kind.Revision) → Fits (of_these counts) x a
    unfit counts k w x h apart = record {
      new = λ _. none x (ap (λ z. z.kind) h.puts);
      old = λ o found. (none x (ap (λ z. z.kind) h.puts) ∙ sym (none o (ap (λ z. z.kind) (at o found))), λ t. absurd (not_both t (none x (ap (λ z. z.kind) h.puts))));
    }
      where
        at : (o : Object) → find x.key a ≡ Some o → o.key ≡ key_at k w
        at o found = (act.before.key (key_at k w) o (sym (ap (λ q. find q a) h.puts) ∙ found)).0

        differs : (t : Bool) → same_kind k kind.Revision ≡ t → t ≡ false
        differs true g = absurd (apart (kind-exact k kind.Revision g))
        differs false g = refl

        none : (o : Object) → o.key.kind ≡ k → of_these counts o ≡ false
        none o g = ap (λ z. same_kind z kind.Revision && counts o) g ∙ ap (λ t. t && counts o) (differs (same_kind k kind.Revision) refl)

    name_by_view : (x y : Option Object) → view x ≡ view y → simple_name_of x ≡ simple_name_of y
    name_by_view None None e = refl
    name_by_view None (Some y) e = absurd cc
    name_by_view (Some x) None e = absurd cc
    name_by_view (Some x) (Some y) e = ap (λ (p : Key × ℕ). p.0.name.name) (some_same e)

    child_same : (o x : Object) (v : Option Object) → Like o x → child_of stored_status x v ≡ child_of stored_status o v
    child_same o x None l = refl
    child_same o x (Some v) l = ap (λ t. cond t (Current (stored_status v)) Taken) (current_of_like o x v l)

    -- where a status of another kind than a Revision is written
    configuration_due : (k : Kind) (w : Name) (y : Object) → Change (key_at k w) (Some y) a b → (k ≢ kind.Revision) → (q : Name) (o x : Object) → standing kind.Configuration q a ≡ Some o → Like o x → configuration_status_in has_been_ready stored_status b x ≡ configuration_status_in has_been_ready stored_status a o
    configuration_due k w y h apart q o x at l =
        let known = (informed_kept settings now key n a b act fixed.calm.informed).known in
        let created : simple_name_of (latest_created b x) ≡ simple_name_of (latest_created a o) = name_by_view (latest_created b x) (latest_created a o) (ap (λ (test : Object → Bool). view (latest test b)) (λ i v. owner_like o x v l i) ∙ latest_put (is_owned_by o) (key_at k w) y a b h (unfit (is_owned_by o) k w y h apart)) in
        let ready : simple_name_of (latest_been has_been_ready b x) ≡ simple_name_of (latest_been has_been_ready a o) = name_by_view (latest_been has_been_ready b x) (latest_been has_been_ready a o) (latest_after settings n now key.controller key.name a b act.before act.order act.effect fixed.calm.informed known q o x at l) in
        let child : child_of stored_status x (standing kind.Revision (revision_name x) b) ≡ child_of stored_status o (standing kind.Revision (revision_name o) a) =
        child_same o x (standing kind.Revision (revision_name x) b) l ∙ ap (child_of stored_status o) (ap (λ z. standing kind.Revision z b) (revision_name_like o x l) ∙ stands_other _ _ a b h kind.Revision apart (revision_name o)) in
        λ i. configuration_status (l.generation i) (created i) (ready i) (revision_name_like o x l i).name (child i)

    pub no_revision : (k : Kind) (o : Object) → ((q : Name) → RevisionRight q a) → standing k key.name a ≡ Some o → same_untimed (status_of o.body) (due_status settings a k key.name o) ≡ false → k ≢ kind.Revision
    no_revision k o rr at differs e = not_both (ap (λ z. same_untimed (status_of o.body) (due_status settings a z key.name o)) e ∙ rr key.name o (subst (λ z. standing z key.name a ≡ Some o) e at)) differs

    pub no_configuration : (k : Kind) (o : Object) → ((q : Name) → ConfigurationRight q a) → standing k key.name a ≡ Some o → same_untimed (status_of o.body) (due_status settings a k key.name o) ≡ false → k ≢ kind.Configuration
    no_configuration k o cr at differs e = not_both (ap (λ z. same_untimed (status_of o.body) (due_status settings a z key.name o)) e ∙ cr key.name o (subst (λ z. standing z key.name a ≡ Some o) e at)) differs

    no_service : (k : Kind) (o : Object) → ((q : Name) → ServiceRight q a) → standing k key.name a ≡ Some o → same_untimed (status_of o.body) (due_status settings a k key.name o) ≡ false → k ≢ kind.Service
    no_service k o sr at differs e = not_both (ap (λ z. same_untimed (status_of o.body) (due_status settings a z key.name o)) e ∙ sr key.name o (subst (λ z. standing z key.name a ≡ Some o) e at)) differs

    pub configuration_told : (k : Kind) (o x : Object) → k ≡ kind.Configuration → (k ≢ kind.Revision) → is_stated k ≡ true → standing k key.name a ≡ Some o → x ≡ restated settings n now a k key.name o → Change (key_at k key.name) (Some (restated settings n now a k key.name o)) a b → same_untimed (status_of x.body) (configuration_status_in has_been_ready stored_status b x) ≡ true
    configuration_told k o x e apart is at new h = told_right k o x (configuration_status_in has_been_ready stored_status b x) is at new
        (configuration_due k key.name _ h apart key.name o x (subst (λ z. standing z key.name a ≡ Some o) e at) (subst (λ z. Like o z) (sym new) (restated_like n now o _)) ∙ ap (λ z. due_status settings a z key.name o) (sym e))

    pub configuration_stays : ((q : Name) → RevisionRight q a) → (q : Name) → ConfigurationRight q a → (suc (burden b) ≤ burden a) ⊎ ConfigurationRight q b
    configuration_stays rr q was = go quiet
      where
        go : Quiet settings n now key.controller key.name a b → (suc (burden b) ≤ burden a) ⊎ ConfigurationRight q b
        go (Lighter l) = inl l
        go (States k o is other d at differs h) = inr (λ x e. after_put _ _ a b h kind.Configuration q x e (same_untimed (status_of x.body) (configuration_status_in has_been_ready stored_status b x) ≡ true)
            (λ same new. configuration_told k o x (ap (λ z. z.kind) same) (no_revision k o rr at differs) is at new h)
            (λ s. ap (same_untimed (status_of x.body)) (configuration_due k key.name _ h (no_revision k o rr at differs) q x x s (like_own x)) ∙ was x s))

    -- ---- Services

    service_due : (k : Kind) (w : Name) (y : Object) → Change (key_at k w) (Some y) a b → (k ≢ kind.Configuration) → (k ≢ kind.Route) → (q : Name) (s t : Object) → Like s t → service_status_in stored_status stored_status b q t ≡ service_status_in stored_status stored_status a q s
    service_due k w y h apart other q s t l = λ i. service_status (l.generation i) q.name (sight_of stored_status (l.uid i) (stands_other _ _ a b h kind.Configuration apart q i)) (sight_of stored_status (l.uid i) (stands_other _ _ a b h kind.Route other q i))

    pub service_told : (k : Kind) (o x : Object) → k ≡ kind.Service → (k ≢ kind.Configuration) → (k ≢ kind.Route) → is_stated k ≡ true → standing k key.name a ≡ Some o → x ≡ restated settings n now a k key.name o → Change (key_at k key.name) (Some (restated settings n now a k key.name o)) a b → same_untimed (status_of x.body) (service_status_in stored_status stored_status b key.name x) ≡ true
    service_told k o x e apart other is at new h = told_right k o x (service_status_in stored_status stored_status b key.name x) is at new
        (service_due k key.name _ h apart other key.name o x (subst (λ z. Like o z) (sym new) (restated_like n now o _)) ∙ ap (λ z. due_status settings a z key.name o) (sym e))

    pub service_stays : ((q : Name) → RevisionRight q a) → ((q : Name) → ConfigurationRight q a) → (q : Name) → ServiceRight q a → (suc (burden b) ≤ burden a) ⊎ ServiceRight q b
    service_stays rr cr q was = go quiet
      where
        go : Quiet settings n now key.controller key.name a b → (suc (burden b) ≤ burden a) ⊎ ServiceRight q b
        go (Lighter l) = inl l
        go (States k o is other d at differs h) = inr (λ x e. after_put _ _ a b h kind.Service q x e (same_untimed (status_of x.body) (service_status_in stored_status stored_status b q x) ≡ true)
            (λ same new. subst (λ z. same_untimed (status_of x.body) (service_status_in stored_status stored_status b z x) ≡ true) (ap (λ z. z.name) same) (service_told k o x (ap (λ z. z.kind) same) (no_configuration k o cr at differs) other is at new h))
            (λ s. ap (same_untimed (status_of x.body)) (service_due k key.name _ h (no_configuration k o cr at differs) other q x x (like_own x)) ∙ was x s))

    -- ---- nothing

    stated_kinds : (k : Kind) → is_stated k ≡ true → (k ≢ kind.Service) → (k ≢ kind.Configuration) → (k ≢ kind.Revision) → (k ≢ kind.Route) → ⊥
    stated_kinds kind.Service e s c v r = s refl
    stated_kinds kind.Configuration e s c v r = c refl
    stated_kinds kind.Revision e s c v r = v refl
    stated_kinds kind.Route e s c v r = r refl
    stated_kinds kind.Health e s c v r = absurd cc
    stated_kinds kind.Table e s c v r = absurd cc

    pub idle : ((q : Name) → RevisionRight q a) → ((q : Name) → ConfigurationRight q a) → ((q : Name) → ServiceRight q a) → suc (burden b) ≤ burden a
    idle rr cr sr = go quiet
      where
        go : Quiet settings n now key.controller key.name a b → suc (burden b) ≤ burden a
        go (Lighter l) = l
        go (States k o is other d at differs h) = absurd (stated_kinds k is (no_service k o sr at differs) (no_configuration k o cr at differs) (no_revision k o rr at differs) other)
