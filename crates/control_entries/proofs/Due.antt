-- What a controller plans in a state is due there: it expects what stands, changes it, and is guarded where it removes a Revision.
use Rattle.std.proofs.Common.{◌≡◌, ◌≢◌, ℕ, Bool, true, false, List, Some, None, refl, sym, ap, ◌∙◌, subst}
use Rattle.std.specs.Prelude.{◌&&◌, bytes_eq}
use Rattle.version_store.specs.declared.write.Change.TheVariants.{Put}
use Rattle.resource_types.specs.declared.names.Kind.{Kind}
use Rattle.resource_types.specs.declared.names.Kind.TheVariants as kind
use Rattle.resource_types.specs.declared.names.Name.{Name}
use Rattle.resource_types.specs.declared.names.Key.{Key}
use Rattle.resource_types.specs.declared.names.SlotKey.{SlotKey}
use Rattle.resource_types.specs.declared.status.ObjectStatus.{ObjectStatus}
use Rattle.resource_types.specs.declared.objects.Body.{Body}
use Rattle.resource_types.specs.declared.objects.Object.{Object}
use Rattle.resource_types.specs.Objects.{same_kind, is_of, pins_of, status_of, targets_of, has_been_ready}
use Rattle.resource_types.specs.Lookups.{State, find, is_owned_by, is_free}
use Rattle.resource_types.proofs.Exact.{left, right, bytes-exact, same-exact}
use Rattle.control_rules.specs.declared.settings.Settings.{Settings}
use Rattle.control_rules.specs.Standing.{beside, key_at, listed, standing, template_of}
use Rattle.control_rules.specs.Steps.{expect_of}
use Rattle.control_rules.specs.Collection.{is_candidate}
use Rattle.control_rules.specs.Readings.{revision_name}
use Rattle.control_rules.specs.Differences.{ObjectPlan, rebodied, restated, creation, replacement, removal, guarded_removal, untimed, same_untimed, timed}
use Rattle.control_rules.specs.NextService.{converted, same_template, same_targets}
use Rattle.control_rules.specs.NextConfiguration.{made_revision}
use Rattle.control_rules.specs.NextRoute.{repinned, same_body, table_of}
use Rattle.control_rules.specs.Next.{next_write}
use Rattle.control_rules.proofs.Same.{same_template-own, same_targets-own, same_body-own}
use Rattle.control_entries.specs.Ground.{IsOrdered, AreFitting}
use Rattle.control_entries.specs.Due.{IsDue}
use Rattle.control_entries.proofs.Tests.{some_same, not_both, false_from}
use Rattle.control_entries.proofs.Standing.{IsFound, stands, none_found, stands_own}
use Rattle.control_entries.proofs.Bodies.{HasStatus, status-with_status, untimed-timed, same_untimed-of, pins-with_pins, add-listed, drop-listed, template-with_template, targets-with_targets}
use Rattle.control_entries.proofs.Deeds.{ServiceDeed, ServiceStated, ConfigurationDeed, ConfigurationMade, ConfigurationTemplated, ConfigurationOrphaned, ConfigurationStated, RevisionDeed, RevisionMade, RevisionStated, RevisionOrphaned, RevisionCollected, RevisionPinned, RevisionUnpinned, RouteDeed, RouteMade, RouteTargeted, RouteOrphaned, RouteStated, TableDeed, TableForeign, TableMade, TableReplaced, DeedOn, Deed}
use Rattle.control_entries.proofs.Planned.{chosen_is, unpinned_some_lacks, spare_stands, spare_pinned, planned_deed}

-- ---- each sort of plan

due_created : (st : State) (n : Name) (o : Object) → find o.key st ≡ None → o.key.name.space ≡ n.space → IsDue st n (creation o)
due_created st n o none space = record {
  expects = sym (ap expect_of none);
  changes = λ x y e f. absurd cc;
  guards = refl;
  space = space;
}

due_replaced : (st : State) (n : Name) (o : Object) (b : Body) → IsFound st o → o.key.name.space ≡ n.space → (b ≢ o.body) → IsDue st n (replacement o b)
due_replaced st n o b found space other = record {
  expects = sym (ap expect_of found);
  changes = λ x y e f. false_from (λ t. other (same x y (put_same _ x e) (some_same (sym found ∙ f)) (ap (λ (z : Object). z.body) (same-exact x y t))));
  guards = refl;
  space = space;
}
  where
    put_same : (x y : Object) → Put x ≡ Put y → x ≡ y
    put_same x y e = cc

    same : (x y : Object) → rebodied o b ≡ x → o ≡ y → x.body ≡ y.body → b ≡ o.body
    same x y e f g = ap (λ (z : Object). z.body) e ∙ g ∙ sym (ap (λ (z : Object). z.body) f)

due_removed : (st : State) (n : Name) (o : Object) → IsFound st o → o.key.name.space ≡ n.space → same_kind o.key.kind kind.Revision ≡ false
    → IsDue st n (removal o)
due_removed st n o found space other = record {
  expects = sym (ap expect_of found);
  changes = λ x y e f. absurd cc;
  guards = sym other;
  space = space;
}

due_guarded : (st : State) (n : Name) (o : Object) → IsFound st o → o.key.name.space ≡ n.space → same_kind o.key.kind kind.Revision ≡ true
    → IsDue st n (guarded_removal o)
due_guarded st n o found space is = record {
  expects = sym (ap expect_of found);
  changes = λ x y e f. absurd cc;
  guards = sym is;
  space = space;
}

-- ---- each deed

space_of : (k : Kind) (n : Name) (st : State) (o : Object) → standing k n st ≡ Some o → o.key.name.space ≡ n.space
space_of k n st o at = ap (λ (z : Key). z.name.space) (stands k n st o at).key

kind_is : (k : Kind) (n : Name) (st : State) (o : Object) (b : Bool) → standing k n st ≡ Some o → same_kind k kind.Revision ≡ b
    → same_kind o.key.kind kind.Revision ≡ b
kind_is k n st o b at h = ap (λ (z : Key). same_kind z.kind kind.Revision) (stands k n st o at).key ∙ h

module _ (settings : Settings) (st : State) (now : ℕ) (ordered : IsOrdered st) (fitting : AreFitting st) (slot : SlotKey) (plan : ObjectPlan) where
  -- a plan that is due on the slot's name
  due_as : (n : Name) (p : ObjectPlan) → slot.name ≡ n → plan ≡ p → IsDue st n p → IsDue st slot.name plan
  due_as n p q e h = subst (λ z. IsDue st z plan) (sym q) (subst (IsDue st n) (sym e) h)

  at_name : (a b : SlotKey) → a ≡ b → a.name ≡ b.name
  at_name a b e = ap (λ (z : SlotKey). z.name) e

  absent : (k : Kind) (n : Name) → standing k n st ≡ None → find (key_at k n) st ≡ None
  absent k n none = none_found k n st (λ o e. fitting (key_at k n) o e) none

  replaced : (k : Kind) (n : Name) (o : Object) (b : Body) → standing k n st ≡ Some o → (b ≢ o.body) → IsDue st n (replacement o b)
  replaced k n o b at other = due_replaced st n o b (stands_own k n st o (stands k n st o at)) (space_of k n st o at) other

  removed : (k : Kind) (n : Name) (o : Object) → standing k n st ≡ Some o → same_kind k kind.Revision ≡ false → IsDue st n (removal o)
  removed k n o at h = due_removed st n o (stands_own k n st o (stands k n st o at)) (space_of k n st o at) (kind_is k n st o false at h)

  stated : (k : Kind) (n : Name) (o : Object) (new : ObjectStatus) → standing k n st ≡ Some o → HasStatus k → same_untimed (status_of o.body) new ≡ false
      → IsDue st n (replacement o (restated o new now))
  stated k n o new at has t = replaced k n o _ at (λ e. not_both (same e) t)
    where
      same : restated o new now ≡ o.body → same_untimed (status_of o.body) new ≡ true
      same e = same_untimed-of (status_of o.body) new
          (ap untimed (sym (sym (status-with_status (timed (status_of o.body) new now) o.body (subst HasStatus (sym (stands k n st o at).fits) has)) ∙ ap status_of e))
          ∙ untimed-timed (status_of o.body) new now)

  -- a Revision of the namespace gets other pins, or is removed
  repinned_due : (n v : Name) (o : Object) (pins : List (List ℕ)) → v ≡ beside n v.name → standing kind.Revision v st ≡ Some o → (pins ≢ pins_of o.body)
      → IsDue st n (repinned o pins now)
  repinned_due n v o pins near at other =
      due_replaced st n o _ (stands_own kind.Revision v st o (stands kind.Revision v st o at)) (space_of kind.Revision v st o at ∙ ap (λ (z : Name). z.space) near)
      (λ e. other (sym (pins-with_pins pins _ o.body (stands kind.Revision v st o at).fits) ∙ ap pins_of e))

  guarded : (n v : Name) (o : Object) → v.space ≡ n.space → standing kind.Revision v st ≡ Some o → IsDue st n (guarded_removal o)
  guarded n v o near at = due_guarded st n o (stands_own kind.Revision v st o (stands kind.Revision v st o at)) (space_of kind.Revision v st o at ∙ near)
      (kind_is kind.Revision v st o true at refl)

  candidate_space : (c o : Object) → is_candidate has_been_ready st c o ≡ true → o.key.name.space ≡ c.key.name.space
  unfolding is_candidate
  candidate_space c o t = bytes-exact _ _
      (right (is_of kind.Revision o) _ (left (is_of kind.Revision o && bytes_eq o.key.name.space c.key.name.space) _ (left (is_owned_by c o) _ (left (is_owned_by c o && is_free st o.key.name) _ t))))

  made_due : (n v : Name) (c : Object) → standing kind.Configuration n st ≡ Some c → v ≡ revision_name c → standing kind.Revision v st ≡ None
      → IsDue st n (creation (made_revision c))
  unfolding revision_name
  made_due n v c at named none = due_created st n (made_revision c) (ap (λ z. find (key_at kind.Revision z) st) (sym named) ∙ absent kind.Revision v none)
      (space_of kind.Configuration n st c at)

  -- ---- by the kind of the object

  on_service : (n : Name) → ServiceDeed settings st now slot n plan → IsDue st slot.name plan
  on_service n (ServiceStated s q at t p) = due_as n _ (at_name _ _ q) p (stated kind.Service n s _ at (λ e. cc, λ e. cc) t)

  on_configuration : (n : Name) → ConfigurationDeed settings st now slot n plan → IsDue st slot.name plan
  on_configuration n (ConfigurationMade s q at none p) = due_as n _ (at_name _ _ q) p (due_created st n _ (absent kind.Configuration n none) refl)
  on_configuration n (ConfigurationTemplated s c q at there own t p) = due_as n _ (at_name _ _ q) p
      (replaced kind.Configuration n c _ there (λ e. not_both (ap (λ z. same_template z (template_of s.body)) (sym (ap template_of e)
      ∙ template-with_template (template_of s.body) c.body (stands kind.Configuration n st c there).fits) ∙ same_template-own (template_of s.body)) t))
  on_configuration n (ConfigurationOrphaned c q at t p) = due_as n _ (at_name _ _ q) p (removed kind.Configuration n c at refl)
  on_configuration n (ConfigurationStated c q at t p) = due_as n _ (at_name _ _ q) p (stated kind.Configuration n c _ at (λ e. cc, λ e. cc) t)

  on_revision : (v : Name) → RevisionDeed settings st now slot v plan → IsDue st slot.name plan
  on_revision v (RevisionMade n c q at named none p) = due_as n _ (at_name _ _ q) p (made_due n v c at named none)
  on_revision v (RevisionStated o q at t p) = due_as v _ (at_name _ _ q) p (stated kind.Revision v o _ at (λ e. cc, λ e. cc) t)
  on_revision v (RevisionOrphaned o q at t f p) = due_as v _ (at_name _ _ q) p (guarded v v o refl at)
  on_revision v (RevisionCollected n c o q at there t p) = due_as n _ (at_name _ _ q) p (guarded n v o
      (sym (space_of kind.Revision v st o there) ∙ candidate_space c o (chosen_is has_been_ready settings.gc st c now o t).0 ∙ space_of kind.Configuration n st c at) there)
  on_revision v (RevisionPinned r o ms q near at own all lacks p) = due_as r _ (at_name _ _ q) p
      (repinned_due r v o _ near at (λ e. not_both (sym (ap (listed r.name) e) ∙ add-listed r.name (pins_of o.body)) (unpinned_some_lacks st r ms o lacks)))
  on_revision v (RevisionUnpinned r o q near at spare p) = due_as r _ (at_name _ _ q) p
      (repinned_due r v o _ near at (λ e. not_both (spare_pinned st r o (spare_stands settings st now ordered r o spare).0) (sym (ap (listed r.name) e) ∙ drop-listed r.name (pins_of o.body))))

  on_route : (n : Name) → RouteDeed settings st now slot n plan → IsDue st slot.name plan
  on_route n (RouteMade s q at none p) = due_as n _ (at_name _ _ q) p (due_created st n _ (absent kind.Route n none) refl)
  on_route n (RouteTargeted s r q at there own t p) = due_as n _ (at_name _ _ q) p
      (replaced kind.Route n r _ there (λ e. not_both (ap (λ z. same_targets z (converted n s)) (sym (ap targets_of e)
      ∙ targets-with_targets (converted n s) r.body (stands kind.Route n st r there).fits) ∙ same_targets-own (converted n s)) t))
  on_route n (RouteOrphaned o q at t p) = due_as n _ (at_name _ _ q) p (removed kind.Route n o at refl)
  on_route n (RouteStated o q at t p) = due_as n _ (at_name _ _ q) p (stated kind.Route n o _ at (λ e. cc, λ e. cc) t)

  on_table : (r : Name) → TableDeed settings st now slot r plan → IsDue st slot.name plan
  on_table r (TableForeign t q at f p) = due_as r _ (at_name _ _ q) p (removed kind.Table r t at refl)
  on_table r (TableMade o ms q at all pinned none p) = due_as r _ (at_name _ _ q) p (due_created st r _ (absent kind.Table r none) refl)
  on_table r (TableReplaced o t ms q at all pinned there f p) = due_as r _ (at_name _ _ q) p
      (replaced kind.Table r t (table_of r settings.domain o ms) there
      (λ e. not_both (ap (λ z. same_body z (table_of r settings.domain o ms)) (sym e) ∙ same_body-own (table_of r settings.domain o ms)) f))

  on_kind : (k : Kind) (n : Name) → DeedOn k settings st now slot n plan → IsDue st slot.name plan
  on_kind kind.Service n d = on_service n d
  on_kind kind.Configuration n d = on_configuration n d
  on_kind kind.Revision n d = on_revision n d
  on_kind kind.Route n d = on_route n d
  on_kind kind.Health n d = absurd d
  on_kind kind.Table n d = on_table n d

-- what a slot's controller plans is due to what stands
pub write_due : (st : State) → IsOrdered st → AreFitting st → (settings : Settings) (slot : SlotKey) (now : ℕ) (plan : ObjectPlan)
    → next_write settings slot st now ≡ Some plan → IsDue st slot.name plan
write_due st ordered fitting settings slot now plan e =
    let d : Deed settings st now slot plan = planned_deed settings st now ordered slot plan e in
    on_kind settings st now ordered fitting slot plan d.kind d.name d.deed
