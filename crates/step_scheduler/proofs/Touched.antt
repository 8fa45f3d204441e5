-- Which keys are touched, as a plane changes.
use Rattle.std.proofs.Common.{◌≡◌, ◌⊎◌, inl, inr, ◌≤◌, Bool, true, false, ◌&&◌, ◌||◌, [], ◌∷◌, ◌++◌, length, drop, Option, Some, None, refl, sym, ap, ◌∙◌, subst}
use Rattle.std.proofs.lemmas.List.{drop-append-le}
use Rattle.version_store.specs.declared.write.Applied.{Applied}
use Rattle.version_store.specs.declared.write.Applied.TheVariants as applied
use Rattle.version_store.specs.Apply.{with_entry}
use Rattle.version_store.proofs.Growth.{state_at-grows, grows_by}
use Rattle.version_store.proofs.Journals.{state-push}
use Rattle.resource_types.specs.declared.names.Kind.TheVariants as kind
use Rattle.resource_types.specs.declared.names.Actor.TheVariants as actor
use Rattle.resource_types.specs.declared.names.Controller.{Controller}
use Rattle.resource_types.specs.declared.names.Controller.TheVariants as controller
use Rattle.resource_types.specs.declared.names.Key.{Key}
use Rattle.resource_types.specs.declared.names.Name.{Name}
use Rattle.resource_types.specs.declared.names.SlotKey.{SlotKey}
use Rattle.resource_types.specs.declared.objects.Object.{Object}
use Rattle.resource_types.specs.contracts.names.KeyOrd.TheImpl as key_order
use Rattle.resource_types.specs.Lookups.{Journal, State, state, find}
use Rattle.control_rules.specs.declared.slots.Report.{Report}
use Rattle.control_rules.specs.Standing.{key_at, standing}
use Rattle.control_rules.specs.Slots.{ObjectEntry, ObjectWrite, state_at, is_key, answer_in, entry_in, Plane, present}
use Rattle.control_rules.specs.Steps.{report_plan, present_write, report_on, report_of}
use Rattle.control_entries.proofs.Standing.{found_key}
use Rattle.control_touches.specs.Touches.{touches_of, touches, after_entry, is_touched_by, is_touched_since}
use Rattle.touched_keys.specs.Marks.{is_marked, unmarked, MarksView, is_collector, is_touched_in}
use Rattle.step_scheduler.specs.Planes.{PlaneView}
use Rattle.step_scheduler.specs.Touched.{is_touched, IsRevisionKey, IsCollectorKey, TookIn, TouchesSame, TouchesAtMost, DropsMark}
use Rattle.step_scheduler.proofs.HealthTouches.{IsHealth, health_change, touched_same, keys_same, touched_more}
use Rattle.step_scheduler.proofs.Marking.{after_rest, untouched_taken, unmarked_own, unmarked_other}

-- by the journal, the marks and the key's own mark
touched_as : (old new : Journal) (m n : MarksView) (pick : SlotKey) → new ≡ old → is_marked pick n.keys ≡ is_marked pick m.keys → n.upto ≡ m.upto → n.moved ≡ m.moved
    → is_touched_in new n pick ≡ is_touched_in old m pick
touched_as old new m n pick j keys upto moved = λ i. is_key pick (state (j i)) && (keys i || (is_touched_since (j i) (upto i) pick || (moved i && is_collector pick.controller)))

-- nothing was written, and the marks are the same
pub same_touched : (u v : PlaneView) → v.marks ≡ u.marks → v.plane.journal ≡ u.plane.journal → TouchesSame u v
same_touched u v marks journal key = λ i. is_touched_in (journal i) (marks i) key

pub same_at_most : (P : SlotKey → Type 0) (u v : PlaneView) → TouchesSame u v → TouchesAtMost P u v
same_at_most P u v same key t = inl (sym (same key) ∙ t)

-- the mark of a key is dropped
pub mark_drops : (u v : PlaneView) (key : SlotKey) → TookIn v → v.plane.journal ≡ u.plane.journal → v.marks.keys ≡ unmarked key u.marks.keys → v.marks.upto ≡ u.marks.upto → v.marks.moved ≡ u.marks.moved
    → DropsMark key u v
mark_drops u v key taken journal keys upto moved = record {
  dropped = untouched_taken v.plane.journal v.marks taken key (ap (is_marked key) keys ∙ unmarked_own key u.marks.keys);
  others = λ pick other. touched_as u.plane.journal v.plane.journal u.marks v.marks pick journal (ap (is_marked pick) keys ∙ unmarked_other key u.marks.keys pick other) upto moved;
}

-- the moment moves, which is noted
and_last : (b : Bool) → (b && false) ≡ false
and_last true = refl
and_last false = refl

pub moment_touches : (u v : PlaneView) → v.plane.journal ≡ u.plane.journal → v.marks.keys ≡ u.marks.keys → v.marks.upto ≡ u.marks.upto → v.marks.moved ≡ true → TouchesAtMost IsCollectorKey u v
moment_touches u v journal keys upto moved key t = go key.controller refl
  where
    other : is_collector key.controller ≡ false → is_touched v key ≡ is_touched u key
    other e = λ i. is_key key (state (journal i)) && (is_marked key (keys i) || (is_touched_since (journal i) (upto i) key || (notes i)))
      where
        notes : (v.marks.moved && is_collector key.controller) ≡ (u.marks.moved && is_collector key.controller)
        notes = ap (λ b. v.marks.moved && b) e ∙ and_last v.marks.moved ∙ sym (ap (λ b. u.marks.moved && b) e ∙ and_last u.marks.moved)

    go : (c : Controller) → key.controller ≡ c → (is_touched u key ≡ true) ⊎ IsCollectorKey key
    go controller.Service e = inl (sym (other (ap is_collector e)) ∙ t)
    go controller.Configuration e = inl (sym (other (ap is_collector e)) ∙ t)
    go controller.Revision e = inl (sym (other (ap is_collector e)) ∙ t)
    go controller.Collector e = inr e
    go controller.Route e = inl (sym (other (ap is_collector e)) ∙ t)

-- ---- the entry of a report

module _ (j : Journal) (m : MarksView) (within : m.upto ≤ length j) (e : ObjectEntry) (n : Name) (new : Object) (at : e.key ≡ key_at kind.Health n) (puts : e.object ≡ Some new) (own : new.key ≡ e.key) where
  abbrev more : Journal
  more = j ++ e ∷ []

  abbrev later : State
  later = after_entry e (state j)

  now_stands : state more ≡ later
  now_stands = state-push (λ (o : Object). o.key) key_order.ghosts.cmp j e

  since_more : (pick : SlotKey) → is_touched_since more m.upto pick ≡ (is_touched_since j m.upto pick || touches later e.key (find e.key (state j)) e.object pick)
  since_more pick =
      let before : state_at more m.upto ≡ state_at j m.upto = state_at-grows (λ (o : Object). o.key) key_order.ghosts.cmp j more m.upto (grows_by j (e ∷ [])) within in
      let rest : drop m.upto more ≡ drop m.upto j ++ e ∷ [] = drop-append-le m.upto j (e ∷ []) within in
      (λ i. is_touched_by (now_stands i) (before i) (rest i) pick)
      ∙ touched_more later (state_at j m.upto) (drop m.upto j) e pick
      ∙ (λ i. touched_same (state j) e n new at puts own (state_at j m.upto) (drop m.upto j) pick i || touches later e.key (find e.key (after_rest j m.upto i)) e.object pick)

  old_health : (o : Option Object) → find e.key (state j) ≡ o → IsHealth o
  old_health None is = tt
  old_health (Some o) is = ap (λ (k : Key). k.kind) (found_key e.key (state j) o is ∙ at)

  new_health : IsHealth e.object
  new_health = subst IsHealth (sym puts) (ap (λ (k : Key). k.kind) (own ∙ at))

  one_touched : (pick : SlotKey) → touches later e.key (find e.key (state j)) e.object pick ≡ true → IsRevisionKey n pick
  unfolding touches
  one_touched pick t =
      health_change (find e.key (state j)) e.object (old_health _ refl) new_health later n pick.controller pick.name
      (subst (λ k. touches_of later k (find e.key (state j)) e.object pick.controller pick.name ≡ true) at t)

  or_not : (a : Bool) → (a || false) ≡ a
  or_not true = refl
  or_not false = refl

  pub entry_touches_one : (pick : SlotKey) → is_touched_in more m pick ≡ true → (is_touched_in j m pick ≡ true) ⊎ IsRevisionKey n pick
  entry_touches_one pick t = go (touches later e.key (find e.key (state j)) e.object pick) refl
    where
      known : is_key pick (state more) ≡ is_key pick (state j)
      known = ap (is_key pick) now_stands ∙ keys_same (state j) e n new at puts own pick

      go : (b : Bool) → touches later e.key (find e.key (state j)) e.object pick ≡ b → (is_touched_in j m pick ≡ true) ⊎ IsRevisionKey n pick
      go true is = inr (one_touched pick is)
      go false is =
          let since : is_touched_since j m.upto pick ≡ is_touched_since more m.upto pick = sym (since_more pick ∙ ap (λ b. is_touched_since j m.upto pick || b) is ∙ or_not (is_touched_since j m.upto pick)) in
          inl ((λ i. sym known i && (is_marked pick m.keys || (since i || (m.moved && is_collector pick.controller)))) ∙ t)

report_touches : (u v : PlaneView) (report : Report) (o : Option Object) → u.marks.upto ≤ length u.plane.journal → v.marks ≡ u.marks → v.plane ≡ (report_on u.plane report o).plane
    → TouchesAtMost (IsRevisionKey report.revision) u v
report_touches u v report None within marks plane = same_at_most _ u v (same_touched u v marks (ap (λ (w : Plane). w.journal) plane))
report_touches u v report (Some revision) within marks plane = go (answer_in u.plane.journal write) (ap (λ (w : Plane). w.journal) plane)
  where
    write : ObjectWrite
    write = present_write u.plane actor.Reporter (report_plan report revision (find (key_at kind.Health report.revision) (present u.plane)))

    go : (a : Applied) → v.plane.journal ≡ with_entry a u.plane.journal (entry_in u.plane.journal write) → TouchesAtMost (IsRevisionKey report.revision) u v
    go (applied.Done version) is key t =
        entry_touches_one u.plane.journal u.marks within (entry_in u.plane.journal write) report.revision _ refl refl refl key ((λ i. is_touched_in (sym is i) (sym marks i) key) ∙ t)
    go (applied.Same version) is key t = inl (sym (same_touched u v marks is key) ∙ t)
    go (applied.Stale newer) is key t = inl (sym (same_touched u v marks is key) ∙ t)
    go (applied.Exists version) is key t = inl (sym (same_touched u v marks is key) ∙ t)
    go (applied.Absent last) is key t = inl (sym (same_touched u v marks is key) ∙ t)

-- a report touches the Revision of its name
pub hearing_touches : (u v : PlaneView) (report : Report) → u.marks.upto ≤ length u.plane.journal → v.marks ≡ u.marks → v.plane ≡ (report_of u.plane report).plane → TouchesAtMost (IsRevisionKey report.revision) u v
unfolding report_of
hearing_touches u v report within marks plane = report_touches u v report (standing kind.Revision report.revision (present u.plane)) within marks plane
