-- After six turns nothing but statuses, pins, Tables and Revisions changes, and what is read of Revisions and Configurations stays.
use Rattle.std.proofs.Common.{◌≡◌, ◌⊎◌, inl, inr, ℕ, Bool, true, false, Option, Some, None, refl, sym, ◌∙◌, subst}
use Rattle.resource_types.specs.declared.names.Kind.{Kind}
use Rattle.resource_types.specs.declared.names.Kind.TheVariants as kind
use Rattle.resource_types.specs.declared.names.Controller.TheVariants as controller
use Rattle.resource_types.specs.declared.names.Name.{Name}
use Rattle.resource_types.specs.declared.names.SlotKey.{SlotKey}
use Rattle.resource_types.specs.declared.objects.Object.{Object}
use Rattle.resource_types.specs.Lookups.{State}
use Rattle.control_rules.specs.declared.settings.Settings.{Settings}
use Rattle.control_rules.specs.Slots.{slot_key}
use Rattle.control_rules.specs.Standing.{key_at, standing, is_orphan, is_owned_by_uid, template_of}
use Rattle.control_entries.proofs.Changes.{Change, gone_here}
use Rattle.control_entries.proofs.Tests.{not_both, some_same, none_some}
use Rattle.control_settle.proofs.Deeds.{Deed, MakesConfiguration, Respecifies, MakesRoute, Retargets, StatesService, RemovesConfiguration, MakesRevision, StatesConfiguration, RemovesRevision, StatesRevision, when_none}
use Rattle.control_settle.proofs.Effects.{Act, replaced, created, removed, removed_guarded}
use Rattle.control_settle.proofs.Children.{is_child, NoOrphan, orphans_kept}
use Rattle.control_settle.proofs.Settled.{HasChild, Settled, child_stays, made_configuration, made_route, mended_configuration, mended_route, Child}
use Rattle.control_settle.proofs.Known.{Known, known_by, known_stays, told_now}
use Rattle.control_settle.proofs.Readies.{Informed, IsReady, IsReadyOrCurrent}
use Rattle.control_settle.proofs.Rests.{configuration_right, route_right, service_rests, configuration_rests, revision_rests, route_rests, route_goes, given_none}
use Rattle.control_settle.proofs.Phases.{Keeps, Phase}
use Rattle.control_rules.specs.NextService.{configuration_missing, same_template, template_differs}

abbrev pub Any : State → Type 0
Any st = Unit {0}

-- no child is an orphan
pub record Kin (st : State) : Type 0 where
  pub configuration : (q : Name) → NoOrphan kind.Configuration st q
  pub route : (q : Name) → NoOrphan kind.Route st q

-- and each Service has its Configuration
pub record Housed (st : State) : Type 0 where
  pub kin : Kin st
  pub configuration : (q : Name) → HasChild kind.Configuration st q

-- what is settled and known, and what Configurations name
pub record Promised (st : State) : Type 0 where
  pub informed : Informed st
  pub ready : (q : Name) → IsReadyOrCurrent st q

pub record Calm (st : State) : Type 0 where
  pub informed : Informed st
  pub ready : (q : Name) → IsReady st q

module _ (settings : Settings) (now : ℕ) where
  orphans : (k : Kind) → is_child k ≡ true → (key : SlotKey) (n : ℕ) (a b : State) → Act settings now n key a b → (q : Name) → NoOrphan k a q → NoOrphan k b q
  orphans k child key n a b act q none = orphans_kept settings n now key.controller key.name a b act.before act.after act.effect k child q none

  unorphaned : (k : Kind) (st : State) (q : Name) (o : Object) → standing k q st ≡ Some o → is_orphan st o ≡ false → NoOrphan k st q
  unorphaned k st q o at kept x e = subst (λ z. is_orphan st z ≡ false) (some_same (sym at ∙ e)) kept

  gone : (k : Kind) (q : Name) (a b : State) → Change (key_at k q) None a b → NoOrphan k b q
  gone k q a b h x e = absurd (none_some (gone_here (key_at k q) a b h k q refl) e)

  -- ---- no orphans

  pub kin_configuration : Phase settings now Any (λ q st. NoOrphan kind.Configuration st q) controller.Configuration
  kin_configuration = record {
    keeps = λ key n a b act h. tt;
    acts = λ m n a b act h. go m n a b act act.deed;
    rests = λ m n a sound order e h. λ o at. (configuration_rests settings now a m o e at).kept;
    stays = λ key n a b act h q none. orphans kind.Configuration refl key n a b act q none;
  }
    where
      go : (m : Name) (n : ℕ) (a b : State) (act : Act settings now n (slot_key controller.Configuration m) a b) → Deed settings now a controller.Configuration m act.plan → NoOrphan kind.Configuration b m
      go m n a b act (RemovesConfiguration o at gone_ e) = gone kind.Configuration m a b (removed n now a b act.before kind.Configuration m o act.plan at e act.written)
      go m n a b act (MakesRevision o at kept none e) = orphans kind.Configuration refl (slot_key controller.Configuration m) n a b act m (unorphaned kind.Configuration a m o at kept)
      go m n a b act (StatesConfiguration o at kept made differs e) = orphans kind.Configuration refl (slot_key controller.Configuration m) n a b act m (unorphaned kind.Configuration a m o at kept)

  pub kin_route : Phase settings now Any (λ q st. NoOrphan kind.Route st q) controller.Route
  kin_route = record {
    keeps = λ key n a b act h. tt;
    acts = λ m n a b act h. go m n a b act act.deed (true_or_not m a);
    rests = λ m n a sound order e h. λ o at. when_none _ _ (given_none (standing kind.Route m a) _ o at (route_rests settings now a m e).kept);
    stays = λ key n a b act h q none. orphans kind.Route refl key n a b act q none;
  }
    where
      true_or_not : (m : Name) (a : State) → ((o : Object) × (standing kind.Route m a ≡ Some o) × (is_orphan a o ≡ true)) ⊎ NoOrphan kind.Route a m
      true_or_not m a = by (standing kind.Route m a) refl
        where
          by : (w : Option Object) → standing kind.Route m a ≡ w → ((o : Object) × (standing kind.Route m a ≡ Some o) × (is_orphan a o ≡ true)) ⊎ NoOrphan kind.Route a m
          by None e = inr (λ o at. absurd (none_some e at))
          by (Some o) e = on (is_orphan a o) refl
            where
              on : (t : Bool) → is_orphan a o ≡ t → ((o : Object) × (standing kind.Route m a ≡ Some o) × (is_orphan a o ≡ true)) ⊎ NoOrphan kind.Route a m
              on true g = inl (o, e, g)
              on false g = inr (unorphaned kind.Route a m o e g)

      go : (m : Name) (n : ℕ) (a b : State) (act : Act settings now n (slot_key controller.Route m) a b) → Deed settings now a controller.Route m act.plan → ((o : Object) × (standing kind.Route m a ≡ Some o) × (is_orphan a o ≡ true)) ⊎ NoOrphan kind.Route a m → NoOrphan kind.Route b m
      go m n a b act deed (inr none) = orphans kind.Route refl (slot_key controller.Route m) n a b act m none
      go m n a b act deed (inl o) = gone kind.Route m a b (removed n now a b act.before kind.Route m o.0 act.plan o.1 (some_same (sym act.planned ∙ route_goes settings now a m o.0 o.1 o.2)) act.written)

  -- ---- each Service has its Configuration, and then its Route

  pub kin_kept : Keeps settings now Kin
  kin_kept key n a b act h = record {
    configuration = λ q. orphans kind.Configuration refl key n a b act q (h.configuration q);
    route = λ q. orphans kind.Route refl key n a b act q (h.route q);
  }

  stays_child : (k : Kind) → is_child k ≡ true → (key : SlotKey) (n : ℕ) (a b : State) → Act settings now n key a b → Kin a → (q : Name) → HasChild k a q → HasChild k b q
  stays_child k child key n a b act kin q has = child_stays settings n now key.controller key.name a b act.before act.effect act.effect k child kin.configuration kin.route q has

  pub housed : Phase settings now Kin (λ q st. HasChild kind.Configuration st q) controller.Service
  housed = record {
    keeps = kin_kept;
    acts = λ m n a b act h. go m n a b act h act.deed;
    rests = λ m n a sound order e h. λ s at. let r = service_rests settings now a m s e at in configuration_right a m s r.configured r.specified;
    stays = λ key n a b act h q has. stays_child kind.Configuration refl key n a b act h q has;
  }
    where
      has : (m : Name) (n : ℕ) (a b : State) (act : Act settings now n (slot_key controller.Service m) a b) → Kin a → (s : Object) → standing kind.Service m a ≡ Some s → configuration_missing a m s ≡ None → template_differs a m s ≡ None → HasChild kind.Configuration b m
      has m n a b act h s at made specified = stays_child kind.Configuration refl (slot_key controller.Service m) n a b act h m (λ t e. subst (λ z. Child kind.Configuration a m z) (some_same (sym at ∙ e)) (configuration_right a m s made specified))

      go : (m : Name) (n : ℕ) (a b : State) (act : Act settings now n (slot_key controller.Service m) a b) → Kin a → Deed settings now a controller.Service m act.plan → HasChild kind.Configuration b m
      go m n a b act h (MakesConfiguration s at none e) = made_configuration settings n now controller.Service m a b act.before act.effect s at (created n now a b act.before kind.Configuration m _ act.plan refl none e act.written)
      go m n a b act h (Respecifies s o at on owned differs e) = mended_configuration settings n now controller.Service m a b act.before act.effect s o at on (replaced n now a b act.before kind.Configuration m o _ act.plan on e act.written)
      go m n a b act h (MakesRoute s at made specified none e) = has m n a b act h s at made specified
      go m n a b act h (Retargets s o at made specified on owned differs e) = has m n a b act h s at made specified
      go m n a b act h (StatesService s at made specified routed targeted differs e) = has m n a b act h s at made specified

  pub housed_kept : Keeps settings now Housed
  housed_kept key n a b act h = record { kin = kin_kept key n a b act h.kin; configuration = λ q. stays_child kind.Configuration refl key n a b act h.kin q (h.configuration q) }

  pub routed : Phase settings now Housed (λ q st. HasChild kind.Route st q) controller.Service
  routed = record {
    keeps = housed_kept;
    acts = λ m n a b act h. go m n a b act h act.deed;
    rests = λ m n a sound order e h. λ s at. let r = service_rests settings now a m s e at in route_right a m s r.routed r.targeted;
    stays = λ key n a b act h q has. stays_child kind.Route refl key n a b act h.kin q has;
  }
    where
      go : (m : Name) (n : ℕ) (a b : State) (act : Act settings now n (slot_key controller.Service m) a b) → Housed a → Deed settings now a controller.Service m act.plan → HasChild kind.Route b m
      go m n a b act h (MakesConfiguration s at none e) = absurd (let o = h.configuration m s at in none_some none o.stands)
      go m n a b act h (Respecifies s o at on owned differs e) = absurd (wrong o)
        where
          wrong : Object → ⊥
          wrong p = let child = h.configuration m s at in let same : child.object ≡ o = some_same (sym child.stands ∙ on) in
              not_both (subst (λ z. is_owned_by_uid s.meta.stamp.uid z ≡ true → same_template (template_of z.body) (template_of s.body) ≡ true) same child.right owned) differs
      go m n a b act h (MakesRoute s at made specified none e) = made_route settings n now controller.Service m a b act.before act.effect s at (created n now a b act.before kind.Route m _ act.plan refl none e act.written)
      go m n a b act h (Retargets s o at made specified on owned differs e) = mended_route settings n now controller.Service m a b act.before act.effect s o at on (replaced n now a b act.before kind.Route m o _ act.plan on e act.written)
      go m n a b act h (StatesService s at made specified routed targeted differs e) = stays_child kind.Route refl (slot_key controller.Service m) n a b act h.kin m (λ t e. subst (λ z. Child kind.Route a m z) (some_same (sym at ∙ e)) (route_right a m s routed targeted))

  pub settled_stays : Keeps settings now Settled
  settled_stays key n a b act h = record {
    kin = λ q. orphans kind.Configuration refl key n a b act q (h.kin q);
    kin_route = λ q. orphans kind.Route refl key n a b act q (h.kin_route q);
    configuration = λ q. stays_child kind.Configuration refl key n a b act (record { configuration = h.kin; route = h.kin_route }) q (h.configuration q);
    route = λ q. stays_child kind.Route refl key n a b act (record { configuration = h.kin; route = h.kin_route }) q (h.route q);
  }

  -- ---- what is known of Revisions

  known_kept : (key : SlotKey) (n : ℕ) (a b : State) → Act settings now n key a b → (q : Name) → Known a q → Known b q
  known_kept key n a b act q known = known_stays settings n now key.controller key.name a b act.before act.effect act.effect q known

  pub known_phase : Phase settings now Settled (λ q st. Known st q) controller.Revision
  known_phase = record {
    keeps = settled_stays;
    acts = λ m n a b act h. go m n a b act act.deed;
    rests = λ m n a sound order e h. known_by a m (λ v at. revision_rests settings now a m v e at);
    stays = λ key n a b act h q known. known_kept key n a b act q known;
  }
    where
      go : (m : Name) (n : ℕ) (a b : State) (act : Act settings now n (slot_key controller.Revision m) a b) → Deed settings now a controller.Revision m act.plan → Known b m
      go m n a b act (RemovesRevision v at gone_ free e) x s = absurd (none_some (gone_here (key_at kind.Revision m) a b (removed_guarded n now a b act.before kind.Revision m v act.plan at e act.written) kind.Revision m refl) s)
      go m n a b act (StatesRevision v at differs e) x s = told_now settings n now controller.Revision m a b act.before act.effect v at (replaced n now a b act.before kind.Revision m v _ act.plan at e act.written) x s

  pub informed_kept : Keeps settings now Informed
  informed_kept key n a b act h = record { settled = settled_stays key n a b act h.settled; known = λ q. known_kept key n a b act q (h.known q) }
