-- The last two of the six turns: Configurations come to name their latest ready Revisions; and the six together.
use Rattle.std.proofs.Common.{◌≡◌, ◌⊎◌, inl, inr, ℕ, true, Some, None, refl, sym, ap, ◌∙◌, subst}
use Rattle.resource_types.specs.declared.names.Kind.TheVariants as kind
use Rattle.resource_types.specs.declared.names.Controller.TheVariants as controller
use Rattle.resource_types.specs.declared.names.Name.{Name}
use Rattle.resource_types.specs.declared.names.SlotKey.{SlotKey}
use Rattle.resource_types.specs.declared.status.ObjectStatus.{ObjectStatus}
use Rattle.resource_types.specs.declared.objects.Object.{Object}
use Rattle.resource_types.specs.Objects.{has_been_ready, status_of}
use Rattle.resource_types.specs.Lookups.{Journal, State, is_given}
use Rattle.control_rules.specs.declared.settings.Settings.{Settings}
use Rattle.control_rules.specs.Slots.{slot_key}
use Rattle.control_rules.specs.Standing.{key_at, standing, is_orphan}
use Rattle.control_rules.specs.Statuses.{is_current, configuration_status}
use Rattle.control_rules.specs.Readings.{stored_status, revision_name, configuration_status_in}
use Rattle.control_rules.specs.Differences.{same_untimed}
use Rattle.control_rules.specs.NextConfiguration.{made_revision}
use Rattle.control_rules.proofs.Same.{same_untimed-exact}
use Rattle.control_settle.specs.Burden.{has_current}
use Rattle.control_settle.specs.Grounds.{AreGrounds}
use Rattle.control_entries.proofs.Changes.{Change, put_here, here_is, stands_other}
use Rattle.control_entries.proofs.Tests.{not_both, some_same}
use Rattle.control_settle.proofs.Deeds.{Deed, RemovesConfiguration, MakesRevision, StatesConfiguration}
use Rattle.control_settle.proofs.Effects.{Act, born, restated, replaced, created}
use Rattle.control_settle.proofs.Children.{NoOrphan}
use Rattle.control_settle.proofs.Settled.{HasChild, Settled}
use Rattle.control_settle.proofs.Known.{Known}
use Rattle.control_settle.proofs.Burdens.{makes_current}
use Rattle.control_settle.proofs.Readies.{Informed, NamesReady, IsReady, IsReadyOrCurrent, ready_stays, ready_or_current_stays, told_names}
use Rattle.control_settle.proofs.Rests.{configuration_rests}
use Rattle.control_settle.proofs.Phases.{one_turn, Keeps, Phase, At, turn_at_kept, phase_turn}
use Rattle.control_settle.proofs.Calming.{Any, Kin, Housed, Promised, Calm, kin_configuration, kin_route, kin_kept, housed, housed_kept, routed, settled_stays, known_phase, informed_kept}

names_ready : (st : State) (o : Object) → same_untimed (status_of o.body) (configuration_status_in has_been_ready stored_status st o) ≡ true → NamesReady st o
unfolding configuration_status
names_ready st o e = ap (λ (s : ObjectStatus). s.ready) (same_untimed-exact (status_of o.body) (configuration_status_in has_been_ready stored_status st o) e)

module _ (settings : Settings) (now : ℕ) where
  told : (m : Name) (n : ℕ) (a b : State) (act : Act settings now n (slot_key controller.Configuration m) a b) → Informed a → (o x : Object) → standing kind.Configuration m a ≡ Some o → standing kind.Configuration m b ≡ Some x → Change (key_at kind.Configuration m) (Some (restated settings n now a kind.Configuration m o)) a b → NamesReady b x
  told m n a b act h o x at e change = told_names settings n now controller.Configuration m a b act.before act.after act.order act.effect h (informed_kept settings now (slot_key controller.Configuration m) n a b act h).known m x o at (here_is _ _ a b change kind.Configuration m x e refl)

  vanished : (m : Name) (n : ℕ) (a b : State) (act : Act settings now n (slot_key controller.Configuration m) a b) → Informed a → (o : Object) → standing kind.Configuration m a ≡ Some o → is_orphan a o ≡ true → ⊥
  vanished m n a b act h o at gone = not_both gone (h.settled.kin m o at)

  current_now : (m : Name) (n : ℕ) (a b : State) (act : Act settings now n (slot_key controller.Configuration m) a b) → (o : Object) → standing kind.Configuration m a ≡ Some o → Change (key_at kind.Revision (revision_name o)) (Some (born n now (made_revision o))) a b → has_current b o ≡ true
  unfolding has_current
  current_now m n a b act o at h = ap (is_given (is_current o)) (put_here _ _ a b h kind.Revision (revision_name o) refl refl) ∙ makes_current settings n now controller.Configuration m a b act.before act.after act.order act.effect o at

  promised_stays : (key : SlotKey) (n : ℕ) (a b : State) → Act settings now n key a b → Informed a → (q : Name) → IsReadyOrCurrent a q → IsReadyOrCurrent b q
  promised_stays key n a b act h q r = ready_or_current_stays settings n now key.controller key.name a b act.before act.after act.order act.effect h (informed_kept settings now key n a b act h).known q r

  ready_kept : (key : SlotKey) (n : ℕ) (a b : State) → Act settings now n key a b → Informed a → (q : Name) → IsReady a q → IsReady b q
  ready_kept key n a b act h q r = ready_stays settings n now key.controller key.name a b act.before act.after act.order act.effect h (informed_kept settings now key n a b act h).known q r

  pub promised_phase : Phase settings now Informed (λ q st. IsReadyOrCurrent st q) controller.Configuration
  promised_phase = record {
    keeps = informed_kept settings now;
    acts = λ m n a b act h. go m n a b act h act.deed;
    rests = λ m n a sound order e h. λ o at. inl (names_ready a o (configuration_rests settings now a m o e at).told);
    stays = λ key n a b act h q r. promised_stays key n a b act h q r;
  }
    where
      go : (m : Name) (n : ℕ) (a b : State) (act : Act settings now n (slot_key controller.Configuration m) a b) → Informed a → Deed settings now a controller.Configuration m act.plan → IsReadyOrCurrent b m
      go m n a b act h (RemovesConfiguration o at gone e) x s = absurd (vanished m n a b act h o at gone)
      go m n a b act h (MakesRevision o at kept none e) x s =
          let change = created n now a b act.before kind.Revision (revision_name o) (made_revision o) act.plan refl none e act.written in
          inr (subst (λ z. has_current b z ≡ true) (some_same (sym (stands_other _ _ a b change kind.Configuration (λ e. cc) m ∙ at) ∙ s)) (current_now m n a b act o at change))
      go m n a b act h (StatesConfiguration o at kept made differs e) x s = inl (told m n a b act h o x at s (replaced n now a b act.before kind.Configuration m o _ act.plan at e act.written))

  promised_kept : Keeps settings now Promised
  promised_kept key n a b act h = record { informed = informed_kept settings now key n a b act h.informed; ready = λ q. promised_stays key n a b act h.informed q (h.ready q) }

  had : (m : Name) (a : State) → Promised a → (o : Object) → standing kind.Configuration m a ≡ Some o → standing kind.Revision (revision_name o) a ≡ None → IsReady a m
  unfolding has_current
  had m a h o at none y s = by (h.ready m o at)
    where
      by : NamesReady a o ⊎ (has_current a o ≡ true) → NamesReady a y
      by (inl r) = subst (NamesReady a) (some_same (sym at ∙ s)) r
      by (inr c) = absurd (let f = sym c ∙ ap (is_given (is_current o)) none in cc)

  pub ready_phase : Phase settings now Promised (λ q st. IsReady st q) controller.Configuration
  ready_phase = record {
    keeps = promised_kept;
    acts = λ m n a b act h. go m n a b act h act.deed;
    rests = λ m n a sound order e h. λ o at. names_ready a o (configuration_rests settings now a m o e at).told;
    stays = λ key n a b act h q r. ready_kept key n a b act h.informed q r;
  }
    where
      go : (m : Name) (n : ℕ) (a b : State) (act : Act settings now n (slot_key controller.Configuration m) a b) → Promised a → Deed settings now a controller.Configuration m act.plan → IsReady b m
      go m n a b act h (RemovesConfiguration o at gone e) x s = absurd (vanished m n a b act h.informed o at gone)
      go m n a b act h (MakesRevision o at kept none e) x s = ready_kept (slot_key controller.Configuration m) n a b act h.informed m (had m a h o at none) x s
      go m n a b act h (StatesConfiguration o at kept made differs e) x s = told m n a b act h.informed o x at s (replaced n now a b act.before kind.Configuration m o _ act.plan at e act.written)

  pub calm_kept : Keeps settings now Calm
  calm_kept key n a b act h = record { informed = informed_kept settings now key n a b act h.informed; ready = λ q. ready_kept key n a b act h.informed q (h.ready q) }

  -- ---- six turns

  module _ (Holds : Journal → Type 0) (g : AreGrounds settings now Holds) where
    abbrev pub turn : Journal → Journal
    turn j = one_turn settings now j

    after_one : (j : Journal) → Holds j → At settings now Holds g Kin (turn j)
    after_one j h = (
      (turn_at_kept settings now Holds g Any (λ key n a b act u. tt) j (h, tt)).0,
      record {
        configuration = phase_turn settings now Holds g Any (λ q st. NoOrphan kind.Configuration st q) controller.Configuration (kin_configuration settings now) j (h, tt);
        route = phase_turn settings now Holds g Any (λ q st. NoOrphan kind.Route st q) controller.Route (kin_route settings now) j (h, tt);
      },
    )

    after_two : (j : Journal) → At settings now Holds g Kin j → At settings now Holds g Housed (turn j)
    after_two j h = let k = turn_at_kept settings now Holds g Kin (kin_kept settings now) j h in (
      k.0,
      record {
        kin = k.1;
        configuration = phase_turn settings now Holds g Kin (λ q st. HasChild kind.Configuration st q) controller.Service (housed settings now) j h;
      },
    )

    after_three : (j : Journal) → At settings now Holds g Housed j → At settings now Holds g Settled (turn j)
    after_three j h = let k = turn_at_kept settings now Holds g Housed (housed_kept settings now) j h in (
      k.0,
      record {
        kin = k.1.kin.configuration;
        kin_route = k.1.kin.route;
        configuration = k.1.configuration;
        route = phase_turn settings now Holds g Housed (λ q st. HasChild kind.Route st q) controller.Service (routed settings now) j h;
      },
    )

    after_four : (j : Journal) → At settings now Holds g Settled j → At settings now Holds g Informed (turn j)
    after_four j h = let k = turn_at_kept settings now Holds g Settled (settled_stays settings now) j h in (
      k.0,
      record {
        settled = k.1;
        known = phase_turn settings now Holds g Settled (λ q st. Known st q) controller.Revision (known_phase settings now) j h;
      },
    )

    after_five : (j : Journal) → At settings now Holds g Informed j → At settings now Holds g Promised (turn j)
    after_five j h = let k = turn_at_kept settings now Holds g Informed (informed_kept settings now) j h in (
      k.0,
      record {
        informed = k.1;
        ready = phase_turn settings now Holds g Informed (λ q st. IsReadyOrCurrent st q) controller.Configuration promised_phase j h;
      },
    )

    after_six : (j : Journal) → At settings now Holds g Promised j → At settings now Holds g Calm (turn j)
    after_six j h = let k = turn_at_kept settings now Holds g Promised promised_kept j h in (
      k.0,
      record {
        informed = k.1.informed;
        ready = phase_turn settings now Holds g Promised (λ q st. IsReady st q) controller.Configuration ready_phase j h;
      },
    )

    -- all is calm after six turns
    pub calm : (j : Journal) → Holds j → At settings now Holds g Calm (turn (turn (turn (turn (turn (turn j))))))
    calm j h = after_six _ (after_five _ (after_four _ (after_three _ (after_two _ (after_one j h)))))
