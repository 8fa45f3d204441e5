-- The number of turns, from what a round does to what is left.
use Rattle.std.proofs.Common.{◌≡◌, ◌⊎◌, inl, inr, ℕ, suc, ◌+◌, ◌-◌, ◌*◌, ◌≤◌, true, List, length, Some, None, sym, ap, subst, arith}
use Rattle.resource_types.specs.declared.names.Kind.TheVariants as kind
use Rattle.resource_types.specs.declared.names.Controller.TheVariants as controller
use Rattle.resource_types.specs.declared.names.Name.{Name}
use Rattle.resource_types.specs.declared.names.SlotKey.{SlotKey}
use Rattle.resource_types.specs.declared.objects.Object.{Object}
use Rattle.resource_types.specs.Objects.{has_been_ready, status_of}
use Rattle.resource_types.specs.Lookups.{Journal, State, state}
use Rattle.resource_types.proofs.Ordered.{state-order}
use Rattle.control_rules.specs.declared.settings.Settings.{Settings}
use Rattle.control_rules.specs.Slots.{slot_key}
use Rattle.control_rules.specs.Standing.{standing}
use Rattle.control_rules.specs.Readings.{stored_status, revision_status_in, configuration_status_in, service_status_in}
use Rattle.control_rules.specs.Differences.{same_untimed}
use Rattle.control_rules.specs.Next.{next_write}
use Rattle.control_rules.specs.Rounds.{round_at}
use Rattle.control_settle.specs.Burden.{burden}
use Rattle.control_settle.specs.Left.{ahead, left}
use Rattle.control_settle.specs.Grounds.{IsSoundState, AreGrounds}
use Rattle.control_settle.proofs.Machine.{repeated, Ends}
use Rattle.control_settle.proofs.Waves.{turns_keep, Lowers, lowered, Work, linear}
use Rattle.control_entries.specs.Ground.{IsOrdered}
use Rattle.control_settle.proofs.Effects.{Act, RoundOf, Rests, Acts, round_of}
use Rattle.control_settle.proofs.Burdens.{no_heavier}
use Rattle.control_settle.proofs.Phases.{controllers, keys_of, round, one_turn, keyed, Keeps, At, at_kept}
use Rattle.control_settle.proofs.Calming.{Calm}
use Rattle.control_settle.proofs.Readying.{calm_kept}

-- nothing is to be done any more before the statuses of Routes
pub record Fixed (domain : List ℕ) (st : State) : Type 0 where
  pub calm : Calm st
  pub level : (r : Name) → ahead domain st r ≡ 0

-- nothing is left at any Route
abbrev pub Done : List ℕ → State → Type 0
Done domain st = (r : Name) → left domain st r ≡ 0

-- statuses are right
abbrev pub RevisionRight : Name → State → Type 0
RevisionRight q st = (v : Object) → standing kind.Revision q st ≡ Some v → same_untimed (status_of v.body) (revision_status_in st v) ≡ true

abbrev pub ConfigurationRight : Name → State → Type 0
ConfigurationRight q st = (c : Object) → standing kind.Configuration q st ≡ Some c → same_untimed (status_of c.body) (configuration_status_in has_been_ready stored_status st c) ≡ true

abbrev pub ServiceRight : Name → State → Type 0
ServiceRight q st = (s : Object) → standing kind.Service q st ≡ Some s → same_untimed (status_of s.body) (service_status_in stored_status stored_status st q s) ≡ true

-- what a round does to what is left
pub record Rounds (settings : Settings) (now : ℕ) : Type 0 where
  pub ahead_stays : (key : SlotKey) (n : ℕ) (a b : State) → Act settings now n key a b → Calm a → (r : Name) → ahead settings.domain b r ≤ ahead settings.domain a r
  pub ahead_acts : (r : Name) (n : ℕ) (a b : State) → Act settings now n (slot_key controller.Route r) a b → Calm a → ahead settings.domain b r ≤ ahead settings.domain a r - 1
  pub ahead_rests : (r : Name) (n : ℕ) (a : State) → IsSoundState n a → IsOrdered a → next_write settings (slot_key controller.Route r) a now ≡ None → Calm a → ahead settings.domain a r ≡ 0
  pub ahead_most : (n : ℕ) (a : State) (r : Name) → IsSoundState n a → ahead settings.domain a r ≤ 18
  pub left_sum : (key : SlotKey) (n : ℕ) (a b : State) → Act settings now n key a b → Fixed settings.domain a → (r : Name) → left settings.domain b r + burden b ≤ left settings.domain a r + burden a
  pub left_acts : (r : Name) (n : ℕ) (a b : State) → Act settings now n (slot_key controller.Route r) a b → Fixed settings.domain a → left settings.domain b r ≤ left settings.domain a r - 1
  pub left_rests : (r : Name) (n : ℕ) (a : State) → IsSoundState n a → IsOrdered a → next_write settings (slot_key controller.Route r) a now ≡ None → Fixed settings.domain a → left settings.domain a r ≡ 0
  pub left_most : (n : ℕ) (a : State) (r : Name) → IsSoundState n a → left settings.domain a r ≤ suc (burden a)
  pub tables : (key : SlotKey) (n : ℕ) (a b : State) → Act settings now n key a b → Fixed settings.domain a → (r : Name) → standing kind.Table r b ≡ standing kind.Table r a
  pub revision_acts : (q : Name) (n : ℕ) (a b : State) → Act settings now n (slot_key controller.Revision q) a b → Fixed settings.domain a → Done settings.domain a → (suc (burden b) ≤ burden a) ⊎ RevisionRight q b
  pub revision_rests : (q : Name) (n : ℕ) (a : State) → next_write settings (slot_key controller.Revision q) a now ≡ None → RevisionRight q a
  pub revision_stays : (key : SlotKey) (n : ℕ) (a b : State) → Act settings now n key a b → Fixed settings.domain a → Done settings.domain a → (q : Name) → RevisionRight q a → (suc (burden b) ≤ burden a) ⊎ RevisionRight q b
  pub configuration_acts : (q : Name) (n : ℕ) (a b : State) → Act settings now n (slot_key controller.Configuration q) a b → Fixed settings.domain a → Done settings.domain a → ((q : Name) → RevisionRight q a) → (suc (burden b) ≤ burden a) ⊎ ConfigurationRight q b
  pub configuration_rests : (q : Name) (n : ℕ) (a : State) → next_write settings (slot_key controller.Configuration q) a now ≡ None → ConfigurationRight q a
  pub configuration_stays : (key : SlotKey) (n : ℕ) (a b : State) → Act settings now n key a b → Fixed settings.domain a → Done settings.domain a → ((q : Name) → RevisionRight q a) → (q : Name) → ConfigurationRight q a → (suc (burden b) ≤ burden a) ⊎ ConfigurationRight q b
  pub service_acts : (q : Name) (n : ℕ) (a b : State) → Act settings now n (slot_key controller.Service q) a b → Fixed settings.domain a → Done settings.domain a → ((q : Name) → RevisionRight q a) → ((q : Name) → ConfigurationRight q a) → (suc (burden b) ≤ burden a) ⊎ ServiceRight q b
  pub service_rests : (q : Name) (n : ℕ) (a : State) → next_write settings (slot_key controller.Service q) a now ≡ None → ServiceRight q a
  pub service_stays : (key : SlotKey) (n : ℕ) (a b : State) → Act settings now n key a b → Fixed settings.domain a → Done settings.domain a → ((q : Name) → RevisionRight q a) → ((q : Name) → ConfigurationRight q a) → (q : Name) → ServiceRight q a → (suc (burden b) ≤ burden a) ⊎ ServiceRight q b
  pub idle : (key : SlotKey) (n : ℕ) (a b : State) → Act settings now n key a b → Fixed settings.domain a → Done settings.domain a → ((q : Name) → RevisionRight q a) → ((q : Name) → ConfigurationRight q a) → ((q : Name) → ServiceRight q a) → suc (burden b) ≤ burden a

module _ (settings : Settings) (now : ℕ) (rounds : Rounds settings now) (Holds : Journal → Type 0) (g : AreGrounds settings now Holds) where
  act_or_rest : (key : SlotKey) (j : Journal) → Holds j → RoundOf settings now key j
  act_or_rest key j h = round_of settings now Holds g key j h

  -- ---- 18 turns more

  lowers : Lowers Name (round settings now) keys_of controllers (At settings now Holds g Calm) (slot_key controller.Route) (λ r j. ahead settings.domain (state j) r)
  lowers = record {
    keeps = at_kept settings now Holds g Calm (calm_kept settings now);
    stays = λ k j h r. stay k j h r (act_or_rest k j h.0);
    own = λ j h r. own j h r (act_or_rest (slot_key controller.Route r) j h.0);
  }
    where
      stay : (k : SlotKey) (j : Journal) → At settings now Holds g Calm j → (r : Name) → RoundOf settings now k j → ahead settings.domain (state (round_at settings now k j)) r ≤ ahead settings.domain (state j) r
      stay k j h r (Rests e same) = let z = ap (λ i. ahead settings.domain (state i) r) same in omega arith
      stay k j h r (Acts act) = rounds.ahead_stays k _ _ _ act h.1 r

      own : (j : Journal) → At settings now Holds g Calm j → (r : Name) → RoundOf settings now (slot_key controller.Route r) j → ahead settings.domain (state (round_at settings now (slot_key controller.Route r) j)) r ≤ ahead settings.domain (state j) r - 1
      own j h r (Rests e same) = let z = ap (λ i. ahead settings.domain (state i) r) same in let w = rounds.ahead_rests r _ (state j) (g.sound j h.0) (state-order j) e h.1 in omega arith
      own j h r (Acts act) = rounds.ahead_acts r _ _ _ act h.1

  pub fixed_kept : Keeps settings now (Fixed settings.domain)
  fixed_kept key n a b act h = record { calm = calm_kept settings now key n a b act h.calm; level = λ r. let z = rounds.ahead_stays key n a b act h.calm r in let w = h.level r in omega arith }

  pub fixed : (j : Journal) → At settings now Holds g Calm j → At settings now Holds g (Fixed settings.domain) (repeated (one_turn settings now) 18 j)
  fixed j h =
      let k = turns_keep Name (round settings now) keys_of controllers (At settings now Holds g Calm) (at_kept settings now Holds g Calm (calm_kept settings now)) 18 j h in (
        k.0,
        record {
          calm = k.1;
          level = λ r. let z = lowered Name (round settings now) keys_of controllers (At settings now Holds g Calm) (slot_key controller.Route) (λ r j. ahead settings.domain (state j) r) (keyed settings now g.knows controller.Route) lowers 18 j h (λ r. rounds.ahead_most _ (state j) r (g.sound j h.0)) r in omega arith;
        },
      )

  -- ---- the work that is left

  -- a part of it, by what a round is
  abbrev pub Fell : SlotKey → Journal → Type 0
  Fell k j = suc (burden (state (round_at settings now k j))) ≤ burden (state j)

  by_round : (k : SlotKey) (j : Journal) (Q : State → Type 0) → Holds j → (next_write settings k (state j) now ≡ None → Q (state j)) → (Act settings now (length j) k (state j) (state (round_at settings now k j)) → (Fell k j) ⊎ Q (state (round_at settings now k j))) → (Fell k j) ⊎ Q (state (round_at settings now k j))
  by_round k j Q h rests acts = go (act_or_rest k j h)
    where
      go : RoundOf settings now k j → (Fell k j) ⊎ Q (state (round_at settings now k j))
      go (Rests e same) = inr (subst (λ i. Q (state i)) (sym same) (rests e))
      go (Acts act) = acts act

  pub work : Work Name (round settings now) keys_of controllers (λ j. burden (state j)) (At settings now Holds g (Fixed settings.domain)) (λ r j. left settings.domain (state j) r)
      (λ q j. RevisionRight q (state j)) (λ q j. ConfigurationRight q (state j)) (λ q j. ServiceRight q (state j))
      (slot_key controller.Route) (slot_key controller.Revision) (slot_key controller.Configuration) (slot_key controller.Service)
  work = record {
    keeps = at_kept settings now Holds g (Fixed settings.domain) fixed_kept;
    burden = λ k j h. lighter k j (act_or_rest k j h.0);
    sum = λ k j h r. summed k j h r (act_or_rest k j h.0);
    own = λ j h r. own j h r (act_or_rest (slot_key controller.Route r) j h.0);
    revision_own = λ j h z q. by_round (slot_key controller.Revision q) j (RevisionRight q) h.0 (λ e. rounds.revision_rests q 0 (state j) e) (λ act. rounds.revision_acts q _ _ _ act h.1 z);
    revision_stays = λ k j h z q was. by_round k j (RevisionRight q) h.0 (λ e. was) (λ act. rounds.revision_stays k _ _ _ act h.1 z q was);
    configuration_own = λ j h z rr q. by_round (slot_key controller.Configuration q) j (ConfigurationRight q) h.0 (λ e. rounds.configuration_rests q 0 (state j) e) (λ act. rounds.configuration_acts q _ _ _ act h.1 z rr);
    configuration_stays = λ k j h z rr q was. by_round k j (ConfigurationRight q) h.0 (λ e. was) (λ act. rounds.configuration_stays k _ _ _ act h.1 z rr q was);
    service_own = λ j h z rr cr q. by_round (slot_key controller.Service q) j (ServiceRight q) h.0 (λ e. rounds.service_rests q 0 (state j) e) (λ act. rounds.service_acts q _ _ _ act h.1 z rr cr);
    service_stays = λ k j h z rr cr q was. by_round k j (ServiceRight q) h.0 (λ e. was) (λ act. rounds.service_stays k _ _ _ act h.1 z rr cr q was);
    idle = λ k j h z rr cr sr. still k j h z rr cr sr (act_or_rest k j h.0);
  }
    where
      lighter : (k : SlotKey) (j : Journal) → RoundOf settings now k j → burden (state (round_at settings now k j)) ≤ burden (state j)
      lighter k j (Rests e same) = let z = ap (λ i. burden (state i)) same in omega arith
      lighter k j (Acts act) = no_heavier settings _ now k.controller k.name (state j) (state (round_at settings now k j)) act.before act.after act.order act.effect act.effect

      summed : (k : SlotKey) (j : Journal) → At settings now Holds g (Fixed settings.domain) j → (r : Name) → RoundOf settings now k j → left settings.domain (state (round_at settings now k j)) r + burden (state (round_at settings now k j)) ≤ left settings.domain (state j) r + burden (state j)
      summed k j h r (Rests e same) = let z = ap (λ i. burden (state i)) same in let w = ap (λ i. left settings.domain (state i) r) same in omega arith
      summed k j h r (Acts act) = rounds.left_sum k _ _ _ act h.1 r

      own : (j : Journal) → At settings now Holds g (Fixed settings.domain) j → (r : Name) → RoundOf settings now (slot_key controller.Route r) j → (Fell (slot_key controller.Route r) j) ⊎ (left settings.domain (state (round_at settings now (slot_key controller.Route r) j)) r ≤ left settings.domain (state j) r - 1)
      own j h r (Rests e same) = inr (let w = ap (λ i. left settings.domain (state i) r) same in let z = rounds.left_rests r _ (state j) (g.sound j h.0) (state-order j) e h.1 in omega arith)
      own j h r (Acts act) = inr (rounds.left_acts r _ _ _ act h.1)

      still : (k : SlotKey) (j : Journal) → At settings now Holds g (Fixed settings.domain) j → Done settings.domain (state j) → ((q : Name) → RevisionRight q (state j)) → ((q : Name) → ConfigurationRight q (state j)) → ((q : Name) → ServiceRight q (state j)) → RoundOf settings now k j → (Fell k j) ⊎ (round_at settings now k j ≡ j)
      still k j h z rr cr sr (Rests e same) = inr same
      still k j h z rr cr sr (Acts act) = inl (rounds.idle k _ _ _ act h.1 z rr cr sr)

  -- from where all is fixed
  pub from_fixed : (j : Journal) → At settings now Holds g (Fixed settings.domain) j → Ends (one_turn settings now) (7 * burden (state j) + 6) j
  from_fixed j h = linear Name (round settings now) keys_of controllers (λ j. burden (state j)) (At settings now Holds g (Fixed settings.domain)) (λ r j. left settings.domain (state j) r)
      (λ q j. RevisionRight q (state j)) (λ q j. ConfigurationRight q (state j)) (λ q j. ServiceRight q (state j))
      (slot_key controller.Route) (slot_key controller.Revision) (slot_key controller.Configuration) (slot_key controller.Service)
      (keyed settings now g.knows controller.Route) (keyed settings now g.knows controller.Revision) (keyed settings now g.knows controller.Configuration) (keyed settings now g.knows controller.Service)
      work j h (λ r. rounds.left_most _ (state j) r (g.sound j h.0))
