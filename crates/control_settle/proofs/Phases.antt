-- A phase of turns: what each round keeps, and what the round of a controller on a name gives, a turn gives for each name.
use Rattle.std.proofs.Common.{◌≡◌, ◌⊎◌, inl, inr, ℕ, zero, suc, Bool, true, false, ◌||◌, List, [], ◌∷◌, length, map, None, bytes_eq, refl, sym, ap, ◌∙◌, subst}
use Rattle.std.specs.List.{list_any}
use Rattle.resource_types.specs.declared.names.Controller.{Controller}
use Rattle.resource_types.specs.declared.names.Controller.TheVariants as controller
use Rattle.resource_types.specs.declared.names.Name.{Name}
use Rattle.resource_types.specs.declared.names.SlotKey.{SlotKey}
use Rattle.resource_types.specs.Lookups.{Journal, State, state}
use Rattle.resource_types.proofs.Exact.{left, right, bytes-exact}
use Rattle.resource_types.proofs.Ordered.{state-order}
use Rattle.control_rules.specs.declared.settings.Settings.{Settings}
use Rattle.control_rules.specs.Slots.{same_name, names_for, is_key, keys_for, slot_key}
use Rattle.control_rules.specs.Next.{next_write}
use Rattle.control_rules.specs.Rounds.{extended, round_at, rounds_at, turn_at, turns_at, KnowsKeys}
use Rattle.control_settle.specs.Grounds.{IsSoundState, AreGrounds}
use Rattle.control_settle.proofs.Machine.{In, First, Later, rounds, passes, repeated, Kept}
use Rattle.control_settle.proofs.Waves.{turn, Keyed, turn_keeps, turn_gives}
use Rattle.control_entries.specs.Ground.{IsOrdered}
use Rattle.control_settle.proofs.Effects.{Act, RoundOf, Rests, Acts, round_of}

-- the controllers in the order of their passes
abbrev pub controllers : List Controller
controllers = controller.Service ∷ controller.Configuration ∷ controller.Revision ∷ controller.Collector ∷ controller.Route ∷ []

abbrev pub keys_of : Controller → Journal → List SlotKey
keys_of c j = keys_for c (state j)

listed : (c : Controller) → In c controllers
listed controller.Service = First
listed controller.Configuration = Later First
listed controller.Revision = Later (Later First)
listed controller.Collector = Later (Later (Later First))
listed controller.Route = Later (Later (Later (Later First)))

module _ (settings : Settings) (now : ℕ) where
  abbrev pub round : SlotKey → Journal → Journal
  round = round_at settings now

  rounds_are : (ks : List SlotKey) (j : Journal) → rounds_at settings now ks j ≡ rounds round ks j
  unfolding rounds_at rounds
  rounds_are [] j = refl
  rounds_are (k ∷ ks) j = rounds_are ks (round_at settings now k j)

  abbrev pub one_turn : Journal → Journal
  one_turn j = turn Name round keys_of controllers j

  pub turn_is : (j : Journal) → turn_at settings now j ≡ one_turn j
  unfolding turn_at passes
  turn_is j =
      rounds_are (keys_of controller.Route (collected j)) (collected j) ∙ ap (λ i. rounds round (keys_of controller.Route i) i)
      (rounds_are (keys_of controller.Collector (revised j)) (revised j) ∙ ap (λ i. rounds round (keys_of controller.Collector i) i)
      (rounds_are (keys_of controller.Revision (configured j)) (configured j) ∙ ap (λ i. rounds round (keys_of controller.Revision i) i)
      (rounds_are (keys_of controller.Configuration (served j)) (served j) ∙ ap (λ i. rounds round (keys_of controller.Configuration i) i)
      (rounds_are (keys_of controller.Service j) j))))
    where
      served : Journal → Journal
      served j = rounds_at settings now (keys_of controller.Service j) j

      configured : Journal → Journal
      configured j = rounds_at settings now (keys_of controller.Configuration (served j)) (served j)

      revised : Journal → Journal
      revised j = rounds_at settings now (keys_of controller.Revision (configured j)) (configured j)

      collected : Journal → Journal
      collected j = rounds_at settings now (keys_of controller.Collector (revised j)) (revised j)

  pub turns_are : (t : ℕ) (j : Journal) → turns_at settings now t j ≡ repeated one_turn t j
  unfolding turns_at repeated
  turns_are zero j = refl
  turns_are (suc t) j = turns_are t (turn_at settings now j) ∙ ap (repeated one_turn t) (turn_is j)

  names_one : (a b : Name) → same_name a b ≡ true → a ≡ b
  names_one a b e = λ i. record { space = bytes-exact a.space b.space (left (bytes_eq a.space b.space) (bytes_eq a.name b.name) e) i; name = bytes-exact a.name b.name (right (bytes_eq a.space b.space) (bytes_eq a.name b.name) e) i }

  in_names : (c : Controller) (n : Name) (ns : List Name) → list_any (same_name n) ns ≡ true → In (slot_key c n) (map (slot_key c) ns)
  in_names c n [] e = absurd cc
  in_names c n (x ∷ ns) e = go (same_name n x) refl e (in_names c n ns)
    where
      go : (t : Bool) → same_name n x ≡ t → (t || list_any (same_name n) ns) ≡ true → (list_any (same_name n) ns ≡ true → In (slot_key c n) (map (slot_key c) ns)) → In (slot_key c n) (slot_key c x ∷ map (slot_key c) ns)
      go true g e ih = subst (λ z. In (slot_key c n) (slot_key c z ∷ map (slot_key c) ns)) (names_one n x g) First
      go false g e ih = Later (ih e)

  still : KnowsKeys → (key : SlotKey) (j : Journal) → is_key key (state j) ≡ false → round_at settings now key j ≡ j
  unfolding round_at
  still knows key j e = ap (extended now j key) (knows settings key (state j) now e)

  pub keyed : KnowsKeys → (c : Controller) → Keyed Name round keys_of controllers (slot_key c)
  unfolding is_key
  keyed knows c = record {
    of = c;
    listed = listed c;
    known = λ n j. go n j (is_key (slot_key c n) (state j)) refl;
  }
    where
      go : (n : Name) (j : Journal) (t : Bool) → is_key (slot_key c n) (state j) ≡ t → (In (slot_key c n) (keys_of c j)) ⊎ (round_at settings now (slot_key c n) j ≡ j)
      go n j true e = inl (in_names c n (names_for c (state j)) e)
      go n j false e = inr (still knows (slot_key c n) j e)

  -- ---- phases

  -- what every round keeps
  abbrev pub Keeps : (State → Type 0) → Type 0
  Keeps P = (key : SlotKey) (n : ℕ) (a b : State) → Act settings now n key a b → P a → P b

  -- where P is kept, the controller gives Q of each name
  pub record Phase (P : State → Type 0) (Q : Name → State → Type 0) (c : Controller) : Type 0 where
    pub keeps : Keeps P
    pub acts : (m : Name) (n : ℕ) (a b : State) → Act settings now n (slot_key c m) a b → P a → Q m b
    pub rests : (m : Name) (n : ℕ) (a : State) → IsSoundState n a → IsOrdered a → next_write settings (slot_key c m) a now ≡ None → P a → Q m a
    pub stays : (key : SlotKey) (n : ℕ) (a b : State) → Act settings now n key a b → P a → (m : Name) → Q m a → Q m b

  module _ (Holds : Journal → Type 0) (g : AreGrounds settings now Holds) where
    abbrev pub At : (State → Type 0) → Journal → Type 0
    At P j = Holds j × P (state j)

    pub at_kept : (P : State → Type 0) → Keeps P → Kept round keys_of (At P)
    at_kept P keeps key j h = (g.keeps key j h.0, go (round_of settings now Holds g key j h.0))
      where
        go : RoundOf settings now key j → P (state (round_at settings now key j))
        go (Rests e same) = subst (λ i. P (state i)) (sym same) h.1
        go (Acts act) = keeps key (length j) (state j) (state (round_at settings now key j)) act h.1

    pub turn_at_kept : (P : State → Type 0) → Keeps P → (j : Journal) → At P j → At P (one_turn j)
    turn_at_kept P keeps j h = turn_keeps Name round keys_of controllers (At P) (at_kept P keeps) j h

    pub phase_turn : (P : State → Type 0) (Q : Name → State → Type 0) (c : Controller) → Phase P Q c → (j : Journal) → At P j → (m : Name) → Q m (state (one_turn j))
    phase_turn P Q c phase j h m = turn_gives Name round keys_of controllers (slot_key c) (keyed g.knows c) m (At P) (λ i. Q m (state i)) (record {
      keeps = at_kept P phase.keeps;
      own = λ i k. own i k (round_of settings now Holds g (slot_key c m) i k.0);
      stays = λ key i k q. stay key i k q (round_of settings now Holds g key i k.0);
    }) j h
      where
        own : (i : Journal) → At P i → RoundOf settings now (slot_key c m) i → Q m (state (round_at settings now (slot_key c m) i))
        own i k (Rests e same) = subst (λ z. Q m (state z)) (sym same) (phase.rests m (length i) (state i) (g.sound i k.0) (state-order i) e k.1)
        own i k (Acts act) = phase.acts m (length i) (state i) (state (round_at settings now (slot_key c m) i)) act k.1

        stay : (key : SlotKey) (i : Journal) → At P i → Q m (state i) → RoundOf settings now key i → Q m (state (round_at settings now key i))
        stay key i k q (Rests e same) = subst (λ z. Q m (state z)) (sym same) q
        stay key i k q (Acts act) = phase.stays key (length i) (state i) (state (round_at settings now key i)) act k.1 m q
