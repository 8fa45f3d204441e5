-- A turn that makes no entry leaves nothing to do.
use Rattle.std.proofs.Common.{◌≡◌, ℕ, ◌≤◌, Bool, true, false, List, [], ◌∷◌, length, Option, Some, None, refl, sym, ap, ◌∙◌, subst, arith}
use Rattle.version_store.specs.State.{Grows}
use Rattle.version_store.proofs.Growth.{grows_not, grows_twice, grows_after}
use Rattle.resource_types.specs.declared.names.Controller.{Controller}
use Rattle.resource_types.specs.declared.names.Controller.TheVariants as controller
use Rattle.resource_types.specs.declared.names.SlotKey.{SlotKey}
use Rattle.resource_types.specs.contracts.names.KeyOrd.TheImpl as key_order
use Rattle.resource_types.specs.contracts.item.ObjectItem.TheImpl as object_item
use Rattle.resource_types.specs.Lookups.{Journal, state}
use Rattle.control_rules.specs.declared.settings.Settings.{Settings}
use Rattle.control_rules.specs.Differences.{ObjectPlan}
use Rattle.control_rules.specs.Next.{next_write}
use Rattle.control_rules.specs.Slots.{same_name, names_for, slot_key, is_key, keys_for}
use Rattle.control_rules.specs.Rounds.{write_now, extended, round_at, rounds_at, pass_at, turn_at}
use Rattle.control_rules.specs.Quiet.{IsQuiet}
use Rattle.control_entries.specs.Ground.{IsStamped}
use Rattle.control_entries.proofs.Tests.{name_exact}
use Rattle.control_entries.proofs.Each.{Each, each_map, Passing, any_each}
use Rattle.control_entries.proofs.Names.{knows_keys}
use Rattle.control_entries.proofs.Rounds.{IsRound, Rests, Writes, a_round}

-- ---- rounds and passes

module _ (settings : Settings) (now : ℕ) where
  round_grows : (key : SlotKey) (j : Journal) → Grows j (round_at settings now key j)
  unfolding round_at
  round_grows key j = go (next_write settings key (state j) now)
    where
      go : (p : Option ObjectPlan) → Grows j (extended now j key p)
      go None = grows_not j
      go (Some plan) = grows_after object_item.ghosts key_order.ghosts.cmp j (write_now now j key plan)

  rounds_grow : (keys : List SlotKey) (j : Journal) → Grows j (rounds_at settings now keys j)
  unfolding rounds_at
  rounds_grow [] j = grows_not j
  rounds_grow (key ∷ keys) j = grows_twice j (round_at settings now key j) _ (round_grows key j) (rounds_grow keys (round_at settings now key j))

  -- a pass of each of these controllers in turn
  abbrev passes_at : List Controller → Journal → Journal
  passes_at [] j = j
  passes_at (c ∷ cs) j = passes_at cs (pass_at settings now c j)

  passes_grow : (cs : List Controller) (j : Journal) → Grows j (passes_at cs j)
  passes_grow [] j = grows_not j
  passes_grow (c ∷ cs) j = grows_twice j (pass_at settings now c j) _ (rounds_grow (keys_for c (state j)) j)
      (passes_grow cs (pass_at settings now c j))

  -- the controllers in the order of a turn
  abbrev all_controllers : List Controller
  all_controllers = controller.Service ∷ controller.Configuration ∷ controller.Revision ∷ controller.Collector ∷ controller.Route ∷ []

  -- a turn adds at the end, if at all
  pub turn_grows : (j : Journal) → Grows j (turn_at settings now j)
  unfolding turn_at
  turn_grows j = passes_grow all_controllers j

  -- ---- where nothing is to be done, a turn makes no entry

  module _ (j : Journal) (quiet : IsQuiet settings (state j) now) where
    rounds_still : (keys : List SlotKey) → rounds_at settings now keys j ≡ j
    unfolding rounds_at round_at
    rounds_still [] = refl
    rounds_still (key ∷ keys) = ap (λ p. rounds_at settings now keys (extended now j key p)) (quiet key) ∙ rounds_still keys

    passes_still : (cs : List Controller) → passes_at cs j ≡ j
    passes_still [] = refl
    passes_still (c ∷ cs) = ap (passes_at cs) (rounds_still (keys_for c (state j))) ∙ passes_still cs

    pub quiet_is_still : turn_at settings now j ≡ j
    unfolding turn_at
    quiet_is_still = passes_still all_controllers

  -- ---- where a turn makes no entry, nothing is to be done

  module _ (j : Journal) (ground : IsStamped j) where
    abbrev IsIdle : SlotKey → Type 0
    IsIdle key = next_write settings key (state j) now ≡ None

    record AreIdle (keys : List SlotKey) : Type 0 where
      same : rounds_at settings now keys j ≡ j
      none : Each IsIdle keys

    rounds_rest : (keys : List SlotKey) → length (rounds_at settings now keys j) ≤ length j → AreIdle keys
    unfolding rounds_at
    rounds_rest [] h = record { same = refl; none = tt }
    rounds_rest (key ∷ keys) h = go (a_round settings now j ground key) (rounds_rest keys)
      where
        go : IsRound settings now j ground key → (length (rounds_at settings now keys j) ≤ length j → AreIdle keys) → AreIdle (key ∷ keys)
        go (Writes plan e longer) ih = absurd (let g = (rounds_grow keys (round_at settings now key j)).longer in omega arith)
        go (Rests none same) ih = at (ih (let l = ap (λ k. length (rounds_at settings now keys k)) same in omega arith))
          where
            at : AreIdle keys → AreIdle (key ∷ keys)
            at r = record { same = ap (rounds_at settings now keys) same ∙ r.same; none = (none, r.none) }

    abbrev HasNothing : Controller → Type 0
    HasNothing c = Each IsIdle (keys_for c (state j))

    passes_rest : (cs : List Controller) → length (passes_at cs j) ≤ length j → Each HasNothing cs
    passes_rest [] h = tt
    passes_rest (c ∷ cs) h = go (rounds_rest (keys_for c (state j)) (let g = (passes_grow cs (pass_at settings now c j)).longer in omega arith))
        (passes_rest cs)
      where
        go : AreIdle (keys_for c (state j)) → (length (passes_at cs j) ≤ length j → Each HasNothing cs) → HasNothing c × Each HasNothing cs
        go r ih = (r.none, ih (subst (λ k. length (passes_at cs k) ≤ length j) r.same h))

    nothing_for : Each HasNothing all_controllers → (c : Controller) → HasNothing c
    nothing_for h controller.Service = h.0
    nothing_for h controller.Configuration = h.1.0
    nothing_for h controller.Revision = h.1.1.0
    nothing_for h controller.Collector = h.1.1.1.0
    nothing_for h controller.Route = h.1.1.1.1.0

    known_idle : Each HasNothing all_controllers → (key : SlotKey) → is_key key (state j) ≡ true → IsIdle key
    unfolding is_key
    known_idle h key k = go (any_each (λ n. IsIdle (slot_key key.controller n)) (same_name key.name) (names_for key.controller (state j)) k
        (each_map IsIdle (slot_key key.controller) (names_for key.controller (state j)) (nothing_for h key.controller)))
      where
        go : Passing (λ n. IsIdle (slot_key key.controller n)) (same_name key.name) → IsIdle key
        go p = subst (λ n. IsIdle (slot_key key.controller n)) (sym (name_exact key.name p.one p.passes)) p.holds

    -- a turn that makes the journal no longer leaves a quiet state
    pub short_turn_is_quiet : length (turn_at settings now j) ≤ length j → IsQuiet settings (state j) now
    unfolding turn_at
    short_turn_is_quiet h key = go (is_key key (state j)) refl
      where
        go : (b : Bool) → is_key key (state j) ≡ b → IsIdle key
        go true e = known_idle (passes_rest all_controllers h) key e
        go false e = knows_keys settings key (state j) now e

    -- so does one that makes no entry
    pub still_is_quiet : turn_at settings now j ≡ j → IsQuiet settings (state j) now
    still_is_quiet e = short_turn_is_quiet (let l = ap length e in omega arith)
