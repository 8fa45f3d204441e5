-- How many turns are enough, and that a settle exists.
use Rattle.std.proofs.Common.{◌≡◌, ◌≢◌, ◌⊎◌, inl, inr, ℕ, zero, suc, ◌+◌, ◌*◌, ◌<◌, ◌≤◌, Bool, true, false, not, ◌&&◌, List, [], ◌∷◌, length, Option, Some, None, refl, sym, ap, ◌∙◌, subst, arith}
use Rattle.std.proofs.lemmas.List.{take_all}
use Rattle.version_store.specs.State.{Grows}
use Rattle.version_store.proofs.Growth.{grows_not, grows_twice, grows_after}
use Rattle.resource_types.specs.declared.names.Kind.TheVariants as kind
use Rattle.resource_types.specs.declared.names.Controller.{Controller}
use Rattle.resource_types.specs.declared.names.Controller.TheVariants as controller
use Rattle.resource_types.specs.declared.names.Name.{Name}
use Rattle.resource_types.specs.declared.names.SlotKey.{SlotKey}
use Rattle.resource_types.specs.declared.objects.Object.{Object}
use Rattle.resource_types.specs.contracts.names.KeyOrd.TheImpl as key_order
use Rattle.resource_types.specs.contracts.item.ObjectItem.TheImpl as object_item
use Rattle.resource_types.specs.Objects.{is_of}
use Rattle.resource_types.specs.Lookups.{Journal, State, state}
use Rattle.control_rules.specs.declared.settings.Settings.{Settings}
use Rattle.control_rules.specs.Slots.{in_order, names_for, keys_for}
use Rattle.control_rules.specs.Standing.{standing}
use Rattle.control_rules.specs.Differences.{ObjectPlan}
use Rattle.control_rules.specs.Next.{next_write}
use Rattle.control_rules.specs.Rounds.{extended, round_at, write_now}
use Rattle.control_settle.specs.Burden.{two_if, one_if, weigh, weight, burden, has_current, is_behind}
use Rattle.control_settle.specs.Grounds.{AreGrounds}
use Rattle.control_settle.proofs.Machine.{repeated, rounds, passes, Ends, ends_later, ends_more, Kept}
use Rattle.control_entries.proofs.Tests.{two_ways}
use Rattle.control_settle.proofs.Waves.{turn_keeps}
use Rattle.control_entries.proofs.Standing.{is_of_parts, is_not}
use Rattle.control_settle.proofs.Phases.{controllers, keys_of, round, one_turn, At}
use Rattle.control_settle.proofs.Calming.{Calm}
use Rattle.control_settle.proofs.Readying.{calm}
use Rattle.control_settle.proofs.Settling.{Fixed, Rounds, fixed, from_fixed}
use Rattle.control_settle.proofs.Burdens.{no_heavier}
use Rattle.control_settle.proofs.Effects.{RoundOf, Rests, Acts, round_of}

-- ---- the burden is at most two for each object

weight_most : (st : State) (o : Object) → weight st o ≤ 2
unfolding weight
weight_most st o = go (is_of kind.Revision o) (is_of kind.Configuration o) (is_of kind.Service o) refl refl refl
  where
    two : (t : Bool) → two_if t ≤ 2
    two true = omega arith
    two false = omega arith

    go : (r c s : Bool) → is_of kind.Revision o ≡ r → is_of kind.Configuration o ≡ c → is_of kind.Service o ≡ s → one_if r + (two_if (c && not (has_current st o)) + two_if (s && is_behind st o (standing kind.Configuration o.key.name st))) ≤ 2
    go true c s e f g =
        let k = (is_of_parts kind.Revision o e).0 in
        rw (sym f ∙ is_not kind.Configuration kind.Revision o k refl, sym g ∙ is_not kind.Service kind.Revision o k refl) (omega arith)
    go false true s e f g = let k = (is_of_parts kind.Configuration o f).0 in rw (sym g ∙ is_not kind.Service kind.Configuration o k refl) (let t = two (not (has_current st o)) in omega arith)
    go false false true e f g = let t = two (is_behind st o (standing kind.Configuration o.key.name st)) in omega arith
    go false false false e f g = omega arith

pub weigh_most : (w : Object → ℕ) (d : ℕ) (st : State) → ((o : Object) → w o ≤ d) → weigh w st ≤ d * length st
unfolding weigh
weigh_most w d [] h = omega arith
weigh_most w d (o ∷ st) h = let a = h o in let b = weigh_most w d st h in grind arith

pub burden_most : (st : State) → burden st ≤ 2 * length st
unfolding burden
burden_most st = weigh_most (weight st) 2 st (weight_most st)

module _ (settings : Settings) (now : ℕ) where
  -- ---- a turn of nothing

  no_keys : (c : Controller) (st : State) → st ≡ [] → keys_for c st ≡ []
  unfolding names_for in_order
  no_keys controller.Service st e = rw e refl
  no_keys controller.Configuration st e = rw e refl
  no_keys controller.Revision st e = rw e refl
  no_keys controller.Collector st e = rw e refl
  no_keys controller.Route st e = rw e refl

  idle_passes : (cs : List Controller) (j : Journal) → ((c : Controller) → keys_of c j ≡ []) → passes (round settings now) keys_of cs j ≡ j
  unfolding passes rounds
  idle_passes [] j h = refl
  idle_passes (c ∷ cs) j h = ap (λ ks. passes (round settings now) keys_of cs (rounds (round settings now) ks j)) (h c) ∙ idle_passes cs j h

  pub empty_turn : (j : Journal) → state j ≡ [] → one_turn settings now j ≡ j
  empty_turn j e = idle_passes controllers j (λ c. no_keys c (state j) e)

  -- ---- journals grow

  round_grows : (key : SlotKey) (j : Journal) → Grows j (round_at settings now key j)
  unfolding round_at
  round_grows key j = go (next_write settings key (state j) now)
    where
      go : (p : Option ObjectPlan) → Grows j (extended now j key p)
      go None = grows_not j
      go (Some plan) = grows_after object_item.ghosts key_order.ghosts.cmp j (write_now now j key plan)

  turn_grows : (j : Journal) → Grows j (one_turn settings now j)
  turn_grows j = turn_keeps Name (round settings now) keys_of controllers (λ i. Grows j i) (λ key i h. grows_twice j i (round_at settings now key i) h (round_grows key i)) j (grows_not j)

  -- a turn makes an entry, or changes nothing
  pub still_or_not : (j : Journal) → (one_turn settings now j ≡ j) ⊎ (one_turn settings now j ≢ j)
  still_or_not j = go (two_ways (length j) (length (one_turn settings now j)))
    where
      go : (suc (length j) ≤ length (one_turn settings now j)) ⊎ (length (one_turn settings now j) ≤ length j) → (one_turn settings now j ≡ j) ⊎ (one_turn settings now j ≢ j)
      go (inl longer) = inr (λ e. (let l = ap length e in absurd (omega arith)))
      go (inr same) = inl (sym (take_all (length j) (one_turn settings now j) same) ∙ (turn_grows j).same)

  -- ---- the first turn that is still

  pub record FirstStill (j : Journal) (f : ℕ) : Type 0 where
    pub place : ℕ
    pub below : suc place ≤ f
    pub still : one_turn settings now (repeated (one_turn settings now) place j) ≡ repeated (one_turn settings now) place j
    pub earlier : (i : ℕ) → i < place → one_turn settings now (repeated (one_turn settings now) i j) ≢ repeated (one_turn settings now) i j

  abbrev StillAt : Journal → ℕ → Type 0
  StillAt j i = one_turn settings now (repeated (one_turn settings now) i j) ≡ repeated (one_turn settings now) i j

  search_still : (j : Journal) (f : ℕ) → FirstStill j f ⊎ ((i : ℕ) → i < f → StillAt j i → ⊥)
  search_still j zero = inr (λ i lt e. absurd (omega arith))
  search_still j (suc f) = go (search_still j f)
    where
      go : FirstStill j f ⊎ ((i : ℕ) → i < f → StillAt j i → ⊥) → FirstStill j (suc f) ⊎ ((i : ℕ) → i < suc f → StillAt j i → ⊥)
      go (inl s) = inl (record { place = s.place; below = let b = s.below in omega arith; still = s.still; earlier = s.earlier })
      go (inr none) = by (still_or_not (repeated (one_turn settings now) f j))
        where
          by : StillAt j f ⊎ (StillAt j f → ⊥) → FirstStill j (suc f) ⊎ ((i : ℕ) → i < suc f → StillAt j i → ⊥)
          by (inl e) = inl (record { place = f; below = omega arith; still = e; earlier = λ i lt s. none i lt s })
          by (inr not_e) = inr (λ i lt s. on i s (two_ways i f) lt)
            where
              on : (i : ℕ) → StillAt j i → (suc i ≤ f) ⊎ (f ≤ i) → i < suc f → ⊥
              on i s (inl less) lt = none i less s
              on i s (inr more) lt = let e : i ≡ f = omega arith in not_e (subst (StillAt j) e s)

  pub first_still : (j : Journal) (f : ℕ) → Ends (one_turn settings now) f j → FirstStill j f
  first_still j f e = go (search_still j f)
    where
      go : FirstStill j f ⊎ ((i : ℕ) → i < f → StillAt j i → ⊥) → FirstStill j f
      go (inl s) = s
      go (inr none) = absurd (none e.place e.below e.idle)

  -- ---- enough turns

  module _ (work : Rounds settings now) (Holds : Journal → Type 0) (g : AreGrounds settings now Holds) where
    -- the burden doesn't rise
    round_lighter : (b : ℕ) → Kept (round settings now) keys_of (λ i. Holds i × (burden (state i) ≤ b))
    round_lighter b key i h = (g.keeps key i h.0, go (round_of settings now Holds g key i h.0))
      where
        go : RoundOf settings now key i → burden (state (round_at settings now key i)) ≤ b
        go (Rests e same) = let z = ap (λ k. burden (state k)) same in let w = h.1 in omega arith
        go (Acts act) = let z = no_heavier settings _ now key.controller key.name (state i) (state (round_at settings now key i)) act.before act.after act.order act.effect act.effect in let w = h.1 in omega arith

    turn_lighter : (b : ℕ) (j : Journal) → Holds j × (burden (state j) ≤ b) → Holds (one_turn settings now j) × (burden (state (one_turn settings now j)) ≤ b)
    turn_lighter b j h = turn_keeps Name (round settings now) keys_of controllers (λ i. Holds i × (burden (state i) ≤ b)) (round_lighter b) j h

    ends_repeated : (t f : ℕ) (j : Journal) → Ends (one_turn settings now) f (repeated (one_turn settings now) t j) → Ends (one_turn settings now) (t + f) j
    unfolding repeated
    ends_repeated zero f j e = ends_more (one_turn settings now) f (0 + f) j (omega arith) e
    ends_repeated (suc t) f j e = ends_more (one_turn settings now) (suc (t + f)) (suc t + f) j (omega arith) (ends_later (one_turn settings now) (t + f) j (ends_repeated t f (one_turn settings now j) e))

    lighter_repeated : (t b : ℕ) (j : Journal) → Holds j × (burden (state j) ≤ b) → burden (state (repeated (one_turn settings now) t j)) ≤ b
    unfolding repeated
    lighter_repeated zero b j h = h.1
    lighter_repeated (suc t) b j h = lighter_repeated t b (one_turn settings now j) (turn_lighter b j h)

    -- all is fixed after 24 turns
    pub six_turns : (j : Journal) → repeated (one_turn settings now) 6 j ≡ one_turn settings now (one_turn settings now (one_turn settings now (one_turn settings now (one_turn settings now (one_turn settings now j)))))
    unfolding repeated
    six_turns j = refl

    pub calm_after : (j : Journal) → Holds j → At settings now Holds g Calm (repeated (one_turn settings now) 6 j)
    calm_after j h = subst (At settings now Holds g Calm) (sym (six_turns j)) (calm settings now Holds g j h)

    pub fixed_after : (j : Journal) → Holds j → At settings now Holds g (Fixed settings.domain) (repeated (one_turn settings now) 18 (repeated (one_turn settings now) 6 j))
    fixed_after j h = fixed settings now work Holds g (repeated (one_turn settings now) 6 j) (calm_after j h)

    pub ends : (j : Journal) → Holds j → Ends (one_turn settings now) (30 + 7 * burden (state j)) j
    ends j h =
        let light : burden (state (repeated (one_turn settings now) 18 (repeated (one_turn settings now) 6 j))) ≤ burden (state j) = lighter_repeated 18 (burden (state j)) (repeated (one_turn settings now) 6 j) ((calm_after j h).0, lighter_repeated 6 (burden (state j)) j (h, omega arith)) in
        ends_more (one_turn settings now) _ (30 + 7 * burden (state j)) j (omega arith)
        (ends_repeated 6 _ j (ends_repeated 18 _ (repeated (one_turn settings now) 6 j) (from_fixed settings now work Holds g (repeated (one_turn settings now) 18 (repeated (one_turn settings now) 6 j)) (fixed_after j h))))
