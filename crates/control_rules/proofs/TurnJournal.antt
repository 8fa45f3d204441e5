-- A turn does to the journal what its rounds do, whatever the slots held; the settings and the moment stay.
use Rattle.std.proofs.Common.{◌≡◌, ℕ, zero, suc, Bool, true, false, cond, List, [], ◌∷◌, Option, Some, None, refl, ap, ◌∙◌}
use Rattle.resource_types.specs.declared.names.SlotKey.{SlotKey}
use Rattle.resource_types.specs.declared.names.Controller.{Controller}
use Rattle.resource_types.specs.declared.names.Controller.TheVariants as controller
use Rattle.resource_types.specs.Lookups.{Journal, state}
use Rattle.control_rules.specs.declared.slots.StepOutcome.TheVariants as outcome
use Rattle.control_rules.specs.Differences.{ObjectPlan}
use Rattle.control_rules.specs.Slots.{is_key, keys_for, Look, look_of, idle_at, Plane, present}
use Rattle.control_rules.specs.Steps.{plan_of, drops, plans, writes, goes_on, step_of}
use Rattle.control_rules.specs.Turns.{step_held, step_again, look_plan_write, round, rounds, pass, turn_of, turns_of}
use Rattle.control_rules.specs.Rounds.{round_at, rounds_at, pass_at, turn_at, turns_at, KnowsKeys, TurnsFollow}
use Rattle.control_rules.proofs.RoundJournal.{round_journal}

-- the settings and the moment are those of w
pub record Keeps (w v : Plane) : Type 0 where
  pub settings : v.settings ≡ w.settings
  pub now : v.now ≡ w.now

keeps_by : (w v x : Plane) → Keeps w v → Keeps v x → Keeps w x
keeps_by w v x a b = record { settings = b.settings ∙ a.settings; now = b.now ∙ a.now }

plans_keep : (v : Plane) (l : Look) (p : Option ObjectPlan) → Keeps v (plans v l p).plane
plans_keep v l None = record { settings = refl; now = refl }
plans_keep v l (Some plan) = record { settings = refl; now = refl }

writes_keep : (v : Plane) (l : Look) (p : Option ObjectPlan) → Keeps v (writes v l p).plane
writes_keep v l None = record { settings = refl; now = refl }
writes_keep v l (Some plan) = record { settings = refl; now = refl }

goes_keep : (v : Plane) (key : SlotKey) (h : Option Look) → Keeps v (goes_on v key h).plane
goes_keep v key None = record { settings = refl; now = refl }
goes_keep v key (Some l) = go l.planned
  where
    go : (b : Bool) → Keeps v (cond b (writes v l (plan_of v l)) (plans v l (plan_of v l))).plane
    go true = writes_keep v l (plan_of v l)
    go false = plans_keep v l (plan_of v l)

pub step_keeps : (v : Plane) (key : SlotKey) → Keeps v (step_of v key).plane
unfolding step_of
step_keeps v key = go (is_key key (present v))
  where
    go : (b : Bool) → Keeps v (cond b (goes_on v key (look_of key v.slots)) (drops v key outcome.Unknown)).plane
    go true = goes_keep v key (look_of key v.slots)
    go false = record { settings = refl; now = refl }

again_keeps : (v : Plane) (key : SlotKey) → Keeps v (step_again key v)
again_keeps v key = go (look_of key v.slots)
  where
    go : (h : Option Look) → Keeps v (step_held v key h)
    go None = record { settings = refl; now = refl }
    go (Some l) = step_keeps v key

pub round_keeps : (key : SlotKey) (w : Plane) → Keeps w (round key w)
unfolding round
round_keeps key w = go (is_key key (present w))
  where
    first : Plane
    first = (step_of (record w { slots = idle_at key w.slots }) key).plane

    go : (b : Bool) → Keeps w (cond b (look_plan_write key w) w)
    go false = record { settings = refl; now = refl }
    go true =
        keeps_by w first (look_plan_write key w) (let k = step_keeps (record w { slots = idle_at key w.slots }) key in record { settings = k.settings; now = k.now })
        (keeps_by first (step_again key first) (look_plan_write key w) (again_keeps first key) (again_keeps (step_again key first) key))

-- a plane that follows w: its settings and its moment, and this journal
pub record Follows (w v : Plane) (j : Journal) : Type 0 where
  pub keeps : Keeps w v
  pub journal : v.journal ≡ j

module _ (knows : KnowsKeys) where
  pub rounds_follow : (w : Plane) (keys : List SlotKey) (v : Plane) (j : Journal) → Follows w v j → Follows w (rounds keys v) (rounds_at w.settings w.now keys j)
  unfolding rounds rounds_at
  rounds_follow w [] v j f = f
  rounds_follow w (key ∷ keys) v j f = rounds_follow w keys (round key v) _ (record {
    keeps = keeps_by w v (round key v) f.keeps (round_keeps key v);
    journal = round_journal knows v key ∙ (λ i. round_at (f.keeps.settings i) (f.keeps.now i) key (f.journal i));
  })

  pass_follows : (w : Plane) (c : Controller) (v : Plane) (j : Journal) → Follows w v j → Follows w (pass c v) (pass_at w.settings w.now c j)
  pass_follows w c v j f = let g = rounds_follow w (keys_for c (present v)) v j f in record {
    keeps = g.keeps;
    journal = g.journal ∙ ap (λ (i : Journal). rounds_at w.settings w.now (keys_for c (state i)) j) f.journal;
  }

  pub turn_follows : (w v : Plane) (j : Journal) → Follows w v j → Follows w (turn_of v) (turn_at w.settings w.now j)
  unfolding turn_of turn_at
  turn_follows w v j f =
      pass_follows w controller.Route _ _
      (pass_follows w controller.Collector _ _
      (pass_follows w controller.Revision _ _
      (pass_follows w controller.Configuration _ _
      (pass_follows w controller.Service v j f))))

  pub turns_follow : (w : Plane) (t : ℕ) (v : Plane) (j : Journal) → Follows w v j → Follows w (turns_of t v) (turns_at w.settings w.now t j)
  unfolding turns_of turns_at
  turns_follow w zero v j f = f
  turns_follow w (suc t) v j f = turns_follow w t (turn_of v) (turn_at w.settings w.now j) (turn_follows w v j f)

  -- the journal after so many turns
  pub turns_journal : TurnsFollow
  turns_journal w t = (turns_follow w t w w.journal (record { keeps = record { settings = refl; now = refl }; journal = refl })).journal
