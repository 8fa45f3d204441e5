-- A plane stays kept where its moment moves on, its cursor moves, a slot is dropped, or an idle slot looks.
use Rattle.std.proofs.Common.{◌≡◌, ℕ, ◌≤◌, Bool, true, false, cond, [], ◌∷◌, length, Option, Some, None, sym, ◌∙◌, subst, arith}
use Rattle.std.specs.List.{list_any}
use Rattle.std.specs.Ordering.{is_eq}
use Rattle.version_store.proofs.Keyed.{find-put, find-without, order-put, order-without}
use Rattle.resource_types.specs.declared.names.Controller.{Controller}
use Rattle.resource_types.specs.declared.names.Controller.TheVariants as controller
use Rattle.resource_types.specs.declared.names.Name.{Name}
use Rattle.resource_types.specs.declared.names.SlotKey.{SlotKey}
use Rattle.resource_types.specs.declared.manifests.Manifest.{Manifest}
use Rattle.resource_types.specs.contracts.names.SlotKeyOrd.TheImpl as slot_order
use Rattle.resource_types.specs.contracts.names.SlotKeyOrd.TheImpl.Laws as slot_laws
use Rattle.resource_types.specs.Lookups.{Journal, state}
use Rattle.serve_names.specs.Moments.{last_moment}
use Rattle.control_rules.specs.Slots.{same_name, in_order, names_for, is_key, Look, Slots, look_of, held, idle_at, Plane, present}
use Rattle.control_rules.specs.Steps.{looks}
use Rattle.control_rules.specs.Facts.{LooksBack, IsKept}

-- what a slot holds looks back, whatever else the slots hold
same_look : (w : Plane) (s : Slots) (c : Option SlotKey) (l : Look) → LooksBack w l → LooksBack (record w { slots = s; cursor = c }) l
same_look w s c l h = record { some = h.some; before = h.before; from = h.from; upto = h.upto; past = h.past; alone = h.alone; planned = h.planned }

module _ (is_good : Manifest → Bool) where
  pub points_kept : (w : Plane) (c : Option SlotKey) → IsKept is_good w → IsKept is_good (record w { cursor = c })
  points_kept w c k = record { lawful = k.lawful; past = k.past; clock = k.clock; ordered = k.ordered; slots = λ key l e. same_look w w.slots c l (k.slots key l e) }

  pub moves_kept : (w : Plane) (now : ℕ) → w.now ≤ now → now ≤ last_moment → IsKept is_good w → IsKept is_good (record w { now = now })
  moves_kept w now le clock k = record {
    lawful = k.lawful;
    past = let p = k.past in omega arith;
    clock = clock;
    ordered = k.ordered;
    slots = λ key l e. let h = k.slots key l e in record { some = h.some; before = h.before; from = h.from; upto = h.upto; past = let p = h.past in omega arith; alone = h.alone; planned = h.planned };
  }

  pub drops_kept : (w : Plane) (key : SlotKey) → IsKept is_good w → IsKept is_good (record w { slots = idle_at key w.slots })
  drops_kept w key k = record {
    lawful = k.lawful;
    past = k.past;
    clock = k.clock;
    ordered = order-without (λ (l : Look). l.key) slot_order.ghosts.cmp slot_laws.total-law key w.slots k.ordered;
    slots = λ q l e. go q l (is_eq (slot_order.ghosts.cmp key q)) (sym (find-without (λ (l : Look). l.key) slot_order.ghosts.cmp slot_laws.total-law q key w.slots) ∙ e);
  }
    where
      go : (q : SlotKey) (l : Look) (b : Bool) → cond b None (look_of q w.slots) ≡ Some l → LooksBack (record w { slots = idle_at key w.slots }) l
      go q l true e = absurd cc
      go q l false e = same_look w (idle_at key w.slots) w.cursor l (k.slots q l e)

  -- there is no key where nothing was written
  no_name : (c : Controller) (n : Name) → list_any (same_name n) (names_for c []) ≡ true → ⊥
  unfolding names_for in_order
  no_name controller.Service n h = cc
  no_name controller.Configuration n h = cc
  no_name controller.Revision n h = cc
  no_name controller.Collector n h = cc
  no_name controller.Route n h = cc

  some_entry : (j : Journal) (key : SlotKey) → is_key key (state j) ≡ true → 1 ≤ length j
  unfolding is_key
  some_entry [] key h = absurd (no_name key.controller key.name h)
  some_entry (e ∷ j) key h = omega arith

  pub looks_kept : (w : Plane) (key : SlotKey) → is_key key (present w) ≡ true → IsKept is_good w → IsKept is_good (looks w key).plane
  looks_kept w key known k = record {
    lawful = k.lawful;
    past = k.past;
    clock = k.clock;
    ordered = order-put (λ (l : Look). l.key) slot_order.ghosts.cmp slot_laws.total-law look w.slots k.ordered;
    slots = λ q l e. go q l (is_eq (slot_order.ghosts.cmp key q)) (sym (find-put (λ (l : Look). l.key) slot_order.ghosts.cmp slot_laws.total-law q look w.slots) ∙ e);
  }
    where
      look : Look
      look = record { key = key; planned = false; seen = length w.journal; read_at = w.now }

      new : LooksBack (looks w key).plane look
      new = record {
        some = some_entry w.journal key known;
        before = omega arith;
        from = k.past;
        upto = λ l. absurd (omega arith);
        past = omega arith;
        alone = λ i f a b. absurd (omega arith);
        planned = λ e. absurd cc;
      }

      go : (q : SlotKey) (l : Look) (b : Bool) → cond b (Some look) (look_of q w.slots) ≡ Some l → LooksBack (looks w key).plane l
      go q l true e = subst (LooksBack (looks w key).plane) (same e) new
        where
          same : Some look ≡ Some l → look ≡ l
          same s = cc
      go q l false e = same_look w (held look w.slots) w.cursor l (k.slots q l e)
