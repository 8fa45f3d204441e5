-- A plane keeps what planes keep where the clock moves on, and where a client writes.
use Rattle.std.proofs.Common.{◌≡◌, ℕ, ◌≤◌, List, length, Option, sym, ap, subst, ◌∙◌}
use Rattle.std.specs.Option.{option_map}
use Rattle.version_store.specs.State.{Grows}
use Rattle.version_store.proofs.Growth.{state_at-grows}
use Rattle.resource_types.specs.declared.names.Actor.TheVariants as actor
use Rattle.serve_names.specs.Moments.{last_moment}
use Rattle.control_rules.specs.Steps.{client_write_of}
use Rattle.resource_types.specs.declared.names.SlotKey.{SlotKey}
use Rattle.manifest_intake.specs.Good.{is_good}
use Rattle.resource_types.specs.declared.objects.Object.{Object}
use Rattle.resource_types.specs.contracts.names.KeyOrd.TheImpl as key_order
use Rattle.resource_types.specs.Lookups.{Journal}
use Rattle.control_rules.specs.declared.settings.Settings.{Settings}
use Rattle.control_rules.specs.Differences.{ObjectPlan}
use Rattle.control_rules.specs.Next.{next_write}
use Rattle.control_rules.specs.Slots.{entries_in, Plane, present}
use Rattle.control_rules.specs.Lawful.{MayWrite}
use Rattle.control_rules.specs.Facts.{IsKept}
use Rattle.control_entries.proofs.KeptEvents.{client_kept}
use Rattle.control_rules.proofs.KeptPlanes.{moves_kept, points_kept}
use Rattle.step_scheduler.specs.Rows.{Row, look_in}
use Rattle.step_scheduler.specs.Planes.{plane_of, AreMeant, AreSlots}
use Rattle.step_scheduler.proofs.Rows.{look-found}

module _ (settings : Settings) (journal : Journal) (now : ℕ) (rows : List Row) (cursor : Option SlotKey) (k : AreSlots settings journal now rows cursor) where
  -- the moment moves on
  pub clock_moves : (later : ℕ) → now ≤ later → later ≤ last_moment → AreSlots settings journal later rows cursor
  clock_moves later le clock = record { kept = moves_kept is_good (plane_of settings journal now rows cursor) later le clock k.kept; meant = k.meant }

  -- what slots hold means the same in a journal that grew
  pub meant_later : (journal' : Journal) → Grows journal journal' → AreMeant (plane_of settings journal' now rows cursor) rows
  meant_later journal' grows q row e =
      let seen = k.kept.slots q (look_in row) (look-found q rows ∙ ap (option_map look_in) e) in
      k.meant q row e
      ∙ sym (ap (λ st. next_write settings row.key st row.read_at) (state_at-grows (λ (o : Object). o.key) key_order.ghosts.cmp journal journal' row.seen grows seen.before))

  -- the journal grows as a client's write makes it
  pub client_writes : (journal' : Journal) → Grows journal journal' → (v : Plane) → plane_of settings journal' now rows cursor ≡ v → IsKept is_good v → AreSlots settings journal' now rows cursor
  client_writes journal' grows v e kept = record { kept = subst (IsKept is_good) (sym e) kept; meant = meant_later journal' grows }

  -- the journal of a client's write
  client_is : (journal' : Journal) (plan : ObjectPlan) (n : ℕ)
      → journal' ≡ entries_in journal (record { plan = plan; actor = actor.Client; seen = n; read_at = now; moment = now }) → n ≡ length journal
      → plane_of settings journal' now rows cursor ≡ (client_write_of (plane_of settings journal now rows cursor) plan).plane
  client_is journal' plan n e count =
      ap (λ (j : Journal). record (plane_of settings journal now rows cursor) { journal = j })
      (e ∙ ap (λ m. entries_in journal (record { plan = plan; actor = actor.Client; seen = m; read_at = now; moment = now })) count)

  -- a client's write leaves what planes keep
  pub client_plane : (journal' : Journal) → Grows journal journal' → (plan : ObjectPlan) (n : ℕ)
      → journal' ≡ entries_in journal (record { plan = plan; actor = actor.Client; seen = n; read_at = now; moment = now }) → n ≡ length journal
      → MayWrite is_good (present (plane_of settings journal now rows cursor)) plan → AreSlots settings journal' now rows cursor
  client_plane journal' grows plan n e count may =
      client_writes journal' grows _ (client_is journal' plan n e count) (client_kept is_good (plane_of settings journal now rows cursor) k.kept plan may)

  -- the cursor moves
  pub cursor_moves : (cursor' : Option SlotKey) → AreSlots settings journal now rows cursor'
  cursor_moves cursor' = record { kept = points_kept is_good (plane_of settings journal now rows cursor) cursor' k.kept; meant = k.meant }
