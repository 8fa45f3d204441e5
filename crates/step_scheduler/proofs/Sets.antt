-- Settings are set while nothing was written: no slot has looked.
use Rattle.std.proofs.Common.{◌≡◌, ℕ, List, [], ◌∷◌, length, Option, Some, None, sym, ap, ◌∙◌, subst, arith}
use Rattle.std.specs.Option.{option_map}
use Rattle.resource_types.specs.declared.names.SlotKey.{SlotKey}
use Rattle.resource_types.specs.Lookups.{Journal}
use Rattle.manifest_intake.specs.Good.{is_good}
use Rattle.control_rules.specs.declared.settings.Settings.{Settings}
use Rattle.control_entries.proofs.KeptEvents.{sets_kept, new_kept}
use Rattle.step_scheduler.specs.Rows.{Row, row_of, look_in}
use Rattle.step_scheduler.specs.Planes.{plane_of, AreSlots}
use Rattle.step_scheduler.proofs.Rows.{look-found}

pub nothing_written : {E : Type 0} (j : List E) → length j ≡ 0 → j ≡ []
nothing_written [] e = cc
nothing_written (x ∷ j) e = absurd (omega (arith, e))

pub something_written : {E : Type 0} (j : List E) → j ≡ [] → length j ≡ 0
something_written j e = ap length e

-- nothing was written, and no slot has looked
pub begins : (settings : Settings) (journal : Journal) (rows : List Row) → journal ≡ [] → rows ≡ [] → AreSlots settings journal 0 rows None
begins settings journal rows empty idle =
    subst (λ es. AreSlots settings es 0 rows None) (sym empty)
    (subst (λ xs. AreSlots settings [] 0 xs None) (sym idle) (record { kept = new_kept is_good settings; meant = λ key row e. absurd cc }))

module _ (settings : Settings) (journal : Journal) (now : ℕ) (rows : List Row) (cursor : Option SlotKey) (k : AreSlots settings journal now rows cursor) (empty : journal ≡ []) where
  no_row : (key : SlotKey) (row : Row) → row_of key rows ≡ Some row → ⊥
  no_row key row e =
      let seen = k.kept.slots key (look_in row) (look-found key rows ∙ ap (option_map look_in) e) in
      let none : length journal ≡ 0 = something_written journal empty in
      omega (arith, seen.some, seen.before, none)

  pub sets : (other : Settings) → AreSlots other journal now rows cursor
  sets other = record {
    kept = sets_kept is_good (plane_of settings journal now rows cursor) other empty k.kept;
    meant = λ key row e. absurd (no_row key row e);
  }
