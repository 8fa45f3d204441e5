-- What the rules see of slots that are found, held and idled.
use Rattle.std.proofs.Common.{◌≡◌, Bool, true, false, cond, List, [], ◌∷◌, Option, Some, None, Ordering, refl, sym, ap, ◌∙◌}
use Rattle.std.specs.Prelude.{map}
use Rattle.std.specs.Option.{option_map, option_copied, is_some}
use Rattle.std.specs.Borrow.{Bor}
use Rattle.std.specs.Ordering.{is_eq}
use Rattle.std.specs.declared.cmp.Ordering.TheVariants.{Less, Equal, Greater}
use Rattle.version_store.specs.State.{placed}
use Rattle.resource_types.specs.declared.names.SlotKey.{SlotKey}
use Rattle.resource_types.specs.contracts.names.SlotKeyOrd.TheImpl as slot_order
use Rattle.control_rules.specs.Slots.{Look, look_of, held, idle_at}
use Rattle.control_rules.specs.declared.slots.Slot.TheVariants as slot
use Rattle.control_rules.specs.Slots.{slot_of}
use Rattle.step_scheduler.specs.declared.held.Held.{Held}
use Rattle.step_scheduler.specs.Rows.{Row, row_of, with_row, without_row, is_plan, look_in}

found_by : (b : Bool) (row : Row) (o : Option Look) (p : Option Row) → o ≡ option_map look_in p → cond b (Some (look_in row)) o ≡ option_map look_in (cond b (Some row) p)
found_by true row o p e = refl
found_by false row o p e = e

-- what the rules find is what is found
pub look-found : (key : SlotKey) (rows : List Row) → look_of key (map look_in rows) ≡ option_map look_in (row_of key rows)
look-found key [] = refl
look-found key (row ∷ rows) = found_by (is_eq (slot_order.ghosts.cmp row.key key)) row (look_of key (map look_in rows)) (row_of key rows) (look-found key rows)

held_by : (r : Ordering) (new row : Row) (rows rest : List Row) (looks : List Look) → map look_in rest ≡ looks → map look_in (placed r new row rows rest) ≡ placed r (look_in new) (look_in row) (map look_in rows) looks
held_by Less new row rows rest looks e = refl
held_by Equal new row rows rest looks e = refl
held_by Greater new row rows rest looks e = ap (λ ls. look_in row ∷ ls) e

-- what the rules hold is what is held
pub look-held : (new : Row) (rows : List Row) → map look_in (with_row new rows) ≡ held (look_in new) (map look_in rows)
look-held new [] = refl
look-held new (row ∷ rows) = held_by (slot_order.ghosts.cmp new.key row.key) new row rows (with_row new rows) (held (look_in new) (map look_in rows)) (look-held new rows)

idle_by : (b : Bool) (row : Row) (rest : List Row) (looks : List Look) → map look_in rest ≡ looks → map look_in (cond b rest (row ∷ rest)) ≡ cond b looks (look_in row ∷ looks)
idle_by true row rest looks e = e
idle_by false row rest looks e = ap (λ ls. look_in row ∷ ls) e

-- what the rules idle is what is idled
pub look-idle : (key : SlotKey) (rows : List Row) → map look_in (without_row key rows) ≡ idle_at key (map look_in rows)
look-idle key [] = refl
look-idle key (row ∷ rows) = idle_by (is_eq (slot_order.ghosts.cmp row.key key)) row (without_row key rows) (idle_at key (map look_in rows)) (look-idle key rows)

-- what is told of a slot that is found
pub slot_found : (key : SlotKey) (rows : List Row) (row : Row) (h : Held) → Some row ≡ row_of key rows → row.held ≡ h
    → cond (is_plan h) (slot.Planned row.seen row.read_at) (slot.Looked row.seen row.read_at) ≡ slot_of (look_of key (map look_in rows))
slot_found key rows row h e is =
    sym (ap slot_of (look-found key rows ∙ ap (option_map look_in) (sym e)) ∙ ap (λ b. cond (is_plan b) (slot.Planned row.seen row.read_at) (slot.Looked row.seen row.read_at)) is)

-- and of one that isn't
pub slot_idle : (key : SlotKey) (rows : List Row) → None ≡ row_of key rows → slot.Idle ≡ slot_of (look_of key (map look_in rows))
slot_idle key rows e = sym (ap slot_of (look-found key rows ∙ ap (option_map look_in) (sym e)))

some_by : (o : Option Row) → is_some o ≡ is_some (option_map look_in o)
some_by None = refl
some_by (Some row) = refl

copied_by : (o : Option (Bor Row)) → is_some o ≡ is_some (option_copied o)
copied_by None = refl
copied_by (Some row) = refl

-- whether a slot is found
pub is_found : (key : SlotKey) (rows : List Row) (o : Option (Bor Row)) → option_copied o ≡ row_of key rows → is_some o ≡ is_some (look_of key (map look_in rows))
is_found key rows o e = copied_by o ∙ ap is_some e ∙ some_by (row_of key rows) ∙ ap is_some (sym (look-found key rows))
