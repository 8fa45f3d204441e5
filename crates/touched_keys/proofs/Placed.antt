-- What the entry at a place touches, by the entry.
use Rattle.std.proofs.Common.{◌≡◌, ℕ, Bool, Option, Some, sym, ap, ◌∙◌}
use Rattle.std.specs.Prelude.{slice_get}
use Rattle.resource_types.specs.declared.names.Name.{Name}
use Rattle.resource_types.specs.declared.names.Controller.{Controller}
use Rattle.resource_types.specs.declared.objects.Object.{Object}
use Rattle.resource_types.specs.Lookups.{Journal, state, find}
use Rattle.control_rules.specs.Slots.{ObjectEntry, slot_key, state_at}
use Rattle.control_touches.specs.Touches.{touches, touches_of}
use Rattle.touched_keys.specs.Places.{touches_by, touches_at, object_before}
use Rattle.touched_keys.proofs.Before.{before_is}

-- what the code finds by what stood before the entry is what the entry touches
pub placed : (j : Journal) (place : ℕ) (e : ObjectEntry) → slice_get j place ≡ Some e → (c : Controller) (n : Name) (old new : Option Object) (r : Bool) → r ≡ touches_of (state j) e.key old new c n → new ≡ e.object
    → old ≡ object_before j place → r ≡ touches_at j place (slot_key c n)
unfolding touches_at touches
placed j place e g c n old new r is same before =
    is
    ∙ ap (λ o. touches_of (state j) e.key o new c n) (before ∙ before_is j place e g)
    ∙ ap (λ o. touches_of (state j) e.key (find e.key (state_at j place)) o c n) same
    ∙ sym (ap (touches_by j place (slot_key c n)) g)
