-- Whether a Revision is free stays, where no target begins or ceases to name it.
use Rattle.std.proofs.Common.{◌≡◌, Bool, true, false, ◌&&◌, ◌||◌, not, List, Option, refl, sym, ◌∙◌}
use Rattle.std.specs.List.{list_any}
use Rattle.resource_types.specs.declared.names.Kind.{Kind}
use Rattle.resource_types.specs.declared.names.Kind.TheVariants as kind
use Rattle.resource_types.specs.declared.names.Key.{Key}
use Rattle.resource_types.specs.declared.names.Name.{Name}
use Rattle.resource_types.specs.declared.names.SlotKey.{SlotKey}
use Rattle.resource_types.specs.declared.objects.Object.{Object}
use Rattle.resource_types.specs.Objects.{is_of, pins_of}
use Rattle.resource_types.specs.Lookups.{State, find, of_kind, is_empty, is_given, is_naming, is_target, is_free}
use Rattle.control_rules.specs.Standing.{key_at}
use Rattle.control_rules.specs.Slots.{ObjectEntry}
use Rattle.control_entries.specs.Ground.{IsOrdered}
use Rattle.control_touches.specs.Touches.{is_changed, is_renamed, is_retargeted, touches, is_touched_by}
use Rattle.control_touches.proofs.Paths.{after, ArePuts}
use Rattle.control_touches.proofs.Own.{get_kept}
use Rattle.control_touches.proofs.Among.{any_same}

-- tests that don't change are the same
pub unchanged : (a b : Bool) → is_changed a b ≡ false → b ≡ a
unfolding is_changed
unchanged true true e = refl
unchanged true false e = absurd cc
unchanged false true e = absurd cc
unchanged false false e = refl

pub first_false : (a b : Bool) → (a || b) ≡ false → a ≡ false
first_false true b e = absurd cc
first_false false b e = refl

pub second_false : (a b : Bool) → (a || b) ≡ false → b ≡ false
second_false true b e = absurd cc
second_false false b e = e

-- the object of the Revision's name, and what names it
free_by : Name → Option Object → Bool → Bool
free_by v o target = is_given (λ r. (is_of kind.Revision r && is_empty (pins_of r.body)) && not target) o

free_is : (st : State) (v : Name) → is_free st v ≡ free_by v (find (key_at kind.Revision v) st) (is_target st v)
unfolding free_by
free_is st v = refl

module _ (b st : State) (es : List ObjectEntry) (puts : ArePuts es) (pick : SlotKey) (calm : is_touched_by b st es pick ≡ false) (before : IsOrdered st) (now : IsOrdered (after st es)) where
  named_kept : (kind : Kind) (v : Name) → ((k : Key) (old new : Option Object) → touches b k old new pick ≡ false → is_renamed kind v old new ≡ false)
      → list_any (is_naming kind v) (of_kind kind (after st es)) ≡ list_any (is_naming kind v) (of_kind kind st)
  unfolding is_renamed
  named_kept kind v f =
      any_same (is_naming kind v) kind (after st es) st now before
      (λ q e. get_kept b st es puts pick calm (is_given (is_naming kind v)) q (λ old new t. unchanged (is_given (is_naming kind v) old) (is_given (is_naming kind v) new) (f q old new t)))

  pub target_kept : (v : Name) → ((k : Key) (old new : Option Object) → touches b k old new pick ≡ false → is_retargeted v old new ≡ false) → is_target (after st es) v ≡ is_target st v
  unfolding is_retargeted
  target_kept v f =
      λ i. named_kept kind.Service v (λ k old new t. first_false _ _ (f k old new t)) i || named_kept kind.Route v (λ k old new t. second_false _ _ (f k old new t)) i

  pub free_kept : (v : Name) → find (key_at kind.Revision v) (after st es) ≡ find (key_at kind.Revision v) st
      → ((k : Key) (old new : Option Object) → touches b k old new pick ≡ false → is_retargeted v old new ≡ false) → is_free (after st es) v ≡ is_free st v
  free_kept v e f = free_is (after st es) v ∙ (λ i. free_by v (e i) (target_kept v f i)) ∙ sym (free_is st v)
