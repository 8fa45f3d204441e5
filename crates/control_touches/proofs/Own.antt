-- A key that pick reads stays as it was, where no entry touches pick.
use Rattle.std.proofs.Common.{◌≡◌, Bool, true, false, ◌&&◌, ◌||◌, List, Option, refl, ap, ◌∙◌, subst}
use Rattle.std.specs.List.{list_any}
use Rattle.resource_types.specs.declared.names.Kind.{Kind}
use Rattle.resource_types.specs.declared.names.Key.{Key}
use Rattle.resource_types.specs.declared.names.Name.{Name}
use Rattle.resource_types.specs.declared.names.SlotKey.{SlotKey}
use Rattle.resource_types.specs.declared.objects.Object.{Object}
use Rattle.resource_types.specs.Objects.{same_kind}
use Rattle.resource_types.specs.Lookups.{State, find}
use Rattle.control_rules.specs.Standing.{key_at, of_its_kind, standing}
use Rattle.control_rules.specs.Slots.{ObjectEntry, same_name}
use Rattle.control_entries.proofs.Tests.{not_both, name_self}
use Rattle.control_touches.specs.Touches.{is_one, touches, is_touched_by}
use Rattle.control_touches.proofs.Paths.{after, ArePuts, along_by, untouched_along, kept_along, holds_along}

pub or_left : (a b : Bool) → a ≡ true → (a || b) ≡ true
or_left true b e = refl
or_left false b e = absurd cc

pub or_right : (a b : Bool) → b ≡ true → (a || b) ≡ true
or_right true b e = refl
or_right false b e = e

-- a key of the name and of one of the kinds
pub one_is : (kinds : List Kind) (kind : Kind) (n : Name) → list_any (same_kind kind) kinds ≡ true → is_one kinds n (key_at kind n) ≡ true
unfolding is_one
one_is kinds kind n h = ap (λ t. t && same_name n n) h ∙ name_self n

module _ (b st : State) (es : List ObjectEntry) (puts : ArePuts es) (pick : SlotKey) (calm : is_touched_by b st es pick ≡ false) where
  pub get_kept : {A : Type 0} (get : Option Object → A) (q : Key) → ((old new : Option Object) → touches b q old new pick ≡ false → get new ≡ get old)
      → get (find q (after st es)) ≡ get (find q st)
  get_kept get q f =
      kept_along get q st es puts
      (along_by (λ k old new. touches b k old new pick ≡ false) (λ k old new. k ≡ q → get new ≡ get old) st es
      (λ k old new t e. f old new (subst (λ z. touches b z old new pick ≡ false) e t)) (untouched_along b st es pick calm))

  pub holds_kept : (P : Option Object → Type 0) (q : Key) → ((old new : Option Object) → touches b q old new pick ≡ false → P old → P new)
      → P (find q st) → P (find q (after st es))
  holds_kept P q f =
      holds_along P q st es puts
      (along_by (λ k old new. touches b k old new pick ≡ false) (λ k old new. k ≡ q → P old → P new) st es
      (λ k old new t e. f old new (subst (λ z. touches b z old new pick ≡ false) e t)) (untouched_along b st es pick calm))

  pub find_kept : (q : Key) → ((old new : Option Object) → touches b q old new pick ≡ true) → find q (after st es) ≡ find q st
  find_kept q f = get_kept (λ o. o) q (λ old new t. absurd (not_both (f old new) t))

  pub stands_kept : (kind : Kind) (n : Name) → ((old new : Option Object) → touches b (key_at kind n) old new pick ≡ true) → standing kind n (after st es) ≡ standing kind n st
  unfolding standing
  stands_kept kind n f = ap (of_its_kind kind) (find_kept (key_at kind n) f)
