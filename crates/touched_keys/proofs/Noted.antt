-- Entries that aren't taken in, one after another.
use Rattle.std.proofs.Common.{◌≡◌, ℕ, zero, suc, ◌+◌, ◌<◌, ◌≤◌, Bool, true, false, ◌||◌, List, [], ◌∷◌, drop, length, get_or, Option, Some, refl, sym, ap, ◌∙◌, subst, add-one, arith}
use Rattle.std.specs.Prelude.{slice_get}
use Rattle.std.proofs.Math.Seq.{drop-cons}
use Rattle.std.proofs.lemmas.Option.{get_or_from_slice_get}
use Rattle.version_store.proofs.Prefix.{state-next}
use Rattle.resource_types.specs.declared.names.SlotKey.{SlotKey}
use Rattle.resource_types.specs.contracts.names.KeyOrd.TheImpl as key_order
use Rattle.resource_types.specs.contracts.item.ObjectItem.TheImpl as object_item
use Rattle.resource_types.specs.Lookups.{Journal, state}
use Rattle.control_rules.specs.Slots.{ObjectEntry, state_at}
use Rattle.control_entries.proofs.Lists.{get_some}
use Rattle.control_touches.specs.Touches.{after_entry, is_touched_by, is_touched_since}
use Rattle.touched_keys.specs.Places.{touches_by, touches_at}

-- the rest of the journal begins with the entry at the place
rest_is : (j : Journal) (i : ℕ) (e : ObjectEntry) → slice_get j i ≡ Some e → i < length j → drop i j ≡ e ∷ drop (i + 1) j
rest_is j i e g lt =
    drop-cons j i e lt
    ∙ (λ k. get_or_from_slice_get j i e e g k ∷ drop (suc i) j)
    ∙ ap (λ n. e ∷ drop n j) (sym (add-one i))

state_is : (j : Journal) (i : ℕ) (e : ObjectEntry) → slice_get j i ≡ Some e → i < length j → after_entry e (state_at j i) ≡ state_at j (i + 1)
state_is j i e g lt = sym (state-next object_item.ghosts key_order.ghosts.cmp j i e lt (sym (get_or_from_slice_get j i e e g)))

-- the entry at the place, or one behind it
pub since_next : (j : Journal) (i : ℕ) (pick : SlotKey) → i < length j → is_touched_since j i pick ≡ (touches_at j i pick || is_touched_since j (i + 1) pick)
unfolding is_touched_by touches_at
since_next j i pick lt = go (get_some j i lt)
  where
    go : ((e : ObjectEntry) × (slice_get j i ≡ Some e)) → is_touched_since j i pick ≡ (touches_at j i pick || is_touched_since j (i + 1) pick)
    go (e, g) =
        ap (λ es. is_touched_by (state j) (state_at j i) es pick) (rest_is j i e g lt)
        ∙ (λ k. touches_by j i pick (sym g k) || is_touched_by (state j) (state_is j i e g lt k) (drop (i + 1) j) pick)

pub since_none : (j : Journal) (i : ℕ) (pick : SlotKey) → length j ≤ i → is_touched_since j i pick ≡ false
unfolding is_touched_by
since_none j i pick le = ap (λ es. is_touched_by (state j) (state_at j i) es pick) (dropped j i le)
  where
    dropped : (es : List ObjectEntry) (i : ℕ) → length es ≤ i → drop i es ≡ []
    dropped [] zero le = refl
    dropped [] (suc i) le = refl
    dropped (e ∷ es) zero le = absurd (omega arith)
    dropped (e ∷ es) (suc i) le = dropped es i (omega arith)

-- the loop that looks for one
pub since_hit : (j : Journal) (u i : ℕ) (pick : SlotKey) → is_touched_since j u pick ≡ is_touched_since j i pick → i < length j → touches_at j i pick ≡ true → true ≡ is_touched_since j u pick
since_hit j u i pick same lt t = sym (same ∙ since_next j i pick lt ∙ ap (λ b. b || is_touched_since j (i + 1) pick) t)

pub since_miss : (j : Journal) (u i : ℕ) (pick : SlotKey) → is_touched_since j u pick ≡ is_touched_since j i pick → i < length j → touches_at j i pick ≡ false → is_touched_since j u pick ≡ is_touched_since j (i + 1) pick
since_miss j u i pick same lt t = same ∙ since_next j i pick lt ∙ ap (λ b. b || is_touched_since j (i + 1) pick) t
