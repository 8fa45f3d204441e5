-- Entries that are taken in: the same keys are touched.
use Rattle.std.proofs.Common.{◌≡◌, ◌⊎◌, inl, inr, ℕ, ◌+◌, ◌<◌, ◌≤◌, Bool, true, false, ◌&&◌, ◌||◌, List, length, Option, Some, refl, sym, ap, ◌∙◌, subst, arith}
use Rattle.std.specs.Prelude.{slice_get}
use Rattle.resource_types.specs.declared.names.Kind.TheVariants as kind
use Rattle.resource_types.specs.declared.names.Name.{Name}
use Rattle.resource_types.specs.declared.names.Controller.{Controller}
use Rattle.resource_types.specs.declared.names.Controller.TheVariants as controller
use Rattle.resource_types.specs.declared.names.SlotKey.{SlotKey}
use Rattle.resource_types.specs.declared.objects.Object.{Object}
use Rattle.resource_types.specs.Lookups.{Journal, State, state, of_kind}
use Rattle.control_rules.specs.Slots.{ObjectEntry, slot_key, is_key}
use Rattle.control_entries.proofs.Tests.{some_same, or_cases}
use Rattle.control_entries.proofs.Lists.{get_below}
use Rattle.control_touches.specs.Touches.{touches, is_touched_since}
use Rattle.control_touches.proofs.Own.{or_left, or_right}
use Rattle.control_touches.proofs.Among.{same_tests}
use Rattle.touched_keys.specs.declared.marks.Mark.{Mark}
use Rattle.touched_keys.specs.Places.{touches_at, object_before}
use Rattle.touched_keys.specs.Marks.{is_marked, MarksView, is_collector, Adds, MarksKeys, TouchesSame}
use Rattle.touched_keys.proofs.Placed.{placed}
use Rattle.touched_keys.proofs.Noted.{since_next, since_none}
use Rattle.touched_keys.proofs.Over.{last_or_before}
use Rattle.touched_keys.proofs.Adding.{adds_then, adds_by}
use Rattle.touched_keys.proofs.Covering.{IsWalked, collector_walked}

-- ---- all Collectors

-- the Collectors of the first n of these objects are marked
abbrev pub AreCollected : ℕ → List Object → List Mark → Type 0
AreCollected n os keys = (i : ℕ) (o : Object) → i < n → slice_get os i ≡ Some o → is_marked (slot_key controller.Collector o.key.name) keys ≡ true

pub collected_next : (P : SlotKey → Type 0) (os : List Object) (n : ℕ) (x : Object) (before after : List Mark) → slice_get os n ≡ Some x → Adds P before after → is_marked (slot_key controller.Collector x.key.name) after ≡ true
    → AreCollected n os before → AreCollected (n + 1) os after
collected_next P os n x before after g adds here all i o lt e = go (last_or_before i n lt)
  where
    go : (i ≡ n) ⊎ (i < n) → is_marked (slot_key controller.Collector o.key.name) after ≡ true
    go (inl q) = subst (λ (z : Object). is_marked (slot_key controller.Collector z.key.name) after ≡ true) (some_same (sym g ∙ ap (slice_get os) (sym q) ∙ e)) here
    go (inr below) = adds.kept (slot_key controller.Collector o.key.name) (all i o below e)

pub collected_all : (st : State) (os : List Object) (n : ℕ) (keys : List Mark) → os ≡ of_kind kind.Configuration st → length os ≤ n → AreCollected n os keys → MarksKeys st (λ (pick : SlotKey). is_collector pick.controller ≡ true) keys
collected_all st os n keys same le all pick known t = go pick.controller pick.name known t
  where
    at : (m : Name) → IsWalked (of_kind kind.Configuration st) m → is_marked (slot_key controller.Collector m) keys ≡ true
    at m w =
        let is : slice_get os w.place ≡ Some w.object = ap (λ xs. slice_get xs w.place) same ∙ w.is in
        let below = get_below os w.place w.object is in
        subst (λ z. is_marked (slot_key controller.Collector z) keys ≡ true) w.name (all w.place w.object (omega arith) is)

    go : (c : Controller) (m : Name) → is_key (slot_key c m) st ≡ true → is_collector c ≡ true → is_marked (slot_key c m) keys ≡ true
    go controller.Service m k e = absurd cc
    go controller.Configuration m k e = absurd cc
    go controller.Revision m k e = absurd cc
    go controller.Collector m k e = at m (collector_walked st m k)
    go controller.Route m k e = absurd cc

-- ---- an entry

-- what the change at an entry touches is what the entry touches
pub entry_touches : (j : Journal) (place : ℕ) (e : ObjectEntry) → slice_get j place ≡ Some e → (old new : Option Object) → new ≡ e.object → old ≡ object_before j place → (pick : SlotKey)
    → touches (state j) e.key old new pick ≡ touches_at j place pick
unfolding touches
entry_touches j place e g old new same before pick = placed j place e g pick.controller pick.name old new (touches (state j) e.key old new pick) refl same before

-- ---- entries, one after another

-- the keys that one of the entries touches
abbrev pub IsSince : Journal → ℕ → SlotKey → Type 0
IsSince j from pick = is_touched_since j from pick ≡ true

module _ (j : Journal) (upto place : ℕ) (lt : place < length j) (back : (pick : SlotKey) → IsSince j place pick → IsSince j upto pick) where
  pub since_at : (pick : SlotKey) → touches_at j place pick ≡ true → IsSince j upto pick
  since_at pick t = back pick (since_next j place pick lt ∙ or_left _ _ t)

  pub back_next : (pick : SlotKey) → IsSince j (place + 1) pick → IsSince j upto pick
  back_next pick t = back pick (since_next j place pick lt ∙ or_right (touches_at j place pick) _ t)

  pub adds_next : (a b c : List Mark) → Adds (IsSince j upto) a b → Adds (λ pick. touches_at j place pick ≡ true) b c → Adds (IsSince j upto) a c
  adds_next a b c p q = adds_then (IsSince j upto) a b c p (adds_by (λ pick. touches_at j place pick ≡ true) (IsSince j upto) b c since_at q)

  pub all_next : (before after : List Mark) → Adds (λ pick. touches_at j place pick ≡ true) before after → MarksKeys (state j) (λ pick. touches_at j place pick ≡ true) after
      → (pick : SlotKey) → is_key pick (state j) ≡ true → (is_marked pick before ≡ true) ⊎ IsSince j place pick → (is_marked pick after ≡ true) ⊎ IsSince j (place + 1) pick
  all_next before after adds all pick known (inl m) = inl (adds.kept pick m)
  all_next before after adds all pick known (inr s) = go (or_cases (sym (since_next j place pick lt) ∙ s))
    where
      go : (touches_at j place pick ≡ true) ⊎ IsSince j (place + 1) pick → (is_marked pick after ≡ true) ⊎ IsSince j (place + 1) pick
      go (inl t) = inl (all pick known t)
      go (inr t) = inr t

pub all_in : (j : Journal) (place : ℕ) → length j ≤ place → (keys : List Mark) (pick : SlotKey) → (is_marked pick keys ≡ true) ⊎ IsSince j place pick → is_marked pick keys ≡ true
all_in j place le keys pick (inl m) = m
all_in j place le keys pick (inr s) = absurd (let n = since_none j place pick le in cc)

-- ---- the set

-- the Collector, where the moment moved
abbrev pub IsMoved : Bool → SlotKey → Type 0
IsMoved moved pick = (moved && is_collector pick.controller) ≡ true

-- what touches a key, beside its mark
abbrev notes : Journal → MarksView → SlotKey → Bool
notes j m pick = is_touched_since j m.upto pick || (m.moved && is_collector pick.controller)

same_known : (known a b : Bool) → (known ≡ true → a ≡ b) → (known && a) ≡ (known && b)
same_known true a b h = h refl
same_known false a b h = refl

-- whether a key is touched is the same, where each mark is old or noted, and each note is marked or still there
pub touched_same : (j : Journal) (old new : MarksView)
    → ((pick : SlotKey) → is_marked pick old.keys ≡ true → is_marked pick new.keys ≡ true)
    → ((pick : SlotKey) → is_marked pick new.keys ≡ true → (is_marked pick old.keys ≡ true) ⊎ (notes j old pick ≡ true))
    → ((pick : SlotKey) → notes j new pick ≡ true → notes j old pick ≡ true)
    → ((pick : SlotKey) → is_key pick (state j) ≡ true → notes j old pick ≡ true → (is_marked pick new.keys ≡ true) ⊎ (notes j new pick ≡ true))
    → TouchesSame j old new
touched_same j old new kept only back forth pick = same_known (is_key pick (state j)) _ _ (λ known. same_tests _ _ (λ t. one (or_cases t)) (λ t. other known (or_cases t)))
  where
    from : (is_marked pick old.keys ≡ true) ⊎ (notes j old pick ≡ true) → (is_marked pick old.keys || notes j old pick) ≡ true
    from (inl m) = or_left _ _ m
    from (inr n) = or_right (is_marked pick old.keys) _ n

    to : (is_marked pick new.keys ≡ true) ⊎ (notes j new pick ≡ true) → (is_marked pick new.keys || notes j new pick) ≡ true
    to (inl m) = or_left _ _ m
    to (inr n) = or_right (is_marked pick new.keys) _ n

    one : (is_marked pick new.keys ≡ true) ⊎ (notes j new pick ≡ true) → (is_marked pick old.keys || notes j old pick) ≡ true
    one (inl m) = from (only pick m)
    one (inr n) = or_right (is_marked pick old.keys) _ (back pick n)

    other : is_key pick (state j) ≡ true → (is_marked pick old.keys ≡ true) ⊎ (notes j old pick ≡ true) → (is_marked pick new.keys || notes j new pick) ≡ true
    other known (inl m) = or_left _ _ (kept pick m)
    other known (inr n) = to (forth pick known n)

-- marks of what is noted
pub noted_only : (j : Journal) (old : MarksView) (a b : List Mark) → Adds (IsMoved old.moved) old.keys a → Adds (IsSince j old.upto) a b
    → (pick : SlotKey) → is_marked pick b ≡ true → (is_marked pick old.keys ≡ true) ⊎ (notes j old pick ≡ true)
noted_only j old a b p q pick m = go (q.only pick m)
  where
    first : (is_marked pick old.keys ≡ true) ⊎ IsMoved old.moved pick → (is_marked pick old.keys ≡ true) ⊎ (notes j old pick ≡ true)
    first (inl m) = inl m
    first (inr t) = inr (or_right (is_touched_since j old.upto pick) _ t)

    go : (is_marked pick a ≡ true) ⊎ IsSince j old.upto pick → (is_marked pick old.keys ≡ true) ⊎ (notes j old pick ≡ true)
    go (inl m) = first (p.only pick m)
    go (inr s) = inr (or_left _ _ s)

-- memory ran out
pub taken_part : (j : Journal) (old : MarksView) (keys : List Mark) → ((pick : SlotKey) → is_marked pick old.keys ≡ true → is_marked pick keys ≡ true)
    → ((pick : SlotKey) → is_marked pick keys ≡ true → (is_marked pick old.keys ≡ true) ⊎ (notes j old pick ≡ true)) → TouchesSame j old (record { keys = keys; upto = old.upto; moved = old.moved })
taken_part j old keys kept only = touched_same j old (record { keys = keys; upto = old.upto; moved = old.moved }) kept only (λ pick n. n) (λ pick known n. inr n)

-- all was taken in
pub taken_all : (j : Journal) (old : MarksView) (a b : List Mark) (count : ℕ) → Adds (IsMoved old.moved) old.keys a → MarksKeys (state j) (IsMoved old.moved) a → Adds (IsSince j old.upto) a b → MarksKeys (state j) (IsSince j old.upto) b
    → count ≡ length j → TouchesSame j old (record { keys = b; upto = count; moved = false })
taken_all j old a b count p moved q since c =
    touched_same j old (record { keys = b; upto = count; moved = false }) (λ pick m. q.kept pick (p.kept pick m)) (noted_only j old a b p q)
    (λ pick n. none pick (or_cases n)) (λ pick known n. inl (all pick known (or_cases n)))
  where
    none : (pick : SlotKey) → IsSince j count pick ⊎ ((false && is_collector pick.controller) ≡ true) → notes j old pick ≡ true
    none pick (inl s) = absurd (let n = since_none j count pick (omega (arith, c)) in cc)
    none pick (inr t) = absurd cc

    all : (pick : SlotKey) → is_key pick (state j) ≡ true → IsSince j old.upto pick ⊎ IsMoved old.moved pick → is_marked pick b ≡ true
    all pick known (inl s) = since pick known s
    all pick known (inr t) = q.kept pick (moved pick known t)
