-- The names that a text is under: each front of it that a dash follows.
use Rattle.std.proofs.Common.{◌≡◌, ◌⊎◌, inl, inr, ℕ, ◌+◌, ◌-◌, ◌<◌, ◌≤◌, true, List, [], ◌∷◌, length, take, drop, get_or, slice_range, nat_eq, codes, refl, sym, ap, ◌∙◌, subst, arith}
use Rattle.std.specs.List.{starts_with}
use Rattle.std.proofs.lemmas.Bool.{eqb-true}
use Rattle.resource_types.proofs.Exact.{left, right}
use Rattle.control_entries.proofs.Tests.{both}
use Rattle.resource_types.specs.declared.names.Name.{Name}
use Rattle.resource_types.specs.declared.names.SlotKey.{SlotKey}
use Rattle.resource_types.specs.declared.names.Controller.{Controller}
use Rattle.control_rules.specs.Standing.{beside}
use Rattle.control_rules.specs.Slots.{slot_key}
use Rattle.control_touches.specs.Touches.{is_under}
use Rattle.touched_keys.specs.declared.marks.Mark.{Mark}
use Rattle.touched_keys.specs.Marks.{is_marked, Adds}
use Rattle.touched_keys.specs.Changes.{ChangeView, IsTouched, IsOver, MarksOver, MarksOverBelow}
use Rattle.touched_keys.proofs.Adding.{adds_same}

-- the text begins with the name, and a dash follows
pub record IsFront (name text : List ℕ) : Type 0 where
  pub front : name ≡ take (length name) text
  pub dash : get_or text (length name) 0 ≡ 45
  pub within : length name < length text

pub front_is : (name text : List ℕ) → is_under name text ≡ true → IsFront name text
unfolding is_under
front_is [] [] e = absurd cc
front_is [] (x ∷ xs) e = record { front = refl; dash = sym (eqb-true 45 x (left (nat_eq 45 x) true e)); within = omega arith }
front_is (n ∷ ns) [] e = absurd cc
front_is (n ∷ ns) (x ∷ xs) e =
    let dash = right (starts_with nat_eq (x ∷ xs) (n ∷ ns)) (starts_with nat_eq (drop (length ns) xs) (codes "-")) e in
    let begins = left (starts_with nat_eq (x ∷ xs) (n ∷ ns)) (starts_with nat_eq (drop (length ns) xs) (codes "-")) e in
    let rest = front_is ns xs (both (right (nat_eq n x) (starts_with nat_eq xs ns) begins) dash) in
    record {
      front = ap (λ z. z ∷ ns) (eqb-true n x (left (nat_eq n x) (starts_with nat_eq xs ns) begins)) ∙ ap (λ z. x ∷ z) rest.front;
      dash = rest.dash;
      within = omega (arith, rest.within);
    }

-- a place before the next is the last one, or before it
pub last_or_before : (i n : ℕ) → i < n + 1 → (i ≡ n) ⊎ (i < n)
last_or_before i n h = grind arith

-- ---- the loop over the places of a Revision's name

-- the key of the name that ends at the place is marked, if one does
abbrev MarksOverAt : ℕ → ChangeView → Controller → List Mark → Type 0
MarksOverAt end c by keys = (n : Name) → length n.name ≡ end → IsOver c n → IsTouched c (slot_key by n) → is_marked (slot_key by n) keys ≡ true

module _ (c : ChangeView) (by : Controller) (text : List ℕ) (same : text ≡ c.key.name.name) where
  front_of : (n : Name) → IsOver c n → IsFront n.name text
  front_of n o = front_is n.name text (subst (λ z. is_under n.name z ≡ true) (sym same) o.under)

  over_next : (P : SlotKey → Type 0) (end : ℕ) (before keys : List Mark) → Adds P before keys → MarksOverAt end c by keys → MarksOverBelow end c by before → MarksOverBelow (end + 1) c by keys
  over_next P end before keys adds at all n lt o t = go (last_or_before (length n.name) end lt)
    where
      go : (length n.name ≡ end) ⊎ (length n.name < end) → is_marked (slot_key by n) keys ≡ true
      go (inl q) = at n q o t
      go (inr below) = adds.kept (slot_key by n) (all n below o t)

  -- a dash stands at the place, and the key of the front is marked
  pub over_dash : (P : SlotKey → Type 0) (end : ℕ) (front : List ℕ) (before keys : List Mark) → front ≡ slice_range text 0 end → (IsTouched c (slot_key by (beside c.key.name front)) → is_marked (slot_key by (beside c.key.name front)) keys ≡ true)
      → Adds P before keys → MarksOverBelow end c by before → MarksOverBelow (end + 1) c by keys
  over_dash P end front before keys cut marks adds all = over_next P end before keys adds at all
    where
      from_first : front ≡ take end text
      from_first = cut ∙ ap (λ k. take k text) {x = end - 0} {y = end} (omega arith)

      at : MarksOverAt end c by keys
      at n q o =
          let name : beside c.key.name front ≡ n = λ i. record { space = sym o.space i; name = (from_first ∙ ap (λ k. take k text) (sym q) ∙ sym (front_of n o).front) i } in
          subst (λ z. IsTouched c (slot_key by z) → is_marked (slot_key by z) keys ≡ true) name marks

  -- no dash stands there
  pub over_skip : (P : SlotKey → Type 0) (end : ℕ) (keys : List Mark) → (get_or text end 0 ≡ 45 → ⊥) → MarksOverBelow end c by keys → MarksOverBelow (end + 1) c by keys
  over_skip P end keys other all = over_next P end keys keys (adds_same P keys) (λ n q o t. absurd (other (ap (λ k. get_or text k 0) (sym q) ∙ (front_of n o).dash))) all

  -- all places were passed
  pub over_all : (end : ℕ) (keys : List Mark) → length text ≤ end → MarksOverBelow end c by keys → MarksOver c by keys
  over_all end keys le all n o t = let within = (front_of n o).within in all n (omega arith) o t
