-- What was written is read again, and texts tell values apart.
use Rattle.std.proofs.Common.{◌≡◌, ℕ, List, sym, ap, ◌∙◌, Bool, true, Option, Some, Result, Ok, Err, IfOk, ◌↔◌, bytes_eq}
use Rattle.std.proofs.lemmas.Slice.Eq.{bytes_eq-Decides}
use Rattle.serde_json.specs.Read.{read}
use Rattle.serde_json.specs.Written.{compact_text}
use Rattle.json_tree.specs.Answers.{IsReading}
use Rattle.json_tree.specs.Tree.{data_of}
use Rattle.json_tree.specs.declared.value.Json.{Json}
use Rattle.json_tree.proofs.Back.{data_tells}

same_Some : {A : Type 0} (o : Option A) (x y : A) → o ≡ Some x → o ≡ Some y → x ≡ y
same_Some o x y e f = cc

-- values that are read of one text are equal
pub same_read : (bytes : List ℕ) (j k : Json) → read bytes ≡ Some (data_of j) → read bytes ≡ Some (data_of k) → j ≡ k
same_read bytes j k e f = data_tells j k (same_Some (read bytes) (data_of j) (data_of k) e f)

-- the round trip: what is read of a value's text is the value
pub read_again : {E : Type 0} (bytes : List ℕ) (j : Json) (r : Result Json E) → read bytes ≡ Some (data_of j) → IfOk r (λ k. IsReading bytes (data_of k)) → IfOk r (λ k. k ≡ j)
read_again bytes j (Ok k) e h = same_read bytes k j h.1 e
read_again bytes j (Err x) e h = tt

-- texts tell values apart
pub same_texts : (same : Bool) (j k : Json) (v w : List ℕ) → same ≡ bytes_eq v w → v ≡ compact_text (data_of j) → w ≡ compact_text (data_of k)
    → read v ≡ Some (data_of j) → read w ≡ Some (data_of k) → (same ≡ true) ↔ (j ≡ k)
same_texts same j k v w told vt wt vr wr = (
  λ t. same_read v j k vr (ap read ((bytes_eq-Decides v w).0 (sym told ∙ t)) ∙ wr),
  λ e. told ∙ (bytes_eq-Decides v w).1 (vt ∙ ap (λ x. compact_text (data_of x)) e ∙ sym wt),
)
