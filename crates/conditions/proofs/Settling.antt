-- A list whose items are changed in place, one after another.
use Rattle.std.proofs.Common.{◌≡◌, ℕ, ◌+◌, ◌<◌, List, [], ◌∷◌, ◌++◌, length, take, drop, get_or, sym, ap, ◌∙◌, arith, append_assoc}
use Rattle.std.specs.Prelude.{map}
use Rattle.std.proofs.Math.ListN.{set}
use Rattle.std.proofs.lemmas.List.{take_more_set, drop-set-lt, drop_more, length-set}

-- the items before the place are changed, the others are still to be
pub record IsChangedTo {X : Type 0} (change : X → X) (start : List X) (place : ℕ) (items : List X) : Type 0 where
  pub so_far : take place items ++ map change (drop place items) ≡ map change start
  pub as_long : length items ≡ length start

-- with the item at the place changed, it holds at the next place
pub changed-next : {X : Type 0} (change : X → X) (start items : List X) (place : ℕ) (d : X) → place < length items → IsChangedTo change start place items → IsChangedTo change start (place + 1) (set items place (change (get_or items place d)))
changed-next change start items place d lt h =
    let x = get_or items place d in
    let after : drop (place + 1) (set items place (change x)) ≡ drop (place + 1) items = drop-set-lt (place + 1) items place (change x) (omega arith) in
    let before : take (place + 1) (set items place (change x)) ≡ take place items ++ (change x ∷ []) = take_more_set items place (change x) lt in
    let next : drop place items ≡ x ∷ drop (place + 1) items = drop_more items place d lt in
    record {
      so_far = rw (before, after) (append_assoc (take place items) (change x ∷ []) (map change (drop (place + 1) items)) ∙ ap (λ l. take place items ++ map change l) (sym next) ∙ h.so_far);
      as_long = simp length-set h.as_long;
    }
