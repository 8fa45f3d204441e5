-- What `strip_prefix` gives at a text.
use Rattle.std.proofs.Common.{◌≡◌, ℕ, ◌+◌, List, ◌++◌, length, take, drop, Option, Some, None, MatchOption, Bor, Bool, true, false, refl, sym, ap, ◌∙◌, option_map}
use Rattle.std.proofs.lemmas.List.{take-append-drop, take_at}
use Rattle.std.proofs.lemmas.Slice.Eq.{bytes_eq-Decides}
use Rattle.std.specs.Str.{bytes_eq}
use Rattle.std.specs.Str.Pattern.{FindsTextPrefix}
use Rattle.api_paths.specs.Paths.{behind}

begins : (front text rest : List ℕ) → text ≡ front ++ rest → bytes_eq (take (length front) text) front ≡ true
begins front text rest e =
    (bytes_eq-Decides (take (length front) text) front).1 (ap (take (length front)) e ∙ take_at front rest (length front) refl)

pub behind_found : (front text : List ℕ) (r : Option (Bor (List ℕ)))
    → MatchOption r (FindsTextPrefix front text None) (λ x. (n : ℕ) × FindsTextPrefix front text (Some n) × (x.now ≡ drop n text) × (length x.now + n ≡ length text))
    → option_map (λ x. x.now) r ≡ behind front text
behind_found front text None h = by_test (bytes_eq (take (length front) text) front) refl
  where
    by_test : (t : Bool) → bytes_eq (take (length front) text) front ≡ t → None ≡ behind front text
    by_test true same =
        let begin : take (length front) text ≡ front = (bytes_eq-Decides (take (length front) text) front).0 same in
        absurd (h (drop (length front) text) (sym (take-append-drop (length front) text) ∙ ap (λ xs. xs ++ drop (length front) text) begin))
    by_test false other = rw other refl
behind_found front text (Some x) (n, (len, split, bound), rest, fits) =
    let same : bytes_eq (take (length front) text) front ≡ true = begins front text (drop n text) split in
    rw same (ap Some (rest ∙ ap (λ k. drop k text) len))
