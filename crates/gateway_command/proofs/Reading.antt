-- The lines of an input, byte by byte.
use Rattle.std.proofs.Common.{◌≡◌, ℕ, ◌<◌, ◌≤◌, Bool, true, ◌&&◌, List, [], ◌∷◌, ◌++◌, length, rules, refl, sym, ap, subst, ◌∙◌, inl, inr, arith, append-nil, length-append, take, drop, get_or, suc}
use Rattle.std.specs.Prelude.{◌⊎◌, IsTrue, nat_le, nat_eq, not}
use Rattle.std.specs.List.{list_all}
use Rattle.std.proofs.lemmas.Grind.{flat_map-append}
use Rattle.std.proofs.lemmas.List.Folds.{list_all-append}
use Rattle.std.proofs.lemmas.List.{append_assoc, take-append-drop}
use Rattle.std.proofs.Math.Seq.{take-suc}
use Rattle.gateway_pick.specs.Gateway.{View}
use Rattle.gateway_command.specs.Lines.{most_bytes, feed, is_line, lines_bytes, new_gateway, FollowsLine, FollowsAll, IsRefused, HasRead, RefusesLine, IsRefusedIn}

-- ---- lists

all_more : {X : Type 0} (p : X → Bool) (xs : List X) (x : X) → IsTrue (list_all p xs) → IsTrue (p x) → IsTrue (list_all p (xs ++ x ∷ []))
all_more p xs x all is = list_all-append p xs (x ∷ []) ∙ (ap (λ b. b && (p x && true)) all ∙ ap (λ b. b && true) is)

bytes_more : (lines : List (List ℕ)) (line : List ℕ) → lines_bytes (lines ++ line ∷ []) ≡ lines_bytes lines ++ line ++ feed ∷ []
bytes_more lines line =
    flat_map-append (λ l. l ++ feed ∷ []) lines (line ∷ []) ∙ (ap (λ xs. lines_bytes lines ++ xs) (append-nil (line ++ feed ∷ [])) ∙ sym (append_assoc (lines_bytes lines) line (feed ∷ [])))

follows_more : (old middle new : View) (lines : List (List ℕ)) (line : List ℕ) → FollowsAll old lines middle → FollowsLine middle line new
    → FollowsAll old (lines ++ line ∷ []) new
follows_more old middle new [] line same follows = (new, subst (λ v. FollowsLine v line new) same follows, refl)
follows_more old middle new (first ∷ lines) line (then, one, others) follows = (then, one, follows_more then middle new lines line others follows)

-- ---- a byte

pub read_none : HasRead [] new_gateway []
read_none = record { lines = []; is = refl; whole = refl; unended = refl; few = refl; short = omega arith; follows = refl }

pub read_feed : (bytes : List ℕ) (old new : View) (line : List ℕ) → HasRead bytes old line → FollowsLine old line new
    → HasRead (bytes ++ feed ∷ []) new []
read_feed bytes old new line r follows = record {
  lines = r.lines ++ line ∷ [];
  is = ap (λ xs. xs ++ feed ∷ []) r.is ∙ (sym (bytes_more r.lines line) ∙ sym (append-nil (lines_bytes (r.lines ++ line ∷ []))));
  whole = all_more is_line r.lines line r.whole r.unended;
  unended = refl;
  few = all_more (λ l. nat_le (length l) most_bytes) r.lines line r.few (short_is (length line) r.short);
  short = omega arith;
  follows = follows_more new_gateway old new r.lines line r.follows follows;
}
  where
    short_is : (n : ℕ) → n ≤ most_bytes → IsTrue (nat_le n most_bytes)
    short_is n less = search rules

pub read_byte : (bytes : List ℕ) (view : View) (line : List ℕ) (byte : ℕ) → HasRead bytes view line → (byte ≡ feed → ⊥) → length line < most_bytes
    → HasRead (bytes ++ byte ∷ []) view (line ++ byte ∷ [])
read_byte bytes view line byte r other less = record {
  lines = r.lines;
  is = ap (λ xs. xs ++ byte ∷ []) r.is ∙ append_assoc (lines_bytes r.lines) line (byte ∷ []);
  whole = r.whole;
  unended = all_more _ line byte r.unended (is_other other);
  few = r.few;
  short = omega (arith, length-append line (byte ∷ []), less);
  follows = r.follows;
}
  where
    is_other : (byte ≡ feed → ⊥) → IsTrue (not (nat_eq byte feed))
    is_other other = search rules

pub refused_feed : (bytes : List ℕ) (view : View) (line : List ℕ) → HasRead bytes view line → IsRefused line view → IsRefusedIn (bytes ++ feed ∷ [])
refused_feed bytes view line r refused = record {
  lines = r.lines;
  line = line;
  rest = feed ∷ [];
  view = view;
  is = ap (λ xs. xs ++ feed ∷ []) r.is;
  whole = r.whole;
  unended = r.unended;
  few = r.few;
  follows = r.follows;
  refused = inr (inl ([], refl), refused);
}

pub refused_long : (bytes : List ℕ) (view : View) (line : List ℕ) (byte : ℕ) → HasRead bytes view line → (byte ≡ feed → ⊥) → most_bytes ≤ length line
    → IsRefusedIn (bytes ++ byte ∷ [])
refused_long bytes view line byte r other more = record {
  lines = r.lines;
  line = line ++ byte ∷ [];
  rest = [];
  view = view;
  is = ap (λ xs. xs ++ byte ∷ []) r.is ∙ (append_assoc (lines_bytes r.lines) line (byte ∷ []) ∙ sym (append-nil (lines_bytes r.lines ++ (line ++ byte ∷ []))));
  whole = r.whole;
  unended = all_more _ line byte r.unended (is_other other);
  few = r.few;
  follows = r.follows;
  refused = inl (omega (arith, length-append line (byte ∷ []), more));
}
  where
    is_other : (byte ≡ feed → ⊥) → IsTrue (not (nat_eq byte feed))
    is_other other = search rules

-- ---- more bytes, and the end

pub refused_more : (bytes more : List ℕ) → IsRefusedIn bytes → IsRefusedIn (bytes ++ more)
refused_more bytes more r = record {
  lines = r.lines;
  line = r.line;
  rest = r.rest ++ more;
  view = r.view;
  is = ap (λ xs. xs ++ more) r.is ∙ append_assoc (lines_bytes r.lines ++ r.line) r.rest more;
  whole = r.whole;
  unended = r.unended;
  few = r.few;
  follows = r.follows;
  refused = kept r.refused;
}
  where
    kept : (most_bytes < length r.line) ⊎ ((((later : List ℕ) × (r.rest ≡ feed ∷ later)) ⊎ ((r.rest ≡ []) × ⊥)) × IsRefused r.line r.view)
        → (most_bytes < length r.line) ⊎ ((((later : List ℕ) × (r.rest ++ more ≡ feed ∷ later)) ⊎ ((r.rest ++ more ≡ []) × ⊥)) × IsRefused r.line r.view)
    kept (inl long) = inl long
    kept (inr (inl (later, is), refused)) = inr (inl (later ++ more, ap (λ xs. xs ++ more) is), refused)
    kept (inr (inr (none, nope), refused)) = absurd nope

pub refused_piece : (bytes piece : List ℕ) (at : ℕ) → at < length piece → IsRefusedIn (bytes ++ take at piece ++ get_or piece at 0 ∷ [])
    → IsRefusedIn (bytes ++ piece)
refused_piece bytes piece at less r =
    let front : bytes ++ take at piece ++ get_or piece at 0 ∷ [] ≡ bytes ++ take (suc at) piece =
    append_assoc bytes (take at piece) (get_or piece at 0 ∷ []) ∙ ap (λ xs. bytes ++ xs) (sym (take-suc piece at 0 less)) in
    let whole : bytes ++ take (suc at) piece ++ drop (suc at) piece ≡ bytes ++ piece =
    append_assoc bytes (take (suc at) piece) (drop (suc at) piece) ∙ ap (λ xs. bytes ++ xs) (take-append-drop (suc at) piece) in
    subst IsRefusedIn whole (refused_more (bytes ++ take (suc at) piece) (drop (suc at) piece) (subst IsRefusedIn front r))

pub refused_anyhow : (bytes : List ℕ) (IsLast : Type 0) → IsRefusedIn bytes → RefusesLine bytes IsLast
refused_anyhow bytes IsLast r = record {
  lines = r.lines;
  line = r.line;
  rest = r.rest;
  view = r.view;
  is = r.is;
  whole = r.whole;
  unended = r.unended;
  few = r.few;
  follows = r.follows;
  refused = kept r.refused;
}
  where
    kept : (most_bytes < length r.line) ⊎ ((((later : List ℕ) × (r.rest ≡ feed ∷ later)) ⊎ ((r.rest ≡ []) × ⊥)) × IsRefused r.line r.view)
        → (most_bytes < length r.line) ⊎ ((((later : List ℕ) × (r.rest ≡ feed ∷ later)) ⊎ ((r.rest ≡ []) × IsLast)) × IsRefused r.line r.view)
    kept (inl long) = inl long
    kept (inr (inl ended, refused)) = inr (inl ended, refused)
    kept (inr (inr (none, nope), refused)) = absurd nope

pub refused_last : (bytes : List ℕ) (IsLast : Type 0) (view : View) (line : List ℕ) → HasRead bytes view line → IsRefused line view → IsLast → RefusesLine bytes IsLast
refused_last bytes IsLast view line r refused last = record {
  lines = r.lines;
  line = line;
  rest = [];
  view = view;
  is = r.is ∙ sym (append-nil (lines_bytes r.lines ++ line));
  whole = r.whole;
  unended = r.unended;
  few = r.few;
  follows = r.follows;
  refused = inr (inr (refl, last), refused);
}
