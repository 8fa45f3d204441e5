-- Journals that grow, and induction along a journal.
use Rattle.std.proofs.Common.{◌≡◌, ℕ, zero, suc, ◌+◌, ◌<◌, ◌≤◌, List, [], ◌∷◌, ◌++◌, length, length-append, take, get_or, Some, Ordering, refl, sym, ap, subst, ◌∙◌, arith}
use Rattle.std.specs.Prelude.{slice_get}
use Rattle.std.proofs.Math.Seq.{take-append_seam, take-length}
use Rattle.std.proofs.lemmas.Option.{get_or_from_slice_get}
use Rattle.version_store.specs.declared.item.Item.{Ghosts}
use Rattle.version_store.specs.declared.write.Entry.{Entry}
use Rattle.version_store.specs.declared.write.Write.{Write}
use Rattle.version_store.specs.declared.write.Applied.{Applied}
use Rattle.version_store.specs.declared.write.Applied.TheVariants.{Done, Same, Stale, Exists, Absent}
use Rattle.version_store.specs.State.{state, state_at, Grows}
use Rattle.version_store.specs.Apply.{answer_to, entry_for, entries_after, with_entry}
use Rattle.version_store.proofs.Keys.{some_at}

take_shorter : {E : Type 0} (m n : ℕ) (entries : List E) → m ≤ n → take m (take n entries) ≡ take m entries
take_shorter zero n entries le = refl
take_shorter (suc m) zero entries le = absurd (omega (arith, le))
take_shorter (suc m) (suc n) [] le = refl
take_shorter (suc m) (suc n) (entry ∷ entries) le = let le' : m ≤ n = omega (arith, le) in ap (λ es. entry ∷ es) (take_shorter m n entries le')

-- a prefix of the old journal is one of the new
pub take-grows : {E : Type 0} (old new : List E) (n : ℕ) → Grows old new → n ≤ length old → take n new ≡ take n old
take-grows old new n grows le = sym (take_shorter n (length old) new le) ∙ ap (take n) grows.same

-- what stood at a position of the old journal stands there in the new
pub state_at-grows : {O D K N A : Type 0} (key_of : O → K) (cmp : K → K → Ordering) (old new : List (Entry O D K N A)) (n : ℕ) → Grows old new → n ≤ length old → state_at key_of cmp new n ≡ state_at key_of cmp old n
state_at-grows key_of cmp old new n grows le = ap (state key_of cmp) (take-grows old new n grows le)

-- the present state is that at the last position
pub state_at-all : {O D K N A : Type 0} (key_of : O → K) (cmp : K → K → Ordering) (entries : List (Entry O D K N A)) → state_at key_of cmp entries (length entries) ≡ state key_of cmp entries
state_at-all key_of cmp entries = ap (state key_of cmp) (take-length entries)

pub grows_by : {E : Type 0} (old more : List E) → Grows old (old ++ more)
grows_by old more = record { longer = omega (arith, length-append old more); same = take-append_seam old more }

pub grows_not : {E : Type 0} (entries : List E) → Grows entries entries
grows_not entries = record { longer = omega arith; same = take-length entries }

pub grows_twice : {E : Type 0} (first second third : List E) → Grows first second → Grows second third → Grows first third
grows_twice first second third one two = record { longer = omega (arith, one.longer, two.longer); same = take-grows second third (length first) two one.longer ∙ one.same }

by_answer : {O D K N A : Type 0} (a : Applied) (entries : List (Entry O D K N A)) (entry : Entry O D K N A) → Grows entries (with_entry a entries entry)
by_answer (Done version) entries entry = grows_by entries (entry ∷ [])
by_answer (Same version) entries entry = grows_not entries
by_answer (Stale newer) entries entry = grows_not entries
by_answer (Exists version) entries entry = grows_not entries
by_answer (Absent last) entries entry = grows_not entries

-- a write adds at the end, if at all
pub grows_after : {O D K N A : Type 0} (item : Ghosts O D K N A) (cmp : K → K → Ordering) (entries : List (Entry O D K N A)) (write : Write O D K N A) → Grows entries (entries_after item cmp entries write)
grows_after item cmp entries write = by_answer (answer_to item cmp entries write) entries (entry_for item cmp entries write)

-- what holds at the start, and after an entry where it holds before it, holds at each position
pub along : {E : Type 0} (entries : List E) (P : ℕ → Type 0) → P 0 → ((n : ℕ) (entry : E) → n < length entries → slice_get entries n ≡ Some entry → entry ≡ get_or entries n entry → P n → P (n + 1)) → (n : ℕ) → n ≤ length entries → P n
along entries P start step zero le = start
along entries P start step (suc n) le =
    let lt : n < length entries = omega (arith, le) in
    let le' : n ≤ length entries = omega (arith, le) in
    let here = some_at entries n lt in
    let more : n + 1 ≡ suc n = omega arith in
    subst P more (step n here.0 lt here.1 (sym (get_or_from_slice_get entries n here.0 here.0 here.1)) (along entries P start step n le'))
