-- Reads one after another.
use Rattle.std.proofs.Common.{◌≡◌, ℕ, ◌+◌, ◌<◌, ◌≤◌, List, ◌++◌, length, take, drop, Option, Some, None, sym, ap, subst, ◌∙◌, append-nil, arith}
use Rattle.std.proofs.KnownBytes.{Consumes-trans, Consumes-kept}
use Rattle.std.proofs.Math.Seq.{take-add}
use Rattle.std.specs.Io.KnownBytes.{Consumes, Keeps, IsAtEnd}
use Rattle.serve_io.specs.Causes.{Rose}
use Rattle.http_session.specs.Session.{IsAll}
use Rattle.manifest_check.specs.declared.input.Reading.TheVariants.{End, Failed}
use Rattle.manifest_check.specs.Input.{Reads}

-- behind the bytes that were read stand the next ones
pub reads_more : (a b c : Option (List ℕ)) (old new : List ℕ) (at n : ℕ) → Consumes a b (take at old) → take at new ≡ take at old
    → Consumes b c (take n (drop at new)) → Consumes a c (take (at + n) new)
reads_more a b c old new at n p same q =
    let e : take (at + n) new ≡ take at old ++ take n (drop at new) = take-add at n new ∙ ap (λ xs. xs ++ take n (drop at new)) same in
    subst (λ xs. Consumes a c xs) (sym e) (Consumes-trans a b c (take at old) (take n (drop at new)) p q)

all_at_end : (a b : Option (List ℕ)) (bytes : List ℕ) → Consumes a b bytes → IsAtEnd b → IsAll a bytes
all_at_end None b bytes p end = tt
all_at_end (Some xs) None bytes p end = absurd p
all_at_end (Some xs) (Some ys) bytes p end = p ∙ ap (λ zs. bytes ++ zs) end ∙ append-nil bytes

kept : (a b c : Option (List ℕ)) (old new : List ℕ) (at : ℕ) → Consumes a b (take at old) → take at new ≡ take at old → Keeps b c → Consumes a c (take at new)
kept a b c old new at p same keeps = subst (λ xs. Consumes a c xs) (sym same) (Consumes-kept a b c (take at old) p keeps)

-- the source is at its end
pub reads_end : (a b c : Option (List ℕ)) (x y : ℕ) (old new : List ℕ) (at : ℕ) → at < length new → Consumes a b (take at old) → take at new ≡ take at old
    → IsAtEnd b → Keeps b c → Reads a c x y new (End at)
reads_end a b c x y old new at less p same end keeps =
    (less, kept a b c old new at p same keeps, subst (λ xs. IsAll a xs) (sym same) (all_at_end a b (take at old) p end))

-- a read failed
pub reads_fault : (a b c : Option (List ℕ)) (x y z : ℕ) (old new : List ℕ) (at : ℕ) → at < length new → Consumes a b (take at old) → take at new ≡ take at old
    → Keeps b c → x ≤ y → Rose y z → Reads a c x z new Failed
reads_fault a b c x y z old new at less p same keeps later rose = (omega arith, at, less, kept a b c old new at p same keeps)
