-- The end is the one that is due, where neither end failed.
use Rattle.std.proofs.Common.{◌≡◌, ℕ, ◌+◌, ◌≤◌, List, length, Option, Some, None, Result, Ok, Err, refl, sym, ap, subst, ◌∙◌, inl, inr, arith, length-append}
use Rattle.std.specs.Prelude.{◌⊎◌}
use Rattle.std.specs.Option.{IfSome}
use Rattle.std.specs.Io.KnownBytes.{Consumes}
use Rattle.json_tree.specs.declared.value.Json.{Json}
use Rattle.serve_io.specs.Causes.{Rose}
use Rattle.http_session.specs.Session.{IsAll}
use Rattle.resource_types.specs.declared.manifests.Manifest.{Manifest}
use Rattle.manifest_intake.specs.declared.refusal.ManifestRefusal.{ManifestRefusal}
use Rattle.manifest_intake.specs.Bodies.{IsBody}
use Rattle.manifest_intake.specs.Intake.{checked_body}
use Rattle.manifest_intake.proofs.Bodies.{one_body}
use Rattle.manifest_check.specs.declared.command.CheckEnd.{CheckEnd}
use Rattle.manifest_check.specs.declared.command.CheckEnd.TheVariants.{Done, Refused, ReadFault, WriteFault, Memory}
use Rattle.manifest_check.specs.Lines.{refusal_line, long_line}
use Rattle.serve_io.specs.Gate.{Ends}
use Rattle.manifest_check.specs.Checks.{Gives, IsLong, Leaves, IsDue, IsComplete}

-- what was read to its end is all that there was
whole_of : (left : Option (List ℕ)) (all bytes : List ℕ) → left ≡ Some all → IsAll left bytes → bytes ≡ all
whole_of None all bytes told whole = absurd cc
whole_of (Some xs) all bytes told whole = let same : xs ≡ all = cc in sym whole ∙ same

-- an input gives one manifest or refusal
same_found : (old new : Ends) (found found' : Result Manifest ManifestRefusal) (all : List ℕ) (body : Option Json) → old.left ≡ Some all
    → Gives old new found → IsBody all body → checked_body body ≡ found' → found ≡ found'
same_found old new found found' all body told g is checked =
    let e : g.bytes ≡ all = whole_of old.left all g.bytes told g.input.all in
    let here : IsBody all g.body = subst (λ b. IsBody b g.body) e g.input.reading in
    sym g.checked ∙ ap checked_body (one_body all g.body body here is) ∙ checked

not_long : (left rest : Option (List ℕ)) (all bytes : List ℕ) → left ≡ Some all → Consumes left rest bytes → length bytes ≡ 65537 → length all ≤ 65536 → ⊥
not_long None rest all bytes told took long short = cc
not_long (Some xs) None all bytes told took long short = took
not_long (Some xs) (Some ys) all bytes told took long short =
    let same : xs ≡ all = cc in
    let sum : length all ≡ length bytes + length ys = ap length (sym same ∙ took) ∙ length-append bytes ys in
    omega (arith, sum, short, long)

short_of : (old new : Ends) (found : Result Manifest ManifestRefusal) (all : List ℕ) → old.left ≡ Some all → Gives old new found → length all ≤ 65536
short_of old new found all told g =
    let e : g.bytes ≡ all = whole_of old.left all g.bytes told g.input.all in
    omega (arith, ap length e, g.input.short)

due : (old new : Ends) (end : CheckEnd) (all : List ℕ) → old.left ≡ Some all → Leaves old new end
    → ¬ (Rose old.reads_failed new.reads_failed) → ¬ (Rose old.writes_failed new.writes_failed) → IsDue all end
due old new Done all told (line, (manifest, gives, is), written) reads writes = record {
  taken = λ body m short whole checked. inl refl;
  refused = λ body refusal short whole checked. absurd (apart manifest refusal (same_found old new (Ok manifest) (Err refusal) all body told gives whole checked));
  long = λ more. let few = short_of old new (Ok manifest) all told gives in absurd (omega (arith, more, few));
}
  where
    apart : (m : Manifest) (r : ManifestRefusal) → Ok m ≡ Err r → ⊥
    apart m r e = cc
due old new Refused all told (line, is, written) reads writes = record {
  taken = λ body m short whole checked. absurd (not_refused m body short whole checked is);
  refused = λ body refusal short whole checked. inl refl;
  long = λ more. inl refl;
}
  where
    not_refused : (m : Manifest) (body : Option Json) → length all ≤ 65536 → IsBody all body → checked_body body ≡ Ok m
        → ((r : ManifestRefusal) × Gives old new (Err r) × (line ≡ refusal_line r)) ⊎ (IsLong old new × (line ≡ long_line)) → ⊥
    not_refused m body short whole checked (inl (r, gives, same)) =
        let e : Err r ≡ Ok m = same_found old new (Err r) (Ok m) all body told gives whole checked in cc
    not_refused m body short whole checked (inr (long, same)) = not_long old.left new.left all long.bytes told long.consumed long.long short
due old new ReadFault all told (rose, none) reads writes = absurd (reads rose)
due old new WriteFault all told (rose, cuts) reads writes = absurd (writes rose)
due old new Memory all told none reads writes = record {
  taken = λ body m short whole checked. inr refl;
  refused = λ body refusal short whole checked. inr refl;
  long = λ more. inr refl;
}

pub complete : (old new : Ends) (end : CheckEnd) → Leaves old new end → IsComplete old new end
complete old new end leaves = by_left old.left refl
  where
    by_left : (left : Option (List ℕ)) → old.left ≡ left
        → IfSome left (λ all. ¬ (Rose old.reads_failed new.reads_failed) → ¬ (Rose old.writes_failed new.writes_failed) → IsDue all end)
    by_left None told = tt
    by_left (Some all) told = λ reads writes. due old new end all told leaves reads writes
