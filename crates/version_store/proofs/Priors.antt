-- The versions of the entries before, each on the key of a later entry.
use Rattle.std.proofs.Common.{◌≡◌, ℕ, zero, suc, ◌<◌, List, [], ◌∷◌, ◌++◌, length, take, get_or, append_assoc, append-nil, Some, Ordering, refl, sym, ap, ◌∙◌, arith}
use Rattle.std.specs.Prelude.{slice_get}
use Rattle.std.specs.Cmp.{IsTotalOrder}
use Rattle.std.proofs.lemmas.Option.{get_or_from_slice_get}
use Rattle.version_store.specs.declared.item.Item.{Ghosts}
use Rattle.version_store.specs.declared.write.Entry.{Entry}
use Rattle.version_store.specs.State.{standing_under, replaced_at}
use Rattle.version_store.specs.Journal.{last_version, entry_at_version, object_in, AreStamped}
use Rattle.version_store.specs.Index.{priors_from, prior_versions}
use Rattle.version_store.proofs.Keys.{some_at}
use Rattle.version_store.proofs.Standing.{last_decides}

module _ {O D K N A : Type 0} (cmp : K → K → Ordering) where
  priors_from-push : (before entries : List (Entry O D K N A)) (entry : Entry O D K N A) → priors_from cmp before (entries ++ entry ∷ []) ≡ priors_from cmp before entries ++ last_version cmp (before ++ entries) entry.key ∷ []
  priors_from-push before [] entry = ap (λ es. last_version cmp es entry.key ∷ []) (sym (append-nil before))
  priors_from-push before (first ∷ entries) entry =
      let before' = before ++ first ∷ [] in
      ap (λ vs. last_version cmp before first.key ∷ vs)
      (priors_from-push before' entries entry ∙ ap (λ es. priors_from cmp before' entries ++ last_version cmp es entry.key ∷ []) (append_assoc before (first ∷ []) entries))

  -- the prior versions after one entry more
  pub priors-push : (entries : List (Entry O D K N A)) (entry : Entry O D K N A) (priors : List ℕ) (key : K) (last : ℕ) → priors ≡ prior_versions cmp entries → entry.key ≡ key → last ≡ last_version cmp entries key
      → priors ++ last ∷ [] ≡ prior_versions cmp (entries ++ entry ∷ [])
  priors-push entries entry priors key last is own l =
      ap (λ vs. vs ++ last ∷ []) is ∙ ap (λ v. prior_versions cmp entries ++ v ∷ []) (l ∙ ap (last_version cmp entries) (sym own)) ∙ sym (priors_from-push [] entries entry)

  length-from : (before entries : List (Entry O D K N A)) → length (priors_from cmp before entries) ≡ length entries
  length-from before [] = refl
  length-from before (entry ∷ entries) = ap suc (length-from (before ++ entry ∷ []) entries)

  -- each entry has one
  pub length-priors : (entries : List (Entry O D K N A)) → length (prior_versions cmp entries) ≡ length entries
  length-priors entries = length-from [] entries

  priors_at : (before entries : List (Entry O D K N A)) (place : ℕ) (entry : Entry O D K N A) → slice_get entries place ≡ Some entry
      → slice_get (priors_from cmp before entries) place ≡ Some (last_version cmp (before ++ take place entries) entry.key)
  priors_at before [] place entry e = absurd cc
  priors_at before (first ∷ entries) zero entry e =
      let f : first ≡ entry = cc in
      ap (λ (x : Entry O D K N A). Some (last_version cmp before x.key)) f ∙ ap (λ es. Some (last_version cmp es entry.key)) (sym (append-nil before))
  priors_at before (first ∷ entries) (suc place) entry e =
      priors_at (before ++ first ∷ []) entries place entry e ∙ ap (λ es. Some (last_version cmp es entry.key)) (append_assoc before (first ∷ []) (take place entries))

-- the entry that has the prior version of a place put what the entry at the place replaced
pub prior_decides : {O D K N A : Type 0} (item : Ghosts O D K N A) (cmp : K → K → Ordering) (total : IsTotalOrder cmp) (entries : List (Entry O D K N A)) (stamped : AreStamped item cmp entries) (place : ℕ) (priors : List ℕ) (prior : ℕ)
    → priors ≡ prior_versions cmp entries → place < length entries → prior ≡ get_or priors place prior → object_in (entry_at_version entries prior) ≡ replaced_at item.key cmp entries place
prior_decides item cmp total entries stamped place priors prior is lt read =
    let here = some_at entries place lt in
    let last : prior ≡ last_version cmp (take place entries) here.0.key = read ∙ get_or_from_slice_get priors place (last_version cmp (take place entries) here.0.key) prior (ap (λ vs. slice_get vs place) is ∙ priors_at cmp [] entries place here.0 here.1) in
    ap (λ v. object_in (entry_at_version entries v)) last
    ∙ sym (last_decides item cmp total entries stamped place (omega (arith, lt)) here.0.key)
    ∙ sym (ap (standing_under item.key cmp entries place) here.1)
