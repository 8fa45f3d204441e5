-- Every good manifest is accepted as it is written, so no more is asked of one than the API asks.
use Rattle.std.proofs.Common.{◌≡◌, ℕ, ◌≤◌, true, List, [], Ok, refl, ap, ◌∙◌}
use Rattle.std.specs.Prelude.{bytes_eq}
use Rattle.std.proofs.lemmas.Bool.{or_right}
use Rattle.std.proofs.lemmas.Slice.Eq.{bytes_eq-Decides}
use Rattle.json_tree.specs.Tree.{is_well_formed, depth_of}
use Rattle.resource_types.specs.declared.manifests.Manifest.{Manifest}
use Rattle.resource_types.specs.Manifests.{api_version, kind_text}
use Rattle.resource_codec.specs.Written.{kind_of, written}
use Rattle.resource_codec.proofs.Again.{again}
use Rattle.resource_codec.proofs.Well.{written_fits}
use Rattle.validation.specs.Defaults.{is_empty, defaults_of}
use Rattle.validation.specs.Rules.{first_fault, rules_of}
use Rattle.manifest_intake.specs.Intake.{Purpose, create, checking, fits_namespace, fits_name, fits_version, matched, accepted}
use Rattle.manifest_intake.specs.Good.{IsGood}
use Rattle.manifest_intake.proofs.Exact.{well_written}

same_bytes : (a b : List ℕ) → a ≡ b → bytes_eq a b ≡ true
same_bytes a b e = (bytes_eq-Decides a b).1 e

is_none : (xs : List ℕ) → xs ≡ [] → is_empty xs ≡ true
is_none xs e = rw e refl

matches : (purpose : Purpose) (m : Manifest) → IsGood m → m.api ≡ api_version → fits_namespace purpose m.namespace ≡ true → fits_name purpose m.name ≡ true
    → fits_version purpose m.version ≡ true → matched purpose (kind_of m.spec) m ≡ Ok tt
unfolding matched
matches purpose m h api space name version =
    rw (same_bytes m.api api_version api, same_bytes m.kind (kind_text (kind_of m.spec)) h.regular.kind, space, name, version) refl

full_valid : (m : Manifest) → IsGood m → first_fault (rules_of (defaults_of m)) ≡ Ok tt
full_valid m h = ap (λ (x : Manifest). first_fault (rules_of x)) h.full ∙ h.valid

-- a good manifest is accepted where it is written, as what it is, for a purpose that its namespace, its name and its version fit
pub good_accepted : (purpose : Purpose) (m : Manifest) → IsGood m → m.api ≡ api_version → fits_namespace purpose m.namespace ≡ true → fits_name purpose m.name ≡ true
    → fits_version purpose m.version ≡ true → accepted purpose (kind_of m.spec) (written m) ≡ Ok m
unfolding accepted
good_accepted purpose m h api space name version = rw (again m h.regular, matches purpose m h api space name version, full_valid m h) (ap Ok h.full)

-- without a version, it is made in its namespace
pub good_created : (m : Manifest) → IsGood m → m.api ≡ api_version → m.version ≡ [] → accepted (create m.namespace) (kind_of m.spec) (written m) ≡ Ok m
good_created m h api version =
    good_accepted (create m.namespace) m h api (or_right (is_empty m.namespace) _ (same_bytes m.namespace m.namespace refl)) refl (is_none m.version version)

-- and checked alone
pub good_checked : (m : Manifest) → IsGood m → m.api ≡ api_version → m.version ≡ [] → accepted checking (kind_of m.spec) (written m) ≡ Ok m
good_checked m h api version = good_accepted checking m h api (or_right (is_empty m.namespace) _ h.namespace) refl (is_none m.version version)

-- what is written of it is readable
pub good_readable : (m : Manifest) → IsGood m → (is_well_formed (written m) ≡ true) × (depth_of (written m) ≤ 32)
good_readable m h = ((written_fits m (well_written m h.rest h.rise)).well, h.deep)
