-- The test of a good manifest, and the fact that it tests.
use Rattle.std.proofs.Common.{◌≡◌, ◌≢◌, ◌↔◌, ◌≤◌, true, not, List, [], ◌∷◌, Ok, Err, is_ok, refl, arith}
use Rattle.std.proofs.lemmas.Bool.{and_parts, and_from, le-leb, leb-true}
use Rattle.std.proofs.lemmas.Slice.Eq.{bytes_eq-Decides}
use Rattle.json_tree.specs.EqualLaws.{is_equal-exact, is_equal-of}
use Rattle.json_tree.specs.Tree.{depth_of}
use Rattle.resource_types.specs.declared.specification.PodSpec.{PodSpec}
use Rattle.resource_types.specs.declared.specification.Template.{Template}
use Rattle.resource_types.specs.declared.specification.Target.{Target}
use Rattle.resource_types.specs.declared.manifests.Manifest.{Manifest}
use Rattle.resource_types.specs.declared.manifests.ManifestSpec.{ManifestSpec}
use Rattle.resource_types.specs.declared.manifests.ManifestSpec.TheVariants as spec
use Rattle.resource_types.specs.contracts.manifests.Manifest as manifest_row
use Rattle.resource_codec.specs.Written.{object_of, written, HasNoUrls, IsPlain, IsRegular, IsWellTemplate, IsWellSpec, IsWell}
use Rattle.resource_codec.specs.Sound.{RestFits, RestOfSpecFits, SpecRises, ManifestRises}
use Rattle.resource_codec.proofs.Well.{written_deep}
use Rattle.validation.specs.Defaults.{is_empty, defaults_of}
use Rattle.validation.specs.Rules.{Verdict}
use Rattle.manifest_intake.specs.Good.{is_good, IsGood, have_no_urls, is_plain, is_regular, is_sound_rest, is_sound, rises, template_rises, is_ordered}

-- ---- the parts

ok_from : (v : Verdict) → is_ok v ≡ true → v ≡ Ok tt
ok_from (Ok x) e = refl
ok_from (Err e) h = absurd cc

from_ok : (v : Verdict) → v ≡ Ok tt → is_ok v ≡ true
from_ok v e = rw e refl

some_from : {A : Type 0} (xs : List A) → not (is_empty xs) ≡ true → xs ≢ []
some_from [] e = λ h. absurd cc
some_from (x ∷ xs) e = λ h. absurd cc

from_some : {A : Type 0} (xs : List A) → xs ≢ [] → not (is_empty xs) ≡ true
from_some [] h = absurd (h refl)
from_some (x ∷ xs) h = refl

none_from : {A : Type 0} (xs : List A) → is_empty xs ≡ true → xs ≡ []
none_from [] e = refl
none_from (x ∷ xs) e = absurd cc

from_none : {A : Type 0} (xs : List A) → xs ≡ [] → is_empty xs ≡ true
from_none xs e = rw e refl

urls_from : (ts : List Target) → have_no_urls ts ≡ true → HasNoUrls ts
urls_from [] e = tt
urls_from (t ∷ ts) e = let p = and_parts _ _ e in (none_from t.url p.0, urls_from ts p.1)

from_urls : (ts : List Target) → HasNoUrls ts → have_no_urls ts ≡ true
from_urls [] h = refl
from_urls (t ∷ ts) h = and_from _ _ (from_none t.url h.0) (from_urls ts h.1)

plain_from : (s : ManifestSpec) → is_plain s ≡ true → IsPlain s
plain_from (spec.Service template traffic) e = let p = and_parts _ _ e in (p.0, urls_from traffic p.1)
plain_from (spec.Configuration template) e = e
plain_from (spec.Route traffic) e = urls_from traffic e

from_plain : (s : ManifestSpec) → IsPlain s → is_plain s ≡ true
from_plain (spec.Service template traffic) h = and_from _ _ h.0 (from_urls traffic h.1)
from_plain (spec.Configuration template) h = h
from_plain (spec.Route traffic) h = from_urls traffic h

regular_from : (m : Manifest) → is_regular m ≡ true → IsRegular m
regular_from m e =
    let p = and_parts _ _ e in
    let q = and_parts _ _ p.1 in
    let r = and_parts _ _ q.1 in
    record { api = some_from m.api p.0; name = some_from m.name q.0; kind = (bytes_eq-Decides m.kind _).0 r.0; plain = plain_from m.spec r.1 }

from_regular : (m : Manifest) → IsRegular m → is_regular m ≡ true
from_regular m h = and_from _ _ (from_some m.api h.api) (and_from _ _ (from_some m.name h.name) (and_from _ _ ((bytes_eq-Decides m.kind _).1 h.kind) (from_plain m.spec h.plain)))

rest_from : (s : PodSpec) → is_sound_rest s ≡ true → RestFits 3 32 s
rest_from s e = let p = and_parts _ _ e in record { well = p.0; deep = let d = leb-true _ 29 p.1 in omega arith }

from_rest : (s : PodSpec) → RestFits 3 32 s → is_sound_rest s ≡ true
from_rest s h = and_from _ _ h.well (le-leb (depth_of (object_of s.rest.entries)) 29 (let d = h.deep in omega arith))

sound_from : (s : ManifestSpec) → is_sound s ≡ true → RestOfSpecFits 3 32 s
sound_from (spec.Service template traffic) e = rest_from template.spec e
sound_from (spec.Configuration template) e = rest_from template.spec e
sound_from (spec.Route traffic) e = tt

from_sound : (s : ManifestSpec) → RestOfSpecFits 3 32 s → is_sound s ≡ true
from_sound (spec.Service template traffic) h = from_rest template.spec h
from_sound (spec.Configuration template) h = from_rest template.spec h
from_sound (spec.Route traffic) h = refl

template_from : (s : ManifestSpec) → template_rises s ≡ true → SpecRises s
template_from (spec.Service template traffic) e = and_parts _ _ e
template_from (spec.Configuration template) e = and_parts _ _ e
template_from (spec.Route traffic) e = tt

from_template : (s : ManifestSpec) → SpecRises s → template_rises s ≡ true
from_template (spec.Service template traffic) h = and_from _ _ h.0 h.1
from_template (spec.Configuration template) h = and_from _ _ h.0 h.1
from_template (spec.Route traffic) h = refl

order_from : (m : Manifest) → is_ordered m ≡ true → ManifestRises m
order_from m e = let p = and_parts _ _ e in let q = and_parts _ _ p.1 in (p.0, (q.0, template_from m.spec q.1))

from_order : (m : Manifest) → ManifestRises m → is_ordered m ≡ true
from_order m h = and_from _ _ h.0 (and_from _ _ h.1.0 (from_template m.spec h.1.1))

-- ---- how deep it is written

well_template : (t : Template) → RestFits 3 32 t.spec → rises t.labels ≡ true → rises t.annotations ≡ true → IsWellTemplate t
well_template t f l a = record { labels = l; annotations = a; rest = record { well = f.well; deep = let d = f.deep in omega arith } }

well_spec : (s : ManifestSpec) → RestOfSpecFits 3 32 s → SpecRises s → IsWellSpec s
well_spec (spec.Service template traffic) f r = well_template template f r.0 r.1
well_spec (spec.Configuration template) f r = well_template template f r.0 r.1
well_spec (spec.Route traffic) f r = tt

-- a manifest with a sound rest, and names that rise, is written well
pub well_written : (m : Manifest) → RestOfSpecFits 3 32 m.spec → ManifestRises m → IsWell m
well_written m f r = record { labels = r.0; annotations = r.1.0; spec = well_spec m.spec f r.1.1 }

-- and at most 32 deep
pub deep_enough : (m : Manifest) → RestOfSpecFits 3 32 m.spec → ManifestRises m → depth_of (written m) ≤ 32
deep_enough m f r = written_deep 32 m (omega arith) (well_written m f r) f

-- ---- the whole

good_from : (m : Manifest) → is_good m ≡ true → IsGood m
unfolding is_good
good_from m e =
    let p = and_parts _ _ e in
    let q = and_parts _ _ p.1 in
    let r = and_parts _ _ q.1 in
    let s = and_parts _ _ r.1 in
    let t = and_parts _ _ s.1 in
    record {
      valid = ok_from _ p.0;
      full = is_equal-exact manifest_row.the_row.coded (defaults_of m) m q.0;
      regular = regular_from m r.0;
      rest = sound_from m.spec s.0;
      rise = order_from m t.0;
      namespace = t.1;
      deep = deep_enough m (sound_from m.spec s.0) (order_from m t.0);
    }

from_good : (m : Manifest) → IsGood m → is_good m ≡ true
unfolding is_good
from_good m h =
    and_from _ _ (from_ok _ h.valid) (and_from _ _ (is_equal-of manifest_row.the_row.coded (defaults_of m) m h.full)
    (and_from _ _ (from_regular m h.regular) (and_from _ _ (from_sound m.spec h.rest) (and_from _ _ (from_order m h.rise) h.namespace))))

-- the test is true exactly of good manifests
pub good_exact : (m : Manifest) → (is_good m ≡ true) ↔ IsGood m
good_exact m = (good_from m, from_good m)
