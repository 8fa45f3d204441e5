-- The laws of good manifests, on which safety stands.
use Rattle.std.proofs.Common.{◌≡◌, ◌≢◌, ℕ, false, List, [], ◌∷◌, map, refl, sym, ap, subst}
use Rattle.json_tree.specs.declared.members.Table.{Table}
use Rattle.resource_types.specs.declared.names.Kind.TheVariants as kind
use Rattle.resource_types.specs.declared.names.ClientKind.TheVariants as client
use Rattle.resource_types.specs.declared.names.Name.{Name}
use Rattle.resource_types.specs.declared.specification.Template.{Template}
use Rattle.resource_types.specs.declared.specification.Target.{Target}
use Rattle.resource_types.specs.declared.manifests.ManifestSpec.TheVariants as spec
use Rattle.resource_types.specs.declared.objects.Body.{Body}
use Rattle.resource_types.specs.declared.objects.Body.TheVariants.{Service, Configuration, Revision, Route, Health, Table as Published}
use Rattle.resource_types.specs.declared.objects.Object.{Object}
use Rattle.resource_types.specs.Objects.{no_status, targets_of, kind_of_body}
use Rattle.resource_types.specs.Manifests.{manifest_spec}
use Rattle.resource_codec.specs.Written.{kind_of, Rises}
use Rattle.validation.specs.Defaults.{is_empty}
use Rattle.validation.specs.Rules.{spec_lines}
use Rattle.control_rules.specs.Standing.{template_of, with_template, with_targets}
use Rattle.control_rules.specs.Differences.{one_label, service_label, no_labels, rebodied}
use Rattle.control_rules.specs.NextService.{converted_target, converted, service_child}
use Rattle.control_rules.specs.Lawful.{asked_of}
use Rattle.control_safety.specs.Goods.{IsAt, AreWellTagged, IsGoodLaws}
use Rattle.manifest_intake.specs.Good.{is_good, IsGood}
use Rattle.manifest_intake.proofs.Exact.{good_exact}
use Rattle.good_laws.proofs.Tags.{well_tagged}
use Rattle.manifest_intake.proofs.Parts.{IsGoodSpec, IsGoodAt, parts_good}
use Rattle.good_laws.proofs.Parts.{traffic_of, template_good, targets_good, good_parts}

-- ---- bodies

some_name : (n : List ℕ) → n ≢ [] → is_empty n ≡ false
some_name [] h = absurd (h refl)
some_name (x ∷ xs) h = refl

template_from : (n : List ℕ) (b : Body) → kind_of_body b ≡ kind.Service → IsGoodSpec n (manifest_spec b) → IsGoodSpec n (spec.Configuration (template_of b))
template_from n (Service template traffic status) e h = template_good n template traffic h
template_from n (Configuration template status) e h = absurd cc
template_from n (Revision s generation pins active status) e h = absurd cc
template_from n (Route traffic status) e h = absurd cc
template_from n (Health uid resources container ever) e h = absurd cc
template_from n (Published route rows targets) e h = absurd cc

targets_from : (n : Name) (labels annotations : Table (List ℕ)) (b : Body) → kind_of_body b ≡ kind.Service → IsGoodAt n labels annotations (manifest_spec b)
    → IsGoodSpec n.name (spec.Route (map (converted_target n) (targets_of b)))
targets_from n l a (Service template traffic status) e h = targets_good n h.label (some_name n.name h.some) template traffic h.spec
targets_from n l a (Configuration template status) e h = absurd cc
targets_from n l a (Revision s generation pins active status) e h = absurd cc
targets_from n l a (Route traffic status) e h = absurd cc
targets_from n l a (Health uid resources container ever) e h = absurd cc
targets_from n l a (Published route rows targets) e h = absurd cc

tagged_from : (n : List ℕ) (b : Body) → kind_of_body b ≡ kind.Route → IsGoodSpec n (manifest_spec b) → AreWellTagged (targets_of b)
unfolding spec_lines
tagged_from n (Service template traffic status) e h = absurd cc
tagged_from n (Configuration template status) e h = absurd cc
tagged_from n (Revision s generation pins active status) e h = absurd cc
tagged_from n (Route traffic status) e h = well_tagged client.Route n traffic h.lines (ap traffic_of h.full)
tagged_from n (Health uid resources container ever) e h = absurd cc
tagged_from n (Published route rows targets) e h = absurd cc

with_template-spec : (t : Template) (b : Body) → kind_of_body b ≡ kind.Configuration → manifest_spec (with_template t b) ≡ spec.Configuration t
with_template-spec t (Service template traffic status) e = absurd cc
with_template-spec t (Configuration template status) e = refl
with_template-spec t (Revision s generation pins active status) e = absurd cc
with_template-spec t (Route traffic status) e = absurd cc
with_template-spec t (Health uid resources container ever) e = absurd cc
with_template-spec t (Published route rows targets) e = absurd cc

with_targets-spec : (ts : List Target) (b : Body) → kind_of_body b ≡ kind.Route → manifest_spec (with_targets ts b) ≡ spec.Route ts
with_targets-spec ts (Service template traffic status) e = absurd cc
with_targets-spec ts (Configuration template status) e = absurd cc
with_targets-spec ts (Revision s generation pins active status) e = absurd cc
with_targets-spec ts (Route traffic status) e = refl
with_targets-spec ts (Health uid resources container ever) e = absurd cc
with_targets-spec ts (Published route rows targets) e = absurd cc

-- ---- labels of what is made

one_rises : (value : List ℕ) → Rises (one_label service_label value)
one_rises value = refl

none_rise : Rises no_labels
none_rise = refl

-- ---- the laws

-- the targets of a good Route are whole, and their tags differ
pub route_well_tagged : (n : Name) (r : Object) → IsAt kind.Route n r → IsGood (asked_of r) → AreWellTagged (targets_of r.body)
route_well_tagged n r at h = tagged_from n.name r.body at.fits (good_parts kind.Route n r at h).spec

-- the Configuration that is made of a good Service is good
pub makes_configuration : (n : Name) (s : Object) → IsAt kind.Service n s → IsGood (asked_of s)
    → IsGood (asked_of (service_child n s kind.Configuration (Configuration (template_of s.body) no_status)))
makes_configuration n s at h =
    let p = good_parts kind.Service n s at h in
    parts_good client.Configuration n (service_child n s kind.Configuration (Configuration (template_of s.body) no_status)) refl refl h.regular.api
    (record { label = p.label; some = p.some; space = p.space; labels_rise = one_rises n.name; annotations_rise = none_rise; spec = template_from n.name s.body at.fits p.spec })

-- the Route that is made of a good Service is good
pub makes_route : (n : Name) (s : Object) → IsAt kind.Service n s → IsGood (asked_of s)
    → IsGood (asked_of (service_child n s kind.Route (Route (converted n s) no_status)))
unfolding converted
makes_route n s at h =
    let p = good_parts kind.Service n s at h in
    parts_good client.Route n (service_child n s kind.Route (Route (converted n s) no_status)) refl refl h.regular.api
    (record { label = p.label; some = p.some; space = p.space; labels_rise = one_rises n.name; annotations_rise = none_rise; spec = targets_from n s.meta.labels s.meta.annotations s.body at.fits p })

-- a good Configuration with the template of a good Service of its name is good
pub templates_stay : (n : Name) (s c : Object) → IsAt kind.Service n s → IsAt kind.Configuration n c → IsGood (asked_of s) → IsGood (asked_of c)
    → IsGood (asked_of (rebodied c (with_template (template_of s.body) c.body)))
templates_stay n s c at to h g =
    let p = good_parts kind.Service n s at h in
    let q = good_parts kind.Configuration n c to g in
    let new = with_template-spec (template_of s.body) c.body to.fits in
    parts_good client.Configuration n (rebodied c (with_template (template_of s.body) c.body))
    to.key (ap kind_of new) h.regular.api
    (record { label = q.label; some = q.some; space = q.space; labels_rise = q.labels_rise; annotations_rise = q.annotations_rise; spec = subst (IsGoodSpec n.name) (sym new) (template_from n.name s.body at.fits p.spec) })

-- a good Route with the targets of a good Service of its name is good
pub targets_stay : (n : Name) (s r : Object) → IsAt kind.Service n s → IsAt kind.Route n r → IsGood (asked_of s) → IsGood (asked_of r)
    → IsGood (asked_of (rebodied r (with_targets (converted n s) r.body)))
unfolding converted
targets_stay n s r at to h g =
    let p = good_parts kind.Service n s at h in
    let q = good_parts kind.Route n r to g in
    let new = with_targets-spec (converted n s) r.body to.fits in
    parts_good client.Route n (rebodied r (with_targets (converted n s) r.body))
    to.key (ap kind_of new) h.regular.api
    (record { label = q.label; some = q.some; space = q.space; labels_rise = q.labels_rise; annotations_rise = q.annotations_rise; spec = subst (IsGoodSpec n.name) (sym new) (targets_from n s.meta.labels s.meta.annotations s.body at.fits p) })

-- the test of good manifests keeps the laws
pub good_laws : IsGoodLaws is_good
good_laws = record {
  route = λ n r at h. route_well_tagged n r at ((good_exact _).0 h);
  makes_configuration = λ n s at h. (good_exact _).1 (makes_configuration n s at ((good_exact _).0 h));
  makes_route = λ n s at h. (good_exact _).1 (makes_route n s at ((good_exact _).0 h));
  templates = λ n s c at to h g. (good_exact _).1 (templates_stay n s c at to ((good_exact _).0 h) ((good_exact _).0 g));
  targets = λ n s r at to h g. (good_exact _).1 (targets_stay n s r at to ((good_exact _).0 h) ((good_exact _).0 g));
}
