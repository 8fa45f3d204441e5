-- The rules of a manifest with defaults, as a table of lines: the first line that isn't kept decides.
use Rattle.std.specs.Prelude.{ℕ, suc, Bool, true, false, ◌&&◌, ◌||◌, not, ◌==◌, nat_le, nat_eq, ◌+◌, List, [], ◌∷◌, ◌++◌, length, drop, codes, Option, Some, None, Result, Ok, Err, unwrap_or, sum_by, if◌then◌else◌}
use Rattle.std.specs.List.{list_any, starts_with}
use Rattle.std.specs.Str.{bytes_eq}
use Rattle.json_tree.specs.Tree.{find}
use Rattle.json_tree.specs.declared.value.Json.{Json}
use Rattle.json_tree.specs.declared.value.Json.TheViews.{out-Json}
use Rattle.json_tree.specs.declared.value.Json.TheOpen.{Json-F}
use Rattle.serve_names.specs.Labels.{is_label_of}
use Rattle.resource_types.specs.declared.names.ClientKind.{ClientKind}
use Rattle.resource_types.specs.declared.names.ClientKind.TheVariants as kind
use Rattle.resource_types.specs.declared.specification.PodSpec.{PodSpec}
use Rattle.resource_types.specs.declared.specification.Template.{Template}
use Rattle.resource_types.specs.declared.specification.Target.{Target}
use Rattle.resource_types.specs.declared.manifests.Manifest.{Manifest}
use Rattle.resource_types.specs.declared.manifests.ManifestSpec.{ManifestSpec}
use Rattle.resource_types.specs.declared.manifests.ManifestSpec.TheVariants as spec
use Rattle.validation.specs.declared.places.Place.{Place}
use Rattle.validation.specs.declared.places.Place.TheVariants as place
use Rattle.validation.specs.declared.places.Rule.{Rule}
use Rattle.validation.specs.declared.places.Rule.TheVariants as rule
use Rattle.validation.specs.declared.places.Invalid.{Invalid}
use Rattle.validation.specs.Defaults.{is_empty}

-- ---- tables of rules

-- a rule at a place, and whether it is kept there
pub record Line : Type 0 where
  pub place : Place
  pub rule : Rule
  pub is_kept : Bool

abbrev pub line : Place → Rule → Bool → Line
line p r b = record { place = p; rule = r; is_kept = b }

abbrev pub Verdict : Type 0
Verdict = Result (Unit {0}) Invalid

infixl 10 ◌>>=◌
abbrev pub ◌>>=◌ : {A B E : Type 0} → Result A E → (A → Result B E) → Result B E
(Ok x) >>= f = f x
(Err e) >>= f = Err e

-- what one line says
unfoldable pub verdict_of : Line → Verdict
verdict_of l = if l.is_kept then Ok tt else Err (record { place = l.place; rule = l.rule })

-- what a table says: the first line that isn't kept decides
abbrev pub first_fault : List Line → Verdict
first_fault [] = Ok tt
first_fault (l ∷ ls) = do
  _ ← verdict_of l
  first_fault ls

abbrev pub is_between : ℕ → ℕ → ℕ → Bool
is_between least most n = nat_le least n && nat_le n most

-- ---- templates

-- one layer of the value of a member, and null where there is none
abbrev pub layer : Option Json → Json-F Json
layer None = Json-F.Null
layer (Some j) = out-Json j

-- the items of an array; any other value has none
abbrev pub items : Json-F Json → List Json
items (Json-F.Arr js) = js
items _ = []

-- the items of the member `containers`
abbrev pub containers : PodSpec → List Json
containers s = items (layer (find (codes "containers") s.rest.entries))

abbrev pub is_given_text : Json-F Json → Bool
is_given_text (Json-F.Str s) = not (is_empty s)
is_given_text _ = false

-- an object whose member `image` is a text that isn't empty
abbrev pub has_image : Json-F Json → Bool
has_image (Json-F.Obj m) = is_given_text (layer (find (codes "image") m.entries))
has_image _ = false

-- the name, a dash, and then anything
abbrev pub begins_with : List ℕ → List ℕ → Bool
begins_with n text = starts_with nat_eq text n && starts_with nat_eq (drop (length n) text) (codes "-")

abbrev pub is_template_name : List ℕ → List ℕ → Bool
is_template_name n text = is_label_of text 63 && begins_with n text

-- the containers from number i on
abbrev pub container_lines : ℕ → List Json → List Line
container_lines i [] = []
container_lines i (c ∷ cs) = line (place.Image i) rule.Image (has_image (out-Json c)) ∷ container_lines (suc i) cs

unfoldable pub limit_lines : PodSpec → List Line
limit_lines s =
    line place.ContainerConcurrency rule.Concurrency (nat_le (unwrap_or s.concurrency 0) 1000)
    ∷ (line place.TimeoutSeconds rule.Timeout (nat_le (unwrap_or s.timeout 0) 600)
    ∷ [])

-- a template under the manifest's name
unfoldable pub template_lines : List ℕ → Template → List Line
template_lines n t =
    line place.TemplateName rule.TemplateName (is_empty t.name || is_template_name n t.name)
    ∷ (line place.Containers rule.Containers (is_between 1 16 (length (containers t.spec)))
    ∷ (container_lines 0 (containers t.spec) ++ limit_lines t.spec))

-- ---- targets

abbrev pub has_tag : List ℕ → Target → Bool
has_tag tag t = bytes_eq t.tag tag

abbrev pub percent_of : Target → ℕ
percent_of t = unwrap_or t.percent 0

abbrev pub same : Bool → Bool → Bool
same true b = b
same false b = not b

-- `latestRevision` is true exactly where no Revision is named
abbrev pub is_latest_as_named : Target → Bool
is_latest_as_named t = same (unwrap_or t.latest false) (is_empty t.revision)

abbrev pub is_absent_or_label : List ℕ → ℕ → Bool
is_absent_or_label text longest = is_empty text || is_label_of text longest

-- a label that with a dash and the name behind it is still one
abbrev pub is_tag_before : List ℕ → List ℕ → Bool
is_tag_before n tag = is_label_of tag 63 && nat_le (length tag + 1 + length n) 63

-- what a target may name: in a Service no Configuration, in a Route one Revision or one Configuration
abbrev pub naming_line : ClientKind → ℕ → Target → Line
naming_line kind.Service i t = line (place.ConfigurationName i) rule.Absent (is_empty t.configuration)
naming_line other i t = line (place.Target i) rule.OneName (same (is_empty t.configuration) (not (is_empty t.revision)))

-- the target with number i, behind the earlier ones
unfoldable pub target_lines : ClientKind → List ℕ → List Target → ℕ → Target → List Line
target_lines k n earlier i t =
    naming_line k i t
    ∷ (line (place.ConfigurationName i) rule.Label (is_absent_or_label t.configuration 42)
    ∷ (line (place.RevisionName i) rule.Label (is_absent_or_label t.revision 63)
    ∷ (line (place.LatestRevision i) rule.Latest (is_latest_as_named t)
    ∷ (line (place.Percent i) rule.Percent (nat_le (percent_of t) 100)
    ∷ (line (place.Tag i) rule.Tag (is_empty t.tag || is_tag_before n t.tag)
    ∷ (line (place.Tag i) rule.TagOnce (is_empty t.tag || not (list_any (has_tag t.tag) earlier))
    ∷ []))))))

-- the targets that follow the earlier ones, each in its turn
unfoldable pub each_target_lines : ClientKind → List ℕ → List Target → List Target → List Line
each_target_lines k n earlier [] = []
each_target_lines k n earlier (t ∷ ts) = target_lines k n earlier (length earlier) t ++ each_target_lines k n (earlier ++ t ∷ []) ts

-- the targets of a Service or a Route
unfoldable pub traffic_lines : ClientKind → List ℕ → List Target → List Line
traffic_lines k n ts =
    line place.Traffic rule.TargetCount (is_between 1 16 (length ts))
    ∷ (each_target_lines k n [] ts
    ++ line place.Traffic rule.Sum (sum_by percent_of ts == 100) ∷ [])

-- ---- manifests

unfoldable pub spec_lines : List ℕ → ManifestSpec → List Line
spec_lines n (spec.Service template traffic) = template_lines n template ++ traffic_lines kind.Service n traffic
spec_lines n (spec.Configuration template) = template_lines n template
spec_lines n (spec.Route traffic) = traffic_lines kind.Route n traffic

-- the rules of a manifest in their order
unfoldable pub rules_of : Manifest → List Line
rules_of m = line place.MetadataName rule.Name (is_label_of m.name 42) ∷ spec_lines m.name m.spec
