-- A Service that is good, and a Route that isn't.
use Rattle.std.proofs.Common.{◌≡◌, ℕ, true, false, List, [], ◌∷◌, Some, refl, arith}
use Rattle.std.specs.Prelude.{codes}
use Rattle.std.proofs.lemmas.Bool.{and_from}
use Rattle.json_tree.specs.declared.value.Json.{Json, Str, Arr}
use Rattle.serve_names.specs.Labels.{is_label_of}
use Rattle.resource_types.specs.declared.specification.PodSpec.{PodSpec}
use Rattle.resource_types.specs.declared.specification.Template.{Template}
use Rattle.resource_types.specs.declared.manifests.Manifest.{Manifest}
use Rattle.resource_types.specs.declared.manifests.ManifestSpec.{ManifestSpec}
use Rattle.resource_types.specs.declared.manifests.ManifestSpec.TheVariants as spec
use Rattle.resource_types.specs.Manifests.{api_version}
use Rattle.resource_codec.specs.Reading.{Member}
use Rattle.resource_codec.specs.Written.{object_of, put_field}
use Rattle.resource_codec.specs.Sound.{Fits, RestFits}
use Rattle.resource_codec.proofs.Texts.{out_str}
use Rattle.resource_codec.proofs.Again.{out_obj, out_arr}
use Rattle.resource_codec.proofs.Sounds.{sound_field, no_members, object_fits, array_fits, str_fits}
use Rattle.validation.specs.Defaults.{latest_target}
use Rattle.validation.specs.Rules.{verdict_of, limit_lines, template_lines, target_lines, each_target_lines, traffic_lines, spec_lines, rules_of}
use Rattle.manifest_intake.specs.Good.{is_good}
use Rattle.manifest_intake.proofs.Exact.{good_exact, deep_enough}

-- one container, with an image
abbrev image : List Member
image = (codes "image", Str (codes "img")) ∷ []

abbrev containers : List Json
containers = object_of image ∷ []

abbrev pod : PodSpec
pod = record { concurrency = Some 0; timeout = Some 300; rest = record { entries = (codes "containers", Arr containers) ∷ [] } }

abbrev template : Template
template = record { name = codes "hello-one"; labels = record { entries = [] }; annotations = record { entries = [] }; spec = pod }

abbrev manifest : List ℕ → ManifestSpec → Manifest
manifest kind s = record { api = api_version; kind = kind; name = codes "hello"; namespace = codes "default"; version = codes "0"; labels = record { entries = [] }; annotations = record { entries = [] }; spec = s }

container_fits : Fits 1 (object_of image)
unfolding put_field
container_fits = object_fits 0 image (sound_field 0 (codes "image") (Some (Str (codes "img"))) [] (str_fits 0 (codes "img")) (no_members 0))

containers_fit : Fits 2 (Arr containers)
containers_fit = array_fits 1 containers (and_from _ _ container_fits.well refl) (omega (arith, container_fits.deep))

rest_fits : RestFits 3 32 pod
unfolding put_field
rest_fits =
    let fits = object_fits 2 pod.rest.entries (sound_field 2 (codes "containers") (Some (Arr containers)) [] containers_fit (no_members 2)) in
    record { well = fits.well; deep = omega (arith, fits.deep) }

-- a Service of that template, with the latest Revision as its target
pub good_service : is_good (manifest (codes "Service") (spec.Service template (latest_target ∷ []))) ≡ true
unfolding verdict_of limit_lines template_lines target_lines each_target_lines traffic_lines spec_lines rules_of is_label_of
good_service = (good_exact (manifest (codes "Service") (spec.Service template (latest_target ∷ [])))).1 (record {
  valid = rw (out_arr containers, out_obj (record { entries = image }), out_str (codes "img")) refl;
  full = refl;
  regular = record { api = λ h. cc; name = λ h. cc; kind = refl; plain = (rw (out_arr containers) refl, (refl, tt)) };
  rest = rest_fits;
  rise = (refl, (refl, (refl, refl)));
  namespace = refl;
  deep = deep_enough (manifest (codes "Service") (spec.Service template (latest_target ∷ []))) rest_fits (refl, (refl, (refl, refl)));
})

-- a Route without targets
pub bad_route : is_good (manifest (codes "Route") (spec.Route [])) ≡ false
unfolding is_good verdict_of traffic_lines each_target_lines spec_lines rules_of is_label_of
bad_route = refl
