-- Manifests of Routes.
use Rattle.std.specs.Prelude.{ℕ, List, [], codes}
use Rattle.resource_types.specs.Manifests.{api_version}
use Rattle.resource_types.specs.declared.manifests.Manifest.{Manifest}
use Rattle.resource_types.specs.declared.manifests.ManifestSpec.TheVariants.{Route}

-- a Route of this name and namespace, with no targets
abbrev pub route_named : List ℕ → List ℕ → Manifest
route_named name namespace = record {
  api = api_version;
  kind = codes "Route";
  name = name;
  namespace = namespace;
  version = [];
  labels = record { entries = [] };
  annotations = record { entries = [] };
  spec = Route [];
}
