-- A client's accepted manifest makes a write that the plane takes, and whatever the plane takes of a client may be stored.
use Rattle.std.proofs.Common.{◌≡◌, ◌⊎◌, inl, inr, ℕ, true, ◌||◌, List, Ok, refl, sym, ap, ◌∙◌, subst}
use Rattle.std.proofs.lemmas.Bool.{and_parts, and_from, or_left, or_right, or_cases}
use Rattle.json_tree.specs.declared.value.Json.{Json}
use Rattle.serve_names.specs.Labels.{is_label_of}
use Rattle.resource_types.specs.declared.names.Kind.{Kind}
use Rattle.resource_types.specs.declared.names.Kind.TheVariants as kind
use Rattle.resource_types.specs.declared.names.ClientKind.{ClientKind}
use Rattle.resource_types.specs.declared.names.ClientKind.TheVariants as client
use Rattle.resource_types.specs.declared.names.Key.{Key}
use Rattle.resource_types.specs.declared.manifests.Manifest.{Manifest}
use Rattle.resource_types.specs.declared.objects.Body.{Body}
use Rattle.resource_types.specs.declared.objects.Body.TheVariants.{Service, Configuration, Revision, Route, Health, Table as Published}
use Rattle.resource_types.specs.declared.objects.Object.{Object}
use Rattle.resource_types.specs.Objects.{same_kind, is_of, is_of_client, kind_of_body, status_of}
use Rattle.resource_types.specs.Lookups.{State, find}
use Rattle.resource_types.specs.Manifests.{object_kind}
use Rattle.resource_types.proofs.Exact.{kind-exact, kind-own}
use Rattle.resource_codec.specs.Objects.{IsClientBody}
use Rattle.resource_codec.specs.Sound.{RestOfSpecFits, ManifestRises}
use Rattle.manifest_intake.specs.Intake.{Purpose, accepted}
use Rattle.control_rules.specs.Lawful.{owner_of, status_over, asked_of, MayPut}
use Rattle.manifest_intake.specs.Good.{is_good, IsAskedBy}
use Rattle.resource_codec.specs.Storable.{IsStorable}
use Rattle.manifest_intake.proofs.Exact.{good_exact}
use Rattle.manifest_intake.proofs.Accepted.{accepted_good}
use Rattle.manifest_intake.proofs.Storing.{client_from, client_storable}

-- what the plane takes of a client may be stored
pub put_storable : (st : State) (k : Key) (o : Object) → MayPut is_good st k o → IsStorable o
put_storable st k o p = client_storable o p.client p.good

-- an accepted manifest, over what stands, is a put that the plane takes
pub accepted_may_put : (purpose : Purpose) (kind : ClientKind) (json : Json) (m : Manifest) (space : List ℕ) (st : State) (o : Object) → accepted purpose kind json ≡ Ok m
    → RestOfSpecFits 3 32 m.spec → ManifestRises m → is_label_of space 63 ≡ true → IsAskedBy kind space m o → kind_of_body o.body ≡ object_kind kind
    → o.meta.owner ≡ owner_of (find o.key st) → status_of o.body ≡ status_over (find o.key st) → MayPut is_good st o.key o
accepted_may_put purpose kind json m space st o e rest rise label by fits owner status = record {
  key = refl;
  client = client_from kind o (ap (λ (k : Key). k.kind) by.key) fits;
  good = (good_exact _).1 (accepted_good purpose kind json m space o e rest rise label by);
  owner = owner;
  status = status;
}
