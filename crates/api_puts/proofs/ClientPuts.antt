-- What a manifest makes of what stands is what a client may put over it.
use Rattle.std.proofs.Common.{◌≡◌, ℕ, List, Option, Some, refl, sym, ap, subst, ◌∙◌}
use Rattle.std.specs.Option.{ForSome}
use Rattle.version_store.specs.declared.item.Stamp.{Stamp}
use Rattle.version_store.specs.declared.write.Change.TheVariants.{Put}
use Rattle.version_store.specs.Apply.{IsNoRemovalOfNothing}
use Rattle.version_store.specs.declared.write.Expect.{Expect}
use Rattle.version_store.specs.declared.write.Expect.TheVariants as expect
use Rattle.resource_types.specs.declared.names.Kind.{Kind}
use Rattle.resource_types.specs.declared.names.ClientKind.{ClientKind}
use Rattle.resource_types.specs.declared.names.Key.{Key}
use Rattle.resource_types.specs.declared.status.ObjectStatus.{ObjectStatus}
use Rattle.resource_types.specs.declared.manifests.Manifest.{Manifest}
use Rattle.resource_types.specs.declared.manifests.ManifestSpec.{ManifestSpec}
use Rattle.resource_types.specs.declared.manifests.ManifestSpec.TheVariants as spec
use Rattle.resource_types.specs.declared.objects.Object.{Object}
use Rattle.resource_types.specs.Objects.{kind_of_body, owner_of, status_of, status_over}
use Rattle.resource_types.specs.Spec.{no_stamp, stamped}
use Rattle.resource_types.specs.Lookups.{Journal, state, key_of}
use Rattle.resource_types.specs.Manifests.{object_kind, manifest_spec}
use Rattle.resource_codec.specs.Written.{kind_of as spec_kind}
use Rattle.manifest_intake.specs.Good.{IsAskedBy}
use Rattle.manifest_intake.proofs.Storing.{client_from, accepted_passes}
use Rattle.api_outcomes.specs.Outcomes.{ClientPlan, IsClientPut, CanBeMade}
use Rattle.api_puts.specs.Objects.{body_of, made_over}
use Rattle.control_rules.specs.Steps.{expect_of}
use Rattle.api_puts.specs.Puts.{standing, place_key, put_of, put_under, manifest_put, AsksFor}

body_kind : (s : ManifestSpec) (status : ObjectStatus) → kind_of_body (body_of s status) ≡ object_kind (spec_kind s)
body_kind (spec.Service template traffic) status = refl
body_kind (spec.Configuration template) status = refl
body_kind (spec.Route traffic) status = refl

body_spec : (s : ManifestSpec) (status : ObjectStatus) → manifest_spec (body_of s status) ≡ s
body_spec (spec.Service template traffic) status = refl
body_spec (spec.Configuration template) status = refl
body_spec (spec.Route traffic) status = refl

body_status : (s : ManifestSpec) (status : ObjectStatus) → status_of (body_of s status) ≡ status
body_status (spec.Service template traffic) status = refl
body_status (spec.Configuration template) status = refl
body_status (spec.Route traffic) status = refl

-- the object that a manifest makes in its place, with a stamp
abbrev stamped_over : ClientKind → List ℕ → List ℕ → Option Object → Manifest → Stamp → Object
stamped_over kind space name old m s = stamped (made_over (place_key kind space name) old m) s

-- it is what a client may put, where the manifest asks for it
made_is_put : (journal : Journal) (kind : ClientKind) (space name : List ℕ) (old : Option Object) (m : Manifest) (s : Stamp) → AsksFor kind space name m
    → old ≡ standing journal (object_kind kind) space name → IsClientPut (state journal) (place_key kind space name) (stamped_over kind space name old m s)
made_is_put journal kind space name old m s asks over =
    let o : Object = stamped_over kind space name old m s in
    let by : IsAskedBy kind space m o = record {
      key = ap (λ (x : List ℕ). key_of (object_kind kind) space x) (sym asks.named);
      labels = refl;
      annotations = refl;
      spec = body_spec m.spec (status_over old);
    } in
    let client = client_from kind o refl (body_kind m.spec (status_over old) ∙ ap object_kind asks.taken.sound.kind) in
    let good = accepted_passes asks.purpose kind space m o asks.taken asks.label by in
    record {
      key = refl;
      client = client;
      good = good;
      owner = ap owner_of over;
      status = body_status m.spec (status_over old) ∙ ap status_over over;
    }

-- the same, where the parts are known by equations
pub put_is_client : (journal : Journal) (kind : ClientKind) (space name : List ℕ) (k : Kind) (key : Key) (old : Option Object) (m : Manifest) (made result : Object) (s : Stamp)
    → AsksFor kind space name m → old ≡ standing journal (object_kind kind) space name
    → k ≡ object_kind kind → key ≡ key_of k space name → made ≡ made_over key old m → result ≡ stamped made s → IsClientPut (state journal) result.key result
put_is_client journal kind space name k key old m made result s asks over e f h i =
    let at : key ≡ place_key kind space name = f ∙ ap (λ (x : Kind). key_of x space name) e in
    let whole : made ≡ made_over (place_key kind space name) old m = h ∙ ap (λ (x : Key). made_over x old m) at in
    let same : result ≡ stamped_over kind space name old m s = i ∙ ap (λ (x : Object). stamped x s) whole in
    subst (λ (x : Object). IsClientPut (state journal) x.key x) (sym same) (made_is_put journal kind space name old m s asks over)

put_removes_nothing : (e : Expect) (o : Object) → IsNoRemovalOfNothing e (Put o)
put_removes_nothing expect.Absent o = tt
put_removes_nothing (expect.At version) o = tt

-- the put of such an object can be made
pub put_can_be_made : (journal : Journal) (e : Expect) (o : Object) (plan : ClientPlan) → plan ≡ put_of e o → IsClientPut (state journal) o.key o → CanBeMade journal plan
put_can_be_made journal e o plan same put =
    subst (CanBeMade journal) (sym same) (record { makeable = record { key = refl; removal = put_removes_nothing e o }; change = put })

pub for_some : {A : Type 0} (P : A → Type 0) (x : A) → P x → ForSome (Some x) P
for_some P x p y e = let same : x ≡ y = cc in subst P same p

-- what a manifest makes of what stands under its own kind, namespace and name can be put
pub manifest_can_be_put : (journal : Journal) (kind : ClientKind) (m : Manifest) → AsksFor kind m.namespace m.name m → CanBeMade journal (manifest_put journal kind m)
unfolding put_under
manifest_can_be_put journal kind m asks =
    let old : Option Object = standing journal (object_kind kind) m.namespace m.name in
    put_can_be_made journal (expect_of old) (made_over (place_key kind m.namespace m.name) old m) (manifest_put journal kind m) refl
    (made_is_put journal kind m.namespace m.name old m no_stamp asks refl)
