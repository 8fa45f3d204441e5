-- A good object that clients write may be stored, and what an accepted manifest asks for is good.
use Rattle.std.proofs.Common.{◌≡◌, ◌⊎◌, inl, inr, ℕ, true, ◌||◌, List, sym, ◌∙◌, subst}
use Rattle.std.proofs.lemmas.Bool.{and_parts, and_from, or_left, or_right, or_cases}
use Rattle.serve_names.specs.Labels.{is_label_of}
use Rattle.resource_types.specs.declared.names.Kind.{Kind}
use Rattle.resource_types.specs.declared.names.Kind.TheVariants as kind
use Rattle.resource_types.specs.declared.names.ClientKind.{ClientKind}
use Rattle.resource_types.specs.declared.names.ClientKind.TheVariants as client
use Rattle.resource_types.specs.declared.manifests.Manifest.{Manifest}
use Rattle.resource_types.specs.declared.objects.Body.{Body}
use Rattle.resource_types.specs.declared.objects.Body.TheVariants.{Service, Configuration, Revision, Route, Health, Table as Published}
use Rattle.resource_types.specs.declared.objects.Object.{Object}
use Rattle.resource_types.specs.Objects.{same_kind, is_of, is_of_client, kind_of_body}
use Rattle.resource_types.specs.Manifests.{object_kind}
use Rattle.resource_types.proofs.Exact.{kind-exact, kind-own}
use Rattle.resource_codec.specs.Objects.{IsClientBody}
use Rattle.resource_codec.specs.Storable.{IsStorable}
use Rattle.resource_codec.proofs.Storing.{client_body_storable}
use Rattle.manifest_intake.specs.Intake.{Purpose}
use Rattle.manifest_intake.specs.Good.{is_good, asked_of, IsGood, IsAskedBy, IsAcceptedFor}
use Rattle.manifest_intake.proofs.Exact.{good_exact}
use Rattle.manifest_intake.proofs.Accepted.{accepted_good}

-- ---- kinds

is_kind : (k q : Kind) → k ≡ q → same_kind k q ≡ true
is_kind k q e = subst (λ z. same_kind k z ≡ true) e (kind-own k)

is_of_both : (k : Kind) (o : Object) → o.key.kind ≡ k → kind_of_body o.body ≡ k → is_of k o ≡ true
is_of_both k o p q = and_from _ _ (is_kind o.key.kind k p) (is_kind (kind_of_body o.body) k q)

-- an object is one that clients write where its key and its body are of such a kind
pub client_from : (k : ClientKind) (o : Object) → o.key.kind ≡ object_kind k → kind_of_body o.body ≡ object_kind k → is_of_client o ≡ true
client_from client.Service o p q = or_left _ _ (or_left _ _ (is_of_both kind.Service o p q))
client_from client.Configuration o p q = or_left _ _ (or_right _ _ (is_of_both kind.Configuration o p q))
client_from client.Route o p q = or_right _ _ (is_of_both kind.Route o p q)

-- an object that clients write, by its parts
record IsClientObject (o : Object) : Type 0 where
  pub fits : kind_of_body o.body ≡ o.key.kind
  pub body : IsClientBody o.body

client_body : (k : ClientKind) (b : Body) → kind_of_body b ≡ object_kind k → IsClientBody b
client_body k (Service template traffic status) e = tt
client_body k (Configuration template status) e = tt
client_body client.Service (Revision pod generation pins active status) e = absurd cc
client_body client.Configuration (Revision pod generation pins active status) e = absurd cc
client_body client.Route (Revision pod generation pins active status) e = absurd cc
client_body k (Route traffic status) e = tt
client_body client.Service (Health uid resources container ever) e = absurd cc
client_body client.Configuration (Health uid resources container ever) e = absurd cc
client_body client.Route (Health uid resources container ever) e = absurd cc
client_body client.Service (Published route rows targets) e = absurd cc
client_body client.Configuration (Published route rows targets) e = absurd cc
client_body client.Route (Published route rows targets) e = absurd cc

client_parts : (o : Object) → is_of_client o ≡ true → IsClientObject o
client_parts o h = go (or_cases _ _ h)
  where
    of_kind : (k : ClientKind) → is_of (object_kind k) o ≡ true → IsClientObject o
    of_kind k t =
        let p = and_parts _ _ t in
        let key = kind-exact o.key.kind (object_kind k) p.0 in
        let fits = kind-exact (kind_of_body o.body) (object_kind k) p.1 in
        record { fits = fits ∙ sym key; body = client_body k o.body fits }

    first : (is_of kind.Service o ≡ true) ⊎ (is_of kind.Configuration o ≡ true) → IsClientObject o
    first (inl t) = of_kind client.Service t
    first (inr t) = of_kind client.Configuration t

    go : ((is_of kind.Service o || is_of kind.Configuration o) ≡ true) ⊎ (is_of kind.Route o ≡ true) → IsClientObject o
    go (inl t) = first (or_cases _ _ t)
    go (inr t) = of_kind client.Route t

-- ---- good objects

-- a good object of a client's kind may be stored
pub good_storable : (o : Object) → kind_of_body o.body ≡ o.key.kind → IsClientBody o.body → IsGood (asked_of o) → IsStorable o
good_storable o fits client h = record { kind = fits; labels = h.rise.0; annotations = h.rise.1.0; body = client_body_storable o.body client h.rest h.rise.1.1 }

-- so may one that passes the test
pub client_storable : (o : Object) → is_of_client o ≡ true → is_good (asked_of o) ≡ true → IsStorable o
client_storable o client good = (let c = client_parts o client in good_storable o c.fits c.body ((good_exact (asked_of o)).0 good))

-- what an accepted manifest asks for in a namespace that is a label passes the test
pub accepted_passes : (purpose : Purpose) (kind : ClientKind) (space : List ℕ) (m : Manifest) (o : Object) → IsAcceptedFor purpose kind m
    → is_label_of space 63 ≡ true → IsAskedBy kind space m o → is_good (asked_of o) ≡ true
accepted_passes purpose kind space m o h label by =
    (good_exact (asked_of o)).1 (accepted_good purpose kind h.json m space o h.given h.sound.rest h.sound.rise label by)
