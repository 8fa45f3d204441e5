-- A good object is of a kind that clients write, by its key and its body.
use Rattle.std.proofs.Common.{◌≡◌, ℕ, true, false, List, refl, ap}
use Rattle.std.specs.Prelude.{bytes_eq, codes}
use Rattle.resource_types.specs.declared.names.Kind.{Kind}
use Rattle.resource_types.specs.declared.names.Kind.TheVariants as kind
use Rattle.resource_types.specs.declared.names.ClientKind.{ClientKind}
use Rattle.resource_types.specs.declared.names.ClientKind.TheVariants as client
use Rattle.resource_types.specs.declared.objects.Body.{Body}
use Rattle.resource_types.specs.declared.objects.Body.TheVariants.{Service, Configuration, Revision, Route, Health, Table as Published}
use Rattle.resource_types.specs.declared.objects.Object.{Object}
use Rattle.resource_types.specs.Objects.{is_of_client, kind_of_body}
use Rattle.resource_types.specs.Manifests.{kind_word, kind_text, object_kind, manifest_spec}
use Rattle.resource_codec.specs.Written.{kind_of}
use Rattle.validation.specs.Rules.{traffic_lines, spec_lines, rules_of}
use Rattle.control_rules.specs.Lawful.{asked_of}
use Rattle.manifest_intake.specs.Good.{IsGood}
use Rattle.validation.proofs.Lines.{AreKept, kept_from}
use Rattle.manifest_intake.proofs.Storing.{client_from}

-- no other kind has the word of one that clients write
kind_named : (k : Kind) (c : ClientKind) → kind_word k ≡ kind_text c → k ≡ object_kind c
kind_named kind.Service client.Service e = refl
kind_named kind.Configuration client.Service e = absurd cc
kind_named kind.Revision client.Service e = absurd cc
kind_named kind.Route client.Service e = absurd cc
kind_named kind.Health client.Service e = absurd cc
kind_named kind.Table client.Service e = absurd cc
kind_named kind.Service client.Configuration e = absurd cc
kind_named kind.Configuration client.Configuration e = refl
kind_named kind.Revision client.Configuration e = absurd cc
kind_named kind.Route client.Configuration e = absurd cc
kind_named kind.Health client.Configuration e = absurd cc
kind_named kind.Table client.Configuration e = absurd cc
kind_named kind.Service client.Route e = absurd cc
kind_named kind.Configuration client.Route e = absurd cc
kind_named kind.Revision client.Route e = absurd cc
kind_named kind.Route client.Route e = refl
kind_named kind.Health client.Route e = absurd cc
kind_named kind.Table client.Route e = let t : false ≡ true = ap (λ word. bytes_eq word (codes "Route")) e in absurd cc

-- the other kinds ask for a Route without targets, which breaks a rule
body_fits : (n : List ℕ) (b : Body) → AreKept (spec_lines n (manifest_spec b)) → kind_of_body b ≡ object_kind (kind_of (manifest_spec b))
unfolding spec_lines traffic_lines
body_fits n (Service template traffic status) h = refl
body_fits n (Configuration template status) h = refl
body_fits n (Revision pod generation pins active status) h = absurd (let x = h.0 in cc)
body_fits n (Route traffic status) h = refl
body_fits n (Health uid resources container ever) h = absurd (let x = h.0 in cc)
body_fits n (Published route rows targets) h = absurd (let x = h.0 in cc)

pub good_is_client : (o : Object) → IsGood (asked_of o) → is_of_client o ≡ true
unfolding rules_of
good_is_client o h =
    client_from (kind_of (manifest_spec o.body)) o (kind_named o.key.kind (kind_of (manifest_spec o.body)) h.regular.kind)
    (body_fits o.key.name.name o.body (kept_from (rules_of (asked_of o)) h.valid).1)
