-- What comes of a manifest that makes an object.
use Rattle.std.proofs.Common.{◌≡◌, ℕ, List, Option, Ok, sym, ap, ◌∙◌}
use Rattle.json_tree.specs.declared.value.Json.{Json}
use Rattle.resource_types.specs.declared.names.Kind.{Kind}
use Rattle.resource_types.specs.declared.names.ClientKind.{ClientKind}
use Rattle.resource_types.specs.declared.objects.Object.{Object}
use Rattle.resource_types.specs.declared.manifests.Manifest.{Manifest}
use Rattle.resource_types.specs.Lookups.{Journal}
use Rattle.resource_types.specs.Manifests.{object_kind}
use Rattle.manifest_intake.specs.Intake.{create}
use Rattle.api_outcomes.specs.declared.outcome.Outcome.{Outcome}
use Rattle.api_outcomes.specs.Outcomes.{Answer}
use Rattle.api_puts.specs.Puts.{standing, makes}
use Rattle.api_calls.specs.Agreement.{manifest_in, not_there}
use Rattle.api_calls.specs.Calls.{creating}

abbrev made : Outcome → Answer
made o = Ok o

pub comes_made : (journal : Journal) (moment : ℕ) (kind : ClientKind) (space n : List ℕ) (json : Json) (m : Manifest) (k : Kind) (found : Option Object) (o : Outcome)
    → manifest_in (create space) kind json ≡ Ok m → k ≡ object_kind kind → n ≡ m.name → found ≡ standing journal k space n → not_there k n found ≡ Ok tt → o ≡ makes journal moment kind space n m
    → creating journal moment kind space json ≡ Ok o
unfolding creating
comes_made journal moment kind space n json m k found o em ek en ef free eo =
    let at : not_there (object_kind kind) m.name (standing journal (object_kind kind) space m.name) ≡ Ok tt =
    sym (ap (λ (x : Option Object). not_there k n x) ef ∙ ap (λ (x : Kind). not_there x n (standing journal x space n)) ek
    ∙ ap (λ (x : List ℕ). not_there (object_kind kind) x (standing journal (object_kind kind) space x)) en) ∙ free in
    rw (em, at) (ap made (sym (eo ∙ ap (λ (x : List ℕ). makes journal moment kind space x m) en)))
