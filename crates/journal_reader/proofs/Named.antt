-- Each word names what it is the word of.
use Rattle.std.proofs.Common.{◌≡◌, Some, refl}
use Rattle.resource_types.specs.Manifests.{kind_word, kind_text}
use Rattle.resource_types.specs.declared.names.Kind.{Kind}
use Rattle.resource_types.specs.declared.names.Kind.TheVariants as kind
use Rattle.resource_types.specs.declared.names.ClientKind.{ClientKind}
use Rattle.resource_types.specs.declared.names.ClientKind.TheVariants as client
use Rattle.resource_types.specs.declared.names.Controller.{Controller}
use Rattle.resource_types.specs.declared.names.Controller.TheVariants as controller
use Rattle.resource_types.specs.declared.conditions.Truth.{Truth}
use Rattle.resource_types.specs.declared.conditions.Truth.TheVariants as truth
use Rattle.resource_codec.specs.Objects.{truth_word}
use Rattle.journal_text.specs.Lines.{controller_word}
use Rattle.journal_reader.specs.Words.{kind_named, client_kind_named, controller_named, truth_named}

pub kind_again : (k : Kind) → kind_named (kind_word k) ≡ Some k
kind_again kind.Service = refl
kind_again kind.Configuration = refl
kind_again kind.Revision = refl
kind_again kind.Route = refl
kind_again kind.Health = refl
kind_again kind.Table = refl

pub client_kind_again : (k : ClientKind) → client_kind_named (kind_text k) ≡ Some k
client_kind_again client.Service = refl
client_kind_again client.Configuration = refl
client_kind_again client.Route = refl

pub controller_again : (c : Controller) → controller_named (controller_word c) ≡ Some c
controller_again controller.Service = refl
controller_again controller.Configuration = refl
controller_again controller.Revision = refl
controller_again controller.Collector = refl
controller_again controller.Route = refl

pub truth_again : (t : Truth) → truth_named (truth_word t) ≡ Some t
truth_again truth.True = refl
truth_again truth.False = refl
truth_again truth.Unknown = refl
