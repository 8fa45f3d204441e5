-- What an accepted manifest asks for, and the removal of what stands.
use Rattle.std.proofs.Common.{◌≡◌, ℕ, Bool, true, false, not, List, Option, Some, None, Ok, inl, inr, refl, sym, ap, subst, ◌∙◌}
use Rattle.std.specs.Prelude.{is_some}
use Rattle.serve_names.specs.Labels.{is_label_of}
use Rattle.http_session.specs.declared.message.Reply.{Reply}
use Rattle.http_session.specs.Reply.{IsReply}
use Rattle.version_store.specs.declared.write.Expect.TheVariants as expect
use Rattle.version_store.specs.declared.write.Change.TheVariants as change
use Rattle.resource_types.specs.declared.names.Kind.{Kind}
use Rattle.resource_types.specs.declared.names.Kind.TheVariants as kind
use Rattle.resource_types.specs.declared.names.ClientKind.{ClientKind}
use Rattle.resource_types.specs.declared.names.Key.{Key}
use Rattle.resource_types.specs.declared.manifests.Manifest.{Manifest}
use Rattle.resource_types.specs.declared.objects.Object.{Object}
use Rattle.resource_types.specs.Lookups.{Journal, state}
use Rattle.resource_types.specs.Manifests.{object_kind, client_kind}
use Rattle.manifest_intake.specs.Intake.{create, replace}
use Rattle.manifest_intake.specs.Good.{IsAcceptedFor}
use Rattle.manifest_intake.proofs.Accepted.{accepted_name}
use Rattle.api_outcomes.specs.declared.refusal.Refusal.{Refusal}
use Rattle.api_outcomes.specs.declared.refusal.Refusal.TheVariants.{InUse}
use Rattle.api_outcomes.specs.declared.outcome.Outcome.{Outcome}
use Rattle.api_outcomes.specs.Replies.{removed}
use Rattle.answers.specs.Answers.{requires_that}
use Rattle.api_outcomes.specs.Outcomes.{IsClientRemoval, CanBeMade, IsFit}
use Rattle.api_puts.specs.Puts.{standing, plan_of, StandsAs, AsksFor}
use Rattle.api_puts.proofs.ClientPuts.{for_some}
use Rattle.api_calls.specs.Agreement.{not_there}
use Rattle.api_calls.specs.Calls.{is_removable, is_used, removes}

-- ---- manifests

-- a manifest that makes an object asks for the one of its name
pub asks_new : (kind : ClientKind) (space n : List ℕ) (m : Manifest) → IsAcceptedFor (create space) kind m → is_label_of space 63 ≡ true
    → n ≡ m.name → AsksFor kind space n m
asks_new kind space n m h label en = record { purpose = create space; taken = h; named = sym en; label = label }

-- a manifest that takes the place of an object asks for the one of the path's name
pub asks_over : (kind : ClientKind) (space name : List ℕ) (m : Manifest) → IsAcceptedFor (replace space name) kind m → is_label_of space 63 ≡ true
    → AsksFor kind space name m
asks_over kind space name m h label = record { purpose = replace space name; taken = h; named = accepted_name space name kind h.json m h.given; label = label }

-- nothing stands where none is found
none_found : (k : Kind) (n : List ℕ) (found : Option Object) → not_there k n found ≡ Ok tt → found ≡ None
none_found k n None h = refl
none_found k n (Some o) h = absurd cc

pub stands_free : (journal : Journal) (kind : ClientKind) (k : Kind) (s n : List ℕ) (found : Option Object) → k ≡ object_kind kind → found ≡ standing journal k s n
    → not_there k n found ≡ Ok tt → standing journal (object_kind kind) s n ≡ None
stands_free journal kind k s n found ek ef free = ap (λ (x : Kind). standing journal x s n) (sym ek) ∙ sym ef ∙ none_found k n found free

-- ---- removals

holds_there : (b : Bool) (r : Refusal) → requires_that b r ≡ Ok tt → b ≡ true
holds_there true r h = refl
holds_there false r h = absurd cc

not_used : (b : Bool) (r : Refusal) → requires_that (not b) r ≡ Ok tt → b ≡ false
not_used false r h = refl
not_used true r h = absurd cc

-- an object of a kind that clients remove, and that isn't in use, is what a client may remove
may_remove : (journal : Journal) (k : Kind) (o : Object) → o.key.kind ≡ k → is_removable k ≡ true → is_used journal k o ≡ false → IsClientRemoval (state journal) o.key
may_remove journal kind.Service o e h u = inl (ap (λ (x : Kind). is_some (client_kind x)) e)
may_remove journal kind.Configuration o e h u = inl (ap (λ (x : Kind). is_some (client_kind x)) e)
may_remove journal kind.Revision o e h u = inr (e, u)
may_remove journal kind.Route o e h u = inl (ap (λ (x : Kind). is_some (client_kind x)) e)
may_remove journal kind.Health o e h u = absurd cc
may_remove journal kind.Table o e h u = absurd cc

-- what stands under a kind that clients remove, and isn't in use, is what a client may remove
pub removal_of_client : (journal : Journal) (k : Kind) (space name : List ℕ) (o : Object) (b : Bool) (r : Refusal) → b ≡ is_removable k → requires_that b r ≡ Ok tt
    → StandsAs journal k space name o → requires_that (not (is_used journal k o)) (InUse o.key.name.name) ≡ Ok tt → IsClientRemoval (state journal) o.key
removal_of_client journal k space name o b r eb h s u =
    may_remove journal k o (ap (λ (x : Key). x.kind) s.key) (sym eb ∙ holds_there b r h) (not_used (is_used journal k o) (InUse o.key.name.name) u)

abbrev removal : Reply → Key → Object → Outcome
removal reply key o = record { reply = reply; plan = Some (plan_of key (expect.At o.meta.stamp.version) change.Remove) }

-- the outcome of a removal, where its parts are known by equations
pub removal_is : (o : Object) (reply : Reply) (key : Key) → reply ≡ removed → key ≡ o.key → removal reply key o ≡ removes o
unfolding removes
removal_is o reply key er ek = ap (λ (r : Reply). removal r key o) er ∙ ap (λ (k : Key). removal removed k o) ek

-- the outcome of such a removal
pub removal_fits : (journal : Journal) (o : Object) (outcome : Outcome) → outcome ≡ removes o → IsReply outcome.reply → IsClientRemoval (state journal) o.key → IsFit journal outcome
unfolding removes
removal_fits journal o outcome e reply h =
    subst (IsFit journal) (sym e) (record {
      reply = subst (λ (x : Outcome). IsReply x.reply) e reply;
      plan = for_some (CanBeMade journal) _ (record { makeable = record { key = tt; removal = tt }; change = h });
    })
