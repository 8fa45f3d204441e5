-- Puts, where their parts are known by equations.
use Rattle.std.proofs.Common.{◌≡◌, ℕ, List, Option, Some, Result, Ok, Err, IfOk, refl, sym, ap, subst, ◌∙◌}
use Rattle.http_session.specs.declared.message.Reply.{Reply}
use Rattle.version_store.specs.declared.write.Expect.{Expect}
use Rattle.resource_types.specs.declared.names.Kind.{Kind}
use Rattle.resource_types.specs.declared.names.ClientKind.{ClientKind}
use Rattle.resource_types.specs.declared.names.Key.{Key}
use Rattle.resource_types.specs.declared.objects.Object.{Object}
use Rattle.resource_types.specs.declared.manifests.Manifest.{Manifest}
use Rattle.resource_types.specs.Lookups.{Journal, state, find, key_of}
use Rattle.resource_types.specs.Manifests.{object_kind}
use Rattle.api_outcomes.specs.declared.outcome.Outcome.{Outcome}
use Rattle.api_outcomes.specs.Replies.{shown}
use Rattle.api_outcomes.specs.Outcomes.{ClientPlan}
use Rattle.api_puts.specs.Objects.{made_over, with_stamp, put_over}
use Rattle.control_rules.specs.Steps.{expect_of}
use Rattle.api_puts.specs.Puts.{put_of, puts, put_under, place_key, object_put}

pub object_is_due : (journal : Journal) (moment : ℕ) (kind : ClientKind) (space name : List ℕ) (k : Kind) (key : Key) (old : Option Object) (m : Manifest) (made o : Object)
    → k ≡ object_kind kind → key ≡ key_of k space name → made ≡ made_over key old m → o ≡ with_stamp journal moment made
    → o ≡ object_put journal moment (place_key kind space name) old m
unfolding object_put
object_is_due journal moment kind space name k key old m made o ek ey em eo =
    eo ∙ ap (with_stamp journal moment) (em ∙ ap (λ (x : Key). made_over x old m) (ey ∙ ap (λ (x : Kind). key_of x space name) ek))

abbrev put_outcome : Reply → ClientPlan → Outcome
put_outcome reply plan = record { reply = reply; plan = Some plan }

pub put_is_due : (code : ℕ) (old : Option Object) (expects : Expect) (o : Object) (reply : Reply) (plan : ClientPlan) → reply ≡ shown code (put_over old o) → plan ≡ put_of expects o
    → put_outcome reply plan ≡ puts code old expects o
unfolding puts
put_is_due code old expects o reply plan er ep = ap (λ (r : Reply). put_outcome r plan) er ∙ ap (put_outcome (shown code (put_over old o))) ep

-- the put of what a manifest makes of what stands under the key
pub under_is_due : (journal : Journal) (key : Key) (m : Manifest) (old : Option Object) (expects : Expect) (made : Object) → old ≡ find key (state journal) → expects ≡ expect_of old
    → made ≡ made_over key old m → put_of expects made ≡ put_under journal key m
unfolding put_under
under_is_due journal key m old expects made stands e o = rw (o, e, stands) refl

-- the key of its parts, where they are known by equations
pub key_is : (kind : ClientKind) (k : Kind) (space name s n : List ℕ) (key : Key) → key ≡ key_of k s n → k ≡ object_kind kind → s ≡ space → n ≡ name → key ≡ place_key kind space name
key_is kind k space name s n key e kinds spaces names = rw (e, kinds, spaces, names) refl

-- what holds of a value holds of a result that is this value
pub if_ok : {A E : Type 0} (value : A) (P : A → Type 0) (r : Result A E) → IfOk r (λ x. x ≡ value) → P value → IfOk r P
if_ok value P (Ok x) same p = subst P (sym same) p
if_ok value P (Err e) same p = tt
