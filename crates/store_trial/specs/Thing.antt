-- The laws of things.
use Rattle.std.specs.Prelude.{◌≡◌, ℕ, ◌==◌, Bool, true, false, ◌&&◌, refl}
use Rattle.std.proofs.Common.{sym, ap, ◌∙◌}
use Rattle.std.specs.Cmp.{IsEquivalence, nat_eq_equiv, on_equiv, both_ways}
use Rattle.version_store.specs.declared.item.Stamp.{Stamp}
use Rattle.version_store.specs.Laws.{ChangesStampAlone, IsSameButStamp}
use Rattle.store_trial.specs.declared.thing.Thing.{Thing}
use Rattle.store_trial.specs.declared.thing.Key.{Key}
use Rattle.store_trial.specs.declared.thing.Kind.{Kind}
use Rattle.store_trial.specs.declared.thing.Kind.TheVariants.{Source, Copy}
use borrow.Author.Tests.{eqb-true}

abbrev pub is_source : Kind → Bool
is_source Source = true
is_source Copy = false

abbrev pub same_kind : Kind → Kind → Bool
same_kind Source k = is_source k
same_kind Copy Source = false
same_kind Copy Copy = true

abbrev pub with_stamp : Thing → Stamp → Thing
with_stamp o s = record { key = o.key; stamp = s; spec = o.spec; status = o.status }

abbrev pub same_spec_of : Thing → Thing → Bool
same_spec_of a b = a.spec == b.spec

abbrev pub same_thing : Thing → Thing → Bool
same_thing a b = ((same_kind a.key.kind b.key.kind && (a.key.name == b.key.name)) && (a.spec == b.spec)) && (a.status == b.status)

own_number : (n : ℕ) → (n == n) ≡ true
own_number n = nat_eq_equiv.refl n

pub stamp_alone_of : ChangesStampAlone {O = Thing} {K = Key} (λ o. o.key) (λ o. o.stamp) with_stamp same_spec_of (λ o. is_source o.key.kind)
stamp_alone_of = record {
  given = λ o s. refl;
  last_counts = λ o s t. refl;
  own = λ o. refl;
  same_key = λ o s. refl;
  spec_stays = λ o s. own_number o.spec;
  guards_stays = λ o s. refl;
}

pub spec_equivalence_of : IsEquivalence same_spec_of
spec_equivalence_of = on_equiv (λ o. o.spec) nat_eq_equiv

own_kind : (k : Kind) → same_kind k k ≡ true
own_kind Source = refl
own_kind Copy = refl

exact_kind : (a b : Kind) → same_kind a b ≡ true → a ≡ b
exact_kind Source Source e = refl
exact_kind Source Copy e = cc
exact_kind Copy Source e = cc
exact_kind Copy Copy e = refl

and_left : (a b : Bool) → (a && b) ≡ true → a ≡ true
and_left true b e = refl
and_left false b e = e

and_right : (a b : Bool) → (a && b) ≡ true → b ≡ true
and_right true b e = e
and_right false b e = cc

own_thing : (o : Thing) → same_thing o o ≡ true
own_thing o = rw (own_kind o.key.kind, own_number o.key.name, own_number o.spec, own_number o.status) refl

made : (b : Thing) (k : Kind) (n p q : ℕ) → k ≡ b.key.kind → n ≡ b.key.name → p ≡ b.spec → q ≡ b.status → ◌≡◌ {A = Thing} (record { key = record { kind = k; name = n }; stamp = b.stamp; spec = p; status = q }) b
made b k n p q ek en ep eq = rw (ek, en, ep, eq) refl

exact_thing : (a b : Thing) → same_thing a b ≡ true → with_stamp a b.stamp ≡ b
exact_thing a b e =
    let three : ((same_kind a.key.kind b.key.kind && (a.key.name == b.key.name)) && (a.spec == b.spec)) ≡ true = and_left _ (a.status == b.status) e in
    let two : (same_kind a.key.kind b.key.kind && (a.key.name == b.key.name)) ≡ true = and_left _ (a.spec == b.spec) three in
    made b a.key.kind a.key.name a.spec a.status
    (exact_kind _ _ (and_left _ (a.key.name == b.key.name) two))
    (eqb-true _ _ (and_right (same_kind a.key.kind b.key.kind) _ two))
    (eqb-true _ _ (and_right (same_kind a.key.kind b.key.kind && (a.key.name == b.key.name)) _ three))
    (eqb-true _ _ (and_right ((same_kind a.key.kind b.key.kind && (a.key.name == b.key.name)) && (a.spec == b.spec)) _ e))

same_back : (a b : Thing) → same_thing a b ≡ true → same_thing b a ≡ true
same_back a b e = ap (λ t. same_thing t a) (sym (exact_thing a b e)) ∙ own_thing a

pub same_but_stamp_of : IsSameButStamp {O = Thing} (λ o. o.key) with_stamp same_thing
same_but_stamp_of = record {
  alike = record {
    refl = own_thing;
    symm = λ a b. both_ways (same_thing a b) (same_thing b a) (same_back a b) (same_back b a);
    congr = λ a b z e. ap (λ t. same_thing t z) (exact_thing a b e);
  };
  stamps = λ a b s t. refl;
  exact = λ a b s k e. ap (λ o. with_stamp o s) (exact_thing a b e);
}
