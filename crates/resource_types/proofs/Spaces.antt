-- The objects of a kind in a namespace: what is asked of a namespace is answered by these alone.
use Rattle.std.proofs.Common.{◌≡◌, ℕ, List, [], ◌∷◌, Bool, true, false, cond, Option, Some, None, Ordering, Less, Equal, Greater, refl, sym, ap, ◌∙◌}
use Rattle.std.specs.Prelude.{◌&&◌, ◌||◌, bytes_eq, option_map}
use Rattle.std.specs.List.{filter, list_any}
use Rattle.std.specs.Ordering.{is_eq, ordering_then}
use Rattle.std.specs.Cmp.Lexicographic.{texts_ties}
use Rattle.version_store.specs.State.{in_span}
use Rattle.version_store.proofs.SpanRange.{filter-alike, filter-both}
use Rattle.resource_types.specs.declared.names.Kind.{Kind}
use Rattle.resource_types.specs.declared.objects.Object.{Object}
use Rattle.resource_types.specs.contracts.names.KindOrd.TheImpl as kind_order
use Rattle.resource_types.specs.contracts.names.KindOrd.TheImpl.Laws as kind_laws
use Rattle.resource_types.specs.Objects.{same_kind}
use Rattle.resource_types.specs.Spaces.{text_cmp, space_side}
use Rattle.resource_types.specs.Lookups.{State, of_kind, in_space, given, when, later, latest_from, version_of}

both_tie : (kinds spaces : Ordering) → is_eq (ordering_then kinds spaces) ≡ (is_eq spaces && is_eq kinds)
both_tie Less Less = refl
both_tie Less Equal = refl
both_tie Less Greater = refl
both_tie Equal Less = refl
both_tie Equal Equal = refl
both_tie Equal Greater = refl
both_tie Greater Less = refl
both_tie Greater Equal = refl
both_tie Greater Greater = refl

-- the objects whose keys are of the kind and in the namespace
pub space-span : (kind : Kind) (space : List ℕ) (st : State) → in_span (λ (o : Object). o.key) (space_side kind space) st ≡ in_space space (of_kind kind st)
space-span kind space st =
    filter-alike (λ (o : Object). is_eq (space_side kind space o.key)) (λ o. bytes_eq o.key.name.space space && same_kind o.key.kind kind) st
    (λ o. both_tie (kind_order.ghosts.cmp o.key.kind kind) (text_cmp o.key.name.space space)
    ∙ ap (λ b. b && is_eq (kind_order.ghosts.cmp o.key.kind kind)) (sym (texts_ties o.key.name.space space))
    ∙ ap (λ b. bytes_eq o.key.name.space space && b) (sym (kind_laws.matches_eq-law o.key.kind kind)))
    ∙ filter-both (λ (o : Object). bytes_eq o.key.name.space space) (λ o. same_kind o.key.kind kind) st

module _ (test : Object → Bool) (space : List ℕ) (there : (o : Object) → test o ≡ true → bytes_eq o.key.name.space space ≡ true) where
  -- one that passes the test is in the namespace, so to look there is enough
  pub any-in_space : (xs : State) → list_any test (in_space space xs) ≡ list_any test xs
  any-in_space [] = refl
  any-in_space (x ∷ xs) = by (bytes_eq x.key.name.space space) (test x) refl refl (any-in_space xs)
    where
      by : (b t : Bool) → bytes_eq x.key.name.space space ≡ b → test x ≡ t → list_any test (in_space space xs) ≡ list_any test xs
          → list_any test (cond b (x ∷ in_space space xs) (in_space space xs)) ≡ (test x || list_any test xs)
      by true t e f ih = ap (λ a. test x || a) ih
      by false true e f ih = let g : bytes_eq x.key.name.space space ≡ true = there x f in absurd cc
      by false false e f ih = ih ∙ ap (λ (a : Bool). a || list_any test xs) (sym f)

  -- one that counts is in the namespace, so the latest there is the latest
  pub latest-in_space : (best : Option Object) (xs : State) → latest_from test best (in_space space xs) ≡ latest_from test best xs
  latest-in_space best [] = refl
  latest-in_space best (x ∷ xs) = by (bytes_eq x.key.name.space space) (test x) refl refl (λ b. latest-in_space b xs)
    where
      by : (b t : Bool) → bytes_eq x.key.name.space space ≡ b → test x ≡ t → ((so_far : Option Object) → latest_from test so_far (in_space space xs) ≡ latest_from test so_far xs)
          → latest_from test best (cond b (x ∷ in_space space xs) (in_space space xs)) ≡ latest_from test (later (test x) best x) xs
      by true t e f rest = rest (later (test x) best x)
      by false true e f rest = let g : bytes_eq x.key.name.space space ≡ true = there x f in absurd cc
      by false false e f rest = rest best ∙ ap (λ (a : Bool). latest_from test (later a best x) xs) (sym f)

version_when : (test : Bool) (r : Object) → option_map version_of (when test r) ≡ when test (version_of r)
version_when true r = refl
version_when false r = refl

-- the version of what passes a test is what is there with its version
pub version-given : (found : Option Object) (test : Object → Bool) → option_map version_of (given found (λ r. when (test r) r)) ≡ given found (λ r. when (test r) (version_of r))
version-given None test = refl
version-given (Some r) test = version_when (test r) r
