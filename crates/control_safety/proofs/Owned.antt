-- What a Configuration owns, and the latest of it.
use Rattle.std.proofs.Common.{◌≡◌, inl, inr, ℕ, ◌≤◌, Bool, true, List, Option, Some, None, refl, ap, ◌∙◌, subst, arith}
use Rattle.std.specs.Prelude.{slice_get, ◌&&◌, ◌==◌, bytes_eq}
use Rattle.std.proofs.lemmas.Bool.{eqb-true}
use Rattle.version_store.specs.Index.{AreInOrder}
use Rattle.resource_types.specs.declared.names.Kind.TheVariants as kind
use Rattle.resource_types.specs.declared.names.Key.{Key}
use Rattle.resource_types.specs.declared.metadata.Owner.{Owner}
use Rattle.resource_types.specs.declared.objects.Object.{Object}
use Rattle.resource_types.specs.contracts.names.KeyOrd.TheImpl as key_order
use Rattle.resource_types.specs.Objects.{same_kind, is_of, kind_of_body, generation_of, has_been_ready}
use Rattle.resource_types.specs.Lookups.{State, find, of_kind, is_given, is_owner, is_owned_by, is_called, latest, latest_created, latest_ready, IsAhead, IsNewest, IsLatest}
use Rattle.resource_types.proofs.Exact.{kind-exact, bytes-exact, left, right}
use Rattle.resource_types.proofs.Latest.{key_of_object, latest-law}
use Rattle.resource_types.proofs.Ordered.{owned-kind}
use Rattle.control_rules.specs.Facts.{generation_if}
use Rattle.control_entries.proofs.Tests.{both, not_both, bytes_self, kind_same}
use Rattle.control_entries.proofs.Standing.{is_of_parts, is_of_both, kind_at, at_kind}

-- a Configuration owns a Revision: in its namespace, by kind, name and uid
pub record Owns (c v : Object) : Type 0 where
  pub revision : is_of kind.Revision v ≡ true
  pub space : v.key.name.space ≡ c.key.name.space
  pub owner : Owner
  pub is : v.meta.owner ≡ Some owner
  pub kind : owner.kind ≡ c.key.kind
  pub name : owner.name ≡ c.key.name.name
  pub uid : owner.uid ≡ c.meta.stamp.uid

pub owns : (c v : Object) → is_owned_by c v ≡ true → Owns c v
owns c v h = go v.meta.owner refl (right (is_of kind.Revision v && bytes_eq v.key.name.space c.key.name.space) _ h)
  where
    place : (is_of kind.Revision v && bytes_eq v.key.name.space c.key.name.space) ≡ true
    place = left _ _ h

    go : (w : Option Owner) → v.meta.owner ≡ w → is_given (is_owner c) w ≡ true → Owns c v
    go None e t = absurd cc
    go (Some w) e t = record {
      revision = left _ _ place;
      space = bytes-exact v.key.name.space c.key.name.space (right (is_of kind.Revision v) _ place);
      owner = w;
      is = e;
      kind = kind-exact w.kind c.key.kind (left _ _ (left _ _ t));
      name = bytes-exact w.name c.key.name.name (right (same_kind w.kind c.key.kind) _ (left _ _ t));
      uid = eqb-true w.uid c.meta.stamp.uid (right (same_kind w.kind c.key.kind && bytes_eq w.name c.key.name.name) _ t);
    }

-- whether what has the key and the uid owns the Revision
abbrev pub owned_by_key : Key → ℕ → Object → Bool
owned_by_key k uid v = (is_of kind.Revision v && bytes_eq v.key.name.space k.name.space) && is_given (λ (w : Owner). (same_kind w.kind k.kind && bytes_eq w.name k.name.name) && (w.uid == uid)) v.meta.owner

-- by key and uid alone
pub owned_same : (c d v : Object) → c.key ≡ d.key → c.meta.stamp.uid ≡ d.meta.stamp.uid → is_owned_by c v ≡ is_owned_by d v
owned_same c d v k u = λ i. owned_by_key (k i) (u i) v

pub created_same : (st : State) (c d : Object) → c.key ≡ d.key → c.meta.stamp.uid ≡ d.meta.stamp.uid → latest_created st c ≡ latest_created st d
created_same st c d k u = λ i. latest (λ v. owned_by_key (k i) (u i) v) st

pub ready_same : (st : State) (c d : Object) → c.key ≡ d.key → c.meta.stamp.uid ≡ d.meta.stamp.uid → latest_ready st c ≡ latest_ready st d
ready_same st c d k u = λ i. latest (λ v. owned_by_key (k i) (u i) v && has_been_ready v) st

-- what has the key and the owner of an owned Revision is owned
pub owned_as : (c v w : Object) → w.key ≡ v.key → kind_of_body w.body ≡ kind.Revision → w.meta.owner ≡ v.meta.owner → is_owned_by c v ≡ true
    → is_owned_by c w ≡ true
owned_as c v w k fits o h =
    both (both (is_of_both kind.Revision w (kind_same k ∙ (is_of_parts kind.Revision v (owns c v h).revision).0) fits)
    (ap (λ (z : Key). bytes_eq z.name.space c.key.name.space) k ∙ right (is_of kind.Revision v) _ (left _ _ h)))
    (ap (is_given (is_owner c)) o ∙ right (is_of kind.Revision v && bytes_eq v.key.name.space c.key.name.space) _ h)

-- ---- the latest

module _ (counts : Object → Bool) (are_revisions : (o : Object) → counts o ≡ true → o.key.kind ≡ kind.Revision) (st : State) (ordered : AreInOrder key_of_object key_order.ghosts.cmp st) where
  law : IsLatest counts st (latest counts st)
  law = latest-law counts are_revisions st ordered

  -- the latest stands, and counts
  pub latest_is : (r : Object) → latest counts st ≡ Some r → (find r.key st ≡ Some r) × (r.key.kind ≡ kind.Revision) × (counts r ≡ true)
  latest_is r e =
      (let n : IsNewest counts st r = subst (IsLatest counts st) e law in
      let (q, f) = kind_at kind.Revision st n.stands.0 r ordered n.stands.1 in
      (f, q, n.counted))

  -- and what counts has a latest one, which is ahead of it
  pub latest_ahead : (o : Object) (k : Key) → find k st ≡ Some o → k.kind ≡ kind.Revision → counts o ≡ true
      → (r : Object) × (latest counts st ≡ Some r) × IsAhead r o
  latest_ahead o k f q t = (let (i, e) = at_kind kind.Revision st k o f q in go i e (latest counts st) refl)
    where
      go : (i : ℕ) → slice_get (of_kind kind.Revision st) i ≡ Some o → (w : Option Object) → latest counts st ≡ w
          → (r : Object) × (latest counts st ≡ Some r) × IsAhead r o
      go i e None h = absurd (not_both t ((subst (IsLatest counts st) h law) i o e))
      go i e (Some r) h = (r, h, (subst (IsLatest counts st) h law).ahead i o e t)

  -- so its generation is no less
  pub latest_least : (o : Object) (k : Key) → find k st ≡ Some o → k.kind ≡ kind.Revision → counts o ≡ true
      → generation_of o.body ≤ generation_if (latest counts st)
  latest_least o k f q t =
      (let (r, e, a) = latest_ahead o k f q t in let g : generation_if (latest counts st) ≡ generation_of r.body = ap generation_if e in let le = least r a in omega arith)
    where
      least : (r : Object) → IsAhead r o → generation_of o.body ≤ generation_of r.body
      least r (inl lt) = omega arith
      least r (inr (inl (same, less))) = omega (arith, same)
      least r (inr (inr same)) = omega (arith, ap (λ (z : Object). generation_of z.body) same)

pub owned_revision : (c o : Object) → is_owned_by c o ≡ true → o.key.kind ≡ kind.Revision
owned_revision c o h = owned-kind c o h

pub owned_ready_revision : (c o : Object) → (is_owned_by c o && has_been_ready o) ≡ true → o.key.kind ≡ kind.Revision
owned_ready_revision c o h = owned-kind c o (left _ _ h)

-- the one that is called so
pub called : (x : List ℕ) (w : Option Object) → is_called x w ≡ true → (o : Object) × (w ≡ Some o) × (o.key.name.name ≡ x)
called x None h = absurd cc
called x (Some o) h = (o, refl, bytes-exact o.key.name.name x h)

pub called_self : (o : Object) (w : Option Object) → w ≡ Some o → is_called o.key.name.name w ≡ true
called_self o w e = ap (is_called o.key.name.name) e ∙ bytes_self o.key.name.name
