-- A Revision that goes is free, nobody's current one, and no latest ready one.
use Rattle.std.proofs.Common.{◌≡◌, ◌≢◌, inl, inr, ℕ, zero, suc, ◌==◌, Bool, true, false, cond, not, ◌&&◌, ◌||◌, List, [], ◌∷◌, Option, Some, None, slice_get, bytes_eq, refl, sym, ap, ◌∙◌, subst, arith}
use Rattle.std.specs.List.{filter}
use Rattle.std.proofs.lemmas.Bool.Decides.{nat_tests}
use Rattle.resource_types.specs.declared.names.Kind.TheVariants as kind
use Rattle.resource_types.specs.declared.names.Name.{Name}
use Rattle.resource_types.specs.declared.metadata.Owner.{Owner}
use Rattle.resource_types.specs.declared.objects.Object.{Object}
use Rattle.resource_types.specs.Objects.{is_of, same_kind, kind_of_body, generation_of, has_been_ready, pins_of}
use Rattle.resource_types.specs.Lookups.{State, find, of_kind, key_of, is_given, is_empty, is_owner, is_owned_by, owner_stands, is_target, is_free, is_called, latest, latest_created, IsAhead, IsNewest, IsLatest}
use Rattle.resource_types.proofs.Exact.{left, right, bytes-exact, kind-exact}
use Rattle.resource_types.proofs.Ordered.{owned-kind}
use Rattle.resource_types.proofs.Latest.{latest-law}
use Rattle.control_rules.specs.Standing.{key_at, standing, is_orphan}
use Rattle.control_rules.specs.Collection.{latest_been, is_candidate}
use Rattle.control_rules.specs.Statuses.{is_current}
use Rattle.control_settle.specs.Grounds.{IsSoundState}
use Rattle.control_settle.proofs.Machine.{In, First, Later}
use Rattle.control_entries.proofs.Tests.{not_both, not_true, both, some_same, bytes_self}
use Rattle.control_entries.proofs.Standing.{stands, is_of_parts}
use Rattle.control_entries.specs.Ground.{IsOrdered}
use Rattle.control_settle.proofs.Lists.{in_found}
use Rattle.control_settle.proofs.Members.{sound_key, member_stands, in_filter, in_place, Going, Orphaned, Collected}

-- ---- owners

-- what a Revision says of the one that owns it
pub record Owned (c v : Object) : Type 0 where
  pub owner : Owner
  pub is : v.meta.owner ≡ Some owner
  pub kind : owner.kind ≡ c.key.kind
  pub name : owner.name ≡ c.key.name.name
  pub uid : (owner.uid == c.meta.stamp.uid) ≡ true
  pub space : v.key.name.space ≡ c.key.name.space

pub owned_parts : (c v : Object) → is_owned_by c v ≡ true → Owned c v
owned_parts c v e = go v.meta.owner refl (right (is_of kind.Revision v && bytes_eq v.key.name.space c.key.name.space) (is_given (is_owner c) v.meta.owner) e)
  where
    go : (w : Option Owner) → v.meta.owner ≡ w → is_given (is_owner c) w ≡ true → Owned c v
    go None f g = absurd cc
    go (Some w) f g = record {
      owner = w;
      is = f;
      kind = kind-exact w.kind c.key.kind (left (same_kind w.kind c.key.kind) (bytes_eq w.name c.key.name.name) (left (same_kind w.kind c.key.kind && bytes_eq w.name c.key.name.name) (w.uid == c.meta.stamp.uid) g));
      name = bytes-exact w.name c.key.name.name (right (same_kind w.kind c.key.kind) (bytes_eq w.name c.key.name.name) (left (same_kind w.kind c.key.kind && bytes_eq w.name c.key.name.name) (w.uid == c.meta.stamp.uid) g));
      uid = right (same_kind w.kind c.key.kind && bytes_eq w.name c.key.name.name) (w.uid == c.meta.stamp.uid) g;
      space = bytes-exact v.key.name.space c.key.name.space (right (is_of kind.Revision v) (bytes_eq v.key.name.space c.key.name.space) (left (is_of kind.Revision v && bytes_eq v.key.name.space c.key.name.space) (is_given (is_owner c) v.meta.owner) e));
    }

-- with an owner that stands it is no orphan
pub owned_stands : (n : ℕ) (a : State) (q : Name) (c v : Object) → IsSoundState n a → standing kind.Configuration q a ≡ Some c → is_owned_by c v ≡ true → is_orphan a v ≡ false
unfolding is_orphan
owned_stands n a q c v sound at owned =
    let p = owned_parts c v owned in
    let found = stands kind.Configuration q a c at in
    let key : key_of p.owner.kind v.key.name.space p.owner.name ≡ c.key = λ i. record { kind = p.kind i; name = record { space = p.space i; name = p.name i } } in
    let there : find (key_of p.owner.kind v.key.name.space p.owner.name) a ≡ Some c = ap (λ k. find k a) (key ∙ sound_key n a sound kind.Configuration q c at) ∙ found.found in
    let kind_is : p.owner.kind ≡ kind.Configuration = p.kind ∙ (is_of_parts kind.Configuration c found.of).0 in
    let uid : (c.meta.stamp.uid == p.owner.uid) ≡ true = flipped p.owner.uid c.meta.stamp.uid p.uid in
    ap (is_given (λ (w : Owner). not (owner_stands a v.key.name.space w))) p.is
    ∙ ap (λ x. not (is_given (λ (o : Object). is_of p.owner.kind o && (o.meta.stamp.uid == p.owner.uid)) x)) there
    ∙ ap not (both (subst (λ z. is_of z c ≡ true) (sym kind_is) found.of) uid)
  where
    flipped : (x y : ℕ) → (x == y) ≡ true → (y == x) ≡ true
    flipped x y e = grind (arith, nat_tests)

-- two Configurations that stand and own one Revision are one
pub one_owner : (n : ℕ) (a : State) (q r : Name) (c d v : Object) → IsSoundState n a → standing kind.Configuration q a ≡ Some c → standing kind.Configuration r a ≡ Some d → is_owned_by c v ≡ true → is_owned_by d v ≡ true → c ≡ d
one_owner n a q r c d v sound at on x y =
    let p = owned_parts c v x in
    let o = owned_parts d v y in
    let same : p.owner ≡ o.owner = some_same (sym p.is ∙ o.is) in
    let key : c.key ≡ d.key = λ i. record { kind = (sym p.kind ∙ ap (λ z. z.kind) same ∙ o.kind) i; name = record { space = (sym p.space ∙ o.space) i; name = (sym p.name ∙ ap (λ z. z.name) same ∙ o.name) i } } in
    some_same (sym (stands kind.Configuration q a c at).found ∙ ap (λ k. find k a) (sym (sound_key n a sound kind.Configuration q c at) ∙ key ∙ sound_key n a sound kind.Configuration r d on) ∙ (stands kind.Configuration r a d on).found)

-- ---- the latest

pub place_in : {A : Type 0} (xs : List A) (o : A) → In o xs → (i : ℕ) × (slice_get xs i ≡ Some o)
place_in (x ∷ xs) o (Later m) = let p = place_in xs o m in (suc p.0, p.1)
place_in (_ ∷ xs) o First = (zero, refl)
place_in [] o m = elim m [ ]

pub filter_in : (test : Object → Bool) (xs : State) (o : Object) → In o xs → test o ≡ true → In o (filter test xs)
filter_in test (x ∷ xs) o (Later m) e = go (test x) (filter_in test xs o m e)
  where
    go : (t : Bool) → In o (filter test xs) → In o (cond t (x ∷ filter test xs) (filter test xs))
    go true n = Later n
    go false n = n
filter_in test (_ ∷ xs) o First e = subst (λ t. In o (cond t (o ∷ filter test xs) (filter test xs))) (sym e) First
filter_in test [] o m e = elim m [ ]

-- where a Revision that stands is in the list of them
pub revision_place : (q : Name) (a : State) (v : Object) → standing kind.Revision q a ≡ Some v → (i : ℕ) × (slice_get (of_kind kind.Revision a) i ≡ Some v)
revision_place q a v e =
    let f = stands kind.Revision q a v e in
    place_in (of_kind kind.Revision a) v (filter_in (λ (o : Object). same_kind o.key.kind kind.Revision) a v (in_found a (key_at kind.Revision q) v f.found) (left (same_kind v.key.kind kind.Revision) (same_kind (kind_of_body v.body) kind.Revision) f.of))

-- a latest one that counts as owned stands, and counts
pub record IsChosen (a : State) (c : Object) (p : Object) : Type 0 where
  pub stands : standing kind.Revision p.key.name a ≡ Some p
  pub owned : is_owned_by c p ≡ true

revision_is : (c p : Object) → is_owned_by c p ≡ true → is_of kind.Revision p ≡ true
revision_is c p e = left (is_of kind.Revision p) (bytes_eq p.key.name.space c.key.name.space) (left (is_of kind.Revision p && bytes_eq p.key.name.space c.key.name.space) (is_given (is_owner c) p.meta.owner) e)

newest_in : (counts : Object → Bool) (a : State) (p : Object) → IsNewest counts a p → In p a
newest_in counts a p h = (in_filter (λ (o : Object). same_kind o.key.kind kind.Revision) a p (in_place (of_kind kind.Revision a) h.stands.0 p h.stands.1)).0

latest_newest : (counts : Object → Bool) → ((o : Object) → counts o ≡ true → o.key.kind ≡ kind.Revision) → (a : State) → IsOrdered a → (p : Object) → latest counts a ≡ Some p → IsNewest counts a p
latest_newest counts kinds a order p e = subst (IsLatest counts a) e (latest-law counts kinds a order)

pub been_chosen : (been : Object → Bool) (a : State) (c p : Object) → IsOrdered a → latest_been been a c ≡ Some p → IsChosen a c p
been_chosen been a c p order e =
    let h = latest_newest (λ v. is_owned_by c v && been v) (λ o t. owned-kind c o (left (is_owned_by c o) (been o) t)) a order p e in
    let owned = left (is_owned_by c p) (been p) h.counted in
    record { stands = member_stands a order kind.Revision p (newest_in (λ v. is_owned_by c v && been v) a p h) (revision_is c p owned); owned = owned }

-- a Revision of the Configuration's own generation is the latest created
pub current_latest : (n : ℕ) (a : State) (q w : Name) (c v : Object) → IsSoundState n a → IsOrdered a → standing kind.Configuration q a ≡ Some c → standing kind.Revision w a ≡ Some v → is_current c v ≡ true → is_called v.key.name.name (latest_created a c) ≡ true
current_latest n a q w c v sound order at on current = go (latest_created a c) refl (latest-law (is_owned_by c) (owned-kind c) a order)
  where
    owned : is_owned_by c v ≡ true
    owned = left (is_owned_by c v) (generation_of v.body == c.meta.stamp.generation) current

    generation : generation_of v.body ≡ c.meta.stamp.generation
    generation = exact (generation_of v.body) c.meta.stamp.generation (right (is_owned_by c v) (generation_of v.body == c.meta.stamp.generation) current)
      where
        exact : (x y : ℕ) → (x == y) ≡ true → x ≡ y
        exact x y e = grind (arith, nat_tests)

    at_place : (i : ℕ) × (slice_get (of_kind kind.Revision a) i ≡ Some v)
    at_place = revision_place w a v on

    go : (o : Option Object) → latest_created a c ≡ o → IsLatest (is_owned_by c) a o → is_called v.key.name.name o ≡ true
    go None e h = absurd (not_both owned (h at_place.0 v at_place.1))
    go (Some r) e h = by (h.ahead at_place.0 v at_place.1 owned)
      where
        there : standing kind.Revision r.key.name a ≡ Some r
        there = member_stands a order kind.Revision r (newest_in (is_owned_by c) a r h) (revision_is c r h.counted)

        by : IsAhead r v → bytes_eq r.key.name.name v.key.name.name ≡ true
        by (inl less) = absurd (let t = sound.tops q c r.key.name r at there h.counted in let g = generation in omega arith)
        by (inr (inl (same, first))) =
            let name : r.key.name ≡ w = sound.distinct c r.key.name w r v there on h.counted owned (sym same) in
            subst (λ z. bytes_eq r.key.name.name z.name ≡ true) (name ∙ sym (ap (λ k. k.name) (sound_key n a sound kind.Revision w v on))) (bytes_self r.key.name.name)
        by (inr (inr same)) = subst (λ (z : Object). bytes_eq r.key.name.name z.key.name.name ≡ true) same (bytes_self r.key.name.name)

-- ---- what goes

pub record IsPast (a : State) (w : Name) (v : Object) : Type 0 where
  pub bare : pins_of v.body ≡ []
  pub untargeted : is_target a w ≡ false
  pub current : (q : Name) (c : Object) → standing kind.Configuration q a ≡ Some c → is_current c v ≡ true → ⊥
  pub been : (q : Name) (c p : Object) → standing kind.Configuration q a ≡ Some c → latest_been has_been_ready a c ≡ Some p → p.key ≢ v.key

free_parts : (a : State) (w : Name) (v : Object) → find (key_at kind.Revision w) a ≡ Some v → is_free a w ≡ true → (pins_of v.body ≡ []) × (is_target a w ≡ false)
free_parts a w v found free = (empty (pins_of v.body) (right (is_of kind.Revision v) (is_empty (pins_of v.body)) (left (is_of kind.Revision v && is_empty (pins_of v.body)) (not (is_target a w)) both)), not_true (right (is_of kind.Revision v && is_empty (pins_of v.body)) (not (is_target a w)) both))
  where
    both : ((is_of kind.Revision v && is_empty (pins_of v.body)) && not (is_target a w)) ≡ true
    both = sym (ap (is_given (λ (r : Object). (is_of kind.Revision r && is_empty (pins_of r.body)) && not (is_target a w))) found) ∙ free

    empty : (ps : List (List ℕ)) → is_empty ps ≡ true → ps ≡ []
    empty [] e = refl
    empty (p ∷ ps) e = absurd cc

pub past : (n : ℕ) (a : State) (w : Name) (v : Object) → IsSoundState n a → IsOrdered a → standing kind.Revision w a ≡ Some v → Going a w v → IsPast a w v
unfolding is_candidate
past n a w v sound order there (Orphaned gone free) =
    let f = free_parts a w v (stands kind.Revision w a v there).found free in
    record {
      bare = f.0;
      untargeted = f.1;
      current = λ q c at t. not_both gone (owned_stands n a q c v sound at (left (is_owned_by c v) (generation_of v.body == c.meta.stamp.generation) t));
      been = λ q c p at e same. let h = been_chosen has_been_ready a c p order e in not_both gone (owned_stands n a q c v sound at (subst (λ z. is_owned_by c z ≡ true) (one p h.stands same) h.owned));
    }
  where
    one : (p : Object) → standing kind.Revision p.key.name a ≡ Some p → p.key ≡ v.key → p ≡ v
    one p s same = some_same (sym s ∙ ap (λ k. standing kind.Revision k.name a) (same ∙ sound_key n a sound kind.Revision w v there) ∙ there)
past n a w v sound order there (Collected r o on candidate) =
    let f = free_parts a w v (stands kind.Revision w a v there).found (subst (λ z. is_free a z ≡ true) name free) in
    record { bare = f.0; untargeted = f.1; current = current; been = been }
  where
    parts : ((is_owned_by o v && is_free a v.key.name) && not (is_called v.key.name.name (latest_created a o) || is_called v.key.name.name (latest_been has_been_ready a o))) ≡ true
    parts = candidate

    owned : is_owned_by o v ≡ true
    owned = left (is_owned_by o v) (is_free a v.key.name) (left (is_owned_by o v && is_free a v.key.name) _ parts)

    free : is_free a v.key.name ≡ true
    free = right (is_owned_by o v) (is_free a v.key.name) (left (is_owned_by o v && is_free a v.key.name) _ parts)

    neither : (is_called v.key.name.name (latest_created a o) || is_called v.key.name.name (latest_been has_been_ready a o)) ≡ false
    neither = not_true (right (is_owned_by o v && is_free a v.key.name) _ parts)

    first : (x y : Bool) → (x || y) ≡ false → x ≡ false
    first true y e = absurd cc
    first false y e = refl

    second : (x y : Bool) → (x || y) ≡ false → y ≡ false
    second true y e = absurd cc
    second false y e = e

    name : v.key.name ≡ w
    name = ap (λ k. k.name) (sound_key n a sound kind.Revision w v there)

    current : (q : Name) (c : Object) → standing kind.Configuration q a ≡ Some c → is_current c v ≡ true → ⊥
    current q c at t =
        let same : c ≡ o = one_owner n a q r c o v sound at on (left (is_owned_by c v) (generation_of v.body == c.meta.stamp.generation) t) owned in
        not_both (subst (λ z. is_called v.key.name.name (latest_created a z) ≡ true) same (current_latest n a q w c v sound order at there t)) (first (is_called v.key.name.name (latest_created a o)) (is_called v.key.name.name (latest_been has_been_ready a o)) neither)

    been : (q : Name) (c p : Object) → standing kind.Configuration q a ≡ Some c → latest_been has_been_ready a c ≡ Some p → p.key ≢ v.key
    been q c p at e = λ same.
        let h = been_chosen has_been_ready a c p order e in
        let is : p ≡ v = some_same (sym h.stands ∙ ap (λ k. standing kind.Revision k.name a) (same ∙ sound_key n a sound kind.Revision w v there) ∙ there) in
        let one : c ≡ o = one_owner n a q r c o v sound at on (subst (λ z. is_owned_by c z ≡ true) is h.owned) owned in
        let called : is_called v.key.name.name (latest_been has_been_ready a o) ≡ true = ap (is_called v.key.name.name) (ap (latest_been has_been_ready a) (sym one) ∙ e) ∙ ap (λ k. bytes_eq k.name.name v.key.name.name) same ∙ bytes_self v.key.name.name in
        not_both called (second (is_called v.key.name.name (latest_created a o)) (is_called v.key.name.name (latest_been has_been_ready a o)) neither)
