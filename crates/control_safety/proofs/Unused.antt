-- Every removal of a Revision removes an unused one; and the latest Revisions of a Configuration don't fall.
use Rattle.std.proofs.Common.{◌≡◌, ◌≢◌, ◌⊎◌, inl, inr, ℕ, zero, suc, ◌<◌, ◌≤◌, Bool, true, false, List, length, Some, None, refl, sym, ap, ◌∙◌, subst, arith}
use Rattle.std.specs.Prelude.{slice_get, ◌&&◌, ◌==◌, not, bytes_eq}
use Rattle.std.proofs.lemmas.Bool.{eq-eqb}
use Rattle.resource_types.specs.declared.names.Kind.TheVariants as kind
use Rattle.resource_types.specs.declared.names.Name.{Name}
use Rattle.resource_types.specs.declared.names.Key.{Key}
use Rattle.resource_types.specs.declared.metadata.Owner.{Owner}
use Rattle.resource_types.specs.declared.objects.Object.{Object}
use Rattle.resource_types.specs.declared.manifests.Manifest.{Manifest}
use Rattle.resource_types.specs.Objects.{same_kind, is_of, kind_of_body, generation_of, has_been_ready}
use Rattle.resource_types.specs.Lookups.{Journal, State, find, is_given, is_owner, owner_stands, is_owned_by, is_called, latest, latest_created, latest_ready, is_latest, is_latest_of, is_target, IsAhead}
use Rattle.resource_types.specs.Lookups as lookups
use Rattle.resource_types.proofs.Exact.{kind-own, left, right}
use Rattle.control_rules.specs.declared.settings.Settings.{Settings}
use Rattle.control_rules.specs.Standing.{beside, key_at, listed, standing, pins_at, is_orphan}
use Rattle.control_rules.specs.Slots.{ObjectEntry, state_at}
use Rattle.control_rules.specs.Lawful.{IsLawful}
use Rattle.control_rules.specs.Safe.{IsUnused, RemovesUnused}
use Rattle.control_rules.specs.Facts.{generation_if, LatestDoesNotFall}
use Rattle.control_rules.specs.FurtherFacts.{Stood, WasMade}
use Rattle.control_entries.proofs.Tests.{some_same, at_end, both, not_both, false_from, or_cases, bytes_self, key_of_kind, kind_same, name_same}
use Rattle.control_entries.proofs.Lists.{get_below, along}
use Rattle.control_entries.proofs.Standing.{Stands, stands, is_of_both}
use Rattle.control_entries.proofs.Positions.{ordered_at}
use Rattle.control_entries.proofs.Stamps.{IsNumbered, numbered, stood}
use Rattle.control_safety.proofs.Pins.{listed_none}
use Rattle.control_entries.proofs.Sound.{standing_at, fits}
use Rattle.control_safety.proofs.Owners.{revision_made}
use Rattle.control_safety.proofs.Kin.{one_key, distinct_generations}
use Rattle.control_entries.proofs.Removals.{free_parts, RevisionRemoval, RemovedByClient, RemovedOrphan, RemovedCollected, revision_removal}
use Rattle.control_safety.proofs.Own.{removed_unpinned}
use Rattle.control_safety.proofs.Safety.{route_is_safe}
use Rattle.control_safety.proofs.Targets.{untargeted_since}
use Rattle.control_entries.proofs.Planned.{IsCandidate, candidate_is}
use Rattle.control_safety.proofs.Owned.{Owns, owns, latest_is, latest_ahead, owned_revision, owned_ready_revision, called, called_self}
use Rattle.control_safety.proofs.LatestStays.{created_step, ready_step}

-- the latest ones of c at m are no newer than those of what stands at i
abbrev HaveNotFallen : Journal → ℕ → Name → Object → ℕ → Type 0
HaveNotFallen j m k c i = (d : Object) → standing kind.Configuration k (state_at j i) ≡ Some d → c.meta.stamp.uid ≡ d.meta.stamp.uid
    → (generation_if (latest_created (state_at j m) c) ≤ generation_if (latest_created (state_at j i) d)) × (generation_if (latest_ready (state_at j m) c) ≤ generation_if (latest_ready (state_at j i) d))

-- one that is ahead, and isn't the same, is of a greater generation, where generations differ
greater : (r o : Object) → IsAhead r o → (r ≢ o) → (generation_of o.body ≡ generation_of r.body → r.key.name ≡ o.key.name) → (r.key.name ≢ o.key.name)
    → generation_of o.body < generation_of r.body
greater r o (inl lt) apart once names = lt
greater r o (inr (inl (same, less))) apart once names = absurd (names (once same))
greater r o (inr (inr same)) apart once names = absurd (apart same)

module _ {is_good : Manifest → Bool} {settings : Settings} {j : Journal} (lawful : IsLawful is_good settings j) where
  -- ---- the latest ones, while only unused Revisions are removed

  not_fallen : (m n : ℕ) → m ≤ n → n ≤ length j → ((i : ℕ) → m ≤ i → i < n → RemovesUnused j i) → (k : Name) (c : Object)
      → standing kind.Configuration k (state_at j m) ≡ Some c → HaveNotFallen j m k c n
  not_fallen m n le len unused k c at = along j (HaveNotFallen j m k c) m n le len step start
    where
      start : HaveNotFallen j m k c m
      start d there u = (let same = some_same (sym at ∙ there) in
          let a : generation_if (latest_created (state_at j m) c) ≡ generation_if (latest_created (state_at j m) d) = ap (λ (z : Object). generation_if (latest_created (state_at j m) z)) same in
          let b : generation_if (latest_ready (state_at j m) c) ≡ generation_if (latest_ready (state_at j m) d) = ap (λ (z : Object). generation_if (latest_ready (state_at j m) z)) same in
          (omega arith, omega arith))

      step : (i : ℕ) (e : ObjectEntry) → m ≤ i → i < n → slice_get j i ≡ Some e → HaveNotFallen j m k c i → HaveNotFallen j m k c (suc i)
      step i e a b g ih d there u =
          (let w : IsNumbered j m c = numbered lawful m (omega arith) (key_at kind.Configuration k) c (stands kind.Configuration k (state_at j m) c at).found in
          let x = w.uid in let y = w.version in
          let was : Stood j i (key_at kind.Configuration k) d = stood lawful (suc i) (omega arith) (key_at kind.Configuration k) d (stands kind.Configuration k (state_at j (suc i)) d there).found i (omega arith) (omega arith) in
          let now : standing kind.Configuration k (state_at j i) ≡ Some was.then = standing_at lawful i (omega arith) kind.Configuration k was.then was.stands in
          let key : was.then.key ≡ d.key = (stands kind.Configuration k (state_at j i) was.then now).key ∙ sym (stands kind.Configuration k (state_at j (suc i)) d there).key in
          let before = ih was.then now (u ∙ sym was.uid) in
          let p = created_step lawful i e g (unused i a b) k was.then d now key was.uid in
          let q = ready_step lawful i e g (unused i a b) k was.then d now key was.uid in
          let l = before.0 in let r = before.1 in
          (omega arith, omega arith))

  -- ---- one removal

  module _ (n : ℕ) (e : ObjectEntry) (g : slice_get j n ≡ Some e) (unused : (i : ℕ) → i < n → RemovesUnused j i) (v : Name) (key : e.key ≡ key_at kind.Revision v) (gone : e.object ≡ None)
      (o : Object) (at : standing kind.Revision v (state_at j n) ≡ Some o) (why : RevisionRemoval j n e v o) where
    len : n ≤ length j
    len = (let b = get_below j n e g in omega arith)

    name : o.key.name ≡ v
    name = name_same (stands kind.Revision v (state_at j n) o at).key

    -- no target names it
    untargeted : is_target (state_at j n) v ≡ false
    untargeted = go why
      where
        go : RevisionRemoval j n e v o → is_target (state_at j n) v ≡ false
        go (RemovedByClient free past) = (free_parts (state_at j n) v o at free).1
        go (RemovedOrphan b then lost free guard) = untargeted_since lawful e.seen n b len guard v (free_parts (state_at j e.seen) v o then free).1
        go (RemovedCollected m c b there then candidate guard) =
            untargeted_since lawful e.seen n b len guard v (free_parts (state_at j e.seen) v o then (subst (λ z. lookups.is_free (state_at j e.seen) z ≡ true) name (candidate_is has_been_ready (state_at j e.seen) c o candidate).free)).1

    -- a Configuration that stands and owns it
    module _ (k : Name) (c : Object) (there : standing kind.Configuration k (state_at j n) ≡ Some c) (own : is_owned_by c o ≡ true) where
      own_parts : Owns c o
      own_parts = owns c o own

      ckey : c.key ≡ key_at kind.Configuration k
      ckey = (stands kind.Configuration k (state_at j n) c there).key

      cfound : find (key_at kind.Configuration k) (state_at j n) ≡ Some c
      cfound = (stands kind.Configuration k (state_at j n) c there).found

      -- by its owner
      cplace : key_at own_parts.owner.kind (record { space = v.space; name = own_parts.owner.name }) ≡ key_at kind.Configuration k
      cplace =
          (let a = own_parts.kind ∙ kind_same ckey in
          let b = ap (λ (z : Name). z.space) (sym name) ∙ own_parts.space ∙ ap (λ (z : Key). z.name.space) ckey in
          let d = own_parts.name ∙ ap (λ (z : Key). z.name.name) ckey in
          λ i. record { kind = a i; name = record { space = b i; name = d i } })

      is_the_owner : is_owner c own_parts.owner ≡ true
      is_the_owner = both (both (subst (λ z. same_kind own_parts.owner.kind z ≡ true) own_parts.kind (kind-own own_parts.owner.kind)) (subst (λ z. bytes_eq own_parts.owner.name z ≡ true) own_parts.name (bytes_self own_parts.owner.name)))
          (eq-eqb own_parts.owner.uid c.meta.stamp.uid own_parts.uid)

      -- where its owner is gone at a look, no Configuration that stands later owns it
      not_orphan : (m : ℕ) → m ≤ n → standing kind.Revision v (state_at j m) ≡ Some o → is_orphan (state_at j m) o ≡ true → ⊥
      unfolding is_orphan
      not_orphan m le then lost = not_both missing (ap not found)
        where
          made : WasMade j m o
          made = revision_made lawful m v o (let a = len in omega arith) then

          uid : made.maker.meta.stamp.uid ≡ c.meta.stamp.uid
          uid = ap (λ (z : Owner). z.uid) (some_same (sym made.owner ∙ own_parts.is)) ∙ own_parts.uid

          was : Stood j m (key_at kind.Configuration k) c
          was = stood lawful n len (key_at kind.Configuration k) c cfound m
              (let a = len in let b = made.before in
              let w = numbered lawful made.place (omega arith) (key_at kind.Configuration made.name) made.maker (stands kind.Configuration made.name (state_at j made.place) made.maker made.stands).found in
              let x = w.uid in let y = w.version in let z = uid in omega arith) le

          fit : kind_of_body was.then.body ≡ kind.Configuration
          fit = fits lawful m (let a = len in omega arith) (key_at kind.Configuration k) was.then was.stands

          there_then : Stands kind.Configuration k (state_at j m) was.then
          there_then = stands kind.Configuration k (state_at j m) was.then (standing_at lawful m (let a = len in omega arith) kind.Configuration k was.then was.stands)

          missing : not (owner_stands (state_at j m) o.key.name.space own_parts.owner) ≡ true
          missing = subst (λ w. is_given (λ (x : Owner). not (owner_stands (state_at j m) o.key.name.space x)) w ≡ true) own_parts.is lost

          kinds : own_parts.owner.kind ≡ kind.Configuration
          kinds = kind_same cplace

          found : owner_stands (state_at j m) o.key.name.space own_parts.owner ≡ true
          found =
              ap (λ z. is_given (λ (x : Object). is_of own_parts.owner.kind x && (x.meta.stamp.uid == own_parts.owner.uid)) (find z (state_at j m))) (ap (λ (z : Name). key_at own_parts.owner.kind (record { space = z.space; name = own_parts.owner.name })) name ∙ cplace)
              ∙ ap (is_given (λ (x : Object). is_of own_parts.owner.kind x && (x.meta.stamp.uid == own_parts.owner.uid))) was.stands
              ∙ both (is_of_both own_parts.owner.kind was.then (kind_same there_then.key ∙ sym kinds) (fit ∙ sym kinds)) (eq-eqb was.then.meta.stamp.uid own_parts.owner.uid (was.uid ∙ sym own_parts.uid))

      -- the Collector chose it, so there is a later one, which is no more than the latest now
      not_collected : (m : ℕ) (p : Name) (c0 : Object) → m ≤ n → standing kind.Configuration p (state_at j m) ≡ Some c0
          → standing kind.Revision v (state_at j m) ≡ Some o → IsCandidate has_been_ready (state_at j m) c0 o
          → (latest_created (state_at j n) c ≡ Some o) ⊎ (latest_ready (state_at j n) c ≡ Some o) → ⊥
      not_collected m p c0 le was then candidate last = go last
        where
          mlen : m ≤ length j
          mlen = (let a = len in omega arith)

          own0 : Owns c0 o
          own0 = owns c0 o candidate.owned

          uid : c0.meta.stamp.uid ≡ c.meta.stamp.uid
          uid = sym own0.uid ∙ ap (λ (z : Owner). z.uid) (some_same (sym own0.is ∙ own_parts.is)) ∙ own_parts.uid

          place : key_at kind.Configuration p ≡ key_at kind.Configuration k
          place = one_key lawful m n (key_at kind.Configuration p) (key_at kind.Configuration k) c0 c mlen len (stands kind.Configuration p (state_at j m) c0 was).found cfound uid

          here : standing kind.Configuration k (state_at j m) ≡ Some c0
          here = subst (λ (z : Key). standing kind.Configuration z.name (state_at j m) ≡ Some c0) place was

          falls : (generation_if (latest_created (state_at j m) c0) ≤ generation_if (latest_created (state_at j n) c)) × (generation_if (latest_ready (state_at j m) c0) ≤ generation_if (latest_ready (state_at j n) c))
          falls = not_fallen m n le len (λ i a b. unused i b) k c0 here c there uid

          ofound : find (key_at kind.Revision v) (state_at j m) ≡ Some o
          ofound = (stands kind.Revision v (state_at j m) o then).found

          -- a latest one that is ahead and has another name is of a greater generation
          newer : (r : Object) → IsAhead r o → is_owned_by c0 r ≡ true → find r.key (state_at j m) ≡ Some r → r.key.kind ≡ kind.Revision
              → is_called o.key.name.name (Some r) ≡ false → generation_of o.body < generation_of r.body
          newer r a owned f q other =
              greater r o a (λ s. not_both (called_self o (Some r) (ap Some s)) other) once (λ s. not_both (subst (λ (z : Name). bytes_eq r.key.name.name z.name ≡ true) s (bytes_self r.key.name.name)) other)
            where
              rs : standing kind.Revision r.key.name (state_at j m) ≡ Some r
              rs = standing_at lawful m mlen kind.Revision r.key.name r (subst (λ z. find z (state_at j m) ≡ Some r) (key_of_kind r.key kind.Revision q) f)

              once : generation_of o.body ≡ generation_of r.body → r.key.name ≡ o.key.name
              once s =
                  (let ro = owns c0 r owned in
                  distinct_generations lawful m mlen r.key.name v r o ro.owner own0.owner rs then ro.is own0.is (ro.uid ∙ sym own0.uid) (sym s) ∙ sym name)

          go : (latest_created (state_at j n) c ≡ Some o) ⊎ (latest_ready (state_at j n) c ≡ Some o) → ⊥
          go (inl h) =
              (let (r, s, a) = latest_ahead (is_owned_by c0) (owned_revision c0) (state_at j m) (ordered_at j m) o (key_at kind.Revision v) ofound refl candidate.owned in
              let (f, q, t) = latest_is (is_owned_by c0) (owned_revision c0) (state_at j m) (ordered_at j m) r s in
              let lt = newer r a t f q (subst (λ w. is_called o.key.name.name w ≡ false) s candidate.created) in
              let x = falls.0 in let y = ap generation_if s in let z = ap generation_if h in omega arith)
          go (inr h) =
              (let counted = latest_is (λ r. is_owned_by c r && has_been_ready r) (owned_ready_revision c) (state_at j n) (ordered_at j n) o h in
              let both_are : (is_owned_by c0 o && has_been_ready o) ≡ true = both candidate.owned (right (is_owned_by c o) _ counted.2) in
              let (r, s, a) = latest_ahead (λ r. is_owned_by c0 r && has_been_ready r) (owned_ready_revision c0) (state_at j m) (ordered_at j m) o (key_at kind.Revision v) ofound refl both_are in
              let (f, q, t) = latest_is (λ r. is_owned_by c0 r && has_been_ready r) (owned_ready_revision c0) (state_at j m) (ordered_at j m) r s in
              let lt = newer r a (left _ _ t) f q (subst (λ w. is_called o.key.name.name w ≡ false) s candidate.ready) in
              let x = falls.1 in let y = ap generation_if s in let z = ap generation_if h in omega arith)

      -- so it is none of the latest ones
      not_latest : (latest_created (state_at j n) c ≡ Some o) ⊎ (latest_ready (state_at j n) c ≡ Some o) → is_latest (state_at j n) v.name c ≡ true
          → ⊥
      not_latest last l = go why
        where
          go : RevisionRemoval j n e v o → ⊥
          go (RemovedOrphan b then lost free guard) = not_orphan e.seen b then lost
          go (RemovedCollected m c0 b was then candidate guard) =
              not_collected e.seen m c0 b was then (candidate_is has_been_ready (state_at j e.seen) c0 o candidate) last
          go (RemovedByClient free past) = not_both found past
            where
              found : is_given (is_latest_of (state_at j n) v) o.meta.owner ≡ true
              found =
                  ap (is_given (is_latest_of (state_at j n) v)) own_parts.is
                  ∙ ap (λ z. is_given (λ (x : Object). (is_of kind.Configuration x && is_owner x own_parts.owner) && is_latest (state_at j n) v.name x) (find z (state_at j n))) (ap (λ z. key_at z (record { space = v.space; name = own_parts.owner.name })) (sym (kind_same cplace)) ∙ cplace)
                  ∙ ap (is_given (λ (x : Object). (is_of kind.Configuration x && is_owner x own_parts.owner) && is_latest (state_at j n) v.name x)) cfound
                  ∙ both (both (is_of_both kind.Configuration c (kind_same ckey) (stands kind.Configuration k (state_at j n) c there).fits) is_the_owner) l

    -- a latest one of a Configuration in the namespace, of the name, is the Revision
    same_one : (x : List ℕ) (c : Object) → standing kind.Configuration (beside v x) (state_at j n) ≡ Some c → (w : Object) → is_owned_by c w ≡ true
        → w.key.name.name ≡ v.name → find w.key (state_at j n) ≡ Some w → w ≡ o
    same_one x c there w own called_so f = some_same (sym f ∙ ap (λ z. find z (state_at j n)) place ∙ (stands kind.Revision v (state_at j n) o at).found)
      where
        parts : Owns c w
        parts = owns c w own

        space : w.key.name.space ≡ v.space
        space = parts.space ∙ ap (λ (z : Key). z.name.space) (stands kind.Configuration (beside v x) (state_at j n) c there).key

        place : w.key ≡ key_at kind.Revision v
        place = key_of_kind w.key kind.Revision (owned_revision c w own) ∙ (λ i. key_at kind.Revision (record { space = space i; name = called_so i }))

    past : (x : List ℕ) (c : Object) → standing kind.Configuration (beside v x) (state_at j n) ≡ Some c → is_latest (state_at j n) v.name c ≡ false
    past x c there = false_from (λ l. go l (or_cases l))
      where
        go : is_latest (state_at j n) v.name c ≡ true
            → (is_called v.name (latest_created (state_at j n) c) ≡ true) ⊎ (is_called v.name (latest_ready (state_at j n) c) ≡ true) → ⊥
        go l (inl h) =
            (let (w, s, t) = called v.name (latest_created (state_at j n) c) h in
            let (f, q, own) = latest_is (is_owned_by c) (owned_revision c) (state_at j n) (ordered_at j n) w s in
            let same : w ≡ o = same_one x c there w own t f in
            not_latest (beside v x) c there (subst (λ (z : Object). is_owned_by c z ≡ true) same own) (inl (s ∙ ap Some same)) l)
        go l (inr h) =
            (let (w, s, t) = called v.name (latest_ready (state_at j n) c) h in
            let (f, q, own) = latest_is (λ r. is_owned_by c r && has_been_ready r) (owned_ready_revision c) (state_at j n) (ordered_at j n) w s in
            let same : w ≡ o = same_one x c there w (left _ _ own) t f in
            not_latest (beside v x) c there (subst (λ (z : Object). is_owned_by c z ≡ true) same (left _ _ own)) (inr (s ∙ ap Some same)) l)

    unused_one : IsUnused (state_at j n) v
    unused_one = record {
      published = λ r. false_from (λ l. pinned r ((route_is_safe lawful n len (beside v r)).table.published v.name l));
      served = λ r. false_from (λ l. pinned r ((route_is_safe lawful n len (beside v r)).status v.name l));
      targeted = untargeted;
      past = past;
    }
      where
        pinned : (r : List ℕ) → listed r (pins_at (state_at j n) v) ≡ true → ⊥
        pinned r l = not_both l (ap (listed r) (removed_unpinned lawful n e g v key gone) ∙ listed_none r)

  -- ---- all removals

  removes_step : (n : ℕ) → ((i : ℕ) → i < n → RemovesUnused j i) → RemovesUnused j n
  removes_step n unused e g q gone =
      (let key : e.key ≡ key_at kind.Revision e.key.name = key_of_kind e.key kind.Revision q in
      let (o, at, why) = revision_removal lawful n e g e.key.name key gone in
      unused_one n e g unused e.key.name key gone o at why)

  removes_below : (n : ℕ) → (i : ℕ) → i < n → RemovesUnused j i
  removes_below zero i lt = absurd (omega arith)
  removes_below (suc n) i lt = go (at_end (suc i) n lt) (removes_below n)
    where
      go : (suc i ≡ suc n) ⊎ (suc i ≤ n) → ((i : ℕ) → i < n → RemovesUnused j i) → RemovesUnused j i
      go (inr l) ih = ih i l
      go (inl q) ih = subst (RemovesUnused j) (let e : n ≡ i = omega arith in e) (removes_step n ih)

  -- every removal of a Revision removes an unused one
  pub removes_unused : (n : ℕ) → RemovesUnused j n
  removes_unused n = removes_step n (removes_below n)

  -- the latest Revisions of a Configuration that stands don't fall
  pub latest_stays : LatestDoesNotFall j
  latest_stays = record {
    created = λ m n k c d le len at there u. (not_fallen m n le len (λ i a b. removes_unused i) k c at d there u).0;
    ready = λ m n k c d le len at there u. (not_fallen m n le len (λ i a b. removes_unused i) k c at d there u).1;
  }
