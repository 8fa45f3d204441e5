-- Each position of a lawful journal is safe.
use Rattle.std.proofs.Common.{◌≡◌, ◌≢◌, ◌⊎◌, inl, inr, ℕ, zero, suc, ◌≤◌, Bool, true, false, List, [], length, Option, Some, None, refl, sym, ap, ◌∙◌, subst, arith}
use Rattle.std.specs.Prelude.{slice_get}
use Rattle.resource_types.specs.declared.names.Kind.{Kind}
use Rattle.resource_types.specs.declared.names.Kind.TheVariants as kind
use Rattle.resource_types.specs.declared.names.Controller.TheVariants as controller
use Rattle.resource_types.specs.declared.names.Name.{Name}
use Rattle.resource_types.specs.declared.names.Key.{Key}
use Rattle.resource_types.specs.declared.names.Actor.TheVariants.{Controller}
use Rattle.resource_types.specs.declared.status.ObjectStatus.{ObjectStatus}
use Rattle.resource_types.specs.declared.objects.Body.{Body}
use Rattle.resource_types.specs.declared.objects.Object.{Object}
use Rattle.resource_types.specs.declared.manifests.Manifest.{Manifest}
use Rattle.resource_types.specs.Objects.{pins_of, status_of, targets_of}
use Rattle.resource_types.specs.Lookups.{Journal, State}
use Rattle.control_rules.specs.declared.settings.Settings.{Settings}
use Rattle.control_rules.specs.Standing.{beside, key_at, listed, of_its_kind, read, standing, pins_at, published_of, published_at, published_targets, target_names, traffic_at}
use Rattle.control_rules.specs.Resolution.{Meant, stored}
use Rattle.control_rules.specs.Differences.{given}
use Rattle.control_rules.specs.NextRoute.{add_pin, first_unpinned, assigned_at, pin_lacking, table_of, repinned}
use Rattle.control_rules.specs.Slots.{ObjectEntry, state_at, slot_key}
use Rattle.control_rules.specs.Lawful.{IsAlone, IsLawful}
use Rattle.control_rules.specs.Safe.{WasReported, rows_of, IsSafe, IsDivided}
use Rattle.control_rules.specs.Facts.{IsOthers}
use Rattle.control_safety.specs.Goods.{IsGoodLaws}
use Rattle.control_entries.proofs.Tests.{some_same, not_both, body_same, kind_same}
use Rattle.control_entries.proofs.Lists.{get_some, get_below}
use Rattle.control_entries.proofs.Standing.{stands, of_kind_some}
use Rattle.control_entries.proofs.Positions.{untouched, touched, at_standing}
use Rattle.control_entries.proofs.Puts.{TablePut, PutTable, table_put}
use Rattle.control_entries.proofs.Sound.{put_stands, put_there}
use Rattle.control_safety.proofs.Good.{route_targets}
use Rattle.control_safety.proofs.Pins.{listed_none, listed_adds}
use Rattle.control_safety.proofs.Own.{pins_in, own_after}
use Rattle.control_safety.proofs.Meanings.{IsMeant, IsAllMeant, assigned_at_is, none_unpinned}
use Rattle.control_safety.proofs.TableRows.{rows_are, names_are, divided}
use Rattle.control_safety.proofs.Reports.{reported_later}
use Rattle.control_safety.proofs.Since.{traffic_of, traffic_is, controls, traffic_was, pins_since, table_since, traffic_since, uid_since}
use Rattle.control_safety.proofs.TableSafety.{TableIsSafe, StatusIsSafe, no_table_safe, table_kept, ready_reported}
use Rattle.control_safety.proofs.RouteActs.{whose, status_names, RouteAct, RemovesRoute, StatesRoute, RemovesTable, PutsTable, AddsPin, DropsPin, route_act}

-- where no pin is lacking, no Revision that a target means lacks one
none_lacking : (st : State) (r : Name) (now : ℕ) (ms : List Meant) → assigned_at stored st r ≡ Some ms → pin_lacking st r now ≡ None
    → first_unpinned st r ms ≡ None
unfolding given
none_lacking st r now ms all h =
    go (first_unpinned st r ms) refl (subst (λ w. given w (λ ms. given (first_unpinned st r ms) (λ v. Some (repinned v (add_pin r.name (pins_of v.body)) now))) ≡ None) all h)
  where
    go : (w : Option Object) → first_unpinned st r ms ≡ w
        → given (first_unpinned st r ms) (λ v. Some (repinned v (add_pin r.name (pins_of v.body)) now)) ≡ None → first_unpinned st r ms ≡ None
    go None e k = e
    go (Some v) e k = absurd (let z = subst (λ w. given w (λ v. Some (repinned v (add_pin r.name (pins_of v.body)) now)) ≡ None) e k in cc)

kind_apart : {a b : Kind} {m n : Name} {k : Key} → k ≡ key_at a m → (a ≢ b) → k ≢ key_at b n
kind_apart p apart q = apart (kind_same (sym p ∙ q))

-- a position at which all of one Route is safe
pub record RouteIsSafe (j : Journal) (n : ℕ) (r : Name) : Type 0 where
  pub table : TableIsSafe j n r
  pub status : StatusIsSafe j n r

module _ {is_good : Manifest → Bool} {settings : Settings} {j : Journal} (lawful : IsLawful is_good settings j) where
  -- ---- entries of others

  safe_by_others : (n : ℕ) (e : ObjectEntry) → slice_get j n ≡ Some e → (r : Name) → IsOthers r e → RouteIsSafe j n r → RouteIsSafe j (suc n) r
  safe_by_others n e g r others was = record {
    table = table_kept lawful n e g r (own_after lawful n e r g others).1 (λ x l p. (own_after lawful n e r g others).0 x ∙ p) was.table;
    status = λ x l. (own_after lawful n e r g others).0 x ∙ was.status x (traffic_was lawful n e g r others x l);
  }

  -- ---- its own entries

  safe_by_its_own : (n : ℕ) (e : ObjectEntry) → slice_get j n ≡ Some e → (r : Name) → e.actor ≡ Controller (slot_key controller.Route r)
      → RouteIsSafe j n r → RouteIsSafe j (suc n) r
  safe_by_its_own n e g r q was = go (route_act lawful n e g r q)
    where
      len : n ≤ length j
      len = (let b = get_below j n e g in omega arith)

      before : e.seen ≤ n
      before = (controls lawful n e g (slot_key controller.Route r) q).before

      seen : e.seen ≤ length j
      seen = (let a = len in let b = before in omega arith)

      alone : IsAlone j e.seen n (slot_key controller.Route r)
      alone = (controls lawful n e g (slot_key controller.Route r) q).alone

      -- what the entry leaves
      pins_stay : {m : Name} {k : Kind} → e.key ≡ key_at k m → (k ≢ kind.Revision) → (x : List ℕ)
          → listed r.name (pins_at (state_at j (suc n)) (beside r x)) ≡ listed r.name (pins_at (state_at j n) (beside r x))
      pins_stay p apart x = ap (λ w. listed r.name (pins_in w)) (untouched j lawful.stamps n e g kind.Revision (beside r x) (kind_apart p apart))

      table_stays : {m : Name} {k : Kind} → e.key ≡ key_at k m → (k ≢ kind.Table)
          → standing kind.Table r (state_at j (suc n)) ≡ standing kind.Table r (state_at j n)
      table_stays p apart = untouched j lawful.stamps n e g kind.Table r (kind_apart p apart)

      traffic_stays : {m : Name} {k : Kind} → e.key ≡ key_at k m → (k ≢ kind.Route) → traffic_at (state_at j (suc n)) r ≡ traffic_at (state_at j n) r
      traffic_stays p apart = traffic_is (state_at j (suc n)) r ∙ ap traffic_of (untouched j lawful.stamps n e g kind.Route r (kind_apart p apart))
          ∙ sym (traffic_is (state_at j n) r)

      served : {m : Name} {k : Kind} → e.key ≡ key_at k m → (k ≢ kind.Route) → (x : List ℕ) → listed x (traffic_at (state_at j (suc n)) r) ≡ true
          → listed x (traffic_at (state_at j n) r) ≡ true
      served p apart x l = ap (listed x) (sym (traffic_stays p apart)) ∙ l

      -- a pin that changes on one Revision
      pins_up : (v : List ℕ) (old o : Object) → e.key ≡ key_at kind.Revision (beside r v)
          → standing kind.Revision (beside r v) (state_at j n) ≡ Some old → e.object ≡ Some o
          → (x : List ℕ) → (x ≡ v → listed r.name (pins_of old.body) ≡ true → listed r.name (pins_of o.body) ≡ true)
          → listed r.name (pins_at (state_at j n) (beside r x)) ≡ true → listed r.name (pins_at (state_at j (suc n)) (beside r x)) ≡ true
      pins_up v old o p at h x same l =
          at_standing j lawful.stamps n e g kind.Revision (beside r x) (λ w. listed r.name (pins_in w) ≡ true)
          (λ k. (let name : x ≡ v = ap (λ (z : Key). z.name.name) (sym k ∙ p) in
          let here : listed r.name (pins_of old.body) ≡ true = ap (λ w. listed r.name (pins_in w)) (sym at) ∙ subst (λ z. listed r.name (pins_at (state_at j n) (beside r z)) ≡ true) name l in
          ap (λ w. listed r.name (pins_in w)) (put_stands lawful n e g kind.Revision (beside r x) o k h) ∙ same name here))
          (λ _. l)

      go : RouteAct settings j n e r → RouteIsSafe j (suc n) r
      go (RemovesRoute p h) = record {
        table = table_kept lawful n e g r (table_stays p (λ z. cc)) (λ x l k. pins_stay p (λ z. cc) x ∙ k) was.table;
        status = λ x l. absurd (not_both l (ap (listed x) (traffic_is (state_at j (suc n)) r ∙ ap traffic_of (touched j lawful.stamps n e g kind.Route r p ∙ ap (of_its_kind kind.Route) h)) ∙ listed_none x));
      }
      go (StatesRoute o s p h status) = record {
        table = table_kept lawful n e g r (table_stays p (λ z. cc)) (λ x l k. pins_stay p (λ z. cc) x ∙ k) was.table;
        status = λ x l. (let new : traffic_at (state_at j (suc n)) r ≡ target_names (status_of s.body).traffic = traffic_is (state_at j (suc n)) r ∙ ap traffic_of (put_there lawful n e g kind.Route r s p h) in
            let named : listed x (published_at (state_at j e.seen) r) ≡ true = status_names settings (state_at j e.seen) r o x (ap (λ (z : ObjectStatus). listed x (target_names z.traffic)) (sym status) ∙ ap (listed x) (sym new) ∙ l) in
            let now : listed x (published_at (state_at j n) r) ≡ true = ap (λ w. listed x (read [] published_of w)) (table_since lawful e.seen n r before len alone) ∙ named in
            pins_stay p (λ z. cc) x ∙ was.table.published x now);
      }
      go (RemovesTable p h) = record {
        table = no_table_safe j (suc n) r (touched j lawful.stamps n e g kind.Table r p ∙ ap (of_its_kind kind.Table) h);
        status = λ x l. pins_stay p (λ z. cc) x ∙ was.status x (served p (λ z. cc) x l);
      }
      go (AddsPin v old o p at h pins) = record {
        table = table_kept lawful n e g r (table_stays p (λ z. cc)) (λ x l k. pins_up v old o p at h x (λ _ _. ap (listed r.name) pins ∙ listed_adds r.name (pins_of old.body)) k) was.table;
        status = λ x l. pins_up v old o p at h x (λ _ _. ap (listed r.name) pins ∙ listed_adds r.name (pins_of old.body)) (was.status x (served p (λ z. cc) x l));
      }
      go (DropsPin v old o p at h pins unpublished unserved) = record {
        table = table_kept lawful n e g r (table_stays p (λ z. cc)) (λ x l k. pins_up v old o p at h x (λ s _. absurd (not_both (subst (λ z. listed z (published_at (state_at j n) r) ≡ true) s l) free)) k) was.table;
        status = λ x l. (let now = served p (λ z. cc) x l in
            pins_up v old o p at h x (λ s _. absurd (not_both (traffic_since lawful e.seen n r before len alone v (subst (λ z. listed z (traffic_at (state_at j n) r) ≡ true) s now)) unserved)) (was.status x now));
      }
        where
          free : listed v (published_at (state_at j n) r) ≡ false
          free = ap (λ w. listed v (read [] published_of w)) (table_since lawful e.seen n r before len alone) ∙ unpublished
      go (PutsTable o t ms p h at all pinned body) = record {
        table = record {
          published = λ x l. pins_stay p (λ z. cc) x ∙ pins_since lawful e.seen n r before len alone x ∙ pinned_then x (ap (listed x) (sym names) ∙ l);
          same = λ s i row v k f there. rows_are (λ x u. (v : Object) → standing kind.Revision (beside r x) (state_at j (suc n)) ≡ Some v → u ≡ v.meta.stamp.uid) r settings.domain ms (λ i m e v there. uid_is i m e v there) i row (subst (λ (b : Body). slice_get (rows_of b) i ≡ Some row) (is s k) f) v there;
          reported = λ x v l there. names_are (λ x. (v : Object) → standing kind.Revision (beside r x) (state_at j (suc n)) ≡ Some v → WasReported j (suc n) v.meta.stamp.uid) r settings.domain o ms (λ i m e v there. was_reported i m e v there) x (ap (listed x) (sym names) ∙ l) v there;
        };
        status = λ x l. pins_stay p (λ z. cc) x ∙ was.status x (served p (λ z. cc) x l);
      }
        where
          stands_now : standing kind.Table r (state_at j (suc n)) ≡ Some t
          stands_now = put_there lawful n e g kind.Table r t p h

          is : (s : Object) → standing kind.Table r (state_at j (suc n)) ≡ Some s → s.body ≡ table_of r settings.domain o ms
          is s k = body_same (some_same (sym k ∙ stands_now)) ∙ body

          names : published_at (state_at j (suc n)) r ≡ published_of (table_of r settings.domain o ms)
          names = ap (λ w. read [] published_of w) stands_now ∙ ap published_of body

          meant : IsAllMeant (state_at j e.seen) r (targets_of o.body) ms
          meant = assigned_at_is (state_at j e.seen) r o ms at all

          -- each Revision that a target means has the pin at the look
          pinned_meant : (i : ℕ) (m : Meant) → slice_get ms i ≡ Some m → listed r.name (pins_at (state_at j e.seen) (beside r m.name)) ≡ true
          pinned_meant = none_unpinned (state_at j e.seen) r ms (none_lacking (state_at j e.seen) r e.read_at ms all pinned) meant.meant

          pinned_then : (x : List ℕ) → listed x (published_of (table_of r settings.domain o ms)) ≡ true
              → listed r.name (pins_at (state_at j e.seen) (beside r x)) ≡ true
          pinned_then x l = names_are (λ x. listed r.name (pins_at (state_at j e.seen) (beside r x)) ≡ true) r settings.domain o ms pinned_meant x l

          -- and so it is the one that stands now
          uid_same : (i : ℕ) (m : Meant) → slice_get ms i ≡ Some m → (v : Object)
              → standing kind.Revision (beside r m.name) (state_at j (suc n)) ≡ Some v → v.meta.stamp.uid ≡ m.uid
          uid_same i m k v there =
              (let x : IsMeant (state_at j e.seen) r m = meant.meant i m k in
              let now : standing kind.Revision (beside r m.name) (state_at j n) ≡ Some v = sym (untouched j lawful.stamps n e g kind.Revision (beside r m.name) (kind_apart p (λ z. cc))) ∙ there in
              uid_since lawful e.seen n r before len alone m.name (pinned_meant i m k) x.object v x.stands now ∙ sym x.uid)

          uid_is : (i : ℕ) (m : Meant) → slice_get ms i ≡ Some m → (v : Object)
              → standing kind.Revision (beside r m.name) (state_at j (suc n)) ≡ Some v → m.uid ≡ v.meta.stamp.uid
          uid_is i m k v there = sym (uid_same i m k v there)

          was_reported : (i : ℕ) (m : Meant) → slice_get ms i ≡ Some m → (v : Object)
              → standing kind.Revision (beside r m.name) (state_at j (suc n)) ≡ Some v → WasReported j (suc n) v.meta.stamp.uid
          was_reported i m k v there =
              (let x : IsMeant (state_at j e.seen) r m = meant.meant i m k in
              let b = before in
              subst (WasReported j (suc n)) (sym (uid_same i m k v there ∙ x.uid)) (reported_later j e.seen (suc n) x.object.meta.stamp.uid (omega arith) (ready_reported lawful e.seen seen (beside r m.name) x.object x.stands x.ready)))

  -- what the Table and the status of a Route name is safe at each position
  pub route_is_safe : (n : ℕ) → n ≤ length j → (r : Name) → RouteIsSafe j n r
  unfolding standing
  route_is_safe zero len r = record { table = no_table_safe j 0 r refl; status = λ x l. absurd (not_both l (listed_none x)) }
  route_is_safe (suc n) len r = go (get_some j n (omega arith)) (route_is_safe n (omega arith) r)
    where
      go : ((e : ObjectEntry) × (slice_get j n ≡ Some e)) → RouteIsSafe j n r → RouteIsSafe j (suc n) r
      go (e, g) was = by (whose r e)
        where
          by : (e.actor ≡ Controller (slot_key controller.Route r)) ⊎ IsOthers r e → RouteIsSafe j (suc n) r
          by (inl q) = safe_by_its_own n e g r q was
          by (inr others) = safe_by_others n e g r others was

module _ {is_good : Manifest → Bool} {settings : Settings} {j : Journal} (laws : IsGoodLaws is_good) (lawful : IsLawful is_good settings j) where
  -- each Table is divided
  table_divided : (n : ℕ) → n ≤ length j → (r : Name) (t : Object) → standing kind.Table r (state_at j n) ≡ Some t
      → IsDivided (rows_of t.body) (published_targets t.body)
  table_divided zero len r t h = absurd (let z = (stands kind.Table r (state_at j 0) t h).found in cc)
  table_divided (suc n) len r t h = go (get_some j n (omega arith)) (λ s k. table_divided n (omega arith) r s k)
    where
      go : ((e : ObjectEntry) × (slice_get j n ≡ Some e))
          → ((s : Object) → standing kind.Table r (state_at j n) ≡ Some s → IsDivided (rows_of s.body) (published_targets s.body))
          → IsDivided (rows_of t.body) (published_targets t.body)
      go (e, g) ih = at_standing j lawful.stamps n e g kind.Table r (λ w. w ≡ Some t → IsDivided (rows_of t.body) (published_targets t.body))
          (λ k s. from (table_put lawful n e g r k t (of_kind_some kind.Table e.object t s))) (λ _ s. ih t s) h
        where
          from : TablePut settings j n e r t → IsDivided (rows_of t.body) (published_targets t.body)
          from (PutTable o ms a before at all pinned body) =
              subst (λ (b : Body). IsDivided (rows_of b) (published_targets b)) (sym body)
              (divided r settings.domain ms (targets_of o.body) (assigned_at_is (state_at j e.seen) r o ms at all).targets (route_targets laws lawful e.seen (omega arith) r o at))

  -- each position is safe
  pub safe : (n : ℕ) → n ≤ length j → IsSafe j n
  safe n len = record {
    divided = λ r t h. table_divided n len r t h;
    published = λ r x l. (route_is_safe lawful n len r).table.published x l;
    same = λ r t i row v h f at. (route_is_safe lawful n len r).table.same t i row v h f at;
    reported = λ r x v l at. (route_is_safe lawful n len r).table.reported x v l at;
    served = λ r x l. (route_is_safe lawful n len r).status x l;
  }
