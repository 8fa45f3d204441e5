-- The objects of the state stand in the journal, in order of key.
use Rattle.std.proofs.Common.{◌≡◌, ℕ, ◌+◌, ◌<◌, ◌≤◌, List, [], ◌∷◌, ◌++◌, length, length-append, append_assoc, append-nil, Bool, true, false, cond, Option, Some, None, Ordering, refl, sym, ap, subst, ◌∙◌, arith}
use Rattle.std.specs.Prelude.{map}
use Rattle.std.specs.Ordering.{is_eq}
use Rattle.std.specs.Cmp.{IsTotalOrder}
use Rattle.version_store.specs.declared.item.Stamp.{Stamp}
use Rattle.version_store.specs.declared.item.Item.{Ghosts}
use Rattle.version_store.specs.declared.write.Entry.{Entry}
use Rattle.version_store.specs.State.{find, changed, state_from, state, versions_of}
use Rattle.version_store.specs.Journal.{next_stamp, IsStamped, AreStampedFrom, AreStamped, GenerationBelow}
use Rattle.version_store.specs.Index.{AreGreater, AreInOrder, keys_at, IsIndex}
use Rattle.version_store.proofs.Keyed.{order-changed}
use Rattle.version_store.proofs.Indexed.{IsIn, AreIn, in-put, in-without, in-more, keys_at-versions, versions_within, entry_at_split, version_within}

pub order-map : {X K : Type 0} (key_of : X → K) (cmp : K → K → Ordering) (xs : List X) → AreInOrder key_of cmp xs → AreInOrder (λ k. k) cmp (map key_of xs)
order-map key_of cmp [] h = tt
order-map {X} {K} key_of cmp (x ∷ xs) h = (greater-map (key_of x) xs h.0, order-map key_of cmp xs h.1)
  where
    greater-map : (key : K) (ys : List X) → AreGreater key_of cmp key ys → AreGreater (λ k. k) cmp key (map key_of ys)
    greater-map key [] g = tt
    greater-map key (y ∷ ys) g = (g.0, greater-map key ys g.1)

by_test : {O : Type 0} (P : O → Type 0) (b : Bool) (x o : O) (rest : Option O) → cond b (Some x) rest ≡ Some o → P x → (rest ≡ Some o → P o) → P o
by_test P true x o rest e p q = let f : x ≡ o = cc in subst P f p
by_test P false x o rest e p q = q e

at_most_one : (b : Bool) → cond b 0 1 ≤ 1
at_most_one true = omega arith
at_most_one false = omega arith

module _ {O D K N A : Type 0} (item : Ghosts O D K N A) (cmp : K → K → Ordering) where
  abbrev pub version_of : O → ℕ
  version_of o = (item.stamp o).version

  -- the bounds of a stamp
  pub record IsBounded (s : Stamp) : Type 0 where
    pub generation : s.generation ≤ s.version
    pub specs : 1 ≤ s.generation
    pub uid : 1 ≤ s.uid
    pub made : s.uid ≤ s.version

  -- the entry puts the object, and its stamp is within bounds
  pub record IsObjectOf (entry : Entry O D K N A) (o : O) : Type 0 where
    pub object : entry.object ≡ Some o
    pub bounded : IsBounded (item.stamp o)

  -- the object stands in the journal at its version
  abbrev pub StandsIn : List (Entry O D K N A) → O → Type 0
  StandsIn entries o = IsIn version_of item.key IsObjectOf entries o

  abbrev pub StandIn : List (Entry O D K N A) → List O → Type 0
  StandIn entries st = AreIn version_of item.key IsObjectOf entries st

  -- what is found stands in the journal
  pub found_stands : (entries : List (Entry O D K N A)) (key : K) (st : List O) (o : O) → StandIn entries st → find item.key cmp key st ≡ Some o → StandsIn entries o
  found_stands entries key [] o h e = absurd cc
  found_stands entries key (x ∷ st) o h e =
      by_test (StandsIn entries) (is_eq (cmp (item.key x) key)) x o (find item.key cmp key st) e h.0 (λ f. found_stands entries key st o h.1 f)

  bounded_next : (entries : List (Entry O D K N A)) (standing : Option O) (object : O) (moment : ℕ) → ((o : O) → standing ≡ Some o → StandsIn entries o) → IsBounded (next_stamp item standing object (length entries + 1) moment)
  bounded_next entries None object moment h = record { generation = omega arith; specs = omega arith; uid = omega arith; made = omega arith }
  bounded_next entries (Some old) object moment h =
      let stands : StandsIn entries old = h old refl in
      let bounds = stands.is.bounded in
      let within = version_within entries (version_of old) stands.entry stands.at in
      let one = at_most_one (item.same_spec old object) in
      record {
        generation = omega (arith, bounds.generation, within.1, one);
        specs = omega (arith, bounds.specs);
        uid = bounds.uid;
        made = omega (arith, bounds.made, within.1);
      }

  pub next_version : (standing : Option O) (object : O) (version moment : ℕ) → (next_stamp item standing object version moment).version ≡ version
  next_version None object version moment = refl
  next_version (Some old) object version moment = refl

  -- what an entry puts stands in the journal with it
  pub put_stands : (before : List (Entry O D K N A)) (entry : Entry O D K N A) (o : O) (standing : Option O) → entry.object ≡ Some o → ((p : O) → standing ≡ Some p → StandsIn before p)
      → IsStamped item standing (length before + 1) entry.key (Some o) entry.moment → StandsIn (before ++ entry ∷ []) o
  put_stands before entry o standing e h s =
      let version : version_of o ≡ length before + 1 = ap (λ t. t.version) s.1 ∙ next_version standing o (length before + 1) entry.moment in
      record {
        entry = entry;
        at = rw version (entry_at_split (before ++ entry ∷ []) before [] entry (length before) refl refl);
        key = sym s.0;
        is = record { object = e; bounded = subst IsBounded (sym s.1) (bounded_next before standing o entry.moment h) };
      }

  pub changed_stand : (before : List (Entry O D K N A)) (st : List O) (entry : Entry O D K N A) (object : Option O) → entry.object ≡ object → StandIn before st
      → IsStamped item (find item.key cmp entry.key st) (length before + 1) entry.key object entry.moment → StandIn (before ++ entry ∷ []) (changed item.key cmp entry.key object st)
  changed_stand before st entry None e h s =
      in-without version_of item.key IsObjectOf cmp (before ++ entry ∷ []) entry.key st (in-more version_of item.key IsObjectOf before (entry ∷ []) st h)
  changed_stand before st entry (Some o) e h s =
      in-put version_of item.key IsObjectOf cmp (before ++ entry ∷ []) o st
      (put_stands before entry o (find item.key cmp entry.key st) e (λ p f. found_stands before entry.key st p h f) s)
      (in-more version_of item.key IsObjectOf before (entry ∷ []) st h)

  stand_from : (before : List (Entry O D K N A)) (st : List O) (entries : List (Entry O D K N A)) → StandIn before st → AreStampedFrom item cmp st (length before) entries → StandIn (before ++ entries) (state_from item.key cmp st entries)
  stand_from before st [] h s = rw (append-nil before) h
  stand_from before st (entry ∷ entries) h s =
      let more : length before + 1 ≡ length (before ++ entry ∷ []) = omega (arith, length-append before (entry ∷ [])) in
      let st' = changed item.key cmp entry.key entry.object st in
      rw (← append_assoc before (entry ∷ []) entries)
      (stand_from (before ++ entry ∷ []) st' entries (changed_stand before st entry entry.object refl h s.0) (subst (λ n. AreStampedFrom item cmp st' n entries) more s.1))

  -- the objects of the state stand in the journal
  pub state_stands : (entries : List (Entry O D K N A)) → AreStamped item cmp entries → StandIn entries (state item.key cmp entries)
  state_stands entries s = stand_from [] [] entries tt s

  below_by : (entries : List (Entry O D K N A)) (n : ℕ) (standing : Option O) → length entries < n → ((o : O) → standing ≡ Some o → StandsIn entries o) → GenerationBelow item.stamp n standing
  below_by entries n None lt h = tt
  below_by entries n (Some o) lt h =
      let stands : StandsIn entries o = h o refl in
      let bounds = stands.is.bounded in
      let within = version_within entries (version_of o) stands.entry stands.at in
      omega (arith, lt, bounds.generation, within.1)

  -- no object that stands has a generation past the number of entries
  pub generation_below : (entries : List (Entry O D K N A)) (key : K) (n : ℕ) → AreStamped item cmp entries → length entries < n → GenerationBelow item.stamp n (find item.key cmp key (state item.key cmp entries))
  generation_below entries key n s lt = below_by entries n (find item.key cmp key (state item.key cmp entries)) lt (λ o e. found_stands entries key (state item.key cmp entries) o (state_stands entries s) e)

  module _ (total : IsTotalOrder cmp) where
    order_from : (st : List O) (entries : List (Entry O D K N A)) → AreInOrder item.key cmp st → AreInOrder item.key cmp (state_from item.key cmp st entries)
    order_from st [] h = h
    order_from st (entry ∷ entries) h = order_from (changed item.key cmp entry.key entry.object st) entries (order-changed item.key cmp total entry.key entry.object st h)

    -- the state is in order of key
    pub state_order : (entries : List (Entry O D K N A)) → AreInOrder item.key cmp (state item.key cmp entries)
    state_order entries = order_from [] entries tt

    pub keys_present : (entries : List (Entry O D K N A)) → AreStamped item cmp entries → keys_at entries (versions_of item.stamp (state item.key cmp entries)) ≡ map item.key (state item.key cmp entries)
    keys_present entries s = keys_at-versions version_of item.key IsObjectOf entries (state item.key cmp entries) (state_stands entries s)

    -- the versions of the present objects are an index
    pub present_index : (entries : List (Entry O D K N A)) → AreStamped item cmp entries → IsIndex cmp entries (versions_of item.stamp (state item.key cmp entries))
    present_index entries s = record {
      within = versions_within version_of item.key IsObjectOf entries (state item.key cmp entries) (state_stands entries s);
      ordered = rw (keys_present entries s) (order-map item.key cmp (state item.key cmp entries) (state_order entries));
    }
