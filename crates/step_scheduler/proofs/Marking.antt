-- What marks say of a plane: to a key that isn't touched nothing is due. They keep it as entries are made, as the moment moves, and as marks are dropped.
use Rattle.std.proofs.Common.{◌≡◌, ◌≢◌, ◌⊎◌, inl, inr, ℕ, zero, suc, ◌≤◌, Bool, true, false, cond, ◌&&◌, ◌||◌, List, [], ◌∷◌, ◌++◌, length, take, drop, Option, Some, None, Result, Ok, Err, Ordering, refl, sym, ap, ◌∙◌, subst, arith}
use Rattle.std.specs.Prelude.{slice_get, OnOk, OnErr}
use Rattle.std.specs.Option.{is_some}
use Rattle.std.specs.Ordering.{is_eq, ordering_reverse}
use Rattle.std.specs.declared.cmp.Ordering.TheVariants.{Less, Equal, Greater}
use Rattle.std.proofs.lemmas.List.{take-append-drop}
use Rattle.version_store.specs.State as store
use Rattle.version_store.specs.State.{Grows}
use Rattle.version_store.proofs.Keyed.{find-without, Puts, is_eq-true}
use Rattle.version_store.proofs.Growth.{state_at-grows, state_at-all}
use Rattle.resource_types.specs.declared.names.Controller.{Controller}
use Rattle.resource_types.specs.declared.names.Controller.TheVariants as controller
use Rattle.resource_types.specs.declared.names.Name.{Name}
use Rattle.resource_types.specs.declared.names.SlotKey.{SlotKey}
use Rattle.resource_types.specs.declared.objects.Object.{Object}
use Rattle.resource_types.specs.contracts.names.KeyOrd.TheImpl as key_order
use Rattle.resource_types.specs.contracts.names.SlotKeyOrd.TheImpl as slot_order
use Rattle.resource_types.specs.contracts.names.SlotKeyOrd.TheImpl.Laws as slot_laws
use Rattle.resource_types.specs.Lookups.{Journal, State, state}
use Rattle.resource_types.proofs.Exact.{slot-exact}
use Rattle.manifest_intake.specs.Good.{is_good}
use Rattle.control_rules.specs.declared.settings.Settings.{Settings}
use Rattle.control_rules.specs.Next.{next_write}
use Rattle.control_rules.specs.Quiet.{IsQuiet}
use Rattle.control_rules.specs.Slots.{ObjectEntry, state_at, slot_key, is_key, names_for, in_order, Plane, present}
use Rattle.control_rules.specs.Facts.{IsKept}
use Rattle.control_entries.proofs.Names.{knows_keys}
use Rattle.control_entries.proofs.Stamps.{put_key}
use Rattle.control_entries.proofs.Tests.{or_false, false_from}
use Rattle.control_touches.specs.Touches.{after_entry, is_touched_by, is_touched_since}
use Rattle.control_touches.specs.Named.{AreNamed}
use Rattle.control_touches.proofs.Paths.{after, ArePuts}
use Rattle.control_touches.proofs.Touching.{next_kept}
use Rattle.control_touches.proofs.Moments.{next_later}
use Rattle.touched_keys.specs.declared.marks.Mark.{Mark}
use Rattle.touched_keys.specs.Marks.{is_marked, unmarked, MarksView, is_collector, is_touched_in, AreMarks, IsTakenIn, IsMarkedMore, TouchesSame}
use Rattle.touched_keys.proofs.Noted.{since_none}
use Rattle.step_scheduler.specs.Touched.{HasNothing}
use Rattle.step_scheduler.proofs.Naming.{named_at}

-- ---- nothing was written

no_key : (c : Controller) (n : Name) → is_key (slot_key c n) [] ≡ false
unfolding is_key names_for in_order
no_key controller.Service n = refl
no_key controller.Configuration n = refl
no_key controller.Revision n = refl
no_key controller.Collector n = refl
no_key controller.Route n = refl

state_first : (n : ℕ) → state_at [] n ≡ []
state_first zero = refl
state_first (suc n) = refl

-- what touches a key, where it is one
abbrev notes : Journal → MarksView → SlotKey → Bool
notes j m pick = is_marked pick m.keys || (is_touched_since j m.upto pick || (m.moved && is_collector pick.controller))

-- no key is touched where nothing was written
pub untouched_first : (j : Journal) (m : MarksView) (pick : SlotKey) → j ≡ [] → is_touched_in j m pick ≡ false
untouched_first j m pick empty = subst (λ es. (is_key pick (state es) && notes j m pick) ≡ false) (sym empty) (ap (λ b. b && notes j m pick) (no_key pick.controller pick.name))

pub marks_first : (settings : Settings) (j : Journal) (now : ℕ) (m : MarksView) → j ≡ [] → m.upto ≤ length j → AreMarks settings j now m
marks_first settings j now m empty le = record {
  within = le;
  calm = λ pick a b.
      subst (λ es. next_write settings pick (state_at es m.upto) now ≡ None) (sym empty)
      (ap (λ st. next_write settings pick st now) (state_first m.upto) ∙ knows_keys settings pick [] now (no_key pick.controller pick.name));
}

-- ---- the entries that aren't taken in

after_split : (st : State) (xs ys : List ObjectEntry) → after st (xs ++ ys) ≡ after (after st xs) ys
after_split st [] ys = refl
after_split st (e ∷ xs) ys = after_split (after_entry e st) xs ys

from_is : (st : State) (es : List ObjectEntry) → after st es ≡ store.state_from (λ (o : Object). o.key) key_order.ghosts.cmp st es
from_is st [] = refl
from_is st (e ∷ es) = from_is (after_entry e st) es

-- after the entries behind a position the present state stands
pub after_rest : (j : Journal) (n : ℕ) → after (state_at j n) (drop n j) ≡ state j
after_rest j n =
    ap (λ st. after st (drop n j)) (sym (from_is [] (take n j)))
    ∙ sym (after_split [] (take n j) (drop n j)) ∙ from_is [] (take n j ++ drop n j) ∙ ap state (take-append-drop n j)

puts_from : (es : List ObjectEntry) → ((i : ℕ) (e : ObjectEntry) → slice_get es i ≡ Some e → (o : Object) → e.object ≡ Some o → o.key ≡ e.key) → ArePuts es
puts_from [] h = tt
puts_from (e ∷ es) h = (go e.object refl, puts_from es (λ i f g o is. h (suc i) f g o is))
  where
    go : (p : Option Object) → e.object ≡ p → Puts (λ (o : Object). o.key) e.key p
    go None is = tt
    go (Some o) is = h 0 e refl o is

puts_drop : (n : ℕ) (es : List ObjectEntry) → ArePuts es → ArePuts (drop n es)
puts_drop zero es h = h
puts_drop (suc n) [] h = tt
puts_drop (suc n) (e ∷ es) h = puts_drop n es h.1

-- ---- to a key that isn't touched nothing is due

and_second : (a b : Bool) → b ≡ false → (a && b) ≡ false
and_second true b e = e
and_second false b e = refl

or_none : (a b : Bool) → a ≡ false → b ≡ false → (a || b) ≡ false
or_none true b e f = absurd cc
or_none false b e f = f

no_more : (n : ℕ) → n ≤ n
no_more n = omega arith

-- all is taken in, and the key isn't marked
pub untouched_taken : (j : Journal) (m : MarksView) → IsTakenIn (length j) m → (pick : SlotKey) → is_marked pick m.keys ≡ false → is_touched_in j m pick ≡ false
untouched_taken j m taken pick h =
    and_second (is_key pick (state j)) (notes j m pick)
    (or_none _ _ h (or_none _ _ (since_none j m.upto pick (omega (arith, taken.upto))) (ap (λ b. b && is_collector pick.controller) taken.moved)))

module _ (w : Plane) (k : IsKept is_good w) (m : MarksView) (marked : AreMarks w.settings w.journal w.now m) where
  pub untouched_rests : (pick : SlotKey) → is_touched_in w.journal m pick ≡ false → HasNothing w pick
  untouched_rests pick h = go (is_key pick (present w)) refl
    where
      at : AreMarks w.settings w.journal w.now m → (is_marked pick m.keys ≡ false) × (is_touched_since w.journal m.upto pick || (m.moved && is_collector pick.controller)) ≡ false → HasNothing w pick
      at marked t =
          let u = or_false t.1 in
          let st = state_at w.journal m.upto in
          let es = drop m.upto w.journal in
          let now = after_rest w.journal m.upto in
          let puts = puts_drop m.upto w.journal (puts_from w.journal (λ i e g o is. put_key k.lawful i e g o is)) in
          let named = named_at w k m.upto marked.within in
          let present_named = named_at w k (length w.journal) (no_more (length w.journal)) in
          ap (λ z. next_write w.settings pick z w.now) (sym now)
          ∙ next_kept w.settings st es puts named (subst AreNamed (state_at-all (λ (o : Object). o.key) key_order.ghosts.cmp w.journal ∙ sym now) present_named) pick w.now
          (ap (λ z. is_touched_by z st es pick) now ∙ u.0) (marked.calm pick t.0 u.1)

      go : (b : Bool) → is_key pick (present w) ≡ b → HasNothing w pick
      go false e = knows_keys w.settings pick (present w) w.now e
      go true e = at marked (or_false (sym (ap (λ b. b && notes w.journal m pick) e) ∙ h))

  -- entries are taken in
  pub marks_taken : (new : MarksView) → TouchesSame w.journal m new → IsTakenIn (length w.journal) new → AreMarks w.settings w.journal w.now new
  marks_taken new same taken = record {
    within = omega (arith, taken.upto);
    calm = λ pick a b.
        ap (λ st. next_write w.settings pick st w.now) (ap (state_at w.journal) taken.upto ∙ state_at-all (λ (o : Object). o.key) key_order.ghosts.cmp w.journal)
        ∙ untouched_rests pick (sym (same pick) ∙ untouched_taken w.journal new taken pick a);
  }

-- ---- marks as a plane changes

module _ (settings : Settings) (j : Journal) (now : ℕ) (m : MarksView) (marked : AreMarks settings j now m) where
  -- entries are made
  pub marks_grow : (j' : Journal) → Grows j j' → AreMarks settings j' now m
  marks_grow j' grows = record {
    within = omega (arith, grows.longer, marked.within);
    calm = λ pick a b. ap (λ st. next_write settings pick st now) (state_at-grows (λ (o : Object). o.key) key_order.ghosts.cmp j j' m.upto grows marked.within) ∙ marked.calm pick a b;
  }

  not_collector : (c : Controller) → is_collector c ≡ false → c ≢ controller.Collector
  not_collector c h e = absurd (let t : true ≡ false = sym (ap is_collector e) ∙ h in cc)

  -- the moment moves, which is noted
  pub marks_move : (later : ℕ) (new : MarksView) → new.keys ≡ m.keys → new.upto ≡ m.upto → new.moved ≡ true → AreMarks settings j later new
  marks_move later new keys upto moved = record {
    within = omega (arith, upto, marked.within);
    calm = λ pick a b.
        let other : is_collector pick.controller ≡ false = sym (ap (λ t. t && is_collector pick.controller) moved) ∙ b in
        ap (λ n. next_write settings pick (state_at j n) later) upto
        ∙ next_later settings pick (state_at j m.upto) now later (not_collector pick.controller other)
        (marked.calm pick (sym (ap (is_marked pick) keys) ∙ a) (and_second m.moved (is_collector pick.controller) other));
  }

  -- marks are added
  pub marks_more : (new : MarksView) → IsMarkedMore m new → AreMarks settings j now new
  marks_more new more = record {
    within = omega (arith, more.upto, marked.within);
    calm = λ pick a b.
        ap (λ n. next_write settings pick (state_at j n) now) more.upto
        ∙ marked.calm pick (false_from (λ t. absurd (let u = sym (more.kept pick t) ∙ a in cc))) (sym (ap (λ t. t && is_collector pick.controller) more.moved) ∙ b);
  }

-- entries are taken in, or memory runs out before all are
pub marks_come : (w : Plane) → IsKept is_good w → (m : MarksView) → AreMarks w.settings w.journal w.now m → (new : MarksView) {E : Type 0} (r : Result (Unit {0}) E)
    → TouchesSame w.journal m new → OnOk r (IsTakenIn (length w.journal) new) → OnErr r (IsMarkedMore m new) → AreMarks w.settings w.journal w.now new
marks_come w k m marked new (Ok u) same taken more = marks_taken w k m marked new same taken
marks_come w k m marked new (Err e) same taken more = marks_more w.settings w.journal w.now m marked new more

-- nothing is due: no mark is needed
pub marks_rest : (settings : Settings) (j : Journal) (now : ℕ) (m : MarksView) → IsTakenIn (length j) m → IsQuiet settings (state j) now → AreMarks settings j now m
marks_rest settings j now m taken quiet = record {
  within = omega (arith, taken.upto);
  calm = λ pick a b. ap (λ st. next_write settings pick st now) (ap (state_at j) taken.upto ∙ state_at-all (λ (o : Object). o.key) key_order.ghosts.cmp j) ∙ quiet pick;
}

-- ---- a mark is dropped

own_reverse : (r : Ordering) → r ≡ ordering_reverse r → is_eq r ≡ true
own_reverse Less e = absurd cc
own_reverse Equal e = refl
own_reverse Greater e = absurd cc

module _ (key : SlotKey) (keys : List Mark) where
  abbrev mark_of : SlotKey → Option Mark
  mark_of pick = store.find (λ (x : Mark). x.key) slot_order.ghosts.cmp pick keys

  mark_left : (pick : SlotKey) → is_marked pick (unmarked key keys) ≡ is_some (cond (is_eq (slot_order.ghosts.cmp key pick)) None (mark_of pick))
  mark_left pick = ap is_some (find-without (λ (x : Mark). x.key) slot_order.ghosts.cmp slot_laws.total-law pick key keys)

  pub unmarked_own : is_marked key (unmarked key keys) ≡ false
  unmarked_own = mark_left key ∙ ap (λ b. is_some (cond b None (mark_of key))) (own_reverse _ (slot_laws.total-law.antisymm key key))

  pub unmarked_other : (pick : SlotKey) → pick ≢ key → is_marked pick (unmarked key keys) ≡ is_marked pick keys
  unmarked_other pick other =
      mark_left pick ∙ ap (λ b. is_some (cond b None (mark_of pick))) (false_from (λ e. other (sym (slot-exact key pick (is_eq-true _ e)))))

  -- a key that isn't marked then is the key, or wasn't marked before
  unmarked_before : (pick : SlotKey) → is_marked pick (unmarked key keys) ≡ false → (pick ≡ key) ⊎ (is_marked pick keys ≡ false)
  unmarked_before pick h = go (is_eq (slot_order.ghosts.cmp key pick)) refl
    where
      go : (b : Bool) → is_eq (slot_order.ghosts.cmp key pick) ≡ b → (pick ≡ key) ⊎ (is_marked pick keys ≡ false)
      go true e = inl (sym (slot-exact key pick (is_eq-true _ e)))
      go false e = inr (sym (ap (λ b. is_some (cond b None (mark_of pick))) e) ∙ sym (mark_left pick) ∙ h)

-- a mark is dropped where nothing is due to its key
pub marks_drop : (w : Plane) (m new : MarksView) (key : SlotKey) → AreMarks w.settings w.journal w.now m → IsTakenIn (length w.journal) m → HasNothing w key
    → new.keys ≡ unmarked key m.keys → new.upto ≡ m.upto → new.moved ≡ m.moved → AreMarks w.settings w.journal w.now new
marks_drop w m new key marked taken nothing keys upto moved = record {
  within = omega (arith, upto, marked.within);
  calm = λ pick a b.
      ap (λ n. next_write w.settings pick (state_at w.journal n) w.now) upto
      ∙ due pick (unmarked_before key m.keys pick (sym (ap (is_marked pick) keys) ∙ a)) (sym (ap (λ t. t && is_collector pick.controller) moved) ∙ b);
}
  where
    due : (pick : SlotKey) → (pick ≡ key) ⊎ (is_marked pick m.keys ≡ false) → (m.moved && is_collector pick.controller) ≡ false → next_write w.settings pick (state_at w.journal m.upto) w.now ≡ None
    due pick (inl e) b =
        ap (λ st. next_write w.settings pick st w.now) (ap (state_at w.journal) taken.upto ∙ state_at-all (λ (o : Object). o.key) key_order.ghosts.cmp w.journal)
        ∙ ap (λ q. next_write w.settings q (present w) w.now) e ∙ nothing
    due pick (inr a) b = marked.calm pick a b
