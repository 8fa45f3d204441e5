-- What a way of entries keeps of what stands under a key.
use Rattle.std.proofs.Common.{◌≡◌, Bool, true, false, cond, List, [], ◌∷◌, Option, refl, sym, ap, ◌∙◌, subst}
use Rattle.std.specs.Ordering.{is_eq}
use Rattle.version_store.proofs.Keyed.{Puts, find-changed}
use Rattle.resource_types.specs.declared.names.Key.{Key}
use Rattle.resource_types.specs.declared.names.SlotKey.{SlotKey}
use Rattle.resource_types.specs.declared.objects.Object.{Object}
use Rattle.resource_types.specs.contracts.names.KeyOrd.TheImpl as key_order
use Rattle.resource_types.specs.contracts.names.KeyOrd.TheImpl.Laws as key_laws
use Rattle.resource_types.specs.Lookups.{State, find}
use Rattle.control_rules.specs.Slots.{ObjectEntry}
use Rattle.control_entries.proofs.Tests.{or_false}
use Rattle.control_entries.proofs.Standing.{key_tied}
use Rattle.control_touches.specs.Touches.{touches, after_entry, is_touched_by}

-- the state after these entries
abbrev pub after : State → List ObjectEntry → State
after st [] = st
after st (e ∷ es) = after (after_entry e st) es

-- each entry puts an object of its key, and what it says of its key, of what stood there and of what it puts there holds
abbrev pub Along : (Key → Option Object → Option Object → Type 0) → State → List ObjectEntry → Type 0
Along P st [] = Unit {0}
Along P st (e ∷ es) = P e.key (find e.key st) e.object × Along P (after_entry e st) es

abbrev pub ArePuts : List ObjectEntry → Type 0
ArePuts [] = Unit {0}
ArePuts (e ∷ es) = Puts (λ (o : Object). o.key) e.key e.object × ArePuts es

pub along_by : (P Q : Key → Option Object → Option Object → Type 0) (st : State) (es : List ObjectEntry)
    → ((k : Key) (old new : Option Object) → P k old new → Q k old new) → Along P st es → Along Q st es
along_by P Q st [] f h = tt
along_by P Q st (e ∷ es) f h = (f e.key (find e.key st) e.object h.0, along_by P Q (after_entry e st) es f h.1)

-- a key that no entry touches
pub untouched_along : (b st : State) (es : List ObjectEntry) (pick : SlotKey) → is_touched_by b st es pick ≡ false
    → Along (λ k old new. touches b k old new pick ≡ false) st es
unfolding is_touched_by
untouched_along b st [] pick h = tt
untouched_along b st (e ∷ es) pick h = let t = or_false h in (t.0, untouched_along b (after_entry e st) es pick t.1)

-- what each entry on a key keeps of what stands there is kept
pub kept_along : {A : Type 0} (get : Option Object → A) (q : Key) (st : State) (es : List ObjectEntry) → ArePuts es
    → Along (λ k old new. k ≡ q → get new ≡ get old) st es → get (find q (after st es)) ≡ get (find q st)
kept_along get q st [] p h = refl
kept_along get q st (e ∷ es) p h =
    kept_along get q (after_entry e st) es p.1 h.1
    ∙ ap get (find-changed (λ (o : Object). o.key) key_order.ghosts.cmp key_laws.total-law q e.key e.object st p.0)
    ∙ go (is_eq (key_order.ghosts.cmp e.key q)) refl
  where
    go : (t : Bool) → is_eq (key_order.ghosts.cmp e.key q) ≡ t → get (cond t e.object (find q st)) ≡ get (find q st)
    go true t = let same = key_tied e.key q t in h.0 same ∙ ap (λ k. get (find k st)) same
    go false t = refl

-- what each entry on a key keeps true is true behind them
pub holds_along : (P : Option Object → Type 0) (q : Key) (st : State) (es : List ObjectEntry) → ArePuts es
    → Along (λ k old new. k ≡ q → P old → P new) st es → P (find q st) → P (find q (after st es))
holds_along P q st [] p h x = x
holds_along P q st (e ∷ es) p h x =
    holds_along P q (after_entry e st) es p.1 h.1
    (subst P (sym (find-changed (λ (o : Object). o.key) key_order.ghosts.cmp key_laws.total-law q e.key e.object st p.0)) (go (is_eq (key_order.ghosts.cmp e.key q)) refl))
  where
    go : (t : Bool) → is_eq (key_order.ghosts.cmp e.key q) ≡ t → P (cond t e.object (find q st))
    go true t = let same = key_tied e.key q t in h.0 same (subst (λ k. P (find k st)) (sym same) x)
    go false t = x
