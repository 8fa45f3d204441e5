-- What is read of a body after a change of one part of it.
use Rattle.std.proofs.Common.{◌≡◌, ◌≢◌, ℕ, Bool, true, false, not, List, [], ◌∷◌, cond, bytes_eq, Option, refl, sym, ap, ◌∙◌}
use Rattle.std.specs.Prelude.{map}
use Rattle.std.specs.Ordering.{nat_cmp, is_lt}
use Rattle.std.specs.Cmp.Lexicographic.{slice_cmp}
use Rattle.json_tree.specs.EqualLaws.{is_equal-of}
use Rattle.resource_types.specs.declared.names.Kind.{Kind}
use Rattle.resource_types.specs.declared.names.Kind.TheVariants as kind
use Rattle.resource_types.specs.declared.conditions.Condition.{Condition}
use Rattle.resource_types.specs.declared.specification.Target.{Target}
use Rattle.resource_types.specs.declared.specification.Template.{Template}
use Rattle.resource_types.specs.declared.status.ObjectStatus.{ObjectStatus}
use Rattle.resource_types.specs.declared.objects.Body.{Body}
use Rattle.resource_types.specs.declared.objects.Body.TheVariants.{Service, Configuration, Revision, Route, Health, Table}
use Rattle.resource_types.specs.contracts.status.ObjectStatus as status_row
use Rattle.resource_types.specs.Objects.{kind_of_body, pins_of, generation_of, targets_of, status_of}
use Rattle.resource_types.specs.Manifests.{manifest_spec}
use Rattle.resource_types.proofs.Exact.{bytes-exact}
use Rattle.conditions.specs.Times.{with_time}
use Rattle.control_rules.specs.Standing.{listed, active_of, template_of, with_status, with_pins, with_template, with_targets}
use Rattle.control_rules.specs.Differences.{timeless, with_conditions, untimed, same_untimed, timed}
use Rattle.control_rules.specs.NextRoute.{add_pin, drop_pin}
use Rattle.control_entries.proofs.Tests.{not_both, false_from, bytes_self}

-- ---- a status

pub kind-with_status : (s : ObjectStatus) (b : Body) → kind_of_body (with_status s b) ≡ kind_of_body b
kind-with_status s (Service t ts o) = refl
kind-with_status s _ = refl

pub pins-with_status : (s : ObjectStatus) (b : Body) → pins_of (with_status s b) ≡ pins_of b
pins-with_status s (Service t ts o) = refl
pins-with_status s _ = refl

pub generation-with_status : (s : ObjectStatus) (b : Body) → generation_of (with_status s b) ≡ generation_of b
generation-with_status s (Service t ts o) = refl
generation-with_status s _ = refl

pub active-with_status : (s : ObjectStatus) (b : Body) → active_of (with_status s b) ≡ active_of b
active-with_status s (Service t ts o) = refl
active-with_status s _ = refl

pub targets-with_status : (s : ObjectStatus) (b : Body) → targets_of (with_status s b) ≡ targets_of b
targets-with_status s (Service t ts o) = refl
targets-with_status s _ = refl

pub template-with_status : (s : ObjectStatus) (b : Body) → template_of (with_status s b) ≡ template_of b
template-with_status s (Service t ts o) = refl
template-with_status s _ = refl

pub manifest-with_status : (s : ObjectStatus) (b : Body) → manifest_spec (with_status s b) ≡ manifest_spec b
manifest-with_status s (Service t ts o) = refl
manifest-with_status s _ = refl

-- a kind whose objects have a status
abbrev pub HasStatus : Kind → Type 0
HasStatus k = (k ≢ kind.Health) × (k ≢ kind.Table)

-- a body that has a status gets the new one
pub status-with_status : (s : ObjectStatus) (b : Body) → HasStatus (kind_of_body b) → status_of (with_status s b) ≡ s
status-with_status s (Health u r c e) h = absurd (h.0 refl)
status-with_status s (Table r rs ts) h = absurd (h.1 refl)
status-with_status s _ h = refl

-- ---- statuses with their times

timeless-settled : (old : List Condition) (now : ℕ) (cs : List Condition) → map timeless (map (with_time old now) cs) ≡ map timeless cs
timeless-settled old now [] = refl
timeless-settled old now (c ∷ cs) = ap (λ xs. timeless c ∷ xs) (timeless-settled old now cs)

-- a status with its times is the same apart from them
pub untimed-timed : (old new : ObjectStatus) (now : ℕ) → untimed (timed old new now) ≡ untimed new
untimed-timed old new now = ap (λ cs. with_conditions cs new) (timeless-settled old.conditions now new.conditions)

pub same_untimed-of : (a b : ObjectStatus) → untimed a ≡ untimed b → same_untimed a b ≡ true
unfolding same_untimed
same_untimed-of a b e = is_equal-of status_row.the_row.coded (untimed a) (untimed b) e

-- ---- pins

pub kind-with_pins : (ps : List (List ℕ)) (a : Option ℕ) (b : Body) → kind_of_body (with_pins ps a b) ≡ kind_of_body b
kind-with_pins ps a (Service t ts o) = refl
kind-with_pins ps a _ = refl

pub generation-with_pins : (ps : List (List ℕ)) (a : Option ℕ) (b : Body) → generation_of (with_pins ps a b) ≡ generation_of b
generation-with_pins ps a (Service t ts o) = refl
generation-with_pins ps a _ = refl

pub status-with_pins : (ps : List (List ℕ)) (a : Option ℕ) (b : Body) → status_of (with_pins ps a b) ≡ status_of b
status-with_pins ps a (Service t ts o) = refl
status-with_pins ps a _ = refl

pub pins-with_pins : (ps : List (List ℕ)) (a : Option ℕ) (b : Body) → kind_of_body b ≡ kind.Revision → pins_of (with_pins ps a b) ≡ ps
pins-with_pins ps a (Revision p g x y s) h = refl
pins-with_pins ps a _ h = absurd cc

pub active-with_pins : (ps : List (List ℕ)) (a : Option ℕ) (b : Body) → kind_of_body b ≡ kind.Revision → active_of (with_pins ps a b) ≡ a
active-with_pins ps a (Revision p g x y s) h = refl
active-with_pins ps a _ h = absurd cc

-- a pin that was added is there
pub add-listed : (r : List ℕ) (ps : List (List ℕ)) → listed r (add_pin r ps) ≡ true
unfolding listed add_pin
add-listed r [] = ap (λ b. cond b true false) (bytes_self r)
add-listed r (p ∷ ps) = go (is_lt (slice_cmp nat_cmp r p)) (add-listed r ps)
  where
    here : (b : Bool) → listed r (add_pin r ps) ≡ true → cond b true (listed r (add_pin r ps)) ≡ true
    here true ih = refl
    here false ih = ih

    go : (b : Bool) → listed r (add_pin r ps) ≡ true → listed r (cond b (r ∷ p ∷ ps) (p ∷ add_pin r ps)) ≡ true
    go true ih = ap (λ b. cond b true (cond (bytes_eq r p) true (listed r ps))) (bytes_self r)
    go false ih = here (bytes_eq r p) ih

-- one that was dropped isn't
pub drop-listed : (r : List ℕ) (ps : List (List ℕ)) → listed r (drop_pin r ps) ≡ false
unfolding listed drop_pin
drop-listed r [] = refl
drop-listed r (p ∷ ps) = go (bytes_eq p r) refl (drop-listed r ps)
  where
    go : (b : Bool) → bytes_eq p r ≡ b → listed r (drop_pin r ps) ≡ false → listed r (cond (not b) (p ∷ drop_pin r ps) (drop_pin r ps)) ≡ false
    go true e ih = ih
    go false e ih = ap (λ b. cond b true (listed r (drop_pin r ps))) other ∙ ih
      where
        other : bytes_eq r p ≡ false
        other = false_from (λ t. not_both (ap (λ z. bytes_eq z r) (sym (bytes-exact r p t)) ∙ bytes_self r) e)

-- ---- a template, and targets

pub template-with_template : (t : Template) (b : Body) → kind_of_body b ≡ kind.Configuration → template_of (with_template t b) ≡ t
template-with_template t (Configuration x o) h = refl
template-with_template t _ h = absurd cc

pub kind-with_template : (t : Template) (b : Body) → kind_of_body (with_template t b) ≡ kind_of_body b
kind-with_template t (Service x ts o) = refl
kind-with_template t _ = refl

pub status-with_template : (t : Template) (b : Body) → status_of (with_template t b) ≡ status_of b
status-with_template t (Service x ts o) = refl
status-with_template t _ = refl

pub kind-with_targets : (ts : List Target) (b : Body) → kind_of_body (with_targets ts b) ≡ kind_of_body b
kind-with_targets ts (Service x us o) = refl
kind-with_targets ts _ = refl

pub status-with_targets : (ts : List Target) (b : Body) → status_of (with_targets ts b) ≡ status_of b
status-with_targets ts (Service x us o) = refl
status-with_targets ts _ = refl

pub targets-with_targets : (ts : List Target) (b : Body) → kind_of_body b ≡ kind.Route → targets_of (with_targets ts b) ≡ ts
targets-with_targets ts (Route us o) h = refl
targets-with_targets ts _ h = absurd cc
