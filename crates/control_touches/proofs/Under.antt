-- The Revisions under a name, among which all are that a Configuration of the name can own.
use Rattle.std.proofs.Common.{◌≡◌, Bool, true, false, ◌&&◌, List, Option, Some, None, refl, sym, ap, ◌∙◌, subst}
use Rattle.std.specs.Prelude.{bytes_eq, cond}
use Rattle.resource_types.specs.declared.names.Kind.TheVariants as kind
use Rattle.resource_types.specs.declared.names.Key.{Key}
use Rattle.resource_types.specs.declared.names.Name.{Name}
use Rattle.resource_types.specs.declared.names.SlotKey.{SlotKey}
use Rattle.resource_types.specs.declared.metadata.Owner.{Owner}
use Rattle.resource_types.specs.declared.objects.Object.{Object}
use Rattle.resource_types.specs.Objects.{same_kind, is_of}
use Rattle.resource_types.specs.Lookups.{State, find, is_given, is_owner, is_owned_by, latest, latest_from}
use Rattle.resource_types.proofs.Exact.{left, right, bytes-exact}
use Rattle.control_rules.specs.Standing.{of_its_kind, standing}
use Rattle.control_rules.specs.Slots.{ObjectEntry}
use Rattle.control_entries.proofs.Tests.{bytes_self, key_of_kind}
use Rattle.control_entries.proofs.Each.{Each, each_by}
use Rattle.control_entries.proofs.Standing.{IsFound, all_found, is_of_parts}
use Rattle.control_touches.specs.Touches.{is_one_of, is_under, touches, is_touched_by}
use Rattle.control_touches.specs.Named.{AreNamed}
use Rattle.control_touches.proofs.Paths.{after, ArePuts, along_by, untouched_along}
use Rattle.control_touches.proofs.Narrow.{IsNarrow, latest_narrow, passing, passing-along}

-- a key of a Revision under the name
abbrev pub under : Name → Key → Bool
under n k = is_one_of kind.Revision n.space (is_under n.name) k

-- a Revision that is found stands
stands_found : (st : State) (v : Object) → IsFound st v → is_of kind.Revision v ≡ true → standing kind.Revision v.key.name st ≡ Some v
unfolding standing
stands_found st v found of =
    ap (of_its_kind kind.Revision) (subst (λ k. find k st ≡ Some v) (key_of_kind v.key kind.Revision (is_of_parts kind.Revision v of).0) found)
    ∙ ap (λ t. cond t (Some v) None) of

pub under_by : (n : Name) (k : Key) → k.kind ≡ kind.Revision → k.name.space ≡ n.space → is_under n.name k.name.name ≡ true → under n k ≡ true
unfolding is_one_of
under_by n k of space h =
    subst (λ z. (same_kind z kind.Revision && (bytes_eq k.name.space n.space && is_under n.name k.name.name)) ≡ true) (sym of)
    (subst (λ z. (bytes_eq z n.space && is_under n.name k.name.name) ≡ true) (sym space)
    (ap (λ t. t && is_under n.name k.name.name) (bytes_self n.space) ∙ h))

pub under_kind : (n : Name) (k : Key) → under n k ≡ true → same_kind k.kind kind.Revision ≡ true
unfolding is_one_of
under_kind n k t = left (same_kind k.kind kind.Revision) (bytes_eq k.name.space n.space && is_under n.name k.name.name) t

pub under_parts : (n : Name) (k : Key) → under n k ≡ true → (k.name.space ≡ n.space) × (is_under n.name k.name.name ≡ true)
unfolding is_one_of
under_parts n k t =
    let rest = right (same_kind k.kind kind.Revision) (bytes_eq k.name.space n.space && is_under n.name k.name.name) t in
    (bytes-exact k.name.space n.space (left (bytes_eq k.name.space n.space) (is_under n.name k.name.name) rest), right (bytes_eq k.name.space n.space) (is_under n.name k.name.name) rest)

-- one that the Configuration owns is under its name
pub owned_under : (st : State) → AreNamed st → (n : Name) (c v : Object) → c.key.name ≡ n → IsFound st v → is_owned_by c v ≡ true → under n v.key ≡ true
owned_under st named n c v at found h = go v.meta.owner refl (right (is_of kind.Revision v && bytes_eq v.key.name.space c.key.name.space) _ h)
  where
    of : is_of kind.Revision v ≡ true
    of = left (is_of kind.Revision v) (bytes_eq v.key.name.space c.key.name.space) (left (is_of kind.Revision v && bytes_eq v.key.name.space c.key.name.space) (is_given (is_owner c) v.meta.owner) h)

    space : v.key.name.space ≡ n.space
    space = bytes-exact v.key.name.space c.key.name.space (right (is_of kind.Revision v) (bytes_eq v.key.name.space c.key.name.space) (left (is_of kind.Revision v && bytes_eq v.key.name.space c.key.name.space) (is_given (is_owner c) v.meta.owner) h)) ∙ ap (λ (m : Name). m.space) at

    go : (o : Option Owner) → v.meta.owner ≡ o → is_given (is_owner c) o ≡ true → under n v.key ≡ true
    go None e t = absurd cc
    go (Some w) e t =
        let same : w.name ≡ n.name = bytes-exact w.name c.key.name.name (right (same_kind w.kind c.key.kind) _ (left (same_kind w.kind c.key.kind && bytes_eq w.name c.key.name.name) _ t)) ∙ ap (λ (m : Name). m.name) at in
        under_by n v.key (is_of_parts kind.Revision v of).0 space
        (subst (λ z. is_under z v.key.name.name ≡ true) same (named.owned v.key.name v w (stands_found st v found of) e).1)

-- of the Revisions those under the name are narrow, for what only owned ones can be
pub narrow_under : (st : State) → AreNamed st → (n : Name) (c : Object) → c.key.name ≡ n → (may : Object → Bool) → ((v : Object) → may v ≡ true → is_owned_by c v ≡ true)
    → Each (IsNarrow may (λ (o : Object). same_kind o.key.kind kind.Revision) (λ (o : Object). under n o.key)) st
narrow_under st named n c at may owns =
    each_by (IsFound st) _ st
    (λ v found. record { within = λ t. under_kind n v.key t; enough = λ g t. owned_under st named n c v at found (owns v t) })
    (all_found st named.ordered)

module _ (b st : State) (es : List ObjectEntry) (puts : ArePuts es) (pick : SlotKey) (calm : is_touched_by b st es pick ≡ false) (n : Name)
    (named : AreNamed st) (now_named : AreNamed (after st es)) (reads : (k : Key) (old new : Option Object) → touches b k old new pick ≡ false → under n k ≡ false) where
  pub passing_kept : passing (under n) (after st es) ≡ passing (under n) st
  passing_kept = passing-along (under n) st es puts (along_by (λ k old new. touches b k old new pick ≡ false) (λ k old new. under n k ≡ false) st es reads (untouched_along b st es pick calm))

  -- the latest of what only owned ones can be
  pub latest_kept : (c : Object) → c.key.name ≡ n → (may : Object → Bool) → ((v : Object) → may v ≡ true → is_owned_by c v ≡ true) → latest may (after st es) ≡ latest may st
  latest_kept c at may owns =
      latest_narrow may _ _ None (after st es) (narrow_under (after st es) now_named n c at may owns)
      ∙ ap (latest_from may None) passing_kept
      ∙ sym (latest_narrow may _ _ None st (narrow_under st named n c at may owns))
