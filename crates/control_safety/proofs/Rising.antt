-- Pins rise strictly.
use Rattle.std.proofs.Common.{◌≡◌, ℕ, zero, suc, ◌≤◌, Bool, true, false, cond, List, [], ◌∷◌, length, Some, None, Ordering, refl, sym, ap, ◌∙◌, arith}
use Rattle.std.specs.Prelude.{slice_get, not, bytes_eq}
use Rattle.std.specs.Ordering.{nat_cmp, is_lt, is_eq, ordering_reverse}
use Rattle.std.specs.declared.cmp.Ordering.TheVariants.{Less, Equal, Greater}
use Rattle.std.specs.Cmp.Lexicographic.{slice_cmp}
use Rattle.std.proofs.lemmas.Cmp.{nat_list_cmp_total}
use Rattle.std.proofs.lemmas.Map.Text.{is_eq-slice_cmp}
use Rattle.json_tree.specs.Tree.{is_before_all, names_rise}
use Rattle.resource_types.specs.declared.names.Kind.TheVariants as kind
use Rattle.resource_types.specs.declared.names.Name.{Name}
use Rattle.resource_types.specs.declared.objects.Object.{Object}
use Rattle.resource_types.specs.declared.manifests.Manifest.{Manifest}
use Rattle.resource_types.specs.Objects.{pins_of}
use Rattle.resource_types.specs.Lookups.{Journal}
use Rattle.control_rules.specs.declared.settings.Settings.{Settings}
use Rattle.control_rules.specs.Standing.{listed, standing}
use Rattle.control_rules.specs.NextRoute.{add_pin, drop_pin, unpinned}
use Rattle.control_rules.specs.Slots.{ObjectEntry, state_at}
use Rattle.control_rules.specs.Lawful.{IsLawful}
use Rattle.control_entries.proofs.Lists.{get_some}
use Rattle.resource_types.proofs.Exact.{left, right}
use Rattle.control_entries.proofs.Tests.{both, not_both}
use Rattle.control_entries.proofs.Standing.{stands, of_kind_some}
use Rattle.control_entries.proofs.Positions.{at_standing}
use Rattle.control_entries.proofs.Bodies.{pins-with_status, pins-with_pins}
use Rattle.control_entries.proofs.Puts.{RevisionPut, PutMade, PutStated, PutPinned, PutUnpinned, revision_put}

abbrev cmp : List ℕ → List ℕ → Ordering
cmp a b = slice_cmp nat_cmp a b

less : (r : Ordering) → is_lt r ≡ true → r ≡ Less
less Less e = refl
less _ e = absurd cc

-- of two that differ, one comes before the other
before_other : (a b : List ℕ) → bytes_eq a b ≡ false → is_lt (cmp a b) ≡ false → is_lt (cmp b a) ≡ true
before_other a b apart h = go (cmp a b) refl
  where
    go : (r : Ordering) → cmp a b ≡ r → is_lt (cmp b a) ≡ true
    go Less e = absurd (not_both (ap is_lt e) h)
    go Equal e = absurd (not_both (sym (is_eq-slice_cmp a b) ∙ ap is_eq e) apart)
    go Greater e = ap is_lt (nat_list_cmp_total.antisymm b a ∙ ap ordering_reverse e)

before_trans : (a b : List ℕ) (ps : List (List ℕ)) → is_lt (cmp a b) ≡ true → is_before_all b ps ≡ true → is_before_all a ps ≡ true
before_trans a b [] h t = refl
before_trans a b (p ∷ ps) h t =
    both (ap is_lt (nat_list_cmp_total.trans a b p (less (cmp a b) h) (less (cmp b p) (left _ _ t)))) (before_trans a b ps h (right (is_lt (cmp b p)) _ t))

before_add : (a r : List ℕ) (ps : List (List ℕ)) → is_lt (cmp a r) ≡ true → is_before_all a ps ≡ true → is_before_all a (add_pin r ps) ≡ true
unfolding add_pin
before_add a r [] h t = both h refl
before_add a r (p ∷ ps) h t = go (is_lt (cmp r p)) (before_add a r ps h (right (is_lt (cmp a p)) _ t))
  where
    go : (b : Bool) → is_before_all a (add_pin r ps) ≡ true → is_before_all a (cond b (r ∷ p ∷ ps) (p ∷ add_pin r ps)) ≡ true
    go true ih = both h t
    go false ih = both (left _ _ t) ih

before_drop : (a r : List ℕ) (ps : List (List ℕ)) → is_before_all a ps ≡ true → is_before_all a (drop_pin r ps) ≡ true
unfolding drop_pin
before_drop a r [] t = refl
before_drop a r (p ∷ ps) t = go (bytes_eq p r) (before_drop a r ps (right (is_lt (cmp a p)) _ t))
  where
    go : (b : Bool) → is_before_all a (drop_pin r ps) ≡ true → is_before_all a (cond (not b) (p ∷ drop_pin r ps) (drop_pin r ps)) ≡ true
    go true ih = ih
    go false ih = both (left _ _ t) ih

unlisted : (r p : List ℕ) (ps : List (List ℕ)) → listed r (p ∷ ps) ≡ false → (bytes_eq r p ≡ false) × (listed r ps ≡ false)
unfolding listed
unlisted r p ps h = go (bytes_eq r p) refl h
  where
    go : (b : Bool) → bytes_eq r p ≡ b → cond b true (listed r ps) ≡ false → (bytes_eq r p ≡ false) × (listed r ps ≡ false)
    go true e k = absurd cc
    go false e k = (e, k)

-- one that is not among them is added in its place
pub rise_add : (r : List ℕ) (ps : List (List ℕ)) → names_rise ps ≡ true → listed r ps ≡ false → names_rise (add_pin r ps) ≡ true
unfolding add_pin
rise_add r [] t h = refl
rise_add r (p ∷ ps) t h =
    (let apart = unlisted r p ps h in
    go (is_lt (cmp r p)) refl apart.0 (rise_add r ps (right (is_before_all p ps) _ t) apart.1))
  where
    go : (b : Bool) → is_lt (cmp r p) ≡ b → bytes_eq r p ≡ false → names_rise (add_pin r ps) ≡ true
        → names_rise (cond b (r ∷ p ∷ ps) (p ∷ add_pin r ps)) ≡ true
    go true e apart ih = both (both e (before_trans r p ps e (left _ _ t))) t
    go false e apart ih = both (before_add p r ps (before_other r p apart e) (left _ _ t)) ih

pub rise_drop : (r : List ℕ) (ps : List (List ℕ)) → names_rise ps ≡ true → names_rise (drop_pin r ps) ≡ true
unfolding drop_pin
rise_drop r [] t = refl
rise_drop r (p ∷ ps) t = go (bytes_eq p r) (rise_drop r ps (right (is_before_all p ps) _ t)) (before_drop p r ps (left _ _ t))
  where
    go : (b : Bool) → names_rise (drop_pin r ps) ≡ true → is_before_all p (drop_pin r ps) ≡ true
        → names_rise (cond (not b) (p ∷ drop_pin r ps) (drop_pin r ps)) ≡ true
    go true ih first = ih
    go false ih first = both first ih

unpinned_lacks : (x : List ℕ) (o : Object) → unpinned x (Some o) ≡ Some o → listed x (pins_of o.body) ≡ false
unpinned_lacks x o h = go (listed x (pins_of o.body)) refl h
  where
    go : (b : Bool) → listed x (pins_of o.body) ≡ b → cond b None (Some o) ≡ Some o → listed x (pins_of o.body) ≡ false
    go true e k = absurd cc
    go false e k = e

module _ {is_good : Manifest → Bool} {settings : Settings} {j : Journal} (lawful : IsLawful is_good settings j) where
  -- the pins of each Revision rise
  pub pins_rise : (n : ℕ) → n ≤ length j → (v : Name) (o : Object) → standing kind.Revision v (state_at j n) ≡ Some o
      → names_rise (pins_of o.body) ≡ true
  pins_rise zero len v o h = absurd (let z = (stands kind.Revision v (state_at j 0) o h).found in cc)
  pins_rise (suc n) len v o h = go (get_some j n (omega arith)) (λ p s. pins_rise n (omega arith) v p s)
    where
      go : ((e : ObjectEntry) × (slice_get j n ≡ Some e))
          → ((p : Object) → standing kind.Revision v (state_at j n) ≡ Some p → names_rise (pins_of p.body) ≡ true)
          → names_rise (pins_of o.body) ≡ true
      go (e, g) ih = at_standing j lawful.stamps n e g kind.Revision v (λ w. w ≡ Some o → names_rise (pins_of o.body) ≡ true)
          (λ k s. from (revision_put lawful n e g v k o (of_kind_some kind.Revision e.object o s))) (λ _ s. ih o s) h
        where
          from : RevisionPut j n e v o → names_rise (pins_of o.body) ≡ true
          from (PutMade m c a b at named none is) = ap (λ (z : Object). names_rise (pins_of z.body)) is
          from (PutStated old a b at seen is) = ap names_rise (ap (λ (z : Object). pins_of z.body) is ∙ pins-with_status _ old.body) ∙ ih old at
          from (PutPinned r old a b near at lacks is) =
              ap names_rise (ap (λ (z : Object). pins_of z.body) is ∙ pins-with_pins _ _ old.body (stands kind.Revision v (state_at j n) old at).fits) ∙ rise_add r.name (pins_of old.body) (ih old at) (unpinned_lacks r.name old lacks)
          from (PutUnpinned r old a b near at spare is) =
              ap names_rise (ap (λ (z : Object). pins_of z.body) is ∙ pins-with_pins _ _ old.body (stands kind.Revision v (state_at j n) old at).fits) ∙ rise_drop r.name (pins_of old.body) (ih old at)
