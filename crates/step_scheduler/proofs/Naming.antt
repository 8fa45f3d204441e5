-- How the objects are named that stand at each position of a kept plane's journal.
use Rattle.std.proofs.Common.{◌≡◌, ℕ, ◌≤◌, Bool, true, false, cond, ◌&&◌, ◌||◌, List, [], ◌∷◌, ◌++◌, length, drop, Some, refl, inl, inr, sym, ap, ◌∙◌, subst, arith}
use Rattle.std.specs.Prelude.{codes, nat_eq}
use Rattle.std.specs.List.{starts_with}
use Rattle.std.specs.Cmp.{nat_eq_equiv}
use Rattle.std.proofs.Math.Seq.{drop-append_seam}
use Rattle.resource_types.specs.declared.names.Kind.TheVariants as kind
use Rattle.resource_types.specs.declared.names.Name.{Name}
use Rattle.resource_types.specs.declared.metadata.Owner.{Owner}
use Rattle.resource_types.specs.declared.specification.Template.{Template}
use Rattle.resource_types.specs.declared.objects.Body.{Body}
use Rattle.resource_types.specs.declared.objects.Body.TheVariants.{Service, Configuration, Revision, Route, Health, Table}
use Rattle.resource_types.specs.declared.objects.Object.{Object}
use Rattle.resource_types.specs.Objects.{kind_of_body}
use Rattle.resource_types.specs.Lookups.{is_empty}
use Rattle.resource_types.specs.Manifests.{manifest_spec}
use Rattle.serve_names.specs.Generated.{generated_bytes}
use Rattle.validation.specs.Rules.{template_lines, spec_lines, is_template_name, begins_with}
use Rattle.manifest_intake.specs.Good.{is_good}
use Rattle.manifest_intake.proofs.Exact.{good_exact}
use Rattle.manifest_intake.proofs.Parts.{IsGoodSpec}
use Rattle.control_rules.specs.Standing.{key_at, standing, template_of}
use Rattle.control_rules.specs.Readings.{simple_revision_name, revision_name}
use Rattle.control_rules.specs.Slots.{Plane, state_at}
use Rattle.control_rules.specs.Facts.{IsKept}
use Rattle.control_rules.specs.FurtherFacts.{WasMade}
use Rattle.control_safety.proofs.Good.{client_from, is_at, are_good}
use Rattle.control_safety.proofs.Theorems.{further_facts}
use Rattle.control_entries.proofs.Standing.{stands}
use Rattle.control_entries.proofs.Positions.{ordered_at}
use Rattle.control_touches.specs.Touches.{is_under}
use Rattle.control_touches.specs.Named.{AreNamed}
use Rattle.good_laws.proofs.Parts.{good_parts}
use Rattle.good_laws.proofs.Theorems.{good_laws}

-- ---- names of Revisions

begins_self : (xs ys : List ℕ) → starts_with nat_eq (xs ++ ys) xs ≡ true
begins_self [] ys = refl
begins_self (x ∷ xs) ys = ap (λ b. b && starts_with nat_eq (xs ++ ys) xs) (nat_eq_equiv.refl x) ∙ begins_self xs ys

-- a generated name begins with the base and a dash
generated_under : (base : List ℕ) (generation : ℕ) → is_under base (generated_bytes base generation) ≡ true
unfolding is_under
generated_under base generation =
    ap (λ b. b && starts_with nat_eq (drop (length base) (generated_bytes base generation)) (codes "-")) (begins_self base _)
    ∙ ap (λ xs. starts_with nat_eq xs (codes "-")) (drop-append_seam base _)

and_right : (a b : Bool) → (a && b) ≡ true → b ≡ true
and_right true b e = e
and_right false b e = absurd cc

-- the template's name, where it has one, is under that of its Configuration
template_under : (n : List ℕ) (t : Template) (generation : ℕ) → (is_empty t.name || is_template_name n t.name) ≡ true
    → is_under n (cond (is_empty t.name) (generated_bytes n generation) t.name) ≡ true
unfolding is_under
template_under n t generation h = go (is_empty t.name) h
  where
    go : (b : Bool) → (b || is_template_name n t.name) ≡ true → is_under n (cond b (generated_bytes n generation) t.name) ≡ true
    go true e = generated_under n generation
    go false e = and_right _ (begins_with n t.name) e

named_template : (n : List ℕ) (b : Body) → kind_of_body b ≡ kind.Configuration → IsGoodSpec n (manifest_spec b) → (is_empty (template_of b).name || is_template_name n (template_of b).name) ≡ true
unfolding spec_lines template_lines
named_template n (Service template traffic status) e h = absurd cc
named_template n (Configuration template status) e h = h.lines.0
named_template n (Revision s generation pins active status) e h = absurd cc
named_template n (Route traffic status) e h = absurd cc
named_template n (Health uid resources container ever) e h = absurd cc
named_template n (Table route rows targets) e h = absurd cc

-- ---- states

module _ (w : Plane) (k : IsKept is_good w) where
  -- the Revision of a Configuration that stands is named under it
  current_at : (p : ℕ) → p ≤ length w.journal → (n : Name) (c : Object) → standing kind.Configuration n (state_at w.journal p) ≡ Some c → is_under n.name (simple_revision_name c) ≡ true
  current_at p le n c e =
      let at = is_at kind.Configuration n (state_at w.journal p) c e in
      let good = are_good good_laws k.lawful p le (key_at kind.Configuration n) c (stands kind.Configuration n (state_at w.journal p) c e).found (client_from kind.Configuration n (state_at w.journal p) c (inr (inl refl)) e) in
      let parts = good_parts kind.Configuration n c at ((good_exact _).0 good) in
      let own = ap (λ key. is_under key.name.name (simple_revision_name c)) at.key in
      sym own ∙ subst (λ m. is_under m (cond (is_empty (template_of c.body).name) (generated_bytes m c.meta.stamp.generation) (template_of c.body).name) ≡ true) (sym (ap (λ key. key.name.name) at.key))
      (template_under n.name (template_of c.body) c.meta.stamp.generation (named_template n.name c.body at.fits parts.spec))

  -- an owned Revision is named under its owner, which is a Configuration
  owned_at : (p : ℕ) → p ≤ length w.journal → (n : Name) (v : Object) (o : Owner) → standing kind.Revision n (state_at w.journal p) ≡ Some v → v.meta.owner ≡ Some o
      → (o.kind ≡ kind.Configuration) × (is_under o.name n.name ≡ true)
  unfolding revision_name
  owned_at p le n v o e owner = go ((further_facts good_laws k.lawful).made p n v le e)
    where
      go : WasMade w.journal p v → (o.kind ≡ kind.Configuration) × (is_under o.name n.name ≡ true)
      go made =
          let same : Some (record { kind = kind.Configuration; name = made.name.name; uid = made.maker.meta.stamp.uid }) ≡ Some o = sym made.owner ∙ owner in
          let is : record { kind = kind.Configuration; name = made.name.name; uid = made.maker.meta.stamp.uid } ≡ o = cc in
          let key = (stands kind.Revision n (state_at w.journal p) v e).key in
          let own = sym (ap (λ z. z.name) key) ∙ made.named in (
            sym (ap (λ (z : Owner). z.kind) is),
            subst (λ (z : Owner). is_under z.name n.name ≡ true) is
                (ap (λ (z : Name). is_under made.name.name z.name) own ∙ current_at made.place (omega (arith, made.before, le)) made.name made.maker made.stands),
          )

  pub named_at : (p : ℕ) → p ≤ length w.journal → AreNamed (state_at w.journal p)
  named_at p le = record {
    ordered = ordered_at w.journal p;
    served = λ n c e. (further_facts good_laws k.lawful).serve p n c le e;
    routed = λ n r e. (further_facts good_laws k.lawful).serve_route p n r le e;
    current = λ n c e. current_at p le n c e;
    owned = λ n v o e owner. owned_at p le n v o e owner;
  }
