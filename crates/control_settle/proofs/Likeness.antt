-- What an object keeps when it gets another status or other pins, and what keeps so of all that stands.
use Rattle.std.proofs.Common.{◌≡◌, ◌≢◌, ◌⊎◌, inl, inr, ℕ, ◌+◌, Bool, cond, List, Option, Some, refl, sym, ap, ◌∙◌, subst, arith}
use Rattle.version_store.specs.Journal.{next_stamp}
use Rattle.json_tree.specs.EqualLaws.{is_equal-own}
use Rattle.resource_types.specs.declared.names.Kind.{Kind}
use Rattle.resource_types.specs.declared.names.Name.{Name}
use Rattle.resource_types.specs.declared.names.Key.{Key}
use Rattle.resource_types.specs.declared.status.ObjectStatus.{ObjectStatus}
use Rattle.resource_types.specs.declared.objects.Body.{Body}
use Rattle.resource_types.specs.declared.objects.Body.TheVariants.{Service, Configuration, Revision, Route, Health, Table}
use Rattle.resource_types.specs.declared.objects.Object.{Object}
use Rattle.resource_types.specs.contracts.objects.Body as body_row
use Rattle.resource_types.specs.contracts.item.ObjectItem.TheImpl as object_item
use Rattle.resource_types.specs.Objects.{kind_of_body, generation_of, targets_of}
use Rattle.resource_types.specs.Spec.{spec_of, stamped}
use Rattle.resource_types.specs.Lookups.{State}
use Rattle.control_rules.specs.Standing.{key_at, standing, template_of, with_status, with_pins}
use Rattle.control_entries.proofs.Bodies.{kind-with_status, template-with_status, targets-with_status, generation-with_status, kind-with_pins, generation-with_pins}
use Rattle.control_entries.proofs.Changes.{Change, stands_elsewhere, put_here}
use Rattle.control_entries.proofs.Standing.{key_or_not, stands, is_of_parts, is_of_both}
use Rattle.control_entries.proofs.Tests.{some_same}
use Rattle.json_tree.specs.Equal.{is_equal}

-- the object with the body, where o stands, as the entry behind the first n, at the moment
abbrev pub rebodied : ℕ → ℕ → Object → Body → Object
rebodied n now o b =
    stamped (record { key = o.key; meta = o.meta; body = b }) (next_stamp object_item.ghosts (Some o) (record { key = o.key; meta = o.meta; body = b }) (n + 1) now)

-- all but status, pins, version
pub record Like (o x : Object) : Type 0 where
  pub key : x.key ≡ o.key
  pub owner : x.meta.owner ≡ o.meta.owner
  pub uid : x.meta.stamp.uid ≡ o.meta.stamp.uid
  pub generation : x.meta.stamp.generation ≡ o.meta.stamp.generation
  pub fits : kind_of_body x.body ≡ kind_of_body o.body
  pub template : template_of x.body ≡ template_of o.body
  pub targets : targets_of x.body ≡ targets_of o.body
  pub made_for : generation_of x.body ≡ generation_of o.body

pub like_own : (o : Object) → Like o o
like_own o = record { key = refl; owner = refl; uid = refl; generation = refl; fits = refl; template = refl; targets = refl; made_for = refl }

pub like_same : (o p : Object) → p ≡ o → Like o p
like_same o p e = subst (λ z. Like o z) (sym e) (like_own o)

-- a body of the same spec
spec_kept : (n now : ℕ) (o : Object) (b : Body) → spec_of b ≡ spec_of o.body → (rebodied n now o b).meta.stamp.generation ≡ o.meta.stamp.generation
spec_kept n now o b e =
    ap (λ t. o.meta.stamp.generation + cond t 0 1) (ap (λ z. same z) e ∙ is_equal-own body_row.the_row.coded (spec_of o.body))
    ∙ zero_more o.meta.stamp.generation
  where
    same : Body → Bool
    same z = is_equal body_row.the_row.coded (spec_of o.body) z

    zero_more : (m : ℕ) → m + 0 ≡ m
    zero_more m = omega arith

status-spec : (s : ObjectStatus) (b : Body) → spec_of (with_status s b) ≡ spec_of b
status-spec s (Service template traffic status) = refl
status-spec s (Configuration template status) = refl
status-spec s (Revision spec generation pins active status) = refl
status-spec s (Route traffic status) = refl
status-spec s (Health uid resources container ever) = refl
status-spec s (Table route rows targets) = refl

pub restated_like : (n now : ℕ) (o : Object) (s : ObjectStatus) → Like o (rebodied n now o (with_status s o.body))
restated_like n now o s = record {
  key = refl;
  owner = refl;
  uid = refl;
  generation = spec_kept n now o (with_status s o.body) (status-spec s o.body);
  fits = kind-with_status s o.body;
  template = template-with_status s o.body;
  targets = targets-with_status s o.body;
  made_for = generation-with_status s o.body;
}

pins-spec : (ps : List (List ℕ)) (m : Option ℕ) (b : Body) → spec_of (with_pins ps m b) ≡ spec_of b
pins-spec ps m (Service template traffic status) = refl
pins-spec ps m (Configuration template status) = refl
pins-spec ps m (Revision spec generation pins active status) = refl
pins-spec ps m (Route traffic status) = refl
pins-spec ps m (Health uid resources container ever) = refl
pins-spec ps m (Table route rows targets) = refl

pins-template : (ps : List (List ℕ)) (m : Option ℕ) (b : Body) → template_of (with_pins ps m b) ≡ template_of b
pins-template ps m (Service template traffic status) = refl
pins-template ps m (Configuration template status) = refl
pins-template ps m (Revision spec generation pins active status) = refl
pins-template ps m (Route traffic status) = refl
pins-template ps m (Health uid resources container ever) = refl
pins-template ps m (Table route rows targets) = refl

pins-targets : (ps : List (List ℕ)) (m : Option ℕ) (b : Body) → targets_of (with_pins ps m b) ≡ targets_of b
pins-targets ps m (Service template traffic status) = refl
pins-targets ps m (Configuration template status) = refl
pins-targets ps m (Revision spec generation pins active status) = refl
pins-targets ps m (Route traffic status) = refl
pins-targets ps m (Health uid resources container ever) = refl
pins-targets ps m (Table route rows targets) = refl

pub repinned_like : (n now : ℕ) (o : Object) (ps : List (List ℕ)) (m : Option ℕ) → Like o (rebodied n now o (with_pins ps m o.body))
repinned_like n now o ps m = record {
  key = refl;
  owner = refl;
  uid = refl;
  generation = spec_kept n now o (with_pins ps m o.body) (pins-spec ps m o.body);
  fits = kind-with_pins ps m o.body;
  template = pins-template ps m o.body;
  targets = pins-targets ps m o.body;
  made_for = generation-with_pins ps m o.body;
}

-- ---- what keeps of what stands under a name

pub record KeptAt (kind : Kind) (n : Name) (a b : State) : Type 0 where
  pub back : (x : Object) → standing kind n b ≡ Some x → (o : Object) × (standing kind n a ≡ Some o) × Like o x
  pub on : (o : Object) → standing kind n a ≡ Some o → (x : Object) × (standing kind n b ≡ Some x) × Like o x

pub same_kept : (kind : Kind) (n : Name) (a b : State) → standing kind n b ≡ standing kind n a → KeptAt kind n a b
same_kept kind n a b e = record {
  back = λ x s. (x, sym e ∙ s, like_own x);
  on = λ o s. (o, e ∙ s, like_own o);
}

-- what is put in place of one like it stands
pub like_stands : (a b : State) (k : Kind) (w : Name) (o x : Object) → Change (key_at k w) (Some x) a b → standing k w a ≡ Some o → Like o x → standing k w b ≡ Some x
like_stands a b k w o x h at like =
    let parts = is_of_parts k o (stands k w a o at).of in
    put_here (key_at k w) x a b h k w refl (is_of_both k x (ap (λ q. q.kind) like.key ∙ parts.0) (like.fits ∙ parts.1))

-- a put of one like the one that stands
pub like_kept : (a b : State) (k : Key) (o x : Object) (k0 : Kind) (n0 : Name) → Change k (Some x) a b → k ≡ key_at k0 n0 → standing k0 n0 a ≡ Some o → Like o x → (kind : Kind) (n : Name) → KeptAt kind n a b
like_kept a b k o x k0 n0 h at there like kind n = go (key_or_not k (key_at kind n))
  where
    go : (k ≡ key_at kind n) ⊎ (k ≢ key_at kind n) → KeptAt kind n a b
    go (inr apart) = same_kept kind n a b (stands_elsewhere k (Some x) a b h kind n apart)
    go (inl e) = subst (λ q. KeptAt q.kind q.name a b) (sym at ∙ e) here
      where
        parts : (o.key.kind ≡ k0) × (kind_of_body o.body ≡ k0)
        parts = is_of_parts k0 o (stands k0 n0 a o there).of

        new : standing k0 n0 b ≡ Some x
        new = put_here k x a b h k0 n0 at (is_of_both k0 x (ap (λ q. q.kind) like.key ∙ parts.0) (like.fits ∙ parts.1))

        here : KeptAt k0 n0 a b
        here = record {
          back = λ y s. (o, there, subst (λ z. Like o z) (some_same (sym new ∙ s)) like);
          on = λ p s. (x, new, subst (λ z. Like z x) (some_same (sym there ∙ s)) like);
        }
