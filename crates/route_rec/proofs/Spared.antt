-- The first Revision with a spare pin, place by place.
use Rattle.std.proofs.Common.{◌≡◌, ℕ, ◌+◌, ◌≤◌, List, [], ◌∷◌, length, drop, Bool, true, false, Option, Some, None, refl, sym, ap, ◌∙◌}
use Rattle.std.specs.Prelude.{◌&&◌, ◌||◌, bytes_eq, cond, map, not, slice_get}
use Rattle.std.specs.List.{find}
use Rattle.std.proofs.lemmas.List.{drop_all}
use Rattle.resource_types.specs.declared.names.Kind.TheVariants as kind
use Rattle.resource_types.specs.declared.names.Name.{Name}
use Rattle.resource_types.specs.declared.specification.Row.{Row}
use Rattle.resource_types.specs.declared.specification.Target.{Target}
use Rattle.resource_types.specs.declared.objects.Body.{Body}
use Rattle.resource_types.specs.declared.objects.Body.TheVariants.{Service, Configuration, Revision, Route, Health, Table}
use Rattle.resource_types.specs.declared.objects.Object.{Object}
use Rattle.resource_types.specs.Objects.{is_of, no_status, pins_of, status_of}
use Rattle.resource_types.specs.Lookups.{State, in_space, of_kind}
use Rattle.resource_types.proofs.Exact.{left, right}
use Rattle.resource_types.proofs.Lists.{drop_at}
use Rattle.control_rules.specs.Standing.{listed, published_at, published_of, read, standing, target_names, traffic_at}
use Rattle.control_rules.specs.NextRoute.{first_spare, is_spare}
use Rattle.route_rec.specs.Spares.{has_target, is_published, is_published_in, is_shown, is_spare_by}
use Rattle.route_rec.proofs.Listed.{listed_map, listed-append}

regrouped : (a l p s : Bool) → ((a && l) && (not p && not s)) ≡ (a && (l && not (p || s)))
regrouped false l p s = refl
regrouped true false p s = refl
regrouped true true true s = refl
regrouped true true false s = refl

-- whether the Table names the Revision, by all that it names
published_in : (name : List ℕ) (b : Body) → is_published_in name b ≡ listed name (published_of b)
unfolding listed
published_in name (Service template traffic status) = refl
published_in name (Configuration template status) = refl
published_in name (Revision spec generation pins active status) = refl
published_in name (Route traffic status) = refl
published_in name (Health uid resources container ever) = refl
published_in name (Table route rows targets) =
    ap (λ (b : Bool). b || has_target name targets) (listed_map (λ (row : Row). row.revision) name rows)
    ∙ ap (λ (b : Bool). listed name (map (λ (row : Row). row.revision) rows) || b) (listed_map (λ (t : Target). t.revision) name targets)
    ∙ sym (listed-append name (map (λ (row : Row). row.revision) rows) (target_names targets))

published_as : (name : List ℕ) (table : Option Object) → is_published name table ≡ listed name (read [] published_of table)
unfolding listed
published_as name None = refl
published_as name (Some t) = published_in name t.body

-- whether the status names the Revision, by all that it names
shown_as : (name : List ℕ) (route : Option Object) → is_shown name route ≡ listed name (target_names (read no_status status_of route).traffic)
unfolding listed
shown_as name None = refl
shown_as name (Some o) = listed_map (λ (t : Target). t.revision) name (status_of o.body).traffic

-- by what stands, as by the state
pub spare_by : (st : State) (r : Name) (table route : Option Object) (v : Object) → table ≡ standing kind.Table r st → route ≡ standing kind.Route r st
    → is_spare_by r table route v ≡ is_spare st r v
unfolding is_spare
spare_by st r table route v e f =
    rw (e, f, published_as v.key.name.name (standing kind.Table r st), shown_as v.key.name.name (standing kind.Route r st))
    (regrouped (is_of kind.Revision v && bytes_eq v.key.name.space r.space) (listed r.name (pins_of v.body)) (listed v.key.name.name (published_at st r)) (listed v.key.name.name (traffic_at st r)))

-- where what passes the test is in the namespace, the first that does is the first one there
find-in_space : (p : Object → Bool) (space : List ℕ) → ((o : Object) → p o ≡ true → bytes_eq o.key.name.space space ≡ true)
    → (xs : State) → find p (in_space space xs) ≡ find p xs
find-in_space p space there [] = refl
find-in_space p space there (x ∷ xs) = by (bytes_eq x.key.name.space space) (p x) refl refl (find-in_space p space there xs)
  where
    by : (b t : Bool) → bytes_eq x.key.name.space space ≡ b → p x ≡ t → find p (in_space space xs) ≡ find p xs
        → find p (cond b (x ∷ in_space space xs) (in_space space xs)) ≡ cond t (Some x) (find p xs)
    by true t e f ih = ap (λ (o : Option Object). cond (p x) (Some x) o) ih ∙ rw f refl
    by false true e f ih = let g : bytes_eq x.key.name.space space ≡ true = there x f in absurd cc
    by false false e f ih = ih

-- a Revision with a spare pin is in the Route's namespace
spare-space : (st : State) (r : Name) (v : Object) → is_spare st r v ≡ true → bytes_eq v.key.name.space r.space ≡ true
unfolding is_spare
spare-space st r v e = right (is_of kind.Revision v) _ (left (is_of kind.Revision v && bytes_eq v.key.name.space r.space) _ e)

-- `revisions` are those of the Route's namespace
module _ (st : State) (r : Name) (revisions : State) (walked : revisions ≡ in_space r.space (of_kind kind.Revision st)) where
  -- from the first place on
  pub from_first : first_spare st r ≡ find (is_spare st r) revisions
  unfolding first_spare
  from_first = sym (find-in_space (is_spare st r) r.space (spare-space st r) (of_kind kind.Revision st)) ∙ ap (find (is_spare st r)) (sym walked)

  module _ (k : ℕ) (so_far : first_spare st r ≡ find (is_spare st r) (drop k revisions)) where
    at_place : (v : Object) → slice_get revisions k ≡ Some v → first_spare st r ≡ cond (is_spare st r v) (Some v) (find (is_spare st r) (drop (k + 1) revisions))
    at_place v e = so_far ∙ ap (find (is_spare st r)) (drop_at revisions k v e)

    pub found_spare : (v : Object) → slice_get revisions k ≡ Some v → is_spare st r v ≡ true → Some v ≡ first_spare st r
    found_spare v e h = sym (at_place v e ∙ rw h refl)

    pub not_spare : (v : Object) → slice_get revisions k ≡ Some v → is_spare st r v ≡ false → first_spare st r ≡ find (is_spare st r) (drop (k + 1) revisions)
    not_spare v e h = at_place v e ∙ rw h refl

    pub none_spare : length revisions ≤ k → None ≡ first_spare st r
    none_spare le = sym (so_far ∙ ap (find (is_spare st r)) (drop_all k revisions le))
