-- What is left to do at a Route before its status, by what it reads.
use Rattle.std.proofs.Common.{◌≡◌, ℕ, suc, ◌+◌, ◌≤◌, Bool, true, false, cond, not, List, [], ◌∷◌, length, Option, Some, None, refl, sym, ap, ◌∙◌, subst, arith}
use Rattle.std.specs.Prelude.{is_some}
use Rattle.resource_types.specs.declared.names.Kind.TheVariants as kind
use Rattle.resource_types.specs.declared.names.Name.{Name}
use Rattle.resource_types.specs.declared.specification.Target.{Target}
use Rattle.resource_types.specs.declared.objects.Object.{Object}
use Rattle.resource_types.specs.Objects.{pins_of, targets_of}
use Rattle.resource_types.specs.Lookups.{State, is_empty, is_given}
use Rattle.control_rules.specs.declared.traffic.Found.{Found}
use Rattle.control_rules.specs.declared.traffic.Found.TheVariants as found
use Rattle.control_rules.specs.declared.traffic.Resolved.{Resolved}
use Rattle.control_rules.specs.Standing.{beside, listed, standing, is_table_of}
use Rattle.control_rules.specs.Resolution.{Meant, stored, found_revision, found_latest, found_configuration, found_of, first_hindrance, with_meant, meant_of, pairs_of, meant_unless, assigned, assigned_rows, assigned_targets}
use Rattle.control_rules.specs.Differences.{ObjectPlan, given, when, removal}
use Rattle.control_rules.specs.NextRoute.{unpinned, first_unpinned, assigned_of, assigned_at, is_own_table, table_of, published, table_foreign, pin_lacking, table_differs, repinned, add_pin}
use Rattle.control_settle.specs.Burden.{one_if}
use Rattle.control_settle.specs.Left.{is_foreign, lacking, lacking_if, is_late_for, is_late, ahead}
use Rattle.control_settle.specs.Grounds.{IsSoundState}
use Rattle.control_settle.proofs.Machine.{In, First, Later}
use Rattle.control_entries.proofs.Tests.{not_both, some_same, none_some}
use Rattle.control_settle.proofs.Likeness.{KeptAt}
use Rattle.control_settle.proofs.Deeds.{when_none}
use Rattle.std.specs.Option.{option_or}
use Rattle.resource_types.specs.declared.objects.Body.TheVariants.{Table}

-- ---- what is assigned stands

pub record Stands (st : State) (q : Name) : Type 0 where
  pub object : Object
  pub is : standing kind.Revision q st ≡ Some object

revision_found : (counts : Object → Bool) (st : State) (r : Name) (x name : List ℕ) (uid : ℕ) → found_revision counts x (standing kind.Revision (beside r x) st) ≡ found.Ready name uid → Stands st (beside r name)
revision_found counts st r x name uid e = go (standing kind.Revision (beside r x) st) refl e
  where
    go : (w : Option Object) → standing kind.Revision (beside r x) st ≡ w → found_revision counts x w ≡ found.Ready name uid → Stands st (beside r name)
    go None s e = absurd cc
    go (Some v) s e = by (counts v) e
      where
        by : (t : Bool) → cond t (found.Ready x v.meta.stamp.uid) found.RevisionUnready ≡ found.Ready name uid → Stands st (beside r name)
        by true g = let same : x ≡ name = cc in record { object = v; is = ap (λ z. standing kind.Revision (beside r z) st) (sym same) ∙ s }
        by false g = absurd cc

found_is : (st : State) (r : Name) (t : Target) (name : List ℕ) (uid : ℕ) → found_of stored st r t ≡ found.Ready name uid → Stands st (beside r name)
unfolding found_of
found_is st r t name uid e = go (is_empty t.revision) e
  where
    latest : (x : List ℕ) → found_latest stored st r x ≡ found.Ready name uid → Stands st (beside r name)
    latest [] g = absurd cc
    latest (x ∷ xs) g = revision_found stored.been st r (x ∷ xs) name uid g

    configuration : (c : Option Object) → found_configuration stored st r c ≡ found.Ready name uid → Stands st (beside r name)
    configuration None g = absurd cc
    configuration (Some c) g = latest (stored.ready c) g

    go : (u : Bool) → cond u (found_configuration stored st r (standing kind.Configuration (beside r t.configuration) st)) (found_revision stored.good t.revision (standing kind.Revision (beside r t.revision) st)) ≡ found.Ready name uid → Stands st (beside r name)
    go true g = configuration (standing kind.Configuration (beside r t.configuration) st) g
    go false g = revision_found stored.good st r t.revision name uid g

-- those that are meant, before the others
meant_member : (st : State) (r : Name) (t : Target) (ms : List Meant) (f : Found) → found_of stored st r t ≡ f → ((m : Meant) → In m ms → Stands st (beside r m.name)) → (m : Meant) → In m (with_meant t f ms) → Stands st (beside r m.name)
meant_member st r t ms found.ConfigurationAbsent e h m i = h m i
meant_member st r t ms found.ConfigurationUnready e h m i = h m i
meant_member st r t ms found.RevisionAbsent e h m i = h m i
meant_member st r t ms found.RevisionUnready e h m i = h m i
meant_member st r t ms (found.Ready name uid) e h m i = go m i
  where
    go : (m : Meant) → In m (record { target = t; name = name; uid = uid } ∷ ms) → Stands st (beside r m.name)
    go m (Later i) = h m i
    go _ First = found_is st r t name uid e

meants_stand : (st : State) (r : Name) (ts : List Target) (m : Meant) → In m (meant_of (pairs_of stored st r ts)) → Stands st (beside r m.name)
unfolding meant_of
meants_stand st r [] m i = elim i [ ]
meants_stand st r (t ∷ ts) m i = meant_member st r t (meant_of (pairs_of stored st r ts)) (found_of stored st r t) refl (λ m i. meants_stand st r ts m i) m i

meant_few : (t : Target) (f : Found) (ms : List Meant) → length (with_meant t f ms) ≤ suc (length ms)
meant_few t found.ConfigurationAbsent ms = omega arith
meant_few t found.ConfigurationUnready ms = omega arith
meant_few t found.RevisionAbsent ms = omega arith
meant_few t found.RevisionUnready ms = omega arith
meant_few t (found.Ready name uid) ms = omega arith

meants_few : (st : State) (r : Name) (ts : List Target) → length (meant_of (pairs_of stored st r ts)) ≤ length ts
unfolding meant_of
meants_few st r [] = omega arith
meants_few st r (t ∷ ts) = let a = meant_few t (found_of stored st r t) (meant_of (pairs_of stored st r ts)) in let b = meants_few st r ts in omega arith

unless_is : (h : Option Resolved) (ms ns : List Meant) → meant_unless h ms ≡ Some ns → ms ≡ ns
unless_is None ms ns e = some_same e
unless_is (Some x) ms ns e = absurd cc

-- the Route, and the targets that are assigned
pub record Assigned (st : State) (r : Name) (ms : List Meant) : Type 0 where
  pub route : Object
  pub stands : standing kind.Route r st ≡ Some route
  pub are : meant_of (pairs_of stored st r (targets_of route.body)) ≡ ms

pub assigned_is : (st : State) (r : Name) (ms : List Meant) → assigned_at stored st r ≡ Some ms → Assigned st r ms
unfolding assigned_at assigned
assigned_is st r ms e = go (standing kind.Route r st) refl e
  where
    go : (w : Option Object) → standing kind.Route r st ≡ w → assigned_of stored st r w ≡ Some ms → Assigned st r ms
    go None s e = absurd cc
    go (Some o) s e = record { route = o; stands = s; are = unless_is (first_hindrance 0 (pairs_of stored st r (targets_of o.body))) (meant_of (pairs_of stored st r (targets_of o.body))) ms e }

pub assigned_stands : (st : State) (r : Name) (ms : List Meant) → assigned_at stored st r ≡ Some ms → (m : Meant) → In m ms → Stands st (beside r m.name)
assigned_stands st r ms e m i = let a = assigned_is st r ms e in meants_stand st r (targets_of a.route.body) m (subst (In m) (sym a.are) i)

-- ---- no more than 18

lacking_few : (st : State) (r : Name) (ms : List Meant) → lacking st r ms ≤ length ms
unfolding lacking
lacking_few st r [] = omega arith
lacking_few st r (m ∷ ms) = let a = lacking_few st r ms in let b = one (is_some (unpinned r.name (standing kind.Revision (beside r m.name) st))) in omega arith
  where
    one : (t : Bool) → one_if t ≤ 1
    one true = omega arith
    one false = omega arith

pub one_most : (t : Bool) → one_if t ≤ 1
one_most true = omega arith
one_most false = omega arith

pub ahead_most : (domain : List ℕ) (n : ℕ) (st : State) (r : Name) → IsSoundState n st → ahead domain st r ≤ 18
unfolding ahead
ahead_most domain n st r sound =
    let a = one_most (is_foreign st r) in
    let b = one_most (is_late st domain r) in
    let c = few (assigned_at stored st r) refl in
    omega arith
  where
    few : (w : Option (List Meant)) → assigned_at stored st r ≡ w → lacking_if st r w ≤ 16
    few None e = omega arith
    few (Some ms) e =
        let a = assigned_is st r ms e in
        let b = lacking_few st r ms in
        let c = meants_few st r (targets_of a.route.body) in
        let d = ap length a.are in
        let f = sound.few r a.route a.stands in
        omega arith

-- ---- where nothing is to be done

foreign_none : (st : State) (r : Name) → table_foreign st r ≡ None → is_foreign st r ≡ false
unfolding is_foreign given
foreign_none st r e = go (standing kind.Table r st) e
  where
    go : (w : Option Object) → given w (λ t. when (not (is_own_table (standing kind.Route r st) t)) (removal t)) ≡ None → is_given (λ (t : Object). not (is_own_table (standing kind.Route r st) t)) w ≡ false
    go None e = refl
    go (Some t) e = when_none (not (is_own_table (standing kind.Route r st) t)) (removal t) e

pub lacking_none : (st : State) (r : Name) (ms : List Meant) → first_unpinned st r ms ≡ None → lacking st r ms ≡ 0
unfolding lacking first_unpinned
lacking_none st r [] e = refl
lacking_none st r (m ∷ ms) e = go (unpinned r.name (standing kind.Revision (beside r m.name) st)) e (lacking_none st r ms)
  where
    go : (w : Option Object) → option_or w (first_unpinned st r ms) ≡ None → (first_unpinned st r ms ≡ None → lacking st r ms ≡ 0) → one_if (is_some w) + lacking st r ms ≡ 0
    go None e ih = let z = ih e in omega arith
    go (Some v) e ih = absurd cc

lacks_none : (st : State) (r : Name) (now : ℕ) → pin_lacking st r now ≡ None → lacking_if st r (assigned_at stored st r) ≡ 0
unfolding given
lacks_none st r now e = go (assigned_at stored st r) e
  where
    go : (w : Option (List Meant)) → given w (λ ms. given (first_unpinned st r ms) (λ v. Some (repinned v (add_pin r.name (pins_of v.body)) now))) ≡ None → lacking_if st r w ≡ 0
    go None e = refl
    go (Some ms) e = by (first_unpinned st r ms) refl e
      where
        by : (v : Option Object) → first_unpinned st r ms ≡ v → given v (λ v. Some (repinned v (add_pin r.name (pins_of v.body)) now)) ≡ None → lacking st r ms ≡ 0
        by None g e = lacking_none st r ms g
        by (Some v) g e = absurd cc

pub published_some : (p : Option ObjectPlan) → p ≡ None → is_some p ≡ false
published_some p e = ap is_some e

late_none : (st : State) (domain : List ℕ) (r : Name) → table_differs domain st r ≡ None → is_late st domain r ≡ false
unfolding is_late given
late_none st domain r e = go (standing kind.Route r st) (assigned_at stored st r) e
  where
    go : (w : Option Object) (ms : Option (List Meant)) → given w (λ o. given ms (λ ms. published r (standing kind.Table r st) (table_of r domain o ms))) ≡ None → is_late_for st domain r w ms ≡ false
    go None ms e = refl
    go (Some o) None e = refl
    go (Some o) (Some ms) e = ap is_some e

pub level : (st : State) (domain : List ℕ) (r : Name) (now : ℕ) → table_foreign st r ≡ None → pin_lacking st r now ≡ None → table_differs domain st r ≡ None → ahead domain st r ≡ 0
unfolding ahead
level st domain r now own pinned published =
    let a : one_if (is_foreign st r) ≡ 0 = ap one_if (foreign_none st r own) in
    let b = lacks_none st r now pinned in
    let c : one_if (is_late st domain r) ≡ 0 = ap one_if (late_none st domain r published) in
    omega arith

-- ---- by what is read

pub own_same : (a b : State) (r : Name) (t : Object) → KeptAt kind.Route r a b → is_own_table (standing kind.Route r b) t ≡ is_own_table (standing kind.Route r a) t
own_same a b r t kept = go (standing kind.Route r a) refl
  where
    go : (w : Option Object) → standing kind.Route r a ≡ w → is_own_table (standing kind.Route r b) t ≡ is_own_table w t
    go None e = none (standing kind.Route r b) refl
      where
        none : (w : Option Object) → standing kind.Route r b ≡ w → is_own_table w t ≡ false
        none None g = refl
        none (Some x) g = absurd (let k = kept.back x g in none_some e k.1)
    go (Some o) e = let k = kept.on o e in ap (λ w. is_own_table w t) k.1 ∙ ap (λ u. is_table_of u t.body) k.2.uid

pub foreign_same : (a b : State) (r : Name) → KeptAt kind.Route r a b → standing kind.Table r b ≡ standing kind.Table r a → is_foreign b r ≡ is_foreign a r
unfolding is_foreign
foreign_same a b r kept same = ap (is_given (λ (t : Object). not (is_own_table (standing kind.Route r b) t))) same ∙ go (standing kind.Table r a)
  where
    go : (w : Option Object) → is_given (λ (t : Object). not (is_own_table (standing kind.Route r b) t)) w ≡ is_given (λ (t : Object). not (is_own_table (standing kind.Route r a) t)) w
    go None = refl
    go (Some t) = ap not (own_same a b r t kept)

pub late_same : (a b : State) (domain : List ℕ) (r : Name) → KeptAt kind.Route r a b → assigned_at stored b r ≡ assigned_at stored a r → standing kind.Table r b ≡ standing kind.Table r a → is_late b domain r ≡ is_late a domain r
unfolding is_late
late_same a b domain r kept all same = ap (is_late_for b domain r (standing kind.Route r b)) all ∙ go (standing kind.Route r a) refl (assigned_at stored a r)
  where
    go : (w : Option Object) → standing kind.Route r a ≡ w → (ms : Option (List Meant)) → is_late_for b domain r (standing kind.Route r b) ms ≡ is_late_for a domain r w ms
    go None e ms = none (standing kind.Route r b) refl
      where
        none : (w : Option Object) → standing kind.Route r b ≡ w → is_late_for b domain r w ms ≡ false
        none None g = refl
        none (Some x) g = absurd (let k = kept.back x g in none_some e k.1)
    go (Some o) e None = let k = kept.on o e in ap (λ w. is_late_for b domain r w None) k.1
    go (Some o) e (Some ms) = let k = kept.on o e in ap (λ w. is_late_for b domain r w (Some ms)) k.1 ∙ (λ i. is_some (published r (same i) (Table (k.2.uid i) (assigned_rows r domain ms) (assigned_targets r domain ms))))

-- whether the Revision stands without the pin
abbrev pub is_bare : State → Name → Name → Bool
is_bare st r v = is_some (unpinned r.name (standing kind.Revision v st))

pub one_less : (t u : Bool) → (t ≡ true → u ≡ true) → one_if t ≤ one_if u
one_less false u h = omega arith
one_less true true h = omega arith
one_less true false h = absurd (not_both (h refl) refl)

pub lacking_less : (a b : State) (r : Name) (ms : List Meant) → ((m : Meant) → In m ms → is_bare b r (beside r m.name) ≡ true → is_bare a r (beside r m.name) ≡ true) → lacking b r ms ≤ lacking a r ms
unfolding lacking
lacking_less a b r [] h = omega arith
lacking_less a b r (m ∷ ms) h = let x = one_less (is_bare b r (beside r m.name)) (is_bare a r (beside r m.name)) (h m First) in let y = lacking_less a b r ms (λ n i. h n (Later i)) in omega arith

pub lacking_falls : (a b : State) (r : Name) (ms : List Meant) → ((m : Meant) → In m ms → is_bare b r (beside r m.name) ≡ true → is_bare a r (beside r m.name) ≡ true) → (m : Meant) → In m ms → is_bare a r (beside r m.name) ≡ true → is_bare b r (beside r m.name) ≡ false → suc (lacking b r ms) ≤ lacking a r ms
unfolding lacking
lacking_falls a b r (n ∷ ms) h m (Later i) was now = let x = one_less (is_bare b r (beside r n.name)) (is_bare a r (beside r n.name)) (h n First) in let y = lacking_falls a b r ms (λ k j. h k (Later j)) m i was now in omega arith
lacking_falls a b r (_ ∷ ms) h m First was now = let x : one_if (is_bare b r (beside r m.name)) ≡ 0 = ap one_if now in let y : one_if (is_bare a r (beside r m.name)) ≡ 1 = ap one_if was in let z = lacking_less a b r ms (λ k j. h k (Later j)) in omega arith
lacking_falls a b r [] h m i was now = elim i [ ]

pub bare_some : (r : Name) (v : Name) (st : State) (o : Object) → standing kind.Revision v st ≡ Some o → listed r.name (pins_of o.body) ≡ false → is_bare st r v ≡ true
bare_some r v st o e l = ap (λ w. is_some (unpinned r.name w)) e ∙ ap (λ t. is_some (cond t None (Some o))) l

pub bare_pinned : (r : Name) (v : Name) (st : State) (o : Object) → standing kind.Revision v st ≡ Some o → listed r.name (pins_of o.body) ≡ true → is_bare st r v ≡ false
bare_pinned r v st o e l = ap (λ w. is_some (unpinned r.name w)) e ∙ ap (λ t. is_some (cond t None (Some o))) l

pub record Bare (st : State) (r v : Name) : Type 0 where
  pub object : Object
  pub stands : standing kind.Revision v st ≡ Some object
  pub lacks : listed r.name (pins_of object.body) ≡ false

pub bare_is : (st : State) (r v : Name) → is_bare st r v ≡ true → Bare st r v
bare_is st r v e = go (standing kind.Revision v st) refl e
  where
    go : (w : Option Object) → standing kind.Revision v st ≡ w → is_some (unpinned r.name w) ≡ true → Bare st r v
    go None s e = absurd cc
    go (Some o) s e = by (listed r.name (pins_of o.body)) refl e
      where
        by : (t : Bool) → listed r.name (pins_of o.body) ≡ t → is_some (cond t None (Some o)) ≡ true → Bare st r v
        by true l e = absurd cc
        by false l e = record { object = o; stands = s; lacks = l }
