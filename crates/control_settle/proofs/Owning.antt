-- Once nothing is to be done before its status, each round of a Route lowers what is left at it, until nothing is.
use Rattle.std.proofs.Common.{◌≡◌, ◌≢◌, ℕ, suc, ◌≤◌, Bool, true, false, cond, not, ◌&&◌, ◌||◌, List, [], ◌∷◌, map, Option, Some, None, bytes_eq, refl, sym, ap, ◌∙◌, arith}
use Rattle.std.specs.Prelude.{is_some, find}
use Rattle.resource_types.specs.declared.names.Kind.TheVariants as kind
use Rattle.resource_types.specs.declared.names.Controller.TheVariants as controller
use Rattle.resource_types.specs.declared.names.Name.{Name}
use Rattle.resource_types.specs.declared.specification.Row.{Row}
use Rattle.resource_types.specs.declared.status.ObjectStatus.{ObjectStatus}
use Rattle.resource_types.specs.declared.objects.Body.{Body}
use Rattle.resource_types.specs.declared.objects.Body.TheVariants.{Service, Configuration, Revision, Route, Health, Table}
use Rattle.resource_types.specs.declared.objects.Object.{Object}
use Rattle.resource_types.specs.Objects.{is_of, no_status, pins_of, status_of, kind_of_body, same_kind}
use Rattle.resource_types.specs.Lookups.{State, is_given, of_kind}
use Rattle.resource_types.proofs.Exact.{left as and_left}
use Rattle.control_rules.specs.declared.settings.Settings.{Settings}
use Rattle.control_rules.specs.Slots.{slot_key}
use Rattle.control_rules.specs.Standing.{key_at, listed, standing, read, is_table_of, target_names, published_targets, published_of, published_at, traffic_at, with_pins, beside}
use Rattle.control_rules.specs.Resolution.{stored, Meant}
use Rattle.control_rules.specs.TrafficStatuses.{published_or_none, route_status}
use Rattle.control_rules.specs.Readings.{own_targets, route_status_in}
use Rattle.control_rules.specs.Differences.{ObjectPlan, given, timed, untimed, same_untimed, status_change}
use Rattle.control_rules.specs.Next.{next_write}
use Rattle.control_rules.specs.NextRoute.{drop_pin, is_spare, first_spare, repinned, is_own_table, published, table_of, assigned_at, route_status_differs, pin_spare, unpinned}
use Rattle.control_rules.proofs.Same.{same_untimed-exact}
use Rattle.control_settle.specs.Burden.{one_if, weigh}
use Rattle.control_settle.specs.Left.{is_foreign, lacking, lacking_if, is_late, is_late_for, ahead, is_excess, excess, is_wrong, left}
use Rattle.control_settle.proofs.Machine.{In, First, Later}
use Rattle.control_entries.proofs.Changes.{Change, stands_other}
use Rattle.control_entries.proofs.Tests.{not_both, not_false}
use Rattle.control_settle.proofs.Lists.{weigh_less}
use Rattle.control_settle.proofs.Likeness.{rebodied, Like, KeptAt, same_kept, like_stands, like_kept, restated_like, repinned_like}
use Rattle.control_settle.proofs.Members.{first_unpinned_is, first_spare_is}
use Rattle.control_settle.proofs.Deeds.{Deed, RemovesRoute, Unpublishes, Pins, Publishes, StatesRoute, Unpins, when_none}
use Rattle.control_settle.proofs.Effects.{Act, restated, replaced}
use Rattle.control_settle.proofs.Known.{restated_status}
use Rattle.control_settle.proofs.Rests.{route_rests}
use Rattle.control_settle.proofs.Past.{filter_in}
use Rattle.control_settle.proofs.Pinning.{repinned_pins}
use Rattle.control_settle.proofs.Grounded.{bare_some}
use Rattle.control_settle.proofs.Lefts.{unpinned_excess, excess_put, excess_like}
use Rattle.control_settle.proofs.Leaving.{route_status_same, wrong_same, resolutions_kept}
use Rattle.control_settle.proofs.Publishing.{listed_behind}
use Rattle.control_settle.proofs.Settling.{Fixed}
use Rattle.resource_types.specs.declared.names.Kind.{Kind}
use Rattle.control_entries.proofs.Bodies.{pins-with_status, drop-listed, untimed-timed, same_untimed-of}

-- ---- nothing is to be done before the status

module _ (domain : List ℕ) (a : State) (r : Name) (zero : ahead domain a r ≡ 0) where
  no_foreign : is_foreign a r ≡ true → ⊥
  unfolding ahead
  no_foreign e = let x : one_if (is_foreign a r) ≡ 1 = ap one_if e in absurd (omega arith)

  no_late : is_late a domain r ≡ true → ⊥
  unfolding ahead
  no_late e = let x : one_if (is_late a domain r) ≡ 1 = ap one_if e in absurd (omega arith)

  no_lacking : lacking_if a r (assigned_at stored a r) ≡ 0
  unfolding ahead
  no_lacking = omega arith

lacking_some : (st : State) (r : Name) (ms : List Meant) (m : Meant) → In m ms → is_some (unpinned r.name (standing kind.Revision (beside r m.name) st)) ≡ true → 1 ≤ lacking st r ms
unfolding lacking
lacking_some st r (n ∷ ms) m (Later i) e = let z = lacking_some st r ms m i e in omega arith
lacking_some st r (_ ∷ ms) m First e = let x : one_if (is_some (unpinned r.name (standing kind.Revision (beside r m.name) st))) ≡ 1 = ap one_if e in omega arith
lacking_some st r [] m i e = elim i [ ]

-- ---- what the status names, the Table names

own_published : (uid : ℕ) (t : Option Object) (x : List ℕ) → listed x (target_names (published_or_none (own_targets uid t))) ≡ true → listed x (read [] published_of t) ≡ true
unfolding listed
own_published uid None x e = absurd cc
own_published uid (Some t) x e = go (is_table_of uid t.body) e
  where
    body : (b : Body) → listed x (target_names (published_targets b)) ≡ true → listed x (published_of b) ≡ true
    body (Table route rows targets) h = listed_behind x (map (λ (row : Row). row.revision) rows) (target_names targets) h
    body (Service template traffic status) h = absurd cc
    body (Configuration template status) h = absurd cc
    body (Revision spec generation pins active status) h = absurd cc
    body (Route traffic status) h = absurd cc
    body (Health owner resources container ever) h = absurd cc

    go : (u : Bool) → listed x (target_names (published_or_none (cond u (Some (published_targets t.body)) None))) ≡ true → listed x (published_of t.body) ≡ true
    go true h = body t.body h
    go false h = absurd cc

-- where the status is right
traffic_published : (domain : List ℕ) (st : State) (r : Name) (x : List ℕ) → is_wrong domain st r ≡ false → listed x (traffic_at st r) ≡ true → listed x (published_at st r) ≡ true
unfolding is_wrong listed route_status
traffic_published domain st r x right_ e = go (standing kind.Route r st) refl e
  where
    go : (w : Option Object) → standing kind.Route r st ≡ w → listed x (target_names (read no_status status_of w).traffic) ≡ true → listed x (published_at st r) ≡ true
    go None s h = absurd cc
    go (Some o) s h =
        let same : same_untimed (status_of o.body) (route_status_in stored domain st r o) ≡ true = not_false (sym (ap (is_given (λ (o : Object). not (same_untimed (status_of o.body) (route_status_in stored domain st r o)))) s) ∙ right_) in
        let traffic : (status_of o.body).traffic ≡ published_or_none (own_targets o.meta.stamp.uid (standing kind.Table r st)) = ap (λ (z : ObjectStatus). z.traffic) (same_untimed-exact (status_of o.body) (route_status_in stored domain st r o) same) in
        own_published o.meta.stamp.uid (standing kind.Table r st) x (sym (ap (λ z. listed x (target_names z)) traffic) ∙ h)

-- ---- where the controller has nothing to write

zeros : (st : State) → weigh (λ (o : Object). 0) st ≡ 0
unfolding weigh
zeros [] = refl
zeros (o ∷ st) = let z = zeros st in omega arith

none_found : (test : Object → Bool) (xs : State) → find test xs ≡ None → (o : Object) → In o xs → test o ≡ false
none_found test (x ∷ xs) e o (Later i) = go (test x) e (λ f. none_found test xs f o i)
  where
    go : (t : Bool) → cond t (Some x) (find test xs) ≡ None → (find test xs ≡ None → test o ≡ false) → test o ≡ false
    go true e ih = absurd cc
    go false e ih = ih e
none_found test (_ ∷ xs) e o First = go (test o) refl e
  where
    go : (t : Bool) → test o ≡ t → cond t (Some o) (find test xs) ≡ None → t ≡ false
    go true g e = absurd cc
    go false g e = refl
none_found test [] e o i = elim i [ ]

right_said : (domain : List ℕ) (st : State) (r : Name) (now : ℕ) → route_status_differs domain st r now ≡ None → is_wrong domain st r ≡ false
unfolding is_wrong given
right_said domain st r now e = go (standing kind.Route r st) e
  where
    go : (w : Option Object) → given w (λ o. status_change o (route_status_in stored domain st r o) now) ≡ None → is_given (λ (o : Object). not (same_untimed (status_of o.body) (route_status_in stored domain st r o))) w ≡ false
    go None e = refl
    go (Some o) e = when_none _ _ e

no_spare : (st : State) (r : Name) (now : ℕ) → pin_spare st r now ≡ None → first_spare st r ≡ None
unfolding given
no_spare st r now e = go (first_spare st r) e
  where
    go : (w : Option Object) → given w (λ v. Some (repinned v (drop_pin r.name (pins_of v.body)) now)) ≡ None → w ≡ None
    go None e = refl
    go (Some v) e = absurd cc

-- what is in excess is spare, where the status is right
excess_spare : (domain : List ℕ) (st : State) (r : Name) (o : Object) → is_wrong domain st r ≡ false → is_excess st r o ≡ true → is_spare st r o ≡ true
unfolding is_excess is_spare
excess_spare domain st r o right_ e = go (is_of kind.Revision o && bytes_eq o.key.name.space r.space) (listed r.name (pins_of o.body)) (listed o.key.name.name (published_at st r)) (listed o.key.name.name (traffic_at st r)) (λ t. traffic_published domain st r o.key.name.name right_ t) e
  where
    go : (x y p t : Bool) → (t ≡ true → p ≡ true) → (x && (y && not p)) ≡ true → (x && (y && not (p || t))) ≡ true
    go true true false false h e = refl
    go true true false true h e = absurd (not_both (h refl) refl)
    go true true true t h e = absurd cc
    go true false p t h e = absurd cc
    go false y p t h e = absurd cc

excess_of : (st : State) (r : Name) (o : Object) → is_excess st r o ≡ true → is_of kind.Revision o ≡ true
unfolding is_excess
excess_of st r o e = go (is_of kind.Revision o) _ _ e
  where
    go : (x y z : Bool) → ((x && y) && z) ≡ true → x ≡ true
    go true y z e = refl
    go false y z e = absurd cc

no_excess_left : (domain : List ℕ) (st : State) (r : Name) → is_wrong domain st r ≡ false → first_spare st r ≡ None → excess st r ≡ 0
unfolding excess first_spare
no_excess_left domain st r right_ none =
    let z = weigh_less (λ o. one_if (is_excess st r o)) (λ o. 0) st (λ o i. each o i (is_excess st r o) refl) in
    let w = zeros st in
    omega arith
  where
    each : (o : Object) → In o st → (t : Bool) → is_excess st r o ≡ t → one_if t ≤ 0
    each o i false e = omega arith
    each o i true e = absurd (
        let is = excess_of st r o e in
        let member : In o (of_kind kind.Revision st) = filter_in (λ (p : Object). same_kind p.key.kind kind.Revision) st o i (and_left (same_kind o.key.kind kind.Revision) (same_kind (kind_of_body o.body) kind.Revision) is) in
        not_both (excess_spare domain st r o right_ e) (none_found (is_spare st r) (of_kind kind.Revision st) none o member))

is_foreign_by : (a : State) (r : Name) (t : Object) → standing kind.Table r a ≡ Some t → is_own_table (standing kind.Route r a) t ≡ false → is_foreign a r ≡ true
unfolding is_foreign
is_foreign_by a r t at foreign = ap (is_given (λ (t : Object). not (is_own_table (standing kind.Route r a) t))) at ∙ ap not foreign

late_by : (domain : List ℕ) (a : State) (r : Name) (o : Object) (ms : List Meant) (p : ObjectPlan) → standing kind.Route r a ≡ Some o → assigned_at stored a r ≡ Some ms → published r (standing kind.Table r a) (table_of r domain o ms) ≡ Some p → is_late a domain r ≡ true
unfolding is_late
late_by domain a r o ms p at all some = ap (λ w. is_late_for a domain r w (assigned_at stored a r)) at ∙ ap (is_late_for a domain r (Some o)) all ∙ ap is_some some

module _ (settings : Settings) (now : ℕ) where
  pub left_rests : (r : Name) (a : State) → next_write settings (slot_key controller.Route r) a now ≡ None → left settings.domain a r ≡ 0
  unfolding left
  left_rests r a e =
      let s = route_rests settings now a r e in
      let right_ = right_said settings.domain a r now s.said in
      let x = no_excess_left settings.domain a r right_ (no_spare a r now s.spared) in
      let y : one_if (is_wrong settings.domain a r) ≡ 0 = ap one_if right_ in
      omega arith

  module _ (r : Name) (n : ℕ) (a b : State) (act : Act settings now n (slot_key controller.Route r) a b) (fixed : Fixed settings.domain a) where
    like : (o : Object) → Like o (restated settings n now a kind.Route r o)
    like o = restated_like n now o (timed (status_of o.body) (route_status_in stored settings.domain a r o) now)

    kept_by : (k : Kind) (w : Name) (x : Option Object) → Change (key_at k w) x a b → (k ≢ kind.Revision) → (v : Name) → KeptAt kind.Revision v a b
    kept_by k w x h apart v = same_kept kind.Revision v a b (stands_other (key_at k w) x a b h kind.Revision apart v)

    stated : (o : Object) → standing kind.Route r a ≡ Some o → same_untimed (status_of o.body) (route_status_in stored settings.domain a r o) ≡ false → Change (key_at kind.Route r) (Some (restated settings n now a kind.Route r o)) a b → suc (left settings.domain b r) ≤ left settings.domain a r
    unfolding left is_wrong
    stated o at differs h =
        let table : standing kind.Table r b ≡ standing kind.Table r a = stands_other _ _ a b h kind.Table (λ e. cc) r in
        let new : standing kind.Route r b ≡ Some (restated settings n now a kind.Route r o) = like_stands a b kind.Route r o _ h at (like o) in
        let l = like o in
        let due : route_status_in stored settings.domain b r (restated settings n now a kind.Route r o) ≡ route_status_in stored settings.domain a r o =
        route_status_same settings.domain a b r o (restated settings n now a kind.Route r o) l.generation l.uid l.targets table (resolutions_kept settings now (slot_key controller.Route r) n a b act fixed.calm (kept_by kind.Route r _ h (λ e. cc)) r o at) in
        let right_ : same_untimed (status_of (restated settings n now a kind.Route r o).body) (route_status_in stored settings.domain b r (restated settings n now a kind.Route r o)) ≡ true =
        same_untimed-of _ _ (ap untimed (restated_status settings n now a kind.Route r o refl at) ∙ untimed-timed (status_of o.body) (route_status_in stored settings.domain a r o) now ∙ ap untimed (sym due)) in
        let is : one_if (is_wrong settings.domain b r) ≡ 0 = ap (λ w. one_if (is_given (λ (o : Object). not (same_untimed (status_of o.body) (route_status_in stored settings.domain b r o))) w)) new ∙ ap (λ t. one_if (not t)) right_ in
        let was : one_if (is_wrong settings.domain a r) ≡ 1 = ap (λ w. one_if (is_given (λ (o : Object). not (same_untimed (status_of o.body) (route_status_in stored settings.domain a r o))) w)) at ∙ ap (λ t. one_if (not t)) differs in
        let x = excess_like n now a b r (ap (read [] published_of) table) kind.Route r o _ at h (like o) (λ _. ap (listed r.name) (pins-with_status _ o.body)) in
        omega arith

    dropped : (v : Object) (moment : Option ℕ) → standing kind.Revision v.key.name a ≡ Some v → is_spare a r v ≡ true → route_status_differs settings.domain a r now ≡ None → Change (key_at kind.Revision v.key.name) (Some (rebodied n now v (with_pins (drop_pin r.name (pins_of v.body)) moment v.body))) a b → suc (left settings.domain b r) ≤ left settings.domain a r
    unfolding left is_spare is_excess
    dropped v moment at spare said h =
        let table : standing kind.Table r b ≡ standing kind.Table r a = stands_other _ _ a b h kind.Table (λ e. cc) r in
        let route : standing kind.Route r b ≡ standing kind.Route r a = stands_other _ _ a b h kind.Route (λ e. cc) r in
        let kept = like_kept a b (key_at kind.Revision v.key.name) v _ kind.Revision v.key.name h refl at (repinned_like n now v (drop_pin r.name (pins_of v.body)) moment) kind.Revision in
        let w : one_if (is_wrong settings.domain b r) ≡ one_if (is_wrong settings.domain a r) = ap one_if (wrong_same settings.domain a b r route table (λ o e. resolutions_kept settings now (slot_key controller.Route r) n a b act fixed.calm kept r o e)) in
        let old : one_if (is_excess a r v) ≡ 1 = ap one_if (over (is_of kind.Revision v && bytes_eq v.key.name.space r.space) (listed r.name (pins_of v.body)) (listed v.key.name.name (published_at a r)) (listed v.key.name.name (traffic_at a r)) spare) in
        let new : one_if (is_excess b r (rebodied n now v (with_pins (drop_pin r.name (pins_of v.body)) moment v.body))) ≡ 0 =
        ap one_if (unpinned_excess b r (rebodied n now v (with_pins (drop_pin r.name (pins_of v.body)) moment v.body)) (ap (listed r.name) (repinned_pins n now a v.key.name v (drop_pin r.name (pins_of v.body)) moment at) ∙ drop-listed r.name (pins_of v.body))) in
        let x = excess_put n now a b r (ap (read [] published_of) table) kind.Revision v.key.name v _ at h in
        omega arith
      where
        over : (x y p t : Bool) → (x && (y && not (p || t))) ≡ true → (x && (y && not p)) ≡ true
        over true true false t e = refl
        over true true true t e = absurd cc
        over true false p t e = absurd cc
        over false y p t e = absurd cc

    pub left_own : suc (left settings.domain b r) ≤ left settings.domain a r
    left_own = go act.deed
      where
        go : Deed settings now a controller.Route r act.plan → suc (left settings.domain b r) ≤ left settings.domain a r
        go (RemovesRoute o at gone e) = absurd (not_both gone (fixed.calm.informed.settled.kin_route r o at))
        go (Unpublishes t at foreign e) = absurd (no_foreign settings.domain a r (fixed.level r) (is_foreign_by a r t at foreign))
        go (Pins ms v mine all lacks p) =
            let l = first_unpinned_is a r ms v lacks in
            let x = lacking_some a r ms l.target l.among (bare_some r _ a v l.stands l.bare) in
            let y = no_lacking settings.domain a r (fixed.level r) in
            let z = ap (lacking_if a r) all in
            absurd (omega arith)
        go (Publishes o ms mine lacks at all some) = absurd (no_late settings.domain a r (fixed.level r) (late_by settings.domain a r o ms act.plan at all some))
        go (StatesRoute o mine lacks flat at differs e) = stated o at differs (replaced n now a b act.before kind.Route r o _ act.plan at e act.written)
        go (Unpins v mine lacks flat said spare e) = let s = first_spare_is a r v act.order spare in dropped v _ s.0 s.1 said (replaced n now a b act.before kind.Revision v.key.name v _ act.plan s.0 e act.written)

    -- its Table stays
    pub own_table : standing kind.Table r b ≡ standing kind.Table r a
    own_table = go act.deed
      where
        go : Deed settings now a controller.Route r act.plan → standing kind.Table r b ≡ standing kind.Table r a
        go (RemovesRoute o at gone e) = absurd (not_both gone (fixed.calm.informed.settled.kin_route r o at))
        go (Unpublishes t at foreign e) = absurd (no_foreign settings.domain a r (fixed.level r) (is_foreign_by a r t at foreign))
        go (Pins ms v mine all lacks p) = let l = first_unpinned_is a r ms v lacks in stands_other _ _ a b (replaced n now a b act.before kind.Revision _ v _ act.plan l.stands p act.written) kind.Table (λ e. cc) r
        go (Publishes o ms mine lacks at all some) = absurd (no_late settings.domain a r (fixed.level r) (late_by settings.domain a r o ms act.plan at all some))
        go (StatesRoute o mine lacks flat at differs e) = stands_other _ _ a b (replaced n now a b act.before kind.Route r o _ act.plan at e act.written) kind.Table (λ e. cc) r
        go (Unpins v mine lacks flat said spare e) = let s = first_spare_is a r v act.order spare in stands_other _ _ a b (replaced n now a b act.before kind.Revision v.key.name v _ act.plan s.0 e act.written) kind.Table (λ e. cc) r
