-- Once all is calm, what is to be done at a Route before its status falls with each round of its own, and rises in no round.
use Rattle.std.proofs.Common.{◌≡◌, ◌≢◌, ◌⊎◌, inl, inr, ℕ, suc, ◌-◌, ◌≤◌, ◌==◌, Bool, true, false, cond, not, ◌&&◌, ◌||◌, List, Option, Some, None, bytes_eq, refl, sym, ap, ◌∙◌, subst, arith}
use Rattle.std.specs.Prelude.{is_some}
use Rattle.std.proofs.lemmas.Bool.Decides.{nat_tests}
use Rattle.resource_types.specs.declared.names.Kind.TheVariants as kind
use Rattle.resource_types.specs.declared.names.Controller.{Controller}
use Rattle.resource_types.specs.declared.names.Controller.TheVariants as controller
use Rattle.resource_types.specs.declared.names.Name.{Name}
use Rattle.resource_types.specs.declared.names.SlotKey.{SlotKey}
use Rattle.resource_types.specs.declared.objects.Body.TheVariants.{Table}
use Rattle.resource_types.specs.declared.objects.Object.{Object}
use Rattle.resource_types.specs.Objects.{pins_of, is_of, kind_of_body}
use Rattle.resource_types.specs.Lookups.{State, is_given}
use Rattle.control_rules.specs.declared.settings.Settings.{Settings}
use Rattle.control_rules.specs.Slots.{slot_key}
use Rattle.control_rules.specs.Standing.{beside, key_at, listed, standing, is_table_of, published_at, with_pins, traffic_at}
use Rattle.control_rules.specs.Resolution.{Meant, stored, assigned_rows, assigned_targets}
use Rattle.control_rules.specs.Differences.{ObjectPlan, when, replacement}
use Rattle.control_rules.specs.Next.{next_write}
use Rattle.control_rules.specs.NextRoute.{add_pin, drop_pin, unpinned, first_unpinned, is_spare, assigned_at, is_own_table, table_of, same_body, published, table_foreign, table_differs, pin_lacking}
use Rattle.control_rules.proofs.Same.{same_body-own, same_body-exact}
use Rattle.control_settle.specs.Burden.{one_if}
use Rattle.control_settle.specs.Left.{is_foreign, lacking, lacking_if, is_late_for, is_late, ahead}
use Rattle.control_settle.proofs.Machine.{In}
use Rattle.control_entries.proofs.Changes.{Change, stands_other, stands_elsewhere, gone_here, put_here}
use Rattle.control_entries.proofs.Tests.{not_both, none_some}
use Rattle.control_entries.proofs.Standing.{key_or_not, is_of_both}
use Rattle.control_settle.proofs.Likeness.{rebodied, KeptAt, like_stands, repinned_like}
use Rattle.control_settle.proofs.Members.{Lacks, first_unpinned_is, first_spare_is}
use Rattle.control_settle.proofs.Deeds.{Deed, RemovesRoute, Unpublishes, Pins, Publishes, StatesRoute, Unpins}
use Rattle.control_settle.proofs.Effects.{Act, IsTableOf, published_is, replaced, removed}
use Rattle.control_settle.proofs.Settled.{settled_kept}
use Rattle.control_settle.proofs.Rests.{route_rests}
use Rattle.control_settle.proofs.Calming.{Calm, informed_kept}
use Rattle.control_settle.proofs.Sighted.{assigned_kept}
use Rattle.control_settle.proofs.Pinning.{repinned_pins, PinsFrom, Had, Born, pins_from, table_same}
use Rattle.control_settle.proofs.Publishing.{is_published, meant_published}
use Rattle.control_settle.proofs.Grounded.{assigned_stands, one_most, level, foreign_same, late_same, is_bare, lacking_less, lacking_falls, bare_some, bare_pinned, Bare, bare_is}
use Rattle.resource_types.proofs.Exact.{right}
use Rattle.control_entries.proofs.Bodies.{add-listed}

-- by what is read
frame : (domain : List ℕ) (a b : State) (r : Name) → KeptAt kind.Route r a b → assigned_at stored b r ≡ assigned_at stored a r → standing kind.Table r b ≡ standing kind.Table r a
    → ((ms : List Meant) → assigned_at stored a r ≡ Some ms → (m : Meant) → In m ms → is_bare b r (beside r m.name) ≡ true → is_bare a r (beside r m.name) ≡ true) → ahead domain b r ≤ ahead domain a r
unfolding ahead
frame domain a b r kept all table bare =
    let x : one_if (is_foreign b r) ≡ one_if (is_foreign a r) = ap one_if (foreign_same a b r kept table) in
    let y : one_if (is_late b domain r) ≡ one_if (is_late a domain r) = ap one_if (late_same a b domain r kept all table) in
    let z : lacking_if b r (assigned_at stored b r) ≤ lacking_if a r (assigned_at stored a r) = subst (λ w. lacking_if b r w ≤ lacking_if a r (assigned_at stored a r)) (sym all) (less (assigned_at stored a r) refl) in
    omega arith
  where
    less : (w : Option (List Meant)) → assigned_at stored a r ≡ w → lacking_if b r w ≤ lacking_if a r w
    less None e = omega arith
    less (Some ms) e = lacking_less a b r ms (bare ms e)

bare_by : (a b : State) (r v : Name) → standing kind.Revision v b ≡ standing kind.Revision v a → is_bare b r v ≡ true → is_bare a r v ≡ true
bare_by a b r v same e = sym (ap (λ w. is_some (unpinned r.name w)) same) ∙ e

module _ (settings : Settings) (now : ℕ) where
  -- a round of another
  others : (key : SlotKey) (n : ℕ) (a b : State) → Act settings now n key a b → Calm a → (r : Name) → (key.controller ≡ controller.Route → key.name ≢ r) → ahead settings.domain b r ≤ ahead settings.domain a r
  others key n a b act calm r other =
      let known = (informed_kept settings now key n a b act calm.informed).known in
      let all = assigned_kept settings n now key.controller key.name a b act.before act.after act.order act.effect calm known r in
      frame settings.domain a b r (settled_kept settings n now key.controller key.name a b calm.informed.settled act.effect kind.Route refl r) all (table_same settings n now key.controller key.name a b r other act.effect) (λ ms e m i. bare ms e m i)
    where
      bare : (ms : List Meant) → assigned_at stored a r ≡ Some ms → (m : Meant) → In m ms → is_bare b r (beside r m.name) ≡ true → is_bare a r (beside r m.name) ≡ true
      bare ms e m i now_bare = go (bare_is b r (beside r m.name) now_bare)
        where
          go : Bare b r (beside r m.name) → is_bare a r (beside r m.name) ≡ true
          go x = by (pins_from settings n now key.controller key.name a b r other act.effect (beside r m.name) x.object refl x.stands)
            where
              by : PinsFrom r (beside r m.name) x.object a → is_bare a r (beside r m.name) ≡ true
              by (Had o at same) = bare_some r (beside r m.name) a o at (sym same ∙ x.lacks)
              by (Born none pins) = absurd (let s = assigned_stands a r ms e m i in none_some none s.is)

  module _ (r : Name) (n : ℕ) (a b : State) (act : Act settings now n (slot_key controller.Route r) a b) (calm : Calm a) where
    kept : KeptAt kind.Route r a b
    kept = settled_kept settings n now controller.Route r a b calm.informed.settled act.effect kind.Route refl r

    all : assigned_at stored b r ≡ assigned_at stored a r
    all = assigned_kept settings n now controller.Route r a b act.before act.after act.order act.effect calm (informed_kept settings now (slot_key controller.Route r) n a b act calm.informed).known r

    equal_self : (u : ℕ) → (u == u) ≡ true
    equal_self u = grind (arith, nat_tests)

    -- a Table that isn't the Route's is not what is to be published
    foreign_differs : (t o : Object) (ms : List Meant) → standing kind.Route r a ≡ Some o → is_own_table (standing kind.Route r a) t ≡ false → same_body t.body (table_of r settings.domain o ms) ≡ false
    foreign_differs t o ms at foreign = go (same_body t.body (table_of r settings.domain o ms)) refl
      where
        go : (u : Bool) → same_body t.body (table_of r settings.domain o ms) ≡ u → u ≡ false
        go false e = refl
        go true e = absurd (not_both (ap (is_table_of o.meta.stamp.uid) (same_body-exact t.body (table_of r settings.domain o ms) e) ∙ equal_self o.meta.stamp.uid) (sym (ap (λ w. is_own_table w t) at) ∙ foreign))

    unpublished : (t : Object) → standing kind.Table r a ≡ Some t → is_own_table (standing kind.Route r a) t ≡ false → Change (key_at kind.Table r) None a b → suc (ahead settings.domain b r) ≤ ahead settings.domain a r
    unfolding ahead is_foreign is_late published when
    unpublished t at foreign h =
        let gone : standing kind.Table r b ≡ None = gone_here _ a b h kind.Table r refl in
        let x : one_if (is_foreign b r) ≡ 0 = ap (λ w. one_if (is_given (λ (t : Object). not (is_own_table (standing kind.Route r b) t)) w)) gone in
        let y : one_if (is_foreign a r) ≡ 1 = ap (λ w. one_if (is_given (λ (t : Object). not (is_own_table (standing kind.Route r a) t)) w)) at ∙ ap (λ t. one_if (not t)) foreign in
        let z : lacking_if b r (assigned_at stored b r) ≤ lacking_if a r (assigned_at stored a r) = subst (λ w. lacking_if b r w ≤ lacking_if a r (assigned_at stored a r)) (sym all) (less (assigned_at stored a r)) in
        let l : one_if (is_late b settings.domain r) ≤ one_if (is_late a settings.domain r) = subst (λ w. one_if (is_late_for b settings.domain r (standing kind.Route r b) w) ≤ one_if (is_late a settings.domain r)) (sym all) (late (standing kind.Route r a) refl (assigned_at stored a r)) in
        omega arith
      where
        less : (w : Option (List Meant)) → lacking_if b r w ≤ lacking_if a r w
        less None = omega arith
        less (Some ms) = lacking_less a b r ms (λ m i e. bare_by a b r (beside r m.name) (stands_other _ _ a b h kind.Revision (λ e. cc) (beside r m.name)) e)

        late : (w : Option Object) → standing kind.Route r a ≡ w → (ms : Option (List Meant)) → one_if (is_late_for b settings.domain r (standing kind.Route r b) ms) ≤ one_if (is_late_for a settings.domain r w ms)
        late None e ms = let same = stands_other _ _ a b h kind.Route (λ e. cc) r ∙ e in let z = ap (λ w. one_if (is_late_for b settings.domain r w ms)) same in omega arith
        late (Some o) e None = let same = stands_other _ _ a b h kind.Route (λ e. cc) r ∙ e in let z = ap (λ w. one_if (is_late_for b settings.domain r w None)) same in omega arith
        late (Some o) e (Some ms) =
            let u = one_most (is_late_for b settings.domain r (standing kind.Route r b) (Some ms)) in
            let v : one_if (is_some (published r (standing kind.Table r a) (table_of r settings.domain o ms))) ≡ 1 =
            ap (λ w. one_if (is_some (published r w (table_of r settings.domain o ms)))) at ∙ ap (λ t. one_if (is_some (cond (not t) (Some (replacement foreign_one (table_of r settings.domain o ms))) None))) (foreign_differs t o ms e foreign) in
            omega arith
          where
            foreign_one : Object
            foreign_one = t

    pinned : (ms : List Meant) (v : Object) → assigned_at stored a r ≡ Some ms → first_unpinned a r ms ≡ Some v → (w : Name) (moment : Option ℕ) → (l : Lacks a r ms v) → Change (key_at kind.Revision (beside r l.target.name)) (Some (rebodied n now v (with_pins (add_pin r.name (pins_of v.body)) moment v.body))) a b → suc (ahead settings.domain b r) ≤ ahead settings.domain a r
    unfolding ahead
    pinned ms v e lacks w moment l h =
        let x : one_if (is_foreign b r) ≡ one_if (is_foreign a r) = ap one_if (foreign_same a b r kept (stands_other _ _ a b h kind.Table (λ e. cc) r)) in
        let y : one_if (is_late b settings.domain r) ≡ one_if (is_late a settings.domain r) = ap one_if (late_same a b settings.domain r kept all (stands_other _ _ a b h kind.Table (λ e. cc) r)) in
        let p : lacking_if b r (assigned_at stored b r) ≡ lacking b r ms = ap (lacking_if b r) (all ∙ e) in
        let q : lacking_if a r (assigned_at stored a r) ≡ lacking a r ms = ap (lacking_if a r) e in
        let z = lacking_falls a b r ms bare l.target l.among (bare_some r (beside r l.target.name) a v l.stands l.bare) now_pinned in
        omega arith
      where
        new : standing kind.Revision (beside r l.target.name) b ≡ Some (rebodied n now v (with_pins (add_pin r.name (pins_of v.body)) moment v.body))
        new = like_stands a b kind.Revision (beside r l.target.name) v (rebodied n now v (with_pins (add_pin r.name (pins_of v.body)) moment v.body)) h l.stands (repinned_like n now v (add_pin r.name (pins_of v.body)) moment)

        now_pinned : is_bare b r (beside r l.target.name) ≡ false
        now_pinned = bare_pinned r (beside r l.target.name) b (rebodied n now v (with_pins (add_pin r.name (pins_of v.body)) moment v.body)) new (ap (listed r.name) (repinned_pins n now a (beside r l.target.name) v (add_pin r.name (pins_of v.body)) moment l.stands) ∙ add-listed r.name (pins_of v.body))

        bare : (m : Meant) → In m ms → is_bare b r (beside r m.name) ≡ true → is_bare a r (beside r m.name) ≡ true
        bare m i t = go (key_or_not (key_at kind.Revision (beside r l.target.name)) (key_at kind.Revision (beside r m.name)))
          where
            go : (key_at kind.Revision (beside r l.target.name) ≡ key_at kind.Revision (beside r m.name)) ⊎ (key_at kind.Revision (beside r l.target.name) ≢ key_at kind.Revision (beside r m.name)) → is_bare a r (beside r m.name) ≡ true
            go (inl q) = absurd (not_both t (subst (λ k. is_bare b r k.name ≡ false) q now_pinned))
            go (inr apart) = bare_by a b r (beside r m.name) (stands_elsewhere _ _ a b h kind.Revision (beside r m.name) apart) t

    published_now : (o : Object) (ms : List Meant) (p : ObjectPlan) → table_foreign a r ≡ None → standing kind.Route r a ≡ Some o → assigned_at stored a r ≡ Some ms → published r (standing kind.Table r a) (table_of r settings.domain o ms) ≡ Some p → (t : IsTableOf n now r (table_of r settings.domain o ms) a b) → suc (ahead settings.domain b r) ≤ ahead settings.domain a r
    unfolding ahead is_foreign is_late published when
    published_now o ms p own at e some t =
        let new : standing kind.Table r b ≡ Some t.x = put_here _ t.x a b t.change kind.Table r refl (is_of_both kind.Table t.x (ap (λ k. k.kind) t.change.puts) (ap kind_of_body t.has)) in
        let k = kept.on o at in
        let body : t.x.body ≡ table_of r settings.domain k.0 ms = t.has ∙ (λ i. Table (sym k.2.uid i) (assigned_rows r settings.domain ms) (assigned_targets r settings.domain ms)) in
        let mine : is_own_table (standing kind.Route r b) t.x ≡ true = ap (λ w. is_own_table w t.x) k.1 ∙ ap (is_table_of k.0.meta.stamp.uid) body ∙ equal_self k.0.meta.stamp.uid in
        let x : one_if (is_foreign b r) ≡ 0 = ap (λ w. one_if (is_given (λ (t : Object). not (is_own_table (standing kind.Route r b) t)) w)) new ∙ ap (λ t. one_if (not t)) mine in
        let y : one_if (is_late a settings.domain r) ≡ 1 = ap (λ w. one_if (is_late_for a settings.domain r w (assigned_at stored a r))) at ∙ ap (λ w. one_if (is_late_for a settings.domain r (Some o) w)) e ∙ ap (λ w. one_if (is_some w)) some in
        let z : one_if (is_late b settings.domain r) ≡ 0 = ap (λ w. one_if (is_late_for b settings.domain r w (assigned_at stored b r))) k.1 ∙ ap (λ w. one_if (is_late_for b settings.domain r (Some k.0) w)) (all ∙ e) ∙ ap (λ w. one_if (is_some (published r w (table_of r settings.domain k.0 ms)))) new ∙ ap (λ t. one_if (is_some (cond (not t) (Some (replacement new_one (table_of r settings.domain k.0 ms))) None))) (ap (λ w. same_body w (table_of r settings.domain k.0 ms)) body ∙ same_body-own (table_of r settings.domain k.0 ms)) in
        let l : lacking_if b r (assigned_at stored b r) ≤ lacking_if a r (assigned_at stored a r) = subst (λ w. lacking_if b r w ≤ lacking_if a r (assigned_at stored a r)) (sym all) (less (assigned_at stored a r)) in
        omega arith
      where
        new_one : Object
        new_one = t.x

        less : (w : Option (List Meant)) → lacking_if b r w ≤ lacking_if a r w
        less None = omega arith
        less (Some ms) = lacking_less a b r ms (λ m i e. bare_by a b r (beside r m.name) (stands_other _ _ a b t.change kind.Revision (λ e. cc) (beside r m.name)) e)

    -- a pin that is dropped is no target's
    dropped : (v : Object) (moment : Option ℕ) → table_foreign a r ≡ None → pin_lacking a r now ≡ None → table_differs settings.domain a r ≡ None → is_spare a r v ≡ true
        → Change (key_at kind.Revision v.key.name) (Some (rebodied n now v (with_pins (drop_pin r.name (pins_of v.body)) moment v.body))) a b → ahead settings.domain b r ≤ ahead settings.domain a r
    unfolding is_spare
    dropped v moment own lacks flat spare h = frame settings.domain a b r kept all (stands_other _ _ a b h kind.Table (λ e. cc) r) bare
      where
        unnamed : listed v.key.name.name (published_at a r) ≡ false
        unnamed = go (listed v.key.name.name (published_at a r)) (listed v.key.name.name (traffic_at a r)) (right (listed r.name (pins_of v.body)) _ (right (is_of kind.Revision v && bytes_eq v.key.name.space r.space) _ spare))
          where
            go : (t u : Bool) → not (t || u) ≡ true → t ≡ false
            go true u e = absurd cc
            go false u e = refl

        bare : (ms : List Meant) → assigned_at stored a r ≡ Some ms → (m : Meant) → In m ms → is_bare b r (beside r m.name) ≡ true → is_bare a r (beside r m.name) ≡ true
        bare ms e m i t = go (key_or_not (key_at kind.Revision v.key.name) (key_at kind.Revision (beside r m.name)))
          where
            go : (key_at kind.Revision v.key.name ≡ key_at kind.Revision (beside r m.name)) ⊎ (key_at kind.Revision v.key.name ≢ key_at kind.Revision (beside r m.name)) → is_bare a r (beside r m.name) ≡ true
            go (inl q) = absurd (not_both (ap (λ k. listed k.name.name (published_at a r)) q ∙ meant_published settings.domain a r ms (is_published settings.domain a r ms e flat) m i) unnamed)
            go (inr apart) = bare_by a b r (beside r m.name) (stands_elsewhere _ _ a b h kind.Revision (beside r m.name) apart) t

    pub own : ahead settings.domain b r ≤ ahead settings.domain a r - 1
    own = go act.deed
      where
        go : Deed settings now a controller.Route r act.plan → ahead settings.domain b r ≤ ahead settings.domain a r - 1
        go (RemovesRoute o at gone e) = absurd (not_both gone (calm.informed.settled.kin_route r o at))
        go (Unpublishes t at foreign e) = let z = unpublished t at foreign (removed n now a b act.before kind.Table r t act.plan at e act.written) in omega arith
        go (Pins ms v mine e lacks p) =
            let l = first_unpinned_is a r ms v lacks in
            let z = pinned ms v e lacks r _ l (replaced n now a b act.before kind.Revision (beside r l.target.name) v _ act.plan l.stands p act.written) in omega arith
        go (Publishes o ms mine lacks at e some) = let z = published_now o ms act.plan mine at e some (published_is n now a b act.before r (standing kind.Table r a) (table_of r settings.domain o ms) act.plan refl some act.written) in omega arith
        go (StatesRoute o mine lacks flat at differs e) =
            let h = replaced n now a b act.before kind.Route r o _ act.plan at e act.written in
            let z = level a settings.domain r now mine lacks flat in
            let w = frame settings.domain a b r kept all (stands_other _ _ a b h kind.Table (λ e. cc) r) (λ ms e m i. bare_by a b r (beside r m.name) (stands_other _ _ a b h kind.Revision (λ e. cc) (beside r m.name))) in
            omega arith
        go (Unpins v mine lacks flat said spare e) =
            let s = first_spare_is a r v act.order spare in
            let z = level a settings.domain r now mine lacks flat in
            let w = dropped v _ mine lacks flat s.1 (replaced n now a b act.before kind.Revision v.key.name v _ act.plan s.0 e act.written) in
            omega arith

  -- in every round
  pub ahead_stays : (key : SlotKey) (n : ℕ) (a b : State) → Act settings now n key a b → Calm a → (r : Name) → ahead settings.domain b r ≤ ahead settings.domain a r
  ahead_stays key n a b act calm r = go key.controller refl (key_or_not (key_at kind.Route key.name) (key_at kind.Route r))
    where
      go : (c : Controller) → key.controller ≡ c → (key_at kind.Route key.name ≡ key_at kind.Route r) ⊎ (key_at kind.Route key.name ≢ key_at kind.Route r) → ahead settings.domain b r ≤ ahead settings.domain a r
      go c e (inr apart) = others key n a b act calm r (λ _ q. apart (ap (key_at kind.Route) q))
      go controller.Route e (inl q) = let z = own r n a b (subst (λ k. Act settings now n k a b) (λ i. record { controller = e i; name = (ap (λ k. k.name) q) i }) act) calm in omega arith
      go controller.Service e (inl q) = others key n a b act calm r (λ f. absurd (let z = sym e ∙ f in cc))
      go controller.Configuration e (inl q) = others key n a b act calm r (λ f. absurd (let z = sym e ∙ f in cc))
      go controller.Revision e (inl q) = others key n a b act calm r (λ f. absurd (let z = sym e ∙ f in cc))
      go controller.Collector e (inl q) = others key n a b act calm r (λ f. absurd (let z = sym e ∙ f in cc))

  -- where the controller has nothing to write
  pub ahead_rests : (r : Name) (a : State) → next_write settings (slot_key controller.Route r) a now ≡ None → ahead settings.domain a r ≡ 0
  ahead_rests r a e = let s = route_rests settings now a r e in level a settings.domain r now s.own s.pinned s.level
