-- What is left at a Route: no round raises it by more than it lowers the burden, and each round of its own lowers it.
use Rattle.std.proofs.Common.{◌≡◌, ◌≢◌, ℕ, ◌+◌, ◌≤◌, true, false, not, List, [], Option, Some, None, refl, sym, ap, ◌∙◌, subst, arith}
use Rattle.resource_types.specs.declared.names.Kind.{Kind}
use Rattle.resource_types.specs.declared.names.Kind.TheVariants as kind
use Rattle.resource_types.specs.declared.names.Controller.{Controller}
use Rattle.resource_types.specs.declared.names.Controller.TheVariants as controller
use Rattle.resource_types.specs.declared.names.Name.{Name}
use Rattle.resource_types.specs.declared.names.SlotKey.{SlotKey}
use Rattle.resource_types.specs.declared.objects.Object.{Object}
use Rattle.resource_types.specs.Objects.{pins_of, status_of, targets_of, same_kind}
use Rattle.resource_types.specs.Lookups.{State, is_given}
use Rattle.control_rules.specs.declared.settings.Settings.{Settings}
use Rattle.control_rules.specs.Standing.{key_at, listed, standing, read, published_of, published_at, is_owned_by_uid}
use Rattle.control_rules.specs.Resolution.{stored, host_of, resolution}
use Rattle.control_rules.specs.TrafficStatuses.{route_status}
use Rattle.control_rules.specs.Readings.{revision_name, own_targets, route_status_in}
use Rattle.control_rules.specs.Differences.{same_untimed}
use Rattle.control_entries.proofs.Bodies.{pins-with_status}
use Rattle.control_settle.specs.Burden.{one_if, burden}
use Rattle.control_settle.specs.Left.{excess, is_wrong, left}
use Rattle.control_settle.specs.Grounds.{IsSoundState}
use Rattle.control_entries.proofs.Changes.{Change, stands_other, stands_elsewhere}
use Rattle.control_entries.proofs.Tests.{not_both, some_same, none_some}
use Rattle.control_entries.proofs.Standing.{is_not}
use Rattle.control_settle.proofs.Likeness.{KeptAt, restated_like, repinned_like}
use Rattle.control_settle.proofs.Members.{sound_key}
use Rattle.control_settle.proofs.Effects.{Act, keeper, Effect, NewConfiguration, NewTemplate, NewRoute, NewTargets, GoneConfiguration, GoneRoute, Restated, NewRevision, GoneRevision, Repinned, GoneTable, NewTable}
use Rattle.control_settle.proofs.Settled.{Settled, is_right}
use Rattle.control_settle.proofs.Burdens.{no_heavier, made_lighter, gone_lighter}
use Rattle.control_settle.proofs.Calming.{Calm, informed_kept}
use Rattle.control_settle.proofs.Sights.{Revisions, Keep, Make, Lose, revisions}
use Rattle.control_settle.proofs.Sighted.{found_kept, resolution_kept}
use Rattle.control_settle.proofs.Pinning.{change_beside, repinned_pins, table_same}
use Rattle.control_settle.proofs.Grounded.{one_most}
use Rattle.control_settle.proofs.Lefts.{no_excess, unpinned_excess, excess_light, excess_gone, excess_like}

listed_nothing : (x : List ℕ) → listed x [] ≡ false
unfolding listed
listed_nothing x = refl

module _ (settings : Settings) (n now : ℕ) (c : Controller) (m : Name) (a b : State) (sound : IsSoundState n a) (r : Name) (others : c ≡ controller.Route → m ≢ r) where
  published_same : Effect settings n now c m a b → published_at b r ≡ published_at a r
  published_same f = ap (read [] published_of) (table_same settings n now c m a b r others f)

  light : (f : Effect settings n now c m a b) (k : Kind) (w : Name) (x : Object) → same_kind k kind.Revision ≡ false → Change (key_at k w) (Some x) a b → excess b r ≤ excess a r
  light f k w x apart h = excess_light n now a b r (published_same f) k w x (no_excess b r x (is_not kind.Revision k x (ap (λ z. z.kind) h.puts) apart)) h

  gone : (f : Effect settings n now c m a b) (k : Kind) (w : Name) (o : Object) → standing k w a ≡ Some o → Change (key_at k w) None a b → excess b r ≤ excess a r
  gone f k w o at h = excess_gone n now a b r (published_same f) k w o at h

  pub excess_others : Effect settings n now c m a b → excess b r ≤ excess a r
  excess_others (NewConfiguration s d at none h) = light (NewConfiguration s d at none h) kind.Configuration m _ refl h
  excess_others (NewTemplate s o d at on owned differs h) = light (NewTemplate s o d at on owned differs h) kind.Configuration m _ refl h
  excess_others (NewRoute s d at none h) = light (NewRoute s d at none h) kind.Route m _ refl h
  excess_others (NewTargets s o d at on owned differs h) = light (NewTargets s o d at on owned differs h) kind.Route m _ refl h
  excess_others (GoneConfiguration o d at going h) = gone (GoneConfiguration o d at going h) kind.Configuration m o at h
  excess_others (GoneRoute o d at going h) = gone (GoneRoute o d at going h) kind.Route m o at h
  excess_others (Restated k o is d at differs h) = excess_like n now a b r (published_same (Restated k o is d at differs h)) k m o _ at h (restated_like n now o _) (λ _. ap (listed r.name) (pins-with_status _ o.body))
  excess_others (NewRevision o d at none h) = excess_light n now a b r (published_same (NewRevision o d at none h)) kind.Revision (revision_name o) _ (unpinned_excess b r _ (listed_nothing r.name)) h
  excess_others (GoneRevision w v d at going h) = gone (GoneRevision w v d at going h) kind.Revision w v at h
  excess_others (Repinned w v ps moment d at space pins h) =
      excess_like n now a b r (published_same (Repinned w v ps moment d at space pins h)) kind.Revision w v _ at h (repinned_like n now v ps moment)
      (λ near. ap (listed r.name) (repinned_pins n now a w v ps moment at)
      ∙ change_beside r.name m.name (pins_of v.body) ps (λ q. others d (λ i. record { space = (sym space ∙ sym (ap (λ k. k.name.space) (sound_key n a sound kind.Revision w v at)) ∙ near) i; name = sym q i })) pins)
  excess_others (GoneTable t d at h) = gone (GoneTable t d at h) kind.Table m t at h
  excess_others (NewTable x d h) = light (NewTable x d h) kind.Table m x refl h

  -- ---- the Route itself

  off : (k : Kind) (w : Name) (o : Option Object) → Change (key_at k w) o a b → (k ≢ kind.Route) → standing kind.Route r b ≡ standing kind.Route r a
  off k w o h apart = stands_other (key_at k w) o a b h kind.Route apart r

  pub route_same : Settled a → Effect settings n now c m a b → standing kind.Route r b ≡ standing kind.Route r a
  route_same settled (NewConfiguration s d at none h) = off kind.Configuration m _ h (λ e. cc)
  route_same settled (NewTemplate s o d at on owned differs h) = off kind.Configuration m _ h (λ e. cc)
  route_same settled (NewRoute s d at none h) = absurd (let o = settled.route m s at in none_some none o.stands)
  route_same settled (NewTargets s o d at on owned differs h) = absurd (let child = settled.route m s at in let same : child.object ≡ o = some_same (sym child.stands ∙ on) in
      not_both (subst (λ z. is_owned_by_uid s.meta.stamp.uid z ≡ true → is_right kind.Route m s z ≡ true) same child.right owned) differs)
  route_same settled (GoneConfiguration o d at going h) = off kind.Configuration m _ h (λ e. cc)
  route_same settled (GoneRoute o d at going h) = absurd (not_both going (settled.kin_route m o at))
  route_same settled (Restated k o is d at differs h) = stands_elsewhere _ _ a b h kind.Route r (λ e. others (d ∙ ap keeper (ap (λ z. z.kind) e)) (ap (λ z. z.name) e))
  route_same settled (NewRevision o d at none h) = off kind.Revision (revision_name o) _ h (λ e. cc)
  route_same settled (GoneRevision w v d at going h) = off kind.Revision w _ h (λ e. cc)
  route_same settled (Repinned w v ps moment d at space pins h) = off kind.Revision w _ h (λ e. cc)
  route_same settled (GoneTable t d at h) = off kind.Table m _ h (λ e. cc)
  route_same settled (NewTable x d h) = off kind.Table m _ h (λ e. cc)

-- ---- whether the status is wrong

pub route_status_same : (domain : List ℕ) (a b : State) (r : Name) (o x : Object) → x.meta.stamp.generation ≡ o.meta.stamp.generation → x.meta.stamp.uid ≡ o.meta.stamp.uid → targets_of x.body ≡ targets_of o.body → standing kind.Table r b ≡ standing kind.Table r a
    → resolution stored domain b r (targets_of o.body) ≡ resolution stored domain a r (targets_of o.body) → route_status_in stored domain b r x ≡ route_status_in stored domain a r o
route_status_same domain a b r o x generation uid targets table same = λ i. route_status (generation i) (host_of [] r domain) ((ap (resolution stored domain b r) targets ∙ same) i) (own_targets (uid i) (table i))

pub wrong_same : (domain : List ℕ) (a b : State) (r : Name) → standing kind.Route r b ≡ standing kind.Route r a → standing kind.Table r b ≡ standing kind.Table r a
    → ((o : Object) → standing kind.Route r a ≡ Some o → resolution stored domain b r (targets_of o.body) ≡ resolution stored domain a r (targets_of o.body)) → is_wrong domain b r ≡ is_wrong domain a r
unfolding is_wrong
wrong_same domain a b r route table same = ap (is_given (λ (o : Object). not (same_untimed (status_of o.body) (route_status_in stored domain b r o)))) route ∙ go (standing kind.Route r a) refl
  where
    go : (w : Option Object) → standing kind.Route r a ≡ w → is_given (λ (o : Object). not (same_untimed (status_of o.body) (route_status_in stored domain b r o))) w ≡ is_given (λ (o : Object). not (same_untimed (status_of o.body) (route_status_in stored domain a r o))) w
    go None e = refl
    go (Some o) e = ap (λ s. not (same_untimed (status_of o.body) s)) (route_status_same domain a b r o o refl refl refl table (same o e))

module _ (settings : Settings) (now : ℕ) where
  -- where Revisions keep, all that targets come to stays
  pub resolutions_kept : (key : SlotKey) (n : ℕ) (a b : State) (act : Act settings now n key a b) → Calm a → ((v : Name) → KeptAt kind.Revision v a b) → (r : Name) (o : Object) → standing kind.Route r a ≡ Some o → resolution stored settings.domain b r (targets_of o.body) ≡ resolution stored settings.domain a r (targets_of o.body)
  resolutions_kept key n a b act calm kept r o at =
      let known = (informed_kept settings now key n a b act calm.informed).known in
      resolution_kept settings n now key.controller key.name a b act.before act.after act.order act.effect calm known settings.domain r o at (λ t i. found_kept settings n now key.controller key.name a b act.before act.after act.order act.effect calm known kept r t)

  -- a round of another
  pub left_others : (key : SlotKey) (n : ℕ) (a b : State) → Act settings now n key a b → Calm a → (r : Name) → (key.controller ≡ controller.Route → key.name ≢ r) → left settings.domain b r + burden b ≤ left settings.domain a r + burden a
  unfolding left
  left_others key n a b act calm r other = go (revisions settings n now key.controller key.name a b act.effect)
    where
      table : standing kind.Table r b ≡ standing kind.Table r a
      table = table_same settings n now key.controller key.name a b r other act.effect

      fewer : excess b r ≤ excess a r
      fewer = excess_others settings n now key.controller key.name a b act.before r other act.effect

      go : Revisions n now key.controller key.name a b → (excess b r + one_if (is_wrong settings.domain b r)) + burden b ≤ (excess a r + one_if (is_wrong settings.domain a r)) + burden a
      go (Keep kept) =
          let w : one_if (is_wrong settings.domain b r) ≡ one_if (is_wrong settings.domain a r) = ap one_if (wrong_same settings.domain a b r (route_same settings n now key.controller key.name a b act.before r other calm.informed.settled act.effect) table (λ o at. resolutions_kept key n a b act calm kept r o at)) in
          let x = fewer in
          let y = no_heavier settings n now key.controller key.name a b act.before act.after act.order act.effect act.effect in
          omega arith
      go (Make o d at none h) =
          let w = one_most (is_wrong settings.domain b r) in
          let x = fewer in
          let y = made_lighter settings n now key.controller key.name a b act.before act.after act.order act.effect o d at none h in
          omega arith
      go (Lose w v d at going h) =
          let u = one_most (is_wrong settings.domain b r) in
          let x = fewer in
          let y = gone_lighter settings n now key.controller key.name a b act.before act.after act.order act.effect w v act.effect at h in
          omega arith
