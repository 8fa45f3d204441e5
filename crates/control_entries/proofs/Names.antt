-- Nothing is due to a name that is no key of its controller.
use Rattle.std.proofs.Common.{◌≡◌, ℕ, Bool, true, false, ◌&&◌, ◌||◌, not, List, [], ◌∷◌, ◌++◌, cond, bytes_eq, Option, Some, None, Ordering, refl, sym, ap, ◌∙◌, subst}
use Rattle.std.specs.Prelude.{map}
use Rattle.std.specs.List.{filter}
use Rattle.std.specs.declared.cmp.Ordering.TheVariants.{Less, Equal, Greater}
use Rattle.version_store.specs.State as store
use Rattle.resource_types.specs.declared.names.Kind.{Kind}
use Rattle.resource_types.specs.declared.names.Kind.TheVariants as kind
use Rattle.resource_types.specs.declared.names.Controller.{Controller}
use Rattle.resource_types.specs.declared.names.Controller.TheVariants as controller
use Rattle.resource_types.specs.declared.names.Name.{Name}
use Rattle.resource_types.specs.declared.objects.Object.{Object}
use Rattle.resource_types.specs.contracts.names.NameOrd.TheImpl as name_order
use Rattle.resource_types.specs.Objects.{same_kind, is_of, pins_of}
use Rattle.resource_types.specs.Lookups.{State, of_kind}
use Rattle.resource_types.proofs.Exact.{left, right, bytes-exact, name-exact}
use Rattle.control_rules.specs.declared.settings.Settings.{Settings}
use Rattle.control_rules.specs.Standing.{beside, key_at, listed, standing, published_at, traffic_at}
use Rattle.control_rules.specs.NextRoute.{is_spare, first_spare}
use Rattle.control_rules.specs.Next.{next_write}
use Rattle.control_rules.specs.Slots.{same_name, names_of, holders, all_holders, in_order, names_for, is_key}
use Rattle.control_rules.specs.Rounds.{KnowsKeys}
use Rattle.control_rules.proofs.Keys.{no_service, no_configuration, no_revision, no_collector, no_route}
use Rattle.control_entries.proofs.Tests.{both, not_both, false_from, name_self}
use Rattle.control_entries.proofs.Each.{Each, each_by, each_passing, each_unless, each_append, each_map, any_none, find_none}
use Rattle.control_entries.proofs.Standing.{Stands, stands, each_found}

-- another name than n
abbrev pub IsOther : Name → Name → Type 0
IsOther n m = same_name n m ≡ false

-- ---- names of what stands

-- where no object of the kind has the name, none stands under it
pub none_stands : (k : Kind) (st : State) (n : Name) → Each (IsOther n) (names_of k st) → standing k n st ≡ None
none_stands k st n h = go (standing k n st) refl
  where
    others : Each (λ o. is_of k o ≡ true → IsOther n o.key.name) st
    others = each_unless (λ (o : Object). IsOther n o.key.name) (is_of k) st
        (each_map (IsOther n) (λ (o : Object). o.key.name) (filter (is_of k) st) h)

    go : (o : Option Object) → standing k n st ≡ o → o ≡ None
    go None e = refl
    go (Some o) e = absurd (at (stands k n st o e))
      where
        at : Stands k n st o → ⊥
        at s = not_both (ap (λ z. same_name n z.name) s.key ∙ name_self n)
            (each_found (λ (x : Object). is_of k x ≡ true → IsOther n x.key.name) (key_at k n) st o others s.found s.of)

-- ---- names in order, each once

each_put : (P : Name → Type 0) (m : Name) (ns : List Name) → Each P (store.put (λ (x : Name). x) name_order.ghosts.cmp m ns) → P m × Each P ns
each_put P m [] h = (h.0, tt)
each_put P m (x ∷ ns) h = go (name_order.ghosts.cmp m x) refl h (each_put P m ns)
  where
    go : (r : Ordering) → name_order.ghosts.cmp m x ≡ r → Each P (store.placed r m x ns (store.put (λ (y : Name). y) name_order.ghosts.cmp m ns))
        → (Each P (store.put (λ (y : Name). y) name_order.ghosts.cmp m ns) → P m × Each P ns) → P m × (P x × Each P ns)
    go Less e t ih = t
    go Equal e t ih = (t.0, (subst P (name-exact m x e) t.0, t.1))
    go Greater e t ih = let u = ih t.1 in (u.0, (t.0, u.1))

each_in_order : (P : Name → Type 0) (ns : List Name) → Each P (in_order ns) → Each P ns
unfolding in_order
each_in_order P [] h = tt
each_in_order P (n ∷ ns) h = let t = each_put P n (in_order ns) h in (t.0, each_in_order P ns t.1)

-- ---- holders of pins

each_holders : (P : Name → Type 0) (os : State) → Each P (all_holders os) → Each (λ o. Each P (holders o)) os
each_holders P [] h = tt
each_holders P (o ∷ os) h = let t = each_append P (holders o) (all_holders os) h in (t.0, each_holders P os t.1)

-- where none of the holders is r, none of the pins is its simple name
unheld : (r : Name) (o : Object) (ps : List (List ℕ)) → bytes_eq o.key.name.space r.space ≡ true → Each (IsOther r) (map (beside o.key.name) ps)
    → listed r.name ps ≡ true → ⊥
unfolding listed
unheld r o [] s h l = cc
unheld r o (p ∷ ps) s h l = go (bytes_eq r.name p) refl l (unheld r o ps s h.1)
  where
    go : (b : Bool) → bytes_eq r.name p ≡ b → cond b true (listed r.name ps) ≡ true → (listed r.name ps ≡ true → ⊥) → ⊥
    go false e t ih = ih t
    go true e t ih = not_both
        (both (ap (λ z. bytes_eq z o.key.name.space) (sym (bytes-exact _ _ s)) ∙ own) e) h.0
      where
        own : bytes_eq o.key.name.space o.key.name.space ≡ true
        own = left _ _ (name_self o.key.name)

none_spare : (st : State) (r : Name) → Each (IsOther r) (all_holders (filter (is_of kind.Revision) st)) → first_spare st r ≡ None
unfolding first_spare is_spare
none_spare st r h = find_none _ (of_kind kind.Revision st)
    (each_by _ _ (of_kind kind.Revision st) (λ o t. t.1) (each_passing _ (λ (o : Object). same_kind o.key.kind kind.Revision) st (each_by _ _ st at held)))
  where
    held : Each (λ o. is_of kind.Revision o ≡ true → Each (IsOther r) (holders o)) st
    held = each_unless (λ o. Each (IsOther r) (holders o)) (is_of kind.Revision) st (each_holders (IsOther r) (filter (is_of kind.Revision) st) h)

    rest : Object → Bool
    rest o = not (listed o.key.name.name (published_at st r) || listed o.key.name.name (traffic_at st r))

    at : (o : Object) → (is_of kind.Revision o ≡ true → Each (IsOther r) (holders o))
        → ((is_of kind.Revision o && bytes_eq o.key.name.space r.space) && (listed r.name (pins_of o.body) && rest o)) ≡ false
    at o u = false_from (λ t.
        let a = left (is_of kind.Revision o && bytes_eq o.key.name.space r.space) _ t in
        let b = right (is_of kind.Revision o && bytes_eq o.key.name.space r.space) _ t in
        unheld r o (pins_of o.body) (right (is_of kind.Revision o) _ a) (u (left _ _ a)) (left _ _ b))

-- ---- all controllers

unnamed_route : (settings : Settings) (st : State) (r : Name) (now : ℕ)
    → Each (IsOther r) (in_order (names_of kind.Route st ++ (names_of kind.Table st ++ all_holders (filter (is_of kind.Revision) st))))
    → next_write settings (record { controller = controller.Route; name = r }) st now ≡ None
unfolding next_write
unnamed_route settings st r now h = go
    (each_append (IsOther r) (names_of kind.Route st) (names_of kind.Table st ++ all_holders (filter (is_of kind.Revision) st)) (each_in_order (IsOther r) _ h))
  where
    go : Each (IsOther r) (names_of kind.Route st) × Each (IsOther r) (names_of kind.Table st ++ all_holders (filter (is_of kind.Revision) st))
        → next_write settings (record { controller = controller.Route; name = r }) st now ≡ None
    go t = last (each_append (IsOther r) (names_of kind.Table st) (all_holders (filter (is_of kind.Revision) st)) t.1)
      where
        last : Each (IsOther r) (names_of kind.Table st) × Each (IsOther r) (all_holders (filter (is_of kind.Revision) st))
            → next_write settings (record { controller = controller.Route; name = r }) st now ≡ None
        last u = no_route settings.domain st r now (none_stands kind.Route st r t.0) (none_stands kind.Table st r u.0) (none_spare st r u.1)

unnamed : (settings : Settings) (c : Controller) (n : Name) (st : State) (now : ℕ) → Each (IsOther n) (names_for c st)
    → next_write settings (record { controller = c; name = n }) st now ≡ None
unfolding next_write names_for
unnamed settings controller.Service n st now h = no_service st n now (none_stands kind.Service st n h)
unnamed settings controller.Configuration n st now h = no_configuration st n now (none_stands kind.Configuration st n h)
unnamed settings controller.Revision n st now h = no_revision st n now (none_stands kind.Revision st n h)
unnamed settings controller.Collector n st now h = no_collector settings.gc st n now (none_stands kind.Configuration st n h)
unnamed settings controller.Route n st now h = unnamed_route settings st n now h

pub knows_keys : KnowsKeys
unfolding is_key
knows_keys settings key st now h = unnamed settings key.controller key.name st now (any_none (same_name key.name) (names_for key.controller st) h)
