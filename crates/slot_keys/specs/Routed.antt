-- Names put into a list in order, each once.
use Rattle.std.specs.Prelude.{List, [], ◌∷◌, map}
use Rattle.version_store.specs.State as store
use Rattle.resource_types.specs.declared.names.Name.{Name}
use Rattle.resource_types.specs.contracts.names.NameOrd.TheImpl as name_order
use Rattle.slot_keys.specs.declared.routed.Routed.{Routed}

-- what comes of a step for each of these names
unfoldable pub after_each : {A : Type 0} → (Name → A → A) → List Name → A → A
after_each step [] so_far = so_far
after_each step (n ∷ ns) so_far = step n (after_each step ns so_far)

-- a name put into names in order
abbrev pub put_name : Name → List Name → List Name
put_name n ns = store.put (λ (m : Name). m) name_order.ghosts.cmp n ns

-- these names put into names in order
abbrev pub put_names : List Name → List Name → List Name
put_names ns ms = after_each put_name ns ms

-- the names of rows
abbrev pub names_in : List Routed → List Name
names_in rows = map (λ (r : Routed). r.name) rows
