-- The Tables that a gateway knows, and what events do to them.
use Rattle.std.specs.Prelude.{◌≡◌, true, List, [], ◌∷◌}
use Rattle.std.specs.List.{All}
use Rattle.std.specs.declared.cmp.Ordering.{Ordering}
use Rattle.version_store.specs.State as store
use Rattle.version_store.specs.Index.{AreInOrder}
use Rattle.resource_types.specs.declared.names.Name.{Name}
use Rattle.resource_types.specs.contracts.names.NameOrd.TheImpl as name_order
use Rattle.gateway_pick.specs.declared.tables.Published.{Published}
use Rattle.gateway_pick.specs.declared.tables.Change.{Change}
use Rattle.gateway_pick.specs.declared.tables.Change.TheVariants.{Put, Remove}
use Rattle.gateway_pick.specs.Rules.{are_rows}

-- the order of Tables: by namespace, and then by simple name
abbrev pub name_cmp : Name → Name → Ordering
name_cmp = name_order.ghosts.cmp

abbrev pub name_of : Published → Name
name_of table = table.name

-- the Tables with the one that is put, in place of that of its name, or without the one of the name
abbrev pub changed : Change → List Published → List Published
changed (Put table) tables = store.put name_of name_cmp table tables
changed (Remove name) tables = store.without name_of name_cmp name tables

-- the Tables after changes, one after another
abbrev pub all_changed : List Change → List Published → List Published
all_changed [] tables = tables
all_changed (change ∷ changes) tables = all_changed changes (changed change tables)

-- a Table whose rows are those of one
abbrev pub IsTable : Published → Type 0
IsTable table = are_rows table.rows ≡ true

-- what a gateway keeps: the Tables in order of name, each once, and with the rows of a Table
pub record AreTables (tables : List Published) : Type 0 where
  pub ordered : AreInOrder name_of name_cmp tables
  pub good : All IsTable tables
