-- Tables that are put, and removed, at the place that a search finds.
use Rattle.std.proofs.Common.{◌≡◌, ℕ, List, [], ◌∷◌, length, set, insert, remove, Ok, Err, refl, sym, ap, ◌∙◌, arith}
use Rattle.version_store.specs.Index.{AreInOrder, put_at, removed_at}
use Rattle.version_store.proofs.Keyed.{put-search, without-search, order-put, order-without}
use Rattle.resource_types.specs.declared.names.Name.{Name}
use Rattle.resource_types.specs.contracts.names.NameOrd.TheImpl.Laws as name_laws
use Rattle.gateway_pick.specs.declared.tables.Published.{Published}
use Rattle.gateway_pick.specs.declared.tables.Change.{Change}
use Rattle.gateway_pick.specs.declared.tables.Change.TheVariants.{Put, Remove}
use Rattle.gateway_pick.specs.Tables.{name_cmp, name_of, changed}
use Rattle.gateway_pick.proofs.Searching.{place_in}

module _ (tables : List Published) where
  pub put_over : (table : Published) (place : ℕ) → Ok place ≡ place_in table.name tables → set tables place table ≡ changed (Put table) tables
  put_over table place e = ap (put_at table tables) e ∙ sym (put-search name_of name_cmp name_laws.total-law table tables)

  pub put_new : (table : Published) (place : ℕ) → Err place ≡ place_in table.name tables → insert tables place table ≡ changed (Put table) tables
  put_new table place e = ap (put_at table tables) e ∙ sym (put-search name_of name_cmp name_laws.total-law table tables)

  pub removed : (name : Name) (place : ℕ) → AreInOrder name_of name_cmp tables → Ok place ≡ place_in name tables → remove tables place ≡ changed (Remove name) tables
  removed name place order e = ap (removed_at tables) e ∙ sym (without-search name_of name_cmp name_laws.total-law name tables order)

  pub removed_not : (name : Name) (place : ℕ) → AreInOrder name_of name_cmp tables → Err place ≡ place_in name tables → tables ≡ changed (Remove name) tables
  removed_not name place order e = ap (removed_at tables) e ∙ sym (without-search name_of name_cmp name_laws.total-law name tables order)

-- a change keeps the order
pub order_changed : (change : Change) (tables : List Published) → AreInOrder name_of name_cmp tables → AreInOrder name_of name_cmp (changed change tables)
order_changed (Put table) tables order = order-put name_of name_cmp name_laws.total-law table tables order
order_changed (Remove name) tables order = order-without name_of name_cmp name_laws.total-law name tables order

pub nothing_left : {X : Type 0} (xs : List X) → length xs ≡ 0 → xs ≡ []
nothing_left [] e = refl
nothing_left (x ∷ xs) e = absurd (omega arith)
