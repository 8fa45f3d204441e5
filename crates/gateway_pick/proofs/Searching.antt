-- The place of a name, behind the Tables that were passed.
use Rattle.std.proofs.Common.{◌≡◌, ℕ, suc, ◌+◌, ◌<◌, ◌≤◌, List, ◌∷◌, length, map, drop, get_or, Result, Ok, Err, Ordering, sym, ap, ◌∙◌, arith, zero-add}
use Rattle.std.specs.declared.cmp.Ordering.TheVariants.{Less, Equal, Greater}
use Rattle.std.proofs.lemmas.List.{drop_more, drop_all}
use Rattle.version_store.specs.Index.{searched, search_in}
use Rattle.resource_types.specs.declared.names.Name.{Name}
use Rattle.gateway_pick.specs.declared.tables.Published.{Published}
use Rattle.gateway_pick.specs.Tables.{name_cmp, name_of}

-- a place behind so many others
abbrev pub behind : ℕ → Result ℕ ℕ → Result ℕ ℕ
behind n (Ok place) = Ok (n + place)
behind n (Err place) = Err (n + place)

abbrev pub place_in : Name → List Published → Result ℕ ℕ
place_in name tables = search_in name_cmp name (map name_of tables)

pub starts : (r : Result ℕ ℕ) → behind 0 r ≡ r
starts (Ok place) = ap Ok (zero-add place)
starts (Err place) = ap Err (zero-add place)

passed : (n : ℕ) (r : Result ℕ ℕ) → behind n (searched Less r) ≡ behind (n + 1) r
passed n (Ok place) = ap Ok {x = n + suc place} {y = n + 1 + place} (omega arith)
passed n (Err place) = ap Err {x = n + suc place} {y = n + 1 + place} (omega arith)

module _ (name : Name) (tables : List Published) (n : ℕ) (table : Published) (lt : n < length tables) (at : table ≡ get_or tables n table) where
  left : (r : Ordering) → name_cmp table.name name ≡ r → place_in name (drop n tables) ≡ searched r (place_in name (drop (n + 1) tables))
  left r is = ap (place_in name) (drop_more tables n table lt ∙ ap (λ t. t ∷ drop (n + 1) tables) (sym at)) ∙ ap (λ o. searched o (place_in name (drop (n + 1) tables))) is

  -- a lesser name is passed
  pub passes : name_cmp table.name name ≡ Less → behind n (place_in name (drop n tables)) ≡ place_in name tables → behind (n + 1) (place_in name (drop (n + 1) tables)) ≡ place_in name tables
  passes is so = sym (ap (behind n) (left Less is) ∙ passed n (place_in name (drop (n + 1) tables))) ∙ so

  -- the name is found
  pub finds : name_cmp table.name name ≡ Equal → behind n (place_in name (drop n tables)) ≡ place_in name tables → Ok n ≡ place_in name tables
  finds is so = ap Ok {x = n} {y = n + 0} (omega arith) ∙ sym (ap (behind n) (left Equal is)) ∙ so

  -- a greater name is met
  pub meets : name_cmp table.name name ≡ Greater → behind n (place_in name (drop n tables)) ≡ place_in name tables → Err n ≡ place_in name tables
  meets is so = ap Err {x = n} {y = n + 0} (omega arith) ∙ sym (ap (behind n) (left Greater is)) ∙ so

-- all names were passed
pub ends : (name : Name) (tables : List Published) (n : ℕ) → length tables ≤ n → behind n (place_in name (drop n tables)) ≡ place_in name tables → Err n ≡ place_in name tables
ends name tables n past so = ap Err {x = n} {y = n + 0} (omega arith) ∙ sym (ap (λ ts. behind n (place_in name ts)) (drop_all n tables past)) ∙ so
