-- What a gateway's Tables give to a host.
use Rattle.std.proofs.Common.{◌≡◌, ℕ, List, [], ◌∷◌, Bool, true, false, cond, ◌||◌, Option, Some, None, is_some, map, find, All, refl, sym, ap, subst, ◌∙◌, arith}
use Rattle.std.specs.Prelude.{option_map}
use Rattle.std.specs.List.{list_any}
use Rattle.std.specs.List.Sorted.{IsPermutation}
use Rattle.std.proofs.lemmas.List.Elements.{All-head, All-tail}
use Rattle.std.proofs.lemmas.List.Sorted.{IsPermutation-map}
use Rattle.resource_types.specs.declared.specification.Row.{Row}
use Rattle.gateway_pick.specs.declared.tables.Published.{Published}
use Rattle.gateway_pick.specs.Tables.{IsTable}
use Rattle.gateway_pick.specs.Picks.{has_host, rows_of, place_of, row_at, pick_of, along, shares, PicksEvenly}
use Rattle.gateway_pick.proofs.Along.{along-map}
use Rattle.gateway_pick.proofs.Places.{hundred_places}
use Rattle.gateway_pick.proofs.Shares.{percents, places_shared, place_taken, hundred_percent}

-- a Table that has the host, and is the first one
pub record IsFirst (host : List ℕ) (tables : List Published) : Type 0 where
  pub table : Published
  pub found : find (has_host host) tables ≡ Some table
  pub here : has_host host table ≡ true
  pub good : IsTable table

module _ (host : List ℕ) where
  pub first_table : (tables : List Published) → All IsTable tables → list_any (has_host host) tables ≡ true → IsFirst host tables
  first_table [] good some = cc
  first_table (table ∷ tables) good some = go (λ s. first_table tables (All-tail IsTable table tables good) s) (has_host host table) refl some
    where
      go : (list_any (has_host host) tables ≡ true → IsFirst host tables) → (b : Bool) → has_host host table ≡ b → (b || list_any (has_host host) tables) ≡ true → IsFirst host (table ∷ tables)
      go again true here some = record { table = table; found = rw here refl; here = here; good = All-head IsTable table tables good }
      go again false away some =
          let rest = again some in
          record { table = rest.table; found = rw away rest.found; here = rest.here; good = rest.good }

  no_table : (tables : List Published) → list_any (has_host host) tables ≡ false → find (has_host host) tables ≡ None
  no_table [] none = refl
  no_table (table ∷ tables) none = go (λ n. no_table tables n) (has_host host table) refl none
    where
      go : (list_any (has_host host) tables ≡ false → find (has_host host) tables ≡ None) → (b : Bool) → has_host host table ≡ b → (b || list_any (has_host host) tables) ≡ false → cond b (Some table) (find (has_host host) tables) ≡ None
      go again true here none = cc
      go again false away none = again none

  module _ (tables : List Published) (good : All IsTable tables) where
    hundred : (first : IsFirst host tables) → percents (rows_of host tables) ≡ 100
    hundred first = rw first.found (hundred_percent host first.table.rows first.good first.here)

    -- a row is picked exactly where a Table has the host
    pub picks_where : (number : ℕ) → is_some (pick_of tables host number) ≡ list_any (has_host host) tables
    picks_where number = go (list_any (has_host host) tables) refl
      where
        go : (b : Bool) → list_any (has_host host) tables ≡ b → is_some (pick_of tables host number) ≡ b
        go true some =
            let sum = hundred (first_table tables good some) in
            place_taken (rows_of host tables) (place_of number) (omega (arith, sum))
        go false none = rw (no_table tables none) refl

    pub picks_evenly : list_any (has_host host) tables ≡ true → (first : ℕ) → PicksEvenly tables host first
    picks_evenly some first =
        let rows : List Row = rows_of host tables in
        let give : ℕ → Option Row = λ place. row_at place rows in
        let sum : percents rows ≡ 100 = hundred (first_table tables good some) in
        let moved = IsPermutation-map give (along place_of first 100) (along (λ k. k) 0 100) (hundred_places first) in
        let all : map give (along (λ k. k) 0 100) ≡ shares rows = along-map give (λ k. k) 0 100 ∙ ap (along give 0) (sym sum) ∙ places_shared rows in
        subst (λ xs. IsPermutation xs (shares rows)) (along-map give place_of first 100)
        (subst (λ xs. IsPermutation (map give (along place_of first 100)) xs) all moved)

-- what is borrowed is there as what it is
pub is_some-map : {A B : Type 0} (f : A → B) (o : Option A) → is_some (option_map f o) ≡ is_some o
is_some-map f None = refl
is_some-map f (Some x) = refl
