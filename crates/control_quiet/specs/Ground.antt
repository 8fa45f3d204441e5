-- What a quiet state needs to be final.
use Rattle.std.specs.Prelude.{◌≡◌, ℕ, List, true}
use Rattle.resource_types.specs.declared.names.Name.{Name}
use Rattle.resource_types.specs.Lookups.{State}
use Rattle.control_rules.specs.Standing.{beside, listed, pins_at, published_at}
use Rattle.control_entries.specs.Ground.{IsOrdered}

-- a state in order, in which what a Table names has the Table's pin
pub record IsGround (st : State) : Type 0 where
  pub ordered : IsOrdered st
  pub pinned : (r : Name) (x : List ℕ) → listed x (published_at st r) ≡ true → listed r.name (pins_at st (beside r x)) ≡ true
