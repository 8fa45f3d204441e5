-- The value that data is of.
use Rattle.std.specs.Prelude.{ℕ, List, [], ◌∷◌}
use Rattle.serde_json.specs.Data.{Num, Data, Items, no_items, item, Members, no_members, member, null, boolean, number, unsigned, negative, float, string, array, object}
use Rattle.json_tree.specs.declared.value.Json.{Json, Null, Bool, Int, Nat, Str, Arr, Obj}

-- the value of a number; a float has none, and stands for null
abbrev pub of_num : Num → Json
of_num (unsigned n) = Nat n
of_num (negative z) = Int z
of_num (float x) = Null

-- the value that data is of, where no number in it is a float
abbrev mutual
  pub json_of : Data → Json
  json_of null = Null
  json_of (boolean b) = Bool b
  json_of (number n) = of_num n
  json_of (string s) = Str s
  json_of (array ds) = Arr (list_of ds)
  json_of (object ms) = Obj (record { entries = pairs_of ms })

  pub list_of : Items → List Json
  list_of no_items = []
  list_of (item d ds) = json_of d ∷ list_of ds

  pub pairs_of : Members → List (List ℕ × Json)
  pairs_of no_members = []
  pairs_of (member k d ms) = (k, json_of d) ∷ pairs_of ms
