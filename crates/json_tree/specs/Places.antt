-- Where a pair goes in a list of pairs.
use Rattle.std.specs.Prelude.{◌≡◌, ℕ, ◌<◌, ◌≤◌, List, length, set, insert}
use Rattle.json_tree.specs.Tree.{put_entry}
use Rattle.json_tree.specs.declared.members.Place.{Place}
use Rattle.json_tree.specs.declared.members.Place.TheVariants.{At, Before}

-- a value under the name goes to the place, or before it
abbrev pub GoesTo : {A : Type 0} → List ℕ → List (List ℕ × A) → Place → Type 0
GoesTo {A} name es (At i) = (i < length es) × ((v : A) → put_entry name v es ≡ set es i (name, v))
GoesTo {A} name es (Before i) = (i ≤ length es) × ((v : A) → put_entry name v es ≡ insert es i (name, v))
