-- The choice among the Revisions that stand, in one walk over them.
use Rattle.std.specs.Prelude.{ℕ, ◌+◌, ◌&&◌, ◌||◌, Bool, true, not, List, [], ◌∷◌, Option, Some, None, unwrap_or, cond}
use Rattle.resource_types.specs.declared.objects.Object.{Object}
use Rattle.resource_types.specs.Objects.{has_been_ready}
use Rattle.resource_types.specs.Lookups.{State, is_owned_by, is_free, is_called}
use Rattle.control_rules.specs.declared.settings.GcSettings.{GcSettings}
use Rattle.control_rules.specs.Standing.{active_of}
use Rattle.control_rules.specs.Collection.{candidate_of, comes_before, is_candidate, is_stale}

-- the active moment, or the creation where there is none
abbrev pub active_moment : Object → ℕ
active_moment v = unwrap_or (active_of v.body) v.meta.stamp.created

-- whether the Configuration owns the Revision, and it is neither of the two, and free
abbrev pub is_candidate_beside : Option Object → Option Object → State → Object → Object → Bool
is_candidate_beside created ready st c v =
    (is_owned_by c v && not (is_called v.key.name.name created || is_called v.key.name.name ready)) && is_free st v.key.name

-- whether it is a candidate that is stale
abbrev pub is_stale_candidate : GcSettings → ℕ → State → Object → (Object → Bool)
is_stale_candidate gc now st c = λ v. is_candidate has_been_ready st c v && is_stale gc now (candidate_of v)

-- one more, where it counts
abbrev pub count_with : Bool → ℕ → ℕ
count_with counts n = cond counts (n + 1) n

-- how many count, with those so far
abbrev pub count_from : (Object → Bool) → ℕ → List Object → ℕ
count_from counts n [] = n
count_from counts n (v ∷ vs) = count_from counts (count_with (counts v) n) vs

-- whether it comes before the first one so far
abbrev pub is_earlier_object : Object → Option Object → Bool
is_earlier_object v None = true
is_earlier_object v (Some best) = comes_before (candidate_of v) (candidate_of best)

-- the first so far, or the Revision where it counts and comes before
abbrev pub earlier_object : Bool → Option Object → Object → Option Object
earlier_object counted best v = cond (counted && is_earlier_object v best) (Some v) best

-- the first of those that count, and of the first so far
abbrev pub first_object : (Object → Bool) → Option Object → List Object → Option Object
first_object counts best [] = best
first_object counts best (v ∷ vs) = first_object counts (earlier_object (counts v) best v) vs
