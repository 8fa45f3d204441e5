-- Which Revision of a Configuration is collected.
use Rattle.std.specs.Prelude.{ℕ, ◌+◌, ◌-◌, ◌&&◌, ◌||◌, Bool, true, not, List, [], ◌∷◌, length, map, filter, is_some, slice_get, nat_lt, Option, Some, None, unwrap_or, cond}
use Rattle.std.specs.Option.{option_or}
use Rattle.std.specs.Ordering.{nat_cmp, is_lt, ordering_then}
use Rattle.std.specs.Cmp.Lexicographic.{slice_cmp}
use Rattle.resource_types.specs.declared.names.Kind.TheVariants as kind
use Rattle.resource_types.specs.declared.objects.Object.{Object}
use Rattle.resource_types.specs.Objects.{generation_of}
use Rattle.resource_types.specs.Lookups.{State, of_kind, given, is_owned_by, is_free, is_called, latest, latest_created}
use Rattle.control_rules.specs.declared.collection.Candidate.{Candidate}
use Rattle.control_rules.specs.declared.settings.GcSettings.{GcSettings}
use Rattle.control_rules.specs.Standing.{active_of}

-- ---- the candidates

-- of the Revisions that the Configuration owns and that count as ready once, the latest
abbrev pub latest_been : (Object → Bool) → State → Object → Option Object
latest_been been st c = latest (λ v. is_owned_by c v && been v) st

-- whether the Configuration owns the Revision, and it is free and neither the latest created nor the latest ready one
unfoldable pub is_candidate : (Object → Bool) → State → Object → Object → Bool
is_candidate been st c v =
    (is_owned_by c v && is_free st v.key.name)
    && not (is_called v.key.name.name (latest_created st c) || is_called v.key.name.name (latest_been been st c))

-- the Revisions that may be collected, in order of name
unfoldable pub candidates : (Object → Bool) → State → Object → List Object
candidates been st c = filter (is_candidate been st c) (of_kind kind.Revision st)

-- what collection looks at: the active moment is the creation where there is no other
abbrev pub candidate_of : Object → Candidate
candidate_of v = record {
  created = v.meta.stamp.created;
  active = unwrap_or (active_of v.body) v.meta.stamp.created;
  generation = generation_of v.body;
  name = v.key.name.name;
}

-- ---- the choice

-- whether a time has passed since the moment, as one that does not count always has
abbrev pub has_passed : Option ℕ → ℕ → ℕ → Bool
has_passed None since now = true
has_passed (Some time) since now = nat_lt time (now - since)

-- whether at least one time counts, and each that counts has passed
abbrev pub is_stale : GcSettings → ℕ → Candidate → Bool
is_stale gc now c = (is_some gc.create || is_some gc.active) && (has_passed gc.create c.created now && has_passed gc.active c.active now)

-- whether one comes before another: by the active moment, then by generation, then by name
abbrev pub comes_before : Candidate → Candidate → Bool
comes_before a b = is_lt (ordering_then (nat_cmp a.active b.active) (ordering_then (nat_cmp a.generation b.generation) (slice_cmp nat_cmp a.name b.name)))

-- whether it comes before the first one so far
abbrev pub is_earlier : Candidate → Option (ℕ × Candidate) → Bool
is_earlier c None = true
is_earlier c (Some best) = comes_before c best.1

-- the first so far, or the one at the place where it counts and comes before
abbrev pub earlier : Bool → ℕ → Candidate → Option (ℕ × Candidate) → Option (ℕ × Candidate)
earlier counted place c best = cond (counted && is_earlier c best) (Some (place, c)) best

-- the first of those that count, with its place, where the first one has the place; of equal ones the one that stands first
unfoldable pub first_from : (Candidate → Bool) → ℕ → Option (ℕ × Candidate) → List Candidate → Option (ℕ × Candidate)
first_from counts place best [] = best
first_from counts place best (c ∷ cs) = first_from counts (place + 1) (earlier (counts c) place c best) cs

-- the place alone
abbrev pub place_of : Option (ℕ × Candidate) → Option ℕ
place_of None = None
place_of (Some best) = Some best.0

-- the place of the first of those that count
abbrev pub first_place : (Candidate → Bool) → List Candidate → Option ℕ
first_place counts cs = place_of (first_from counts 0 None cs)

-- the first stale one, where there are more than the least number
abbrev pub stale_place : GcSettings → ℕ → List Candidate → Option ℕ
stale_place gc now cs = cond (nat_lt gc.least (length cs)) (first_place (is_stale gc now) cs) None

-- the first one, where there are more than the most
abbrev pub surplus_place : Option ℕ → List Candidate → Option ℕ
surplus_place None cs = None
surplus_place (Some most) cs = cond (nat_lt most (length cs)) (first_place (λ c. true) cs) None

-- the place of the one that is collected: the first stale one, or else the first one of too many
unfoldable pub collected_place : GcSettings → ℕ → List Candidate → Option ℕ
collected_place gc now cs = option_or (stale_place gc now cs) (surplus_place gc.most cs)

-- the Revision of the Configuration that is collected, if any
unfoldable pub collection_choice : (Object → Bool) → GcSettings → State → Object → ℕ → Option Object
collection_choice been gc st c now = given (collected_place gc now (map candidate_of (candidates been st c))) (slice_get (candidates been st c))
