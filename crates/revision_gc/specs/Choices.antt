-- The choice among candidates, and among the objects that they stand for.
use Rattle.std.specs.Prelude.{ℕ, ◌&&◌, Bool, true, false, nat_lt, Option, Some, None, cond}
use Rattle.control_rules.specs.declared.settings.GcSettings.{GcSettings}
use Rattle.control_rules.specs.declared.collection.Candidate.{Candidate}
use Rattle.control_rules.specs.Collection.{is_stale}
use Rattle.revision_gc.specs.declared.ages.Age.{Age}
use Rattle.revision_gc.specs.declared.choice.Best.{Best}
use Rattle.revision_gc.specs.declared.choice.Among.{Among}
use Rattle.revision_gc.specs.declared.choice.Among.TheVariants as among
use Rattle.revision_gc.specs.declared.choice.Pick.{Pick}
use Rattle.revision_gc.specs.declared.choice.Pick.TheVariants.{Stale, First, Nobody}

-- what is borrowed of a candidate, as one of its own
abbrev pub candidate_as : Age → Candidate
candidate_as a = record { created = a.created; active = a.active; generation = a.generation; name = a.name.now }

-- the first so far, as a pair
abbrev pub best_of : Best → ℕ × Candidate
best_of b = (b.place, b.candidate.now)

-- which candidates count
abbrev pub counts_by : Among → Candidate → Bool
counts_by among.All = λ c. true
counts_by (among.Stale gc now) = is_stale gc.now now

-- whether there are more than the most
abbrev pub is_over : Option ℕ → ℕ → Bool
is_over None count = false
is_over (Some most) count = nat_lt most count

-- which of so many candidates is collected
abbrev pub pick_of : GcSettings → ℕ → Bool → Pick
pick_of gc count some_stale = cond (some_stale && nat_lt gc.least count) Stale (cond (is_over gc.most count) First Nobody)

-- the one that is picked, of the first stale one and the first of all
abbrev pub picked : {A : Type 0} → Pick → Option A → Option A → Option A
picked Stale stale first = stale
picked First stale first = first
picked Nobody stale first = None
