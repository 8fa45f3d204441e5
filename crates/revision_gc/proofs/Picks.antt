-- The choice of the definitions, by what is picked.
use Rattle.std.proofs.Common.{◌≡◌, ℕ, Bool, true, false, cond, List, length, nat_lt, Option, Some, None, refl, sym, ap, ◌∙◌}
use Rattle.std.specs.Option.{option_or}
use Rattle.std.specs.Prelude.{◌&&◌, is_some}
use Rattle.control_rules.specs.declared.settings.GcSettings.{GcSettings}
use Rattle.control_rules.specs.declared.collection.Candidate.{Candidate}
use Rattle.control_rules.specs.Collection.{collected_place, first_place, is_stale, surplus_place}
use Rattle.revision_gc.specs.declared.choice.Pick.{Pick}
use Rattle.revision_gc.specs.declared.choice.Pick.TheVariants.{Stale, First, Nobody}
use Rattle.revision_gc.specs.Choices.{is_over, pick_of, picked}

-- the first of all, where there are more than the most
surplus_by : (most : Option ℕ) (cs : List Candidate) → surplus_place most cs ≡ cond (is_over most (length cs)) (first_place (λ c. true) cs) None
surplus_by None cs = refl
surplus_by (Some most) cs = refl

-- the first stale one, or else the first of all, by the tests
by_tests : (more over : Bool) (stale first : Option ℕ)
    → option_or (cond more stale None) (cond over first None) ≡ picked (cond (is_some stale && more) Stale (cond over First Nobody)) stale first
by_tests true over (Some s) first = refl
by_tests false true (Some s) first = refl
by_tests false false (Some s) first = refl
by_tests true true None first = refl
by_tests true false None first = refl
by_tests false true None first = refl
by_tests false false None first = refl

module _ (gc : GcSettings) (now : ℕ) (cs : List Candidate) where
  pub place_by_pick : collected_place gc now cs
      ≡ picked (pick_of gc (length cs) (is_some (first_place (is_stale gc now) cs))) (first_place (is_stale gc now) cs) (first_place (λ c. true) cs)
  unfolding collected_place
  place_by_pick =
      ap (option_or (cond (nat_lt gc.least (length cs)) (first_place (is_stale gc now) cs) None)) (surplus_by gc.most cs)
      ∙ by_tests (nat_lt gc.least (length cs)) (is_over gc.most (length cs)) (first_place (is_stale gc now) cs) (first_place (λ c. true) cs)

  -- the same by what was found so far
  pub place_at : (pick : Pick) (n : ℕ) (t : Bool) (stale : Option ℕ) → stale ≡ first_place (is_stale gc now) cs → t ≡ is_some stale → n ≡ length cs → pick ≡ pick_of gc n t
      → picked pick stale (first_place (λ c. true) cs) ≡ collected_place gc now cs
  place_at pick n t stale e f g h = rw (h, g, f, e) (sym place_by_pick)
