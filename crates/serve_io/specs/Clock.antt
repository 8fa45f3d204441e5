-- What a clock gives, where it tells the moments that it holds.
use Rattle.std.specs.Prelude.{◌≡◌, ℕ, ◌≤◌, All, List, [], ◌∷◌, Option, Some, None, ⊤}
use Rattle.serve_io.specs.declared.clock.TheConstants.{LAST_MOMENT}

-- the last moment, in seconds from 1970
abbrev pub last_moment : ℕ
last_moment = LAST_MOMENT

-- the first moment, or 0 without any
abbrev pub first_moment : List ℕ → ℕ
first_moment [] = 0
first_moment (moment ∷ moments) = moment

-- the moments without the first, where another follows
abbrev pub next_moments : List ℕ → List ℕ
next_moments [] = []
next_moments (moment ∷ []) = moment ∷ []
next_moments (moment ∷ next ∷ moments) = next ∷ moments

-- the clock gave its first moment, and dropped it where another follows
abbrev pub Ticks : Option (List ℕ) → Option (List ℕ) → ℕ → Type 0
Ticks None new now = ⊤
Ticks (Some moments) new now = (now ≡ first_moment moments) × (new ≡ Some (next_moments moments))

-- each is a moment: a number of seconds from 1970 on, before the year 10000
abbrev pub AreMoments : List ℕ → Type 0
AreMoments moments = All (λ moment. moment ≤ last_moment) moments
