-- The options of a command, as its words write them.
use Rattle.std.specs.Prelude.{◌≡◌, ◌==◌, ◌&&◌, ℕ, Bool, false, not, List, [], ◌∷◌, ◌++◌, length, map, nat_lt, Option, Some, None, if◌then◌else◌, bytes_eq}
use Rattle.std.specs.Borrow.{Bor}
use Rattle.std.specs.List.{Contains, list_any}

abbrev pub Word : Type 0
Word = List ℕ

-- the words behind references
abbrev pub texts_of : List (Bor Word) → List Word
texts_of = map (λ text. text.now)

-- `-`
abbrev pub hyphen : ℕ
hyphen = 45

-- `=`
abbrev pub equals : ℕ
equals = 61

abbrev pub begins_with_hyphen : Word → Bool
begins_with_hyphen [] = false
begins_with_hyphen (x ∷ xs) = x == hyphen

-- an option that is given: its name, its value, and whether both stand in one word
pub record Given : Type 0 where
  pub name : Word
  pub value : Word
  pub is_joined : Bool

-- its words: `--name=value`, or `--name` and `value`
abbrev pub words_of : Given → List Word
words_of g = if g.is_joined then (hyphen ∷ hyphen ∷ g.name ++ equals ∷ g.value) ∷ []
    else (hyphen ∷ hyphen ∷ g.name) ∷ g.value ∷ []

-- the words of options, one after another
unfoldable pub all_words : List Given → List Word
all_words [] = []
all_words (g ∷ rest) = words_of g ++ all_words rest

-- the value that is given to the name
unfoldable pub value_of : Word → List Given → Option Word
value_of name [] = None
value_of name (g ∷ rest) = if bytes_eq g.name name then Some g.value else value_of name rest

-- the option has one of the names, it isn't given again, and a value in a word of its own doesn't begin with a hyphen
pub record IsOption (names : List Word) (g : Given) (rest : List Given) : Type 0 where
  pub known : Contains names g.name
  pub once : value_of g.name rest ≡ None
  pub separate : g.is_joined ≡ false → begins_with_hyphen g.value ≡ false

-- each is an option of these names
unfoldable pub AreOptions : List Word → List Given → Type 0
AreOptions names [] = Unit {0}
AreOptions names (g ∷ rest) = IsOption names g rest × AreOptions names rest

-- the words are those of options of these names
pub record Gives (names words : List Word) (given : List Given) : Type 0 where
  pub options : AreOptions names given
  pub written : words ≡ all_words given

-- the words give options of these names, with these values
abbrev pub GivesValues : List Word → List Word → (Word → Option Word) → Type 0
GivesValues names words value = (given : List Given) × Gives names words given × ((name : Word) → value name ≡ value_of name given)

-- the words give no options of these names
abbrev pub GivesNone : List Word → List Word → Type 0
GivesNone names words = (given : List Given) → ¬ (Gives names words given)

-- a name that an option can have: it isn't empty, and has no `=`
abbrev pub is_name : Word → Bool
is_name name = nat_lt 0 (length name) && not (list_any (λ x. x == equals) name)
