-- The options that set up a plane, and what their texts say.
use Rattle.std.specs.Prelude.{◌≡◌, ◌&&◌, ℕ, List, [], ◌∷◌, codes, nat_le, Option, Some, None, if◌then◌else◌, option_and_then, unwrap_or}
use Rattle.std.specs.Result.{result_ok}
use Rattle.serve_names.specs.Counts.{count_of}
use Rattle.serve_names.specs.Labels.{is_domain_of}
use Rattle.control_rules.specs.declared.settings.GcSettings.{GcSettings}
use Rattle.revision_gc.specs.Settings.{settings_of}
use Rattle.command_words.specs.Options.{Word, Given, Gives, value_of}
use Rattle.command_words.specs.declared.settings.Options.{Options}

-- the number of 1 to 10 digits, where it is at least the first limit and at most the second
abbrev pub count_between : ℕ → ℕ → Word → Option ℕ
count_between least most text =
    option_and_then (λ count. if nat_le least count && nat_le count most then Some count else None) (count_of text)

-- the text itself, where it is a domain
abbrev pub domain_in : Word → Option Word
domain_in text = if is_domain_of text then Some text else None

-- the settings of collection by their four texts, where they are settings
abbrev pub gc_in : Word → Word → Word → Word → Option GcSettings
gc_in create active least most = result_ok (settings_of create active least most)

-- the next step, where there is something
infixl 10 ◌>>=◌
abbrev pub ◌>>=◌ : {A B : Type 0} → Option A → (A → Option B) → Option B
found >>= next = option_and_then next found

-- the options by the values that are given, where each says something: a value that isn't given is its standard text, and
-- that of the automatic steps is `steps`
unfoldable pub options_of : Word → (Word → Option Word) → Option Options
options_of steps value = do
  auto ← count_between 0 10000 (unwrap_or (value (codes "auto")) steps)
  domain ← domain_in (unwrap_or (value (codes "domain")) (codes "example.com"))
  gc ← gc_in (unwrap_or (value (codes "retain-since-create-time")) (codes "48h"))
      (unwrap_or (value (codes "retain-since-last-active-time")) (codes "15h"))
      (unwrap_or (value (codes "min-non-active-revisions")) (codes "20"))
      (unwrap_or (value (codes "max-non-active-revisions")) (codes "1000"))
  Some (record { auto = auto; settings = record { domain = domain; gc = gc } })

-- the names of these options
abbrev pub names : List Word
names = codes "auto" ∷ codes "domain" ∷ codes "retain-since-create-time" ∷ codes "retain-since-last-active-time"
    ∷ codes "min-non-active-revisions" ∷ codes "max-non-active-revisions" ∷ []

-- the words are options of these names, and their values say this
abbrev pub IsGiven : {A : Type 0} → List Word → ((Word → Option Word) → Option A) → List Word → A → Type 0
IsGiven names of words a = (given : List Given) × Gives names words given × (of (λ name. value_of name given) ≡ Some a)

-- the words are those of `replay` with these options: no automatic steps unless they are given
abbrev pub IsReplay : List Word → Options → Type 0
IsReplay words options = IsGiven names (options_of (codes "0")) words options
