-- What the lines of a text can say, and which of them is the first that is bad.
use Rattle.std.specs.Prelude.{◌≡◌, ◌≢◌, ◌⊎◌, ◌+◌, ◌^◌, ◌≤◌, ◌&&◌, ◌==◌, ℕ, Bool, true, List, [], ◌∷◌, ◌++◌, length, take, slice_get, nat_le, nat_lt, nat_abs, if◌then◌else◌, Some, None, IsUtf8}
use Rattle.serde_json.specs.Written.{compact_text}
use Rattle.serde_json.specs.Data.{Num, unsigned, negative, float, Data, null, boolean, number, string, array, object, Items, no_items, item, Members, no_members, member}
use Rattle.json_tree.specs.Tree.{data_of}
use Rattle.serve_names.specs.Moments.{last_moment}
use Rattle.resource_types.specs.declared.names.Actor.TheVariants.{Client}
use Rattle.resource_types.specs.declared.objects.Object.{Object}
use Rattle.resource_types.specs.Lookups.{Journal}
use Rattle.resource_codec.specs.Reading.{Member}
use Rattle.resource_codec.specs.Written.{object_of, written}
use Rattle.manifest_intake.specs.Good.{is_good}
use Rattle.control_rules.specs.declared.settings.Settings.{Settings}
use Rattle.control_rules.specs.Slots.{ObjectEntry, Plane}
use Rattle.control_rules.specs.Lawful.{IsLawful}
use Rattle.journal_text.specs.Lines.{header_of, unversioned, line_of}
use Rattle.journal_text.specs.Texts.{line_bytes, entry_lines}

-- ---- numbers

-- a whole number of 64 bits
abbrev pub is_short : Num → Bool
is_short (unsigned n) = nat_lt n (2 ^ 64)
is_short (negative z) = nat_le (nat_abs z) (2 ^ 63)
is_short (float x) = true

-- each whole number in the value is one of 64 bits
abbrev mutual
  pub are_short : Data → Bool
  are_short null = true
  are_short (boolean b) = true
  are_short (number n) = is_short n
  are_short (string s) = true
  are_short (array ds) = are_short_in_items ds
  are_short (object ms) = are_short_in_members ms

  pub are_short_in_items : Items → Bool
  are_short_in_items no_items = true
  are_short_in_items (item d ds) = are_short d && are_short_in_items ds

  pub are_short_in_members : Members → Bool
  are_short_in_members no_members = true
  are_short_in_members (member k d ms) = are_short d && are_short_in_members ms

-- each whole number in a line is one of 64 bits
abbrev pub HasShortNumbers : List Member → Type 0
HasShortNumbers members = are_short (data_of (object_of members)) ≡ true

-- ---- what a line can say

-- a line without its line feed
abbrev pub line_text : List Member → List ℕ
line_text members = compact_text (data_of (object_of members))

-- A header can say these settings and this moment: it is UTF-8, its numbers are of 64 bits, and a clock can show the moment.
-- Any domain is good, and any two numbers of Revisions that stay.
pub record CanHead (settings : Settings) (now : ℕ) : Type 0 where
  pub clock : now ≤ last_moment
  pub numbers : HasShortNumbers (header_of settings now)
  pub utf8 : IsUtf8 (line_text (header_of settings now))

-- The line of an entry can be read: it is UTF-8, and its numbers are of 64 bits, also those in the text of what a client puts.
pub record IsLegible (e : ObjectEntry) : Type 0 where
  pub utf8 : IsUtf8 (line_text (line_of e))
  pub numbers : HasShortNumbers (line_of e)
  pub put : (o : Object) → e.actor ≡ Client → e.object ≡ Some o → are_short (data_of (written (unversioned o))) ≡ true

-- An entry may come behind the entries of a journal, under these settings and up to this moment.
pub record Continues (settings : Settings) (now : ℕ) (j : Journal) (e : ObjectEntry) : Type 0 where
  pub lawful : IsLawful is_good settings (j ++ e ∷ [])
  pub past : e.moment ≤ now
  pub legible : IsLegible e

-- each entry may come behind those before it
abbrev pub AllContinue : Settings → ℕ → Journal → Type 0
AllContinue settings now j = (n : ℕ) (e : ObjectEntry) → slice_get j n ≡ Some e → Continues settings now (take n j) e

-- ---- bad lines

-- The first line of a text, with its line feed. The last one may have none, and then it is no line of a journal.
unfoldable pub next_line : List ℕ → List ℕ
next_line [] = []
next_line (byte ∷ bytes) = if byte == 10 then byte ∷ [] else byte ∷ next_line bytes

-- the text doesn't begin with a header
abbrev pub HasNoHeader : List ℕ → Type 0
HasNoHeader text = (settings : Settings) (now : ℕ) → CanHead settings now → line_bytes (header_of settings now) ≢ next_line text

-- the line is that of no entry that may come behind the journal
abbrev pub BreaksBehind : Settings → ℕ → Journal → List ℕ → Type 0
BreaksBehind settings now j line = (e : ObjectEntry) → Continues settings now j e → line_bytes (line_of e) ≢ line

-- The line of this number, counted from 1, is bad, and those before it are good: a header, and entries of which each may come behind those before it.
pub record IsBadLine (text : List ℕ) (n : ℕ) : Type 0 where
  pub settings : Settings
  pub now : ℕ
  pub journal : Journal
  pub rest : List ℕ
  pub heads : CanHead settings now
  pub good : AllContinue settings now journal
  pub split : text ≡ line_bytes (header_of settings now) ++ (entry_lines journal ++ rest)
  pub more : rest ≢ []
  pub number : n ≡ length journal + 2
  pub breaks : BreaksBehind settings now journal (next_line rest)

-- the first bad line of the text is that of this number
abbrev pub IsFirstBad : List ℕ → ℕ → Type 0
IsFirstBad text n = ((n ≡ 1) × HasNoHeader text) ⊎ IsBadLine text n

-- ---- what is read

-- the plane with idle slots, and with the cursor before the first key
abbrev pub idled : Plane → Plane
idled plane = record plane { slots = []; cursor = None }
