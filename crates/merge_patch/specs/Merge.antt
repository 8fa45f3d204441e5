-- JSON Merge Patch (RFC 7396, section 2), on the data of JSON values.
use Rattle.std.specs.Prelude.{ℕ, Bool, true, false, List, Option, Some, None, unwrap_or, if◌then◌else◌}
use Rattle.std.specs.Str.{bytes_eq}
use Rattle.serde_json.specs.Data.{Data, Members, no_members, member, null, boolean, number, string, array, object, put}

abbrev pub is_null : Data → Bool
is_null null = true
is_null (boolean b) = false
is_null (number n) = false
is_null (string s) = false
is_null (array ds) = false
is_null (object ms) = false

-- the members of an object; none of another value
abbrev pub members_of : Data → Members
members_of null = no_members
members_of (boolean b) = no_members
members_of (number n) = no_members
members_of (string s) = no_members
members_of (array ds) = no_members
members_of (object ms) = ms

-- the value of the first member with the name
abbrev pub lookup : List ℕ → Members → Option Data
lookup name no_members = None
lookup name (member k d ms) = if bytes_eq k name then Some d else lookup name ms

-- the members without the first one with the name
abbrev pub without : List ℕ → Members → Members
without name no_members = no_members
without name (member k d ms) = if bytes_eq k name then ms else member k d (without name ms)

-- the same, or null where the name has none
abbrev pub value_or_null : List ℕ → Members → Data
value_or_null name ms = unwrap_or (lookup name ms) null

-- A patch that is no object takes the target's place. One that is an object changes the target's members, one name after another: a null takes the member of its name away, and any other value is merged into the value of its name.
abbrev mutual
  pub merge_of : Data → Data → Data
  merge_of target null = null
  merge_of target (boolean b) = boolean b
  merge_of target (number n) = number n
  merge_of target (string s) = string s
  merge_of target (array ds) = array ds
  merge_of target (object changes) = object (merged (members_of target) changes)

  pub merged : Members → Members → Members
  merged ms no_members = ms
  merged ms (member k d changes) = merged (if is_null d then without k ms else put k (merge_of (value_or_null k ms) d) ms) changes

-- the members with the value under the name; a null adds nothing
abbrev pub put_unless_null : List ℕ → Data → Members → Members
put_unless_null k d ms = if is_null d then ms else put k d ms
