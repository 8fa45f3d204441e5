-- What each name has in a merged value, in the words of RFC 7396, section 2.
use Rattle.std.specs.Prelude.{◌≡◌, ℕ, List, Option, Some, None, unwrap_or, if◌then◌else◌, IsTrue}
use Rattle.serde_json.specs.Data.{Data, Members, null, boolean, number, string, array, object}
use Rattle.json_tree.specs.Tree.{rises}
use Rattle.merge_patch.specs.Merge.{is_null, members_of, lookup, merge_of}

-- What the answer has under a name, by what the patch and the target have there: what the target has, where the patch has nothing; nothing, where the patch has null; else the merge of the two, where null stands for a value that the target lacks.
abbrev pub by_change : Option Data → Option Data → Option Data
by_change None had = had
by_change (Some d) had = if is_null d then None else Some (merge_of (unwrap_or had null) d)

-- the members that the changes leave: their names rise strictly, and each name has what the changes make of what it had
pub record AreMerged (had changes ms : Members) : Type 0 where
  pub rise : IsTrue (rises ms)
  pub named : (name : List ℕ) → lookup name ms ≡ by_change (lookup name changes) (lookup name had)

-- Where the patch is no object, the answer is the patch. Else it is the object in which each name has what the patch makes of what the target has there, and a target that is no object has no members.
abbrev pub IsMerge : Data → Data → Data → Type 0
IsMerge target null answer = answer ≡ null
IsMerge target (boolean b) answer = answer ≡ boolean b
IsMerge target (number n) answer = answer ≡ number n
IsMerge target (string s) answer = answer ≡ string s
IsMerge target (array ds) answer = answer ≡ array ds
IsMerge target (object changes) answer = (ms : Members) × answer ≡ object ms × AreMerged (members_of target) changes ms
