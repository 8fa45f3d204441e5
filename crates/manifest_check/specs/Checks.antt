-- What a check leaves, by how it ended.
use Rattle.std.specs.Prelude.{◌≡◌, ◌⊎◌, ℕ, ◌<◌, ◌≤◌, List, [], length, take, Option, Result, Ok, Err}
use Rattle.std.specs.Option.{IfSome}
use Rattle.std.specs.Io.KnownBytes.{Consumes, Appends}
use Rattle.json_tree.specs.declared.value.Json.{Json}
use Rattle.serve_io.specs.Causes.{Rose}
use Rattle.serve_io.specs.Gate.{Ends}
use Rattle.http_session.specs.Session.{IsAll}
use Rattle.resource_types.specs.declared.manifests.Manifest.{Manifest}
use Rattle.manifest_intake.specs.declared.refusal.ManifestRefusal.{ManifestRefusal}
use Rattle.manifest_intake.specs.Bodies.{IsBody}
use Rattle.manifest_intake.specs.Intake.{checked_body}
use Rattle.manifest_check.specs.Lines.{manifest_line, refusal_line, long_line}
use Rattle.manifest_check.specs.declared.command.CheckEnd.{CheckEnd}
use Rattle.manifest_check.specs.declared.command.CheckEnd.TheVariants.{Done, Refused, ReadFault, WriteFault, Memory}

-- what the source has left and what the sink took, where these are told, and the counts of faults of both, by these parts
abbrev pub ends_of : Option (List ℕ) → ℕ → Option (List ℕ) → ℕ → Ends
ends_of left reads_failed taken writes_failed = record { left = left; reads_failed = reads_failed; taken = taken; writes_failed = writes_failed }

-- ---- the input, and the line that is due

-- the input was read to its end; it has at most 65,536 bytes, and as a body it is this
pub record IsInput (old new : Ends) (bytes : List ℕ) (body : Option Json) : Type 0 where
  pub consumed : Consumes old.left new.left bytes
  pub all : IsAll old.left bytes
  pub short : length bytes ≤ 65536
  pub reading : IsBody bytes body

-- what the input gives: a manifest with its defaults, or a refusal
pub record Gives (old new : Ends) (found : Result Manifest ManifestRefusal) : Type 0 where
  pub bytes : List ℕ
  pub body : Option Json
  pub input : IsInput old new bytes body
  pub checked : checked_body body ≡ found

-- the input has more than 65,536 bytes, and of these one more was taken and no other
pub record IsLong (old new : Ends) : Type 0 where
  pub bytes : List ℕ
  pub consumed : Consumes old.left new.left bytes
  pub long : length bytes ≡ 65537

-- the line for the manifest that the input gives
abbrev pub IsTaken : Ends → Ends → List ℕ → Type 0
IsTaken old new line = (manifest : Manifest) × Gives old new (Ok manifest) × (line ≡ manifest_line manifest)

-- the line for the refusal that the input gives, or for an input that is too long
abbrev pub IsRefused : Ends → Ends → List ℕ → Type 0
IsRefused old new line =
    ((refusal : ManifestRefusal) × Gives old new (Err refusal) × (line ≡ refusal_line refusal)) ⊎ (IsLong old new × (line ≡ long_line))

-- ---- ends

-- at most so many bytes were taken, and none was written
pub record WritesNone (old new : Ends) (most : ℕ) : Type 0 where
  pub bytes : List ℕ
  pub consumed : Consumes old.left new.left bytes
  pub few : length bytes ≤ most
  pub written : Appends old.taken new.taken []

-- the line that is due was written whole
abbrev pub Writes : (Ends → Ends → List ℕ → Type 0) → Ends → Ends → Type 0
Writes IsLine old new = (line : List ℕ) × IsLine old new line × Appends old.taken new.taken line

-- a proper prefix of the line that is due was written
pub record CutsLine (old new : Ends) : Type 0 where
  pub line : List ℕ
  pub due : IsTaken old new line ⊎ IsRefused old new line
  pub sent : ℕ
  pub proper : sent < length line
  pub written : Appends old.taken new.taken (take sent line)

-- what a check leaves
abbrev pub Leaves : Ends → Ends → CheckEnd → Type 0
Leaves old new Done = Writes IsTaken old new
Leaves old new Refused = Writes IsRefused old new
Leaves old new ReadFault = Rose old.reads_failed new.reads_failed × WritesNone old new 65536
Leaves old new WriteFault = Rose old.writes_failed new.writes_failed × CutsLine old new
Leaves old new Memory = WritesNone old new 65537

-- the counts of faults do not fall
abbrev pub AreLater : Ends → Ends → Type 0
AreLater old new = (old.reads_failed ≤ new.reads_failed) × (old.writes_failed ≤ new.writes_failed)

-- ---- the end that is due for all the bytes of an input; out of memory is free

pub record IsDue (all : List ℕ) (end : CheckEnd) : Type 0 where
  pub taken : (body : Option Json) (manifest : Manifest) → length all ≤ 65536 → IsBody all body → checked_body body ≡ Ok manifest
      → (end ≡ Done) ⊎ (end ≡ Memory)
  pub refused : (body : Option Json) (refusal : ManifestRefusal) → length all ≤ 65536 → IsBody all body → checked_body body ≡ Err refusal
      → (end ≡ Refused) ⊎ (end ≡ Memory)
  pub long : 65536 < length all → (end ≡ Refused) ⊎ (end ≡ Memory)

-- where the source tells its bytes and neither end failed, the end is the one that is due for them
abbrev pub IsComplete : Ends → Ends → CheckEnd → Type 0
IsComplete old new end = IfSome old.left (λ all.
    ¬ (Rose old.reads_failed new.reads_failed) → ¬ (Rose old.writes_failed new.writes_failed) → IsDue all end)

-- ---- parts of a check

-- the whole line was written and the end is this one, or a proper prefix was and the sink failed
abbrev pub Sent : Option (List ℕ) → Option (List ℕ) → ℕ → ℕ → List ℕ → CheckEnd → CheckEnd → Type 0
Sent taken_old taken_new failed_old failed_new line whole end =
    ((end ≡ whole) × Appends taken_old taken_new line)
    ⊎ ((end ≡ WriteFault) × Rose failed_old failed_new × (sent : ℕ) × (sent < length line) × Appends taken_old taken_new (take sent line))

-- the same, or out of memory and nothing was written
abbrev pub Answers : Option (List ℕ) → Option (List ℕ) → ℕ → ℕ → List ℕ → CheckEnd → CheckEnd → Type 0
Answers taken_old taken_new failed_old failed_new line whole end =
    Sent taken_old taken_new failed_old failed_new line whole end ⊎ ((end ≡ Memory) × Appends taken_old taken_new [])
