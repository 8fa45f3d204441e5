-- What the command leaves, by how it ended.
use Rattle.std.specs.Prelude.{◌≡◌, ◌⊎◌, ℕ, ◌<◌, ◌≤◌, List, [], length, take, Option, IsTrue}
use Rattle.std.specs.List.{list_any}
use Rattle.std.specs.Option.{IfSome}
use Rattle.std.specs.Io.KnownBytes.{Consumes, Appends}
use Rattle.serve_io.specs.Causes.{Rose}
use Rattle.serve_io.specs.Gate.{Ends}
use Rattle.http_session.specs.Session.{IsAll}
use Rattle.gateway_pick.specs.Gateway.{View}
use Rattle.gateway_pick.specs.Picks.{has_host, pick_of, PicksEvenly}
use Rattle.gateway_command.specs.Lines.{RefusesLine}
use Rattle.gateway_command.specs.Reads.{most_read, HasFollowed, IsUnended}
use Rattle.gateway_command.specs.Texts.{picks_text}
use Rattle.gateway_command.specs.declared.input.Unread.{Unread}
use Rattle.gateway_command.specs.declared.input.Unread.TheVariants as unread
use Rattle.gateway_command.specs.declared.command.PickEnd.{PickEnd}
use Rattle.gateway_command.specs.declared.command.PickEnd.TheVariants.{Done, Refused, ReadFault, WriteFault, TooLong, Memory}

-- what the source has left and what the sink took, where these are told, and the counts of faults of both, by these parts
abbrev pub ends_of : Option (List ℕ) → ℕ → Option (List ℕ) → ℕ → Ends
ends_of left reads_failed taken writes_failed = record { left = left; reads_failed = reads_failed; taken = taken; writes_failed = writes_failed }

abbrev pub end_of : Unread → PickEnd
end_of unread.Refused = Refused
end_of unread.Fault = ReadFault
end_of unread.TooLong = TooLong
end_of unread.Memory = Memory

-- All polls of the input were followed, and the gateway knows these Tables. Where one of them has the host, any hundred numbers one after another pick
-- each of its rows exactly as often as its percent says.
pub record Follows (host : List ℕ) (old new : Ends) : Type 0 where
  pub bytes : List ℕ
  pub view : View
  pub consumed : Consumes old.left new.left bytes
  pub followed : HasFollowed old.left bytes view
  pub evenly : IsTrue (list_any (has_host host) view.tables) → (number : ℕ) → PicksEvenly view.tables host number

-- the bytes that were taken are so, and none was written
pub record WritesNone (old new : Ends) (Is : List ℕ → Type 0) : Type 0 where
  pub bytes : List ℕ
  pub consumed : Consumes old.left new.left bytes
  pub is : Is bytes
  pub written : Appends old.taken new.taken []

abbrev pub Leaves : List ℕ → ℕ → ℕ → Ends → Ends → PickEnd → Type 0
Leaves host first count old new Done = (f : Follows host old new) × Appends old.taken new.taken (picks_text (pick_of f.view.tables host) first count)
Leaves host first count old new WriteFault = Rose old.writes_failed new.writes_failed
    × (f : Follows host old new) × (sent : ℕ) × (sent < length (picks_text (pick_of f.view.tables host) first count))
    × Appends old.taken new.taken (take sent (picks_text (pick_of f.view.tables host) first count))
Leaves host first count old new Refused = WritesNone old new (λ bytes. (length bytes ≤ most_read) × RefusesLine bytes (IsAll old.left bytes))
Leaves host first count old new ReadFault =
    Rose old.reads_failed new.reads_failed × WritesNone old new (λ bytes. (length bytes < most_read) × IsUnended bytes)
Leaves host first count old new TooLong = WritesNone old new (λ bytes. (length bytes ≡ most_read) × IsUnended bytes)
Leaves host first count old new Memory = WritesNone old new (λ bytes. length bytes ≤ most_read)

-- ---- the end that is due for all the bytes of an input; out of memory is free

pub record IsDue (left : Option (List ℕ)) (all : List ℕ) (end : PickEnd) : Type 0 where
  pub followed : (view : View) → HasFollowed left all view → (end ≡ Done) ⊎ (end ≡ Memory)
  pub refused : length all < most_read → RefusesLine all (IsAll left all) → (end ≡ Refused) ⊎ (end ≡ Memory)

-- where the source tells its bytes and neither end failed, the end is the one that is due for them
abbrev pub IsComplete : Ends → Ends → PickEnd → Type 0
IsComplete old new end = IfSome old.left (λ all.
    ¬ (Rose old.reads_failed new.reads_failed) → ¬ (Rose old.writes_failed new.writes_failed) → IsDue old.left all end)

-- ---- parts of the command

-- the text was written whole, or a proper prefix was and the sink failed, or out of memory and nothing was written
abbrev pub Sent : Option (List ℕ) → Option (List ℕ) → ℕ → ℕ → List ℕ → PickEnd → Type 0
Sent taken_old taken_new failed_old failed_new text end =
    ((end ≡ Done) × Appends taken_old taken_new text)
    ⊎ (((end ≡ WriteFault) × Rose failed_old failed_new × (sent : ℕ) × (sent < length text) × Appends taken_old taken_new (take sent text))
    ⊎ ((end ≡ Memory) × Appends taken_old taken_new []))
