-- Reads one after another, and how the last one ends them.
use Rattle.std.proofs.Common.{◌≡◌, ℕ, ◌+◌, ◌<◌, ◌≤◌, List, [], ◌++◌, length, take, drop, Option, Some, None, Ok, Err, refl, sym, ap, subst, ◌∙◌, append-nil, length-append, length-take, arith}
use Rattle.std.specs.Prelude.{Result, IfOk, IsErrOf}
use Rattle.std.proofs.KnownBytes.{Consumes-trans, Consumes-kept}
use Rattle.std.proofs.lemmas.List.{take-append-drop, take-append-le}
use Rattle.std.specs.Io.KnownBytes.{Consumes, Keeps, IsAtEnd}
use Rattle.serve_io.specs.Causes.{Rose}
use Rattle.http_session.specs.Session.{IsAll}
use Rattle.gateway_pick.specs.Gateway.{View}
use Rattle.gateway_command.specs.declared.input.Unread.{Unread}
use Rattle.gateway_command.specs.declared.input.Unread.TheVariants.{Refused, Fault, TooLong, Memory}
use Rattle.gateway_command.specs.Lines.{new_gateway, HasRead, IsRefusedIn, FollowsLine, IsRefused}
use Rattle.gateway_command.specs.Reads.{most_read, Reads}
use Rattle.gateway_command.proofs.Reading.{read_none, refused_anyhow, refused_last}

-- so many bytes were taken, and followed so far
abbrev pub Taken : Option (List ℕ) → Option (List ℕ) → ℕ → View → List ℕ → Type 0
Taken old new count view line = (bytes : List ℕ) × Consumes old new bytes × (length bytes ≡ count) × HasRead bytes view line

pub none_taken : (left : Option (List ℕ)) → Consumes left left []
none_taken None = tt
none_taken (Some xs) = refl

pub taken_none : (left : Option (List ℕ)) → Taken left left 0 new_gateway []
taken_none left = ([], none_taken left, refl, read_none)

pub taken_more : (a b c : Option (List ℕ)) (count more : ℕ) (piece : List ℕ) (old new : View) (line next : List ℕ) → Taken a b count old line
    → Consumes b c piece → length piece ≡ more → ((bytes : List ℕ) → HasRead bytes old line → HasRead (bytes ++ piece) new next)
    → Taken a c (count + more) new next
taken_more a b c count more piece old new line next (bytes, took, len, read) takes size reads =
    (bytes ++ piece, Consumes-trans a b c bytes piece took takes, omega (arith, length-append bytes piece, len, size), reads bytes read)

all_at_end : (a b : Option (List ℕ)) (bytes : List ℕ) → Consumes a b bytes → IsAtEnd b → IsAll a bytes
all_at_end None b bytes p end = tt
all_at_end (Some xs) None bytes p end = absurd p
all_at_end (Some xs) (Some ys) bytes p end = p ∙ ap (λ zs. bytes ++ zs) end ∙ append-nil bytes

-- what a read gave stands at the front of the room
pub front : (b c : Option (List ℕ)) (room : List ℕ) (most count : ℕ) → count ≤ length (take most room) → Consumes b c (take count (take most room))
    → Consumes b c (take count room)
front b c room most count less takes =
    let same : take count room ≡ take count (take most room) =
    ap (λ xs. take count xs) (sym (take-append-drop most room)) ∙ take-append-le count (take most room) (drop most room) less in
    subst (λ xs. Consumes b c xs) (sym same) takes

pub size : (room : List ℕ) (most count : ℕ) → count ≤ length (take most room) → length (take count room) ≡ count
size room most count less = omega (arith, length-take count room, length-take most room, less)

-- ---- ends

pub memory_reads : (old new : Option (List ℕ)) (before now count : ℕ) (view : View) (line : List ℕ) → Taken old new count view line → count ≤ most_read
    → Reads old new before now (Err Memory)
memory_reads old new before now count view line (bytes, took, len, read) few = (bytes, took, omega (arith, len, few))

pub refused_reads : (a b c : Option (List ℕ)) (before now count more : ℕ) (piece : List ℕ) (view : View) (line : List ℕ) (unread : Unread)
    → Taken a b count view line → Consumes b c piece → length piece ≡ more → count + more ≤ most_read
    → (unread ≡ Refused → (bytes : List ℕ) → HasRead bytes view line → IsRefusedIn (bytes ++ piece))
    → ¬ (unread ≡ Fault) → ¬ (unread ≡ TooLong) → Reads a c before now (Err unread)
refused_reads a b c before now count more piece view line Refused (bytes, took, len, read) takes size few refuses calm short =
    (bytes ++ piece, Consumes-trans a b c bytes piece took takes, omega (arith, length-append bytes piece, len, size, few), refused_anyhow (bytes ++ piece) _ (refuses refl bytes read))
refused_reads a b c before now count more piece view line Fault taken takes size few refuses calm short = absurd (calm refl)
refused_reads a b c before now count more piece view line TooLong taken takes size few refuses calm short = absurd (short refl)
refused_reads a b c before now count more piece view line Memory (bytes, took, len, read) takes size few refuses calm short =
    (bytes ++ piece, Consumes-trans a b c bytes piece took takes, omega (arith, length-append bytes piece, len, size, few))

pub fault_reads : (a b c : Option (List ℕ)) (before middle now count : ℕ) (view : View) (line : List ℕ) → Taken a b count view line → Keeps b c → count < most_read
    → middle ≡ before → Rose middle now → Reads a c before now (Err Fault)
fault_reads a b c before middle now count view line (bytes, took, len, read) keeps less same rose =
    (subst (λ n. Rose n now) same rose, bytes, Consumes-kept a b c bytes took keeps, omega (arith, len, less), (view, line, read))

pub long_reads : (a b : Option (List ℕ)) (before now count : ℕ) (view : View) (line : List ℕ) → Taken a b count view line → count ≤ most_read → most_read ≤ count
    → Reads a b before now (Err TooLong)
long_reads a b before now count view line (bytes, took, len, read) few more = (bytes, took, omega (arith, len, few, more), (view, line, read))

pub end_reads : (a b c : Option (List ℕ)) (before now count : ℕ) (view : View) (line : List ℕ) (result : Result View Unread) → Taken a b count view line
    → IsAtEnd b → Keeps b c → count < most_read → IfOk result (FollowsLine view line) → (IsErrOf result Refused → IsRefused line view)
    → ¬ (IsErrOf result Fault) → ¬ (IsErrOf result TooLong) → Reads a c before now result
end_reads a b c before now count view line (Ok last) (bytes, took, len, read) end keeps less follows refuses calm short = (
  bytes,
  Consumes-kept a b c bytes took keeps,
  record { before = view; last = line; read = read; end = follows; all = all_at_end a b bytes took end; short = omega (arith, len, less) },
)
end_reads a b c before now count view line (Err Refused) (bytes, took, len, read) end keeps less follows refuses calm short =
    (bytes, Consumes-kept a b c bytes took keeps, omega (arith, len, less), refused_last bytes _ view line read (refuses refl) (all_at_end a b bytes took end))
end_reads a b c before now count view line (Err Fault) taken end keeps less follows refuses calm short = absurd (calm refl)
end_reads a b c before now count view line (Err TooLong) taken end keeps less follows refuses calm short = absurd (short refl)
end_reads a b c before now count view line (Err Memory) (bytes, took, len, read) end keeps less follows refuses calm short =
    (bytes, Consumes-kept a b c bytes took keeps, omega (arith, len, less))

pub no_room_reads : (left : Option (List ℕ)) (before now : ℕ) → Reads left left before now (Err Memory)
no_room_reads left before now = ([], none_taken left, omega arith)
