-- What the command leaves.
use Rattle.std.proofs.Common.{ℕ, List, Option, [], Some, None, sym, subst, inl, inr, arith, append-nil}
use Rattle.std.specs.Prelude.{Ok, Err, IsTrue}
use Rattle.std.specs.List.{list_any}
use Rattle.std.specs.Io.KnownBytes.{Appends}
use Rattle.serve_io.specs.Gate.{Ends}
use Rattle.gateway_pick.specs.Gateway.{View}
use Rattle.gateway_pick.specs.Picks.{has_host, pick_of, PicksEvenly}
use Rattle.gateway_command.specs.declared.command.PickEnd.{PickEnd}
use Rattle.gateway_command.specs.declared.input.Unread.{Unread}
use Rattle.gateway_command.specs.declared.input.Unread.TheVariants as unread
use Rattle.gateway_command.specs.Texts.{picks_text}
use Rattle.gateway_command.specs.Reads.{Reads}
use Rattle.gateway_command.specs.Leaves.{Follows, Leaves, Sent, end_of}

pub sent_leaves : (host : List ℕ) (first count : ℕ) (old new : Ends) (view : View) (end : PickEnd)
    → Reads old.left new.left old.reads_failed new.reads_failed (Ok view)
    → (IsTrue (list_any (has_host host) view.tables) → (number : ℕ) → PicksEvenly view.tables host number)
    → Sent old.taken new.taken old.writes_failed new.writes_failed (picks_text (pick_of view.tables host) first count) end
    → Leaves host first count old new end
sent_leaves host first count old new view end (bytes, took, followed) evenly sent = by_sent sent
  where
    all : Follows host old new
    all = record { bytes = bytes; view = view; consumed = took; followed = followed; evenly = evenly }

    by_sent : Sent old.taken new.taken old.writes_failed new.writes_failed (picks_text (pick_of view.tables host) first count) end → Leaves host first count old new end
    by_sent (inl (is, written)) = subst (λ e. Leaves host first count old new e) (sym is) (all, written)
    by_sent (inr (inl (is, rose, sent, proper, written))) = subst (λ e. Leaves host first count old new e) (sym is) (rose, all, sent, proper, written)
    by_sent (inr (inr (is, written))) =
        subst (λ e. Leaves host first count old new e) (sym is) (record { bytes = bytes; consumed = took; is = omega (arith, followed.short); written = written })

pub none_written : (taken : Option (List ℕ)) → Appends taken taken []
none_written None = tt
none_written (Some xs) = sym (append-nil xs)

pub unread_leaves : (host : List ℕ) (first count : ℕ) (old new : Ends) (u : Unread)
    → Reads old.left new.left old.reads_failed new.reads_failed (Err u) → Appends old.taken new.taken [] → Leaves host first count old new (end_of u)
unread_leaves host first count old new unread.Refused (bytes, took, few, refused) written = record { bytes = bytes; consumed = took; is = (few, refused); written = written }
unread_leaves host first count old new unread.Fault (rose, bytes, took, less, rest) written = (rose, record { bytes = bytes; consumed = took; is = (less, rest); written = written })
unread_leaves host first count old new unread.TooLong (bytes, took, long, rest) written = record { bytes = bytes; consumed = took; is = (long, rest); written = written }
unread_leaves host first count old new unread.Memory (bytes, took, few) written = record { bytes = bytes; consumed = took; is = few; written = written }
