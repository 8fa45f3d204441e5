-- The line that tells how a connection was served.
use Rattle.std.specs.Prelude.{ℕ, List, ◌++◌, codes, decimal}
use Rattle.http_session.specs.declared.report.SessionEnd.{SessionEnd}
use Rattle.http_session.specs.declared.report.SessionEnd.TheVariants.{Clean, Closed, Cut, Bad, ReadFault, WriteFault, TooLong, Memory}

-- the word for the end of a session
abbrev pub end_word : SessionEnd → List ℕ
end_word Clean = codes "clean"
end_word Closed = codes "closed"
end_word Cut = codes "cut"
end_word (Bad fault) = codes "bad"
end_word ReadFault = codes "readfault"
end_word WriteFault = codes "writefault"
end_word TooLong = codes "toolong"
end_word Memory = codes "memory"

-- the number of a connection, counted from 1, the end of its session, and how many replies were written whole
unfoldable pub line_of : ℕ → SessionEnd → ℕ → List ℕ
line_of number end answered =
    codes "connection " ++ decimal number ++ codes ": " ++ end_word end ++ codes ", " ++ decimal answered ++ codes " answered\n"
