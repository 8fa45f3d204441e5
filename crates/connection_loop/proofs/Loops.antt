-- The turns of the loop, and how it ends.
use Rattle.std.proofs.Common.{◌≡◌, ℕ, ◌+◌, ◌<◌, ◌≤◌, List, [], ◌∷◌, ◌++◌, length, take, Some, None, refl, sym, ap, subst, ◌∙◌, inl, inr, arith, append-nil, length-append}
use Rattle.std.specs.Prelude.{◌≢◌}
use Rattle.std.specs.Io.KnownBytes.{Appends}
use Rattle.std.proofs.lemmas.List.Elements.{All-nil, All-push}
use Rattle.std.proofs.KnownBytes.{Appends-nil, Appends-trans}
use Rattle.serve_io.specs.Causes.{Rose}
use Rattle.http_session.specs.declared.report.SessionReport.{SessionReport}
use Rattle.http_session.specs.declared.report.SessionEnd.TheVariants as end
use Rattle.connection_loop.specs.declared.serving.ServeEnd.{ServeEnd}
use Rattle.connection_loop.specs.declared.serving.ServeEnd.TheVariants.{Done, Usage, GateFault, WriteFault, Memory}
use Rattle.connection_loop.specs.Lines.{line_of}
use Rattle.connection_loop.specs.Serves.{Serving, LineSink, Served, Serves, line, lines_from, GoOn, WritesLines, CutsLine, Runs}
use Rattle.connection_loop.specs.Turns.{ServesOne, CutsOne, Turns, Progress}
use Rattle.connection_loop.proofs.Gates.{serves_none, serves_more}
use Rattle.connection_loop.proofs.Telling.{lines_more}

-- nothing was served yet
pub begins : (s : Serving) (k : LineSink) → Progress 0 s s k k
begins s k = record {
  served = [];
  is = refl;
  serves = serves_none s s refl refl refl (omega arith);
  lines = record { on = All-nil (λ (c : Served). c.end ≢ end.Memory); written = Appends-nil k.taken };
}

-- the line of a connection with that report
told : (count : ℕ) (c : Served) (report : SessionReport) → c.end ≡ report.end → c.answered ≡ report.answered → line_of (count + 1) report.end report.answered ≡ line (1 + count) c
told count c report end answered =
    let same : count + 1 ≡ 1 + count = omega arith in
    ap (λ (n : ℕ). line_of n report.end report.answered) same ∙ ap (λ e. line_of (1 + count) e report.answered) (sym end) ∙ ap (λ (n : ℕ). line_of (1 + count) c.end n) (sym answered)

goes_on : (served : List Served) (c : Served) → GoOn served → c.end ≢ end.Memory → GoOn (served ++ c ∷ [])
goes_on served c on one = All-push (λ (x : Served). x.end ≢ end.Memory) served c on one

-- a connection was served and told of
pub one_more : (count : ℕ) (old middle new : Serving) (first between last : LineSink) → Progress count old middle first between
    → Turns (count + 1) middle new between last None → Progress (count + 1) old new first last
one_more count old middle new first between last p (report, one, (goes, written)) =
    let at : line_of (count + 1) report.end report.answered ≡ line (1 + length p.served) one.c =
    told count one.c report one.end one.answered ∙ ap (λ (n : ℕ). line (1 + n) one.c) (sym p.is) in
    record {
      served = p.served ++ one.c ∷ [];
      is = length-append p.served (one.c ∷ []) ∙ ap (λ (n : ℕ). n + 1) p.is;
      serves = serves_more old middle new p.served (one.c ∷ []) p.serves one.serves;
      lines = record {
        on = goes_on p.served one.c p.lines.on (λ e. goes (sym one.end ∙ e));
        written = subst (λ (l : List ℕ). Appends first.taken last.taken l) (sym (lines_more 1 p.served one.c))
            (Appends-trans first.taken between.taken last.taken _ _ p.lines.written (subst (λ (l : List ℕ). Appends between.taken last.taken l) at written));
      };
    }

-- as many were served as were asked for
pub all_served : (sessions count : ℕ) (old new : Serving) (first last : LineSink) → count ≡ sessions → Progress count old new first last → Runs sessions old new first last Done
all_served sessions count old new first last all p = record {
  served = p.served;
  serves = p.serves;
  few = omega (arith, p.is, all);
  stops = (p.lines, inl (p.is ∙ all));
}

-- nothing more was served
none_more : (old middle new : Serving) (served : List Served) → Serves old middle served → Serves middle new [] → Serves old new served
none_more old middle new served p q = subst (λ (l : List Served). Serves old new l) (append-nil served) (serves_more old middle new served [] p q)

same_lines : (first between last : LineSink) (served : List Served) → WritesLines first between served → last ≡ between → WritesLines first last served
same_lines first between last served p same = subst (λ (k : LineSink). WritesLines first k served) (sym same) p

-- the line of the last one was cut
cut : (count : ℕ) (old middle new : Serving) (first between last : LineSink) (p : Progress count old middle first between) (report : SessionReport)
    (one : ServesOne middle new report) → CutsOne (count + 1) report between last → CutsLine first last (p.served ++ one.c ∷ [])
cut count old middle new first between last p report one t =
    let at : line_of (count + 1) report.end report.answered ≡ line (length (p.served ++ one.c ∷ [])) one.c =
    let number : 1 + length p.served ≡ length (p.served ++ one.c ∷ []) = omega (arith, length-append p.served (one.c ∷ [])) in
    told count one.c report one.end one.answered ∙ ap (λ (n : ℕ). line (1 + n) one.c) (sym p.is) ∙ ap (λ (n : ℕ). line n one.c) number in
    record {
      first = p.served;
      last = one.c;
      are = refl;
      on = goes_on p.served one.c p.lines.on (λ e. t.on (sym one.end ∙ e));
      sent = t.sent;
      proper = subst (λ (l : List ℕ). t.sent < length l) at t.proper;
      written = Appends-trans first.taken between.taken last.taken _ _ p.lines.written (subst (λ (l : List ℕ). Appends between.taken last.taken (take t.sent l)) at t.written);
    }

-- the failures of a sink that didn't fail before
rose_from : (before between now : ℕ) → before ≤ between → Rose between now → Rose before now
rose_from before between now le rose = omega (arith, le, rose)

-- a turn was the last
pub stops : (sessions count : ℕ) (old middle new : Serving) (first between last : LineSink) (ended : ServeEnd) → count < sessions → first.failed ≤ between.failed
    → Progress count old middle first between → Turns (count + 1) middle new between last (Some ended) → Runs sessions old new first last ended
stops sessions count old middle new first between last Done fits calm p (none, closed, same) = record {
  served = p.served;
  serves = none_more old middle new p.served p.serves none;
  few = omega (arith, p.is, fits);
  stops = (same_lines first between last p.served p.lines same, inr closed);
}
stops sessions count old middle new first between last GateFault fits calm p (none, rose, same) = record {
  served = p.served;
  serves = none_more old middle new p.served p.serves none;
  few = omega (arith, p.is, fits);
  stops = (same_lines first between last p.served p.lines same, rose_from old.failed middle.failed new.failed p.serves.later rose);
}
stops sessions count old middle new first between last WriteFault fits calm p (report, one, tells) = record {
  served = p.served ++ one.c ∷ [];
  serves = serves_more old middle new p.served (one.c ∷ []) p.serves one.serves;
  few = omega (arith, length-append p.served (one.c ∷ []), p.is, fits);
  stops = (cut count old middle new first between last p report one tells, rose_from first.failed between.failed last.failed calm tells.rose);
}
stops sessions count old middle new first between last Memory fits calm p (report, one, (short, same)) = record {
  served = p.served ++ one.c ∷ [];
  serves = serves_more old middle new p.served (one.c ∷ []) p.serves one.serves;
  few = omega (arith, length-append p.served (one.c ∷ []), p.is, fits);
  stops = record {
    first = p.served;
    last = one.c;
    are = refl;
    on = p.lines.on;
    short = one.end ∙ short;
    written = subst (λ (k : LineSink). Appends first.taken k.taken (lines_from 1 p.served)) (sym same) p.lines.written;
  };
}
stops sessions count old middle new first between last Usage fits calm p (report, one, tells) = absurd tells
