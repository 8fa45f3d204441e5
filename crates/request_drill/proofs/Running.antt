-- What a session over a stream in memory, with a handler that counts refusals, is for the world that is lent to it.
use Rattle.std.proofs.Common.{◌≡◌, ℕ, ◌+◌, ◌-◌, ◌^◌, ◌<◌, ◌≤◌, Bool, true, false, List, [], ◌∷◌, ◌++◌, length, replicate, Option, Some, None, nat_le, append-nil, refl, sym, ap, subst, inl, inr, ◌∙◌, arith, length-append}
use Rattle.std.specs.Prelude.{if◌then◌else◌}
use Rattle.std.specs.Io.KnownBytes.{Consumes}
use Rattle.std.proofs.lemmas.List.{map-append}
use Rattle.std.proofs.lemmas.List.Sums.{sum_by-cons}
use Rattle.serve_io.specs.Causes.{one_more, Rose}
use Rattle.http_session.specs.declared.message.Asked.{Asked}
use Rattle.http_session.specs.declared.report.ClockMode.TheVariants.{Leave}
use Rattle.http_session.specs.declared.report.SessionEnd.{SessionEnd}
use Rattle.http_session.specs.declared.report.SessionEnd.TheVariants as session_end
use Rattle.http_session.specs.declared.stream.StreamEnd.{StreamEnd}
use Rattle.http_session.specs.declared.stream.StreamEnd.TheVariants as stream
use Rattle.http_session.specs.Stream.{whole, IsStream, Reads, BeginsWith, IsNext}
use Rattle.http_session.specs.Session.{Exchange, asked_in, moments_in, Run, TakesMoments, SessionState, IsAll, Answered, CutsAfter, CutsAsk, Finishes}
use Rattle.http_session.proofs.StreamLemmas.{IsFront-append, Reads-append, BeginsWith-reads, BeginsWith-push}
use Rattle.http_session.proofs.UniqueLemmas.{IsFinal, IsStream-append}
use Rattle.http_session.proofs.RunLemmas.{Run-push}
use Rattle.api_server.specs.Ask.{WorldView, Asks, AskCut, After, AfterCut, stepped}
use Rattle.request_drill.specs.declared.tally.Tally.{Tally}
use Rattle.request_drill.specs.Runs.{Answers, refusals, Stops}
use Rattle.request_drill.specs.Tallies.{LendsSame, AsksCounting, CutsCounting, WorksBehind, CutsBehind, Counts}

-- ---- the run

pub run_of : (old : Tally) (done : List Exchange) (new : Tally) → Run AsksCounting WorksBehind old done new
    → Run Asks After old.world.now done new.world.now
run_of old [] new run = ap (λ (t : Tally). t.world.now) run
run_of old (x ∷ done) new (answered, next, asks, after, rest) =
    (answered.world.now, next.world.now, asks.asks, after.after, run_of next done new rest)

pub same_of : (old : Tally) (done : List Exchange) (new : Tally) → Run AsksCounting WorksBehind old done new → LendsSame old new
same_of old [] new run = ap (λ (t : Tally). t.world.ghost_name) run
same_of old (x ∷ done) new (answered, next, asks, after, rest) = same_of next done new rest ∙ after.same ∙ asks.same

-- the count of refusals stays below the end of its type
one_more_is : (n k : ℕ) (b : Bool) → n + (k + 1) ≤ 2 ^ 64 - 1 → (if b then one_more n else n) ≡ n + (if b then 1 else 0)
one_more_is n k true le = omega (arith, le)
one_more_is n k false le = omega arith

at_most_one : (b : Bool) → (if b then 1 else 0) ≤ 1
at_most_one true = omega arith
at_most_one false = omega arith

refusals-cons : (x : Exchange) (done : List Exchange) → refusals (x ∷ done) ≡ (if nat_le 400 x.reply.code then 1 else 0) + refusals done
refusals-cons x done = sum_by-cons (λ (x : Exchange). if nat_le 400 x.reply.code then 1 else 0) x done

pub count_of : (old : Tally) (done : List Exchange) (new : Tally) → Run AsksCounting WorksBehind old done new
    → old.refused + length done ≤ 2 ^ 64 - 1 → new.refused ≡ old.refused + refusals done
count_of old [] new run le = let same : new.refused ≡ old.refused = ap (λ (t : Tally). t.refused) run in omega (arith, same)
count_of old (x ∷ done) new (answered, next, asks, after, rest) le =
    let b : Bool = nat_le 400 x.reply.code in
    let one = at_most_one b in
    let here : next.refused ≡ old.refused + (if b then 1 else 0) =
    after.counts ∙ asks.counts ∙ one_more_is old.refused (length done) b (omega (arith, le)) in
    let later = count_of next done new rest (omega (arith, le, here, one)) in
    omega (arith, later, here, refusals-cons x done)

-- no moment is taken
still : (old new : Option (List ℕ)) (done : List Exchange) (more : List (Option ℕ)) → TakesMoments Leave old (moments_in done ++ more) new
    → moments_in done ≡ replicate (length done) None
still old new [] more takes = refl
still old new (x ∷ done) more (middle, here, rest) = rw (here.0) (ap (λ ms. None ∷ ms) (still middle new done more rest))

last_none : (old new : Option (List ℕ)) (moments : List (Option ℕ)) (now : Option ℕ) → TakesMoments Leave old (moments ++ now ∷ []) new → now ≡ None
last_none old new [] now (middle, here, rest) = here.0
last_none old new (m ∷ moments) now (middle, here, rest) = last_none middle new moments now rest

answers_of : (old : Tally) (done : List Exchange) (new : Tally) (m m' : Option (List ℕ)) (more : List (Option ℕ))
    → Run AsksCounting WorksBehind old done new → TakesMoments Leave m (moments_in done ++ more) m' → Answers old.world.now done new.world.now
answers_of old done new m m' more run takes = record { run = run_of old done new run; no_moments = still m m' done more takes }

-- ---- the bytes that were taken are the first of all

abbrev IsFirst : List ℕ → List ℕ → Type 0
IsFirst all bytes = (more : List ℕ) × (all ≡ bytes ++ more)

first_of : (left rest : Option (List ℕ)) (all bytes : List ℕ) → left ≡ Some all → Consumes left rest bytes → IsFirst all bytes
first_of None rest all bytes told took = cc
first_of (Some xs) None all bytes told took = absurd took
first_of (Some xs) (Some ys) all bytes told took = (ys, let same : xs ≡ all = cc in sym same ∙ took)

whole_of : (left : Option (List ℕ)) (all bytes : List ℕ) → left ≡ Some all → IsAll left bytes → all ≡ bytes
whole_of None all bytes told is = cc
whole_of (Some xs) all bytes told is = let same : xs ≡ all = cc in sym same ∙ is

-- ---- a session that is whole

counts_by : (all : List ℕ) (old new : SessionState Tally) (answered : ℕ) (tail : List ℕ) (IsEnd : List ℕ → List Asked → Type 0) (end : StreamEnd)
    → (a : Answered AsksCounting WorksBehind Leave old new answered tail IsEnd) → IsStream all (asked_in a.done) end → old.handler.refused ≡ 0 → answered ≤ 2 ^ 64 - 1
    → LendsSame old.handler new.handler × Counts all old.handler new.handler answered
counts_by all old new answered tail IsEnd end a stream none fits = (
  same_of old.handler a.done new.handler a.served.run,
  record {
    done = a.done;
    runs = record {
      answers = answers_of old.handler a.done new.handler old.moments new.moments [] a.served.run a.served.moments;
      end = end;
      stream = stream;
    };
    count = a.count;
    refused =
        let sum : new.handler.refused ≡ old.handler.refused + refusals a.done =
        count_of old.handler a.done new.handler a.served.run (omega (arith, none, a.count, fits)) in
        omega (arith, sum, none);
  },
)

-- the stream of the first bytes is that of all, where its end is known
final_stream : (all bytes : List ℕ) (asked : List Asked) (end : StreamEnd) → IsFinal end → IsFirst all bytes → IsStream bytes asked end → IsStream all asked end
final_stream all bytes asked end final (more, is) s = subst (λ b. IsStream b asked end) (sym is) (IsStream-append bytes more asked end final s)

not_longer : (all bytes : List ℕ) → IsFirst all bytes → length all < 4294967295 → length bytes ≡ 4294967295 → ⊥
not_longer all bytes (more, is) short long =
    let sum : length all ≡ length bytes + length more = ap length is ∙ length-append bytes more in omega (arith, sum, short, long)

-- what a session over all the bytes comes to, where memory suffices and neither end fails
pub counts : (all : List ℕ) (old new : SessionState Tally) (answered : ℕ) (end : SessionEnd)
    → Finishes AsksCounting CutsCounting WorksBehind CutsBehind Leave old new answered end → (end ≡ session_end.Memory → ⊥)
    → old.left ≡ Some all → length all < 4294967295 → old.handler.refused ≡ 0 → answered ≤ 2 ^ 64 - 1
    → (Rose old.reads_failed new.reads_failed → ⊥) → (Rose old.writes_failed new.writes_failed → ⊥)
    → LendsSame old.handler new.handler × Counts all old.handler new.handler answered
counts all old new answered session_end.Clean a enough told short none fits reads writes =
    counts_by all old new answered _ _ stream.Clean a
    (subst (λ b. IsStream b (asked_in a.done) stream.Clean) (sym (whole_of old.left all a.bytes told a.end.all)) a.end.stream) none fits
counts all old new answered session_end.Cut a enough told short none fits reads writes =
    counts_by all old new answered _ _ stream.Cut a
    (subst (λ b. IsStream b (asked_in a.done) stream.Cut) (sym (whole_of old.left all a.bytes told a.end.all)) a.end.stream) none fits
counts all old new answered session_end.Closed a enough told short none fits reads writes =
    counts_by all old new answered _ _ stream.Closed a
    (final_stream all a.bytes (asked_in a.done) stream.Closed tt (first_of old.left new.left all a.bytes told a.served.consumed) a.end) none fits
counts all old new answered (session_end.Bad fault) a enough told short none fits reads writes =
    counts_by all old new answered _ _ (stream.Bad fault) a
    (final_stream all a.bytes (asked_in a.done) (stream.Bad fault) tt (first_of old.left new.left all a.bytes told a.served.consumed) a.end) none fits
counts all old new answered session_end.ReadFault (rose, a) enough told short none fits reads writes = absurd (reads rose)
counts all old new answered session_end.WriteFault (rose, f) enough told short none fits reads writes = absurd (writes rose)
counts all old new answered session_end.TooLong a enough told short none fits reads writes =
    absurd (not_longer all a.bytes (first_of old.left new.left all a.bytes told a.served.consumed) short a.end.1)
counts all old new answered session_end.Memory f enough told short none fits reads writes = absurd (enough refl)

-- ---- a session that is out of memory

auto_of : (old : WorldView) (done : List Exchange) (new : WorldView) → Run Asks After old done new → new.auto ≡ old.auto
auto_of old [] new run = ap (λ (w : WorldView). w.auto) run
auto_of old (x ∷ done) new (answered, next, asks, after, rest) = auto_of next done new rest ∙ ap (λ (w : WorldView). w.auto) after ∙ asks.auto

-- a part of no automatic steps is all of them
all_steps : (old new : WorldView) → old.auto ≡ 0 → AfterCut old new → After old new
all_steps old new still_is (steps, le, is) =
    let same : steps ≡ old.auto = omega (arith, le, still_is) in is ∙ ap (λ n. stepped old n) same

begins_all : (all bytes : List ℕ) (asked : List Asked) (rest : List ℕ) → IsFirst all bytes → Reads bytes asked rest
    → (left : List ℕ) × BeginsWith all asked left
begins_all all bytes asked rest (more, is) reads =
    (rest ++ more, subst (λ b. BeginsWith b asked (rest ++ more)) (sym is) (BeginsWith-reads (bytes ++ more) asked (rest ++ more) (Reads-append bytes asked rest more reads)))

next_all : (all bytes : List ℕ) (answered : List Asked) (asked : Asked) → IsFirst all bytes → IsNext bytes answered asked → IsNext all answered asked
next_all all bytes answered asked (more, is) (rest, left, reads, front) =
    subst (λ b. IsNext b answered asked) (sym is)
    (rest ++ more, left ++ more, Reads-append bytes answered rest more reads, IsFront-append rest more (whole asked left) tt front)

begins_push : (all : List ℕ) (answered : List Asked) (asked : Asked) → IsNext all answered asked → (left : List ℕ) × BeginsWith all (answered ++ asked ∷ []) left
begins_push all answered asked (rest, left, reads, front) =
    (left, BeginsWith-push all answered rest asked left (BeginsWith-reads all answered rest reads) front)

stops_behind : (all : List ℕ) (old new : SessionState Tally) (answered : ℕ) → old.left ≡ Some all
    → Answered AsksCounting WorksBehind Leave old new answered [] (λ bytes asked. (rest : List ℕ) × Reads bytes asked rest)
    → LendsSame old.handler new.handler × Stops all old.handler.world.now new.handler.world.now
stops_behind all old new answered told a =
    let first = begins_all all a.bytes (asked_in a.done) a.end.0 (first_of old.left new.left all a.bytes told a.served.consumed) a.end.1 in (
      same_of old.handler a.done new.handler a.served.run,
      inl (record {
        done = a.done;
        answers = answers_of old.handler a.done new.handler old.moments new.moments [] a.served.run a.served.moments;
        rest = first.0;
        first = first.1;
      }),
    )

stops_after : (all : List ℕ) (old new : SessionState Tally) (answered : ℕ) → old.left ≡ Some all → old.handler.world.now.auto ≡ 0
    → CutsAfter AsksCounting WorksBehind CutsBehind Leave old new answered
    → LendsSame old.handler new.handler × Stops all old.handler.world.now new.handler.world.now
stops_after all old new answered told start a =
    let x : Exchange = a.exchange in
    let run : Run Asks After old.handler.world.now a.done a.last.world.now = run_of old.handler a.done a.last a.served.run in
    let none : a.middle.world.now.auto ≡ 0 = a.asked.asks.auto ∙ auto_of old.handler.world.now a.done a.last.world.now run ∙ start in
    let next = next_all all a.bytes (asked_in a.done) x.asked (first_of old.left new.left all a.bytes told a.served.consumed) a.next in
    let first = begins_push all (asked_in a.done) x.asked next in (
      a.cut.same ∙ a.asked.same ∙ same_of old.handler a.done a.last a.served.run,
      inl (record {
        done = a.done ++ x ∷ [];
        answers = record {
          run = Run-push Asks After old.handler.world.now a.done a.last.world.now x a.middle.world.now new.handler.world.now run a.asked.asks
              (all_steps a.middle.world.now new.handler.world.now none a.cut.cut);
          no_moments = still old.moments new.moments (a.done ++ x ∷ []) []
              (subst (λ (ms : List (Option ℕ)). TakesMoments Leave old.moments ms new.moments)
              (sym (map-append (λ (x : Exchange). x.now) a.done (x ∷ [])) ∙ sym (append-nil (moments_in (a.done ++ x ∷ [])))) a.served.moments);
        };
        rest = first.0;
        first = subst (λ (asked : List Asked). BeginsWith all asked first.0) (sym (map-append (λ (x : Exchange). x.asked) a.done (x ∷ []))) first.1;
      }),
    )

stops_inside : (all : List ℕ) (old new : SessionState Tally) (answered : ℕ) → old.left ≡ Some all
    → CutsAsk AsksCounting CutsCounting WorksBehind Leave old new answered
    → LendsSame old.handler new.handler × Stops all old.handler.world.now new.handler.world.now
stops_inside all old new answered told a = (
  a.cut.same ∙ same_of old.handler a.done a.last a.served.run,
  inr (record {
    done = a.done;
    last = a.last.world.now;
    asked = a.asked;
    answers = answers_of old.handler a.done a.last old.moments new.moments (a.now ∷ []) a.served.run a.served.moments;
    next = next_all all a.bytes (asked_in a.done) a.asked (first_of old.left new.left all a.bytes told a.served.consumed) a.next;
    cut = subst (λ (now : Option ℕ). AskCut a.last.world.now now a.asked.request new.handler.world.now)
        (last_none old.moments new.moments (moments_in a.done) a.now a.served.moments) a.cut.cut;
  }),
)

-- what a session over all the bytes comes to, where memory runs out
pub stops : (all : List ℕ) (old new : SessionState Tally) (answered : ℕ)
    → Finishes AsksCounting CutsCounting WorksBehind CutsBehind Leave old new answered session_end.Memory → old.left ≡ Some all → old.handler.world.now.auto ≡ 0
    → LendsSame old.handler new.handler × Stops all old.handler.world.now new.handler.world.now
stops all old new answered (inl a) told none = stops_behind all old new answered told a
stops all old new answered (inr (inl a)) told none = stops_after all old new answered told none a
stops all old new answered (inr (inr a)) told none = stops_inside all old new answered told a
