-- What the reading of more bytes means for a session.
use Rattle.std.proofs.Common.{◌≡◌, ◌≢◌, ℕ, ◌<◌, ◌≤◌, List, [], ◌++◌, length, arith, Option, Some, None, ap, ◌∙◌, sym, subst, length-append, append_assoc, append-nil, inl, inr}
use Rattle.std.specs.Io.KnownBytes.{Consumes, Keeps, IsAtEnd}
use Rattle.std.proofs.KnownBytes.{Consumes-trans}
use Rattle.http_session.specs.declared.report.ClockMode.{ClockMode}
use Rattle.http_session.specs.declared.report.SessionEnd.TheVariants as SE
use Rattle.http_session.specs.declared.message.Request.{Request}
use Rattle.http_session.specs.declared.message.Reply.{Reply}
use Rattle.http_session.specs.declared.stream.StreamEnd.TheVariants as stream
use Rattle.http_session.specs.declared.desk.More.{More}
use Rattle.http_session.specs.declared.desk.More.TheVariants.{Bytes, End, Failed, TooLong}
use Rattle.http_session.specs.Stream as front
use Rattle.http_session.specs.declared.message.Asked.{Asked}
use Rattle.http_session.specs.declared.stream.StreamEnd.{StreamEnd}
use Rattle.http_session.specs.Stream.{IsFront, EndsAs, IsStream, IsUnfinished}
use Rattle.http_session.specs.Front.{IsAwaiting}
use Rattle.http_session.specs.Session.{asked_in, state_of, SessionState, IsAll, EndsThere, Answered}
use Rattle.http_session.specs.Desk.{Progress, Continues, Takes, Refills, StopsAs, end_after}
use Rattle.http_session.proofs.StreamLemmas.{IsStream-ends}
use Rattle.http_session.proofs.RunLemmas.{reads_on, IsAll-after, rose_since}

-- ---- pieces

consumes_none : (a b : Option (List ℕ)) → Keeps a b → Consumes a b []
consumes_none None b k = tt
consumes_none (Some x) None k = absurd k
consumes_none (Some x) (Some y) k = sym k

pub takes_none : (left left' : Option (List ℕ)) (rf rf' : ℕ) (held held' : List ℕ) (total total' : ℕ) → Keeps left left' → rf ≤ rf' → held' ≡ held → total' ≡ total
    → Takes left left' rf rf' held held' total total'
takes_none left left' rf rf' held held' total total' kept later same_held same_total = record {
  chunk = [];
  held = same_held ∙ sym (append-nil held);
  total = omega arith;
  consumed = consumes_none left left' kept;
  later = later;
}

-- the source was at its end
pub refills_end : (left left' : Option (List ℕ)) (rf rf' : ℕ) (held held' : List ℕ) (total : ℕ) → Keeps left left' → rf ≤ rf' → held' ≡ held
    → IsAtEnd left → total < 4294967295
    → Refills left left' rf rf' held held' total total End
refills_end left left' rf rf' held held' total kept later same end short = record {
  takes = record {
    chunk = [];
    held = same ∙ sym (append-nil held);
    total = omega arith;
    consumed = consumes_none left left' kept;
    later = later;
  };
  stops = (all-at-end left end, short);
}
  where
    all-at-end : (left : Option (List ℕ)) → IsAtEnd left → IsAll left []
    all-at-end None end = tt
    all-at-end (Some bytes) end = end

pub takes_then : (a b c : Option (List ℕ)) (x y z : ℕ) (h i j : List ℕ) (t u v : ℕ) → Takes a b x y h i t u → Takes b c y z i j u v → Takes a c x z h j t v
takes_then a b c x y z h i j t u v p q = record {
  chunk = p.chunk ++ q.chunk;
  held = q.held ∙ ap (λ xs. xs ++ q.chunk) p.held ∙ append_assoc h p.chunk q.chunk;
  total = omega (arith, p.total, q.total, length-append p.chunk q.chunk);
  consumed = Consumes-trans a b c p.chunk q.chunk p.consumed q.consumed;
  later = omega (arith, p.later, q.later);
}

pub stops_then : (a b c : Option (List ℕ)) (x y z : ℕ) (h i j : List ℕ) (t u v : ℕ) (more : More)
    → (p : Takes a b x y h i t u) → (q : Takes b c y z i j u v) → StopsAs b y z v q.chunk more → StopsAs a x z v (p.chunk ++ q.chunk) more
stops_then a b c x y z h i j t u v Bytes p q s = omega (arith, s, length-append p.chunk q.chunk)
stops_then a b c x y z h i j t u v End p q s = (IsAll-after a b p.chunk q.chunk p.consumed s.0, s.1)
stops_then a b c x y z h i j t u v Failed p q s = (rose_since x y z p.later s.0, s.1)
stops_then a b c x y z h i j t u v TooLong p q s = s

-- reading on behind what was read
pub refills_then : (a b c : Option (List ℕ)) (x y z : ℕ) (h i j : List ℕ) (t u v : ℕ) (more : More)
    → Takes a b x y h i t u → Refills b c y z i j u v more → Refills a c x z h j t v more
unfolding takes_then
refills_then a b c x y z h i j t u v more p r = record {
  takes = takes_then a b c x y z h i j t u v p r.takes;
  stops = stops_then a b c x y z h i j t u v more p r.takes r.stops;
}

-- enough bytes were read
pub refills_enough : (a b : Option (List ℕ)) (x y : ℕ) (h i : List ℕ) (t u wanted : ℕ) → Takes a b x y h i t u → length h < wanted → wanted ≤ length i
    → Refills a b x y h i t u Bytes
refills_enough a b x y h i t u wanted p few enough = record {
  takes = p;
  stops = omega (arith, few, enough, ap length p.held, length-append h p.chunk);
}

-- while bytes of a body are missing, the front is cut
pub awaits_cut : (bytes held : List ℕ) (n : ℕ) (left left' : Option (List ℕ)) (rf rf' total total' : ℕ) → IsAwaiting bytes n
    → Takes left left' rf rf' bytes held total total' → length held < n → IsFront held front.cut
awaits_cut bytes held n left left' rf rf' total total' a p few =
    subst (λ (xs : List ℕ). IsFront xs front.cut) (sym p.held)
    (a.cuts p.chunk (omega (arith, few, ap length p.held, length-append bytes p.chunk)))

-- ---- a session

-- the source was read to its end
ends_there : {H : Type 0} (asks : H → Option ℕ → Request → Reply → H → Type 0) (after : H → H → Type 0) (mode : ClockMode)
    (start : SessionState H) (h : H) (left left' : Option (List ℕ)) (rf rf' : ℕ) (t : Option (List ℕ)) (wf : ℕ) (m : Option (List ℕ))
    (held held' : List ℕ) (total total' k : ℕ) (end : StreamEnd)
    → Progress asks after mode start (state_of h left rf t wf m) held total k → (r : Takes left left' rf rf' held held' total total')
    → length held' ≤ 73728 → EndsAs held' end → IsAll left r.chunk → total' < 4294967295
    → Answered asks after mode start (state_of h left' rf' t wf m) k [] (EndsThere start.left end)
ends_there asks after mode start h left left' rf rf' t wf m held held' total total' k end p r room ends all short =
    let on = reads_on asks after mode start h left left' rf rf' t wf m held held' total total' k p r room in
    let q = on.0 in record {
      bytes = q.bytes;
      done = q.done;
      served = q.served;
      end = record {
        stream = IsStream-ends q.bytes (asked_in q.done) held' end q.reads ends;
        all = subst (IsAll start.left) (sym on.1) (IsAll-after start.left left p.bytes r.chunk p.served.consumed all);
        short = omega (arith, q.count, short);
      };
      count = q.answered;
    }

-- the session stopped where the bytes are no whole stream
stops_there : {H : Type 0} (asks : H → Option ℕ → Request → Reply → H → Type 0) (after : H → H → Type 0) (mode : ClockMode)
    (start now : SessionState H) (held : List ℕ) (total k : ℕ) (end : StreamEnd) (P : ℕ → Type 0)
    → (q : Progress asks after mode start now held total k) → EndsAs held end
    → ((bytes : List ℕ) (asked : List Asked) → IsStream bytes asked end → IsUnfinished bytes asked) → P total
    → Answered asks after mode start now k [] (λ bytes asked. IsUnfinished bytes asked × P (length bytes))
stops_there asks after mode start now held total k end P q ends unfinished fact = record {
  bytes = q.bytes;
  done = q.done;
  served = q.served;
  end = (
    unfinished q.bytes (asked_in q.done) (IsStream-ends q.bytes (asked_in q.done) held end q.reads ends),
    subst P q.count fact,
  );
  count = q.answered;
}

pub reads_clean : {H : Type 0} (asks : H → Option ℕ → Request → Reply → H → Type 0) (asks_cut : H → Option ℕ → Request → H → Type 0)
    (after : H → H → Type 0) (after_cut : H → H → Type 0) (mode : ClockMode)
    (start : SessionState H) (h : H) (left left' : Option (List ℕ)) (rf rf' : ℕ) (t : Option (List ℕ)) (wf : ℕ) (m : Option (List ℕ))
    (held held' : List ℕ) (total total' k : ℕ) (more : More)
    → Progress asks after mode start (state_of h left rf t wf m) held total k
    → Refills left left' rf rf' held held' total total' more → length held' ≤ 73728 → (more ≢ Bytes → IsFront held' front.clean)
    → Continues asks asks_cut after after_cut mode start (state_of h left' rf' t wf m) held' total' k (end_after more SE.Clean)
reads_clean asks asks_cut after after_cut mode start h left left' rf rf' t wf m held held' total total' k Bytes p r room still =
    (reads_on asks after mode start h left left' rf rf' t wf m held held' total total' k p r.takes room).0
reads_clean asks asks_cut after after_cut mode start h left left' rf rf' t wf m held held' total total' k End p r room still =
    ends_there asks after mode start h left left' rf rf' t wf m held held' total total' k stream.Clean p r.takes room (still (λ e. cc)) r.stops.0 r.stops.1
reads_clean asks asks_cut after after_cut mode start h left left' rf rf' t wf m held held' total total' k Failed p r room still =
    let q = reads_on asks after mode start h left left' rf rf' t wf m held held' total total' k p r.takes room in (
      rose_since start.reads_failed rf rf' p.served.reads_later r.stops.0,
      stops_there asks after mode start (state_of h left' rf' t wf m) held' total' k stream.Clean (λ n. n < 4294967295) q.0 (still (λ e. cc)) (λ bytes asked s. inl s) r.stops.1,
    )
reads_clean asks asks_cut after after_cut mode start h left left' rf rf' t wf m held held' total total' k TooLong p r room still =
    let q = reads_on asks after mode start h left left' rf rf' t wf m held held' total total' k p r.takes room in
    stops_there asks after mode start (state_of h left' rf' t wf m) held' total' k stream.Clean (λ n. n ≡ 4294967295) q.0 (still (λ e. cc)) (λ bytes asked s. inl s) r.stops

pub reads_cut : {H : Type 0} (asks : H → Option ℕ → Request → Reply → H → Type 0) (asks_cut : H → Option ℕ → Request → H → Type 0)
    (after : H → H → Type 0) (after_cut : H → H → Type 0) (mode : ClockMode)
    (start : SessionState H) (h : H) (left left' : Option (List ℕ)) (rf rf' : ℕ) (t : Option (List ℕ)) (wf : ℕ) (m : Option (List ℕ))
    (held held' : List ℕ) (total total' k : ℕ) (more : More)
    → Progress asks after mode start (state_of h left rf t wf m) held total k
    → Refills left left' rf rf' held held' total total' more → length held' ≤ 73728 → (more ≢ Bytes → IsFront held' front.cut)
    → Continues asks asks_cut after after_cut mode start (state_of h left' rf' t wf m) held' total' k (end_after more SE.Cut)
reads_cut asks asks_cut after after_cut mode start h left left' rf rf' t wf m held held' total total' k Bytes p r room still =
    (reads_on asks after mode start h left left' rf rf' t wf m held held' total total' k p r.takes room).0
reads_cut asks asks_cut after after_cut mode start h left left' rf rf' t wf m held held' total total' k End p r room still =
    ends_there asks after mode start h left left' rf rf' t wf m held held' total total' k stream.Cut p r.takes room (still (λ e. cc)) r.stops.0 r.stops.1
reads_cut asks asks_cut after after_cut mode start h left left' rf rf' t wf m held held' total total' k Failed p r room still =
    let q = reads_on asks after mode start h left left' rf rf' t wf m held held' total total' k p r.takes room in (
      rose_since start.reads_failed rf rf' p.served.reads_later r.stops.0,
      stops_there asks after mode start (state_of h left' rf' t wf m) held' total' k stream.Cut (λ n. n < 4294967295) q.0 (still (λ e. cc)) (λ bytes asked s. inr s) r.stops.1,
    )
reads_cut asks asks_cut after after_cut mode start h left left' rf rf' t wf m held held' total total' k TooLong p r room still =
    let q = reads_on asks after mode start h left left' rf rf' t wf m held held' total total' k p r.takes room in
    stops_there asks after mode start (state_of h left' rf' t wf m) held' total' k stream.Cut (λ n. n ≡ 4294967295) q.0 (still (λ e. cc)) (λ bytes asked s. inr s) r.stops
