-- What a session has done, from one turn to the next.
use Rattle.std.proofs.Common.{◌≡◌, ℕ, ◌+◌, ◌<◌, ◌≤◌, List, [], ◌∷◌, ◌++◌, length, take, map, refl, arith, true, false, Option, Some, None, ap, ◌∙◌, sym, subst, length-append, append_assoc, append-nil, inl, inr}
use Rattle.std.specs.Io.KnownBytes.{Appends, Consumes}
use Rattle.std.proofs.KnownBytes.{Appends-trans, Appends-nil, Consumes-trans, Consumes-nil}
use Rattle.serve_io.specs.Causes.{Rose}
use Rattle.serve_io.specs.Whole.{Sends}
use Rattle.http_session.specs.declared.report.ClockMode.{ClockMode}
use Rattle.http_session.specs.declared.report.HeadFault.{HeadFault}
use Rattle.http_session.specs.declared.report.SessionEnd.TheVariants as SE
use Rattle.http_session.specs.declared.message.Asked.{Asked}
use Rattle.http_session.specs.declared.message.Request.{Request}
use Rattle.http_session.specs.declared.message.Reply.{Reply}
use Rattle.http_session.specs.declared.stream.StreamEnd.TheVariants as stream
use Rattle.http_session.specs.Stream as front
use Rattle.http_session.specs.Stream.{IsFront, IsStream, Reads}
use Rattle.http_session.specs.Reply.{fault_bytes}
use Rattle.http_session.specs.Session.{Exchange, exchange_bytes, asked_in, moments_in, replies_in, state_of, Run, TakesMoment, TakesMoments, SessionState, Served, IsAll, IsBounded, Answered, CutsReply, Finishes}
use Rattle.http_session.specs.Desk.{Progress, Takes}
use Rattle.http_session.specs.Answering.{Asks, AsksCut, RepliesTo}
use Rattle.http_session.proofs.StreamLemmas.{Reads-append, Reads-push, IsStream-ends, IsStream-closes, BeginsWith-reads, BeginsWith-push}

pub Run-push : {H : Type 0} (asks : H → Option ℕ → Request → Reply → H → Type 0) (after : H → H → Type 0) (old : H) (done : List Exchange) (mid : H)
    (x : Exchange) (answered new : H) → Run asks after old done mid → asks mid x.now x.asked.request x.reply answered → after answered new
    → Run asks after old (done ++ x ∷ []) new
Run-push asks after old [] mid x answered new r a f = (answered, new, subst (λ h. asks h x.now x.asked.request x.reply answered) r a, f, refl)
Run-push asks after old (y ∷ done) mid x answered new r a f = (r.0, r.1, r.2, r.3, Run-push asks after r.1 done mid x answered new r.4 a f)

pub TakesMoments-push : (mode : ClockMode) (old : Option (List ℕ)) (nows : List (Option ℕ)) (mid : Option (List ℕ)) (now : Option ℕ) (new : Option (List ℕ))
    → TakesMoments mode old nows mid → TakesMoment mode mid now new → TakesMoments mode old (nows ++ now ∷ []) new
TakesMoments-push mode old [] mid now new t m = (new, subst (λ (o : Option (List ℕ)). TakesMoment mode o now new) t m, refl)
TakesMoments-push mode old (n ∷ nows) mid now new t m = (t.0, t.1, TakesMoments-push mode t.0 nows mid now new t.2 m)

map-push : {X Y : Type 0} (f : X → Y) (xs : List X) (x : X) → map f (xs ++ x ∷ []) ≡ map f xs ++ f x ∷ []
map-push f [] x = refl
map-push f (y ∷ xs) x = ap (λ ys. f y ∷ ys) (map-push f xs x)

replies-push : (xs : List Exchange) (x : Exchange) → replies_in (xs ++ x ∷ []) ≡ replies_in xs ++ exchange_bytes x
replies-push [] x = append-nil (exchange_bytes x)
replies-push (y ∷ xs) x = ap (λ ys. exchange_bytes y ++ ys) (replies-push xs x) ∙ sym (append_assoc (exchange_bytes y) (replies_in xs) (exchange_bytes x))

length-push : {X : Type 0} (xs : List X) (x : X) → length (xs ++ x ∷ []) ≡ length xs + 1
length-push xs x = length-append xs (x ∷ [])

pub rose_since : (a b c : ℕ) → a ≤ b → Rose b c → Rose a c
rose_since a b c le h = omega arith

tail-written : (xs : List Exchange) (x : Exchange) → (replies_in xs ++ []) ++ exchange_bytes x ≡ replies_in (xs ++ x ∷ []) ++ []
tail-written xs x =
    ap (λ ys. ys ++ exchange_bytes x) (append-nil (replies_in xs)) ∙ sym (replies-push xs x) ∙ sym (append-nil (replies_in (xs ++ x ∷ [])))

tail-moments : (xs : List Exchange) (x : Exchange) → (moments_in xs ++ []) ++ x.now ∷ [] ≡ moments_in (xs ++ x ∷ []) ++ []
tail-moments xs x =
    ap (λ ys. ys ++ x.now ∷ []) (append-nil (moments_in xs)) ∙ sym (map-push (λ (x : Exchange). x.now) xs x) ∙ sym (append-nil (moments_in (xs ++ x ∷ [])))

bounded_by : (bytes : List ℕ) (done : List Exchange) (held : List ℕ) → Reads bytes (asked_in done) held → length held ≤ 73728
    → IsBounded bytes (asked_in done)
bounded_by bytes done held reads room = (held, BeginsWith-reads bytes (asked_in done) held reads, room)

bounded_more : (bytes : List ℕ) (done : List Exchange) (held : List ℕ) (x : Exchange) (rest : List ℕ) → Reads bytes (asked_in done) held
    → IsFront held (front.whole x.asked rest) → length rest ≤ 73728 → IsBounded bytes (asked_in (done ++ x ∷ []))
bounded_more bytes done held x rest reads front room =
    subst (λ (qs : List Asked). IsBounded bytes qs) (sym (map-push (λ (x : Exchange). x.asked) done x))
    (rest, BeginsWith-push bytes (asked_in done) held x.asked rest (BeginsWith-reads bytes (asked_in done) held reads) front, room)

-- a request was answered whole, and the handler did its work behind it
served_more : {H : Type 0} (asks : H → Option ℕ → Request → Reply → H → Type 0) (after : H → H → Type 0) (mode : ClockMode)
    (start : SessionState H) (h h' next : H) (left : Option (List ℕ)) (rf : ℕ) (t t' : Option (List ℕ)) (wf wf' : ℕ) (m m' : Option (List ℕ))
    (bytes : List ℕ) (done : List Exchange) (asked : Asked) (now : Option ℕ) (reply : Reply)
    → Served asks after mode start (state_of h left rf t wf m) bytes done h [] []
    → Asks asks mode asked.request h h' m m' now reply
    → Sends t t' wf wf' (exchange_bytes (record { asked = asked; now = now; reply = reply })) true
    → after h' next
    → IsBounded bytes (asked_in (done ++ record { asked = asked; now = now; reply = reply } ∷ []))
    → Served asks after mode start (state_of next left rf t' wf' m') bytes (done ++ record { asked = asked; now = now; reply = reply } ∷ []) next [] []
served_more asks after mode start h h' next left rf t t' wf wf' m m' bytes done asked now reply s a sent f bound =
    let x : Exchange = record { asked = asked; now = now; reply = reply } in record {
      run = Run-push asks after start.handler done h x h' next s.run a.answered f;
      consumed = s.consumed;
      written =
          subst (λ (xs : List ℕ). Appends start.taken t' xs) (tail-written done x)
          (Appends-trans start.taken t t' (replies_in done ++ []) (exchange_bytes x) s.written (sent.whole refl));
      moments =
          subst (λ (xs : List (Option ℕ)). TakesMoments mode start.moments xs m') (tail-moments done x)
          (TakesMoments-push mode start.moments (moments_in done ++ []) m now m' s.moments a.moment);
      reads_later = s.reads_later;
      writes_later = omega (arith, s.writes_later, sent.cause.later);
      bounded = bound;
    }

pub goes_on : {H : Type 0} (asks : H → Option ℕ → Request → Reply → H → Type 0) (after : H → H → Type 0) (mode : ClockMode)
    (start : SessionState H) (h h' next : H) (left : Option (List ℕ)) (rf : ℕ) (t t' : Option (List ℕ)) (wf wf' : ℕ) (m m' : Option (List ℕ))
    (held rest : List ℕ) (total k : ℕ) (asked : Asked)
    → Progress asks after mode start (state_of h left rf t wf m) held total k
    → IsFront held (front.whole asked rest) → asked.closes ≡ false → length rest ≤ 73728
    → RepliesTo asks mode asked h h' m m' t t' wf wf' true → after h' next
    → Progress asks after mode start (state_of next left rf t' wf' m') rest total (k + 1)
goes_on asks after mode start h h' next left rf t t' wf wf' m m' held rest total k asked p front open_ room r f =
    let x : Exchange = record { asked = asked; now = r.0; reply = r.1 } in record {
      bytes = p.bytes;
      done = p.done ++ x ∷ [];
      served = served_more asks after mode start h h' next left rf t t' wf wf' m m' p.bytes p.done asked r.0 r.1 p.served r.2 r.3 f
          (bounded_more p.bytes p.done held x rest p.reads front room);
      reads = subst (λ (qs : List Asked). Reads p.bytes qs rest) (sym (map-push (λ (x : Exchange). x.asked) p.done x))
          (Reads-push p.bytes (asked_in p.done) held asked rest p.reads front open_);
      room = room;
      count = p.count;
      answered = omega (arith, p.answered, length-push p.done x);
    }

pub closes_after : {H : Type 0} (asks : H → Option ℕ → Request → Reply → H → Type 0) (asks_cut : H → Option ℕ → Request → H → Type 0)
    (after : H → H → Type 0) (after_cut : H → H → Type 0) (mode : ClockMode)
    (start : SessionState H) (h h' next : H) (left : Option (List ℕ)) (rf : ℕ) (t t' : Option (List ℕ)) (wf wf' : ℕ) (m m' : Option (List ℕ))
    (held rest : List ℕ) (total k : ℕ) (asked : Asked)
    → Progress asks after mode start (state_of h left rf t wf m) held total k
    → IsFront held (front.whole asked rest) → asked.closes ≡ true → length rest ≤ 73728
    → RepliesTo asks mode asked h h' m m' t t' wf wf' true → after h' next
    → Finishes asks asks_cut after after_cut mode start (state_of next left rf t' wf' m') (k + 1) SE.Closed
closes_after asks asks_cut after after_cut mode start h h' next left rf t t' wf wf' m m' held rest total k asked p front shut room r f =
    let x : Exchange = record { asked = asked; now = r.0; reply = r.1 } in record {
      bytes = p.bytes;
      done = p.done ++ x ∷ [];
      served = served_more asks after mode start h h' next left rf t t' wf wf' m m' p.bytes p.done asked r.0 r.1 p.served r.2 r.3 f
          (bounded_more p.bytes p.done held x rest p.reads front room);
      end = subst (λ (qs : List Asked). IsStream p.bytes qs stream.Closed) (sym (map-push (λ (x : Exchange). x.asked) p.done x))
          (IsStream-closes p.bytes (asked_in p.done) held asked rest p.reads front shut);
      count = omega (arith, p.answered, length-push p.done x);
    }

-- a reply was written, whole or in part, and the handler stands before its work
served_then : {H : Type 0} (asks : H → Option ℕ → Request → Reply → H → Type 0) (after : H → H → Type 0) (mode : ClockMode)
    (start : SessionState H) (h new : H) (left : Option (List ℕ)) (rf : ℕ) (t t' : Option (List ℕ)) (wf wf' : ℕ) (m m' : Option (List ℕ))
    (bytes : List ℕ) (done : List Exchange) (now : Option ℕ) (tail : List ℕ)
    → Served asks after mode start (state_of h left rf t wf m) bytes done h [] []
    → TakesMoment mode m now m' → Appends t t' tail → wf ≤ wf'
    → Served asks after mode start (state_of new left rf t' wf' m') bytes done h tail (now ∷ [])
served_then asks after mode start h new left rf t t' wf wf' m m' bytes done now tail s a sent later = record {
  run = s.run;
  consumed = s.consumed;
  written =
      subst (λ (xs : List ℕ). Appends start.taken t' (xs ++ tail)) (append-nil (replies_in done))
      (Appends-trans start.taken t t' (replies_in done ++ []) tail s.written sent);
  moments =
      subst (λ (xs : List (Option ℕ)). TakesMoments mode start.moments (xs ++ now ∷ []) m') (append-nil (moments_in done))
      (TakesMoments-push mode start.moments (moments_in done ++ []) m now m' s.moments a);
  reads_later = s.reads_later;
  writes_later = omega (arith, s.writes_later, later);
  bounded = s.bounded;
}

pub cuts_reply : {H : Type 0} (asks : H → Option ℕ → Request → Reply → H → Type 0) (after : H → H → Type 0) (mode : ClockMode)
    (start : SessionState H) (h h' : H) (left : Option (List ℕ)) (rf : ℕ) (t t' : Option (List ℕ)) (wf wf' : ℕ) (m m' : Option (List ℕ))
    (held rest : List ℕ) (total k : ℕ) (asked : Asked)
    → Progress asks after mode start (state_of h left rf t wf m) held total k
    → IsFront held (front.whole asked rest)
    → RepliesTo asks mode asked h h' m m' t t' wf wf' false
    → CutsReply asks after mode start (state_of h' left rf t' wf' m') k
cuts_reply asks after mode start h h' left rf t t' wf wf' m m' held rest total k asked p front r =
    let x : Exchange = record { asked = asked; now = r.0; reply = r.1 } in
    let cut = r.3.cut refl in record {
      bytes = p.bytes;
      done = p.done;
      last = h;
      exchange = x;
      sent = cut.0;
      served = served_then asks after mode start h h' left rf t t' wf wf' m m' p.bytes p.done r.0 (take cut.0 (exchange_bytes x)) p.served r.2.moment cut.2 r.3.cause.later;
      next = (held, rest, p.reads, front);
      asked = r.2.answered;
      proper = cut.1;
      count = p.answered;
    }

pub refused_at : {H : Type 0} (asks : H → Option ℕ → Request → Reply → H → Type 0) (asks_cut : H → Option ℕ → Request → H → Type 0)
    (after : H → H → Type 0) (after_cut : H → H → Type 0) (mode : ClockMode)
    (start : SessionState H) (h h' : H) (left : Option (List ℕ)) (rf : ℕ) (t t' : Option (List ℕ)) (wf wf' : ℕ) (m m' : Option (List ℕ))
    (held rest : List ℕ) (total k : ℕ) (asked : Asked)
    → Progress asks after mode start (state_of h left rf t wf m) held total k
    → IsFront held (front.whole asked rest)
    → RepliesTo asks mode asked h h' m m' t t' wf wf' false
    → Finishes asks asks_cut after after_cut mode start (state_of h' left rf t' wf' m') k SE.WriteFault
refused_at asks asks_cut after after_cut mode start h h' left rf t t' wf wf' m m' held rest total k asked p front r = (
  rose_since start.writes_failed wf wf' p.served.writes_later (r.3.cause.rose refl),
  inl (cuts_reply asks after mode start h h' left rf t t' wf wf' m m' held rest total k asked p front r),
)

pub after_short : {H : Type 0} (asks : H → Option ℕ → Request → Reply → H → Type 0) (asks_cut : H → Option ℕ → Request → H → Type 0)
    (after : H → H → Type 0) (after_cut : H → H → Type 0) (mode : ClockMode)
    (start : SessionState H) (h h' next : H) (left : Option (List ℕ)) (rf : ℕ) (t t' : Option (List ℕ)) (wf wf' : ℕ) (m m' : Option (List ℕ))
    (held rest : List ℕ) (total k : ℕ) (asked : Asked)
    → Progress asks after mode start (state_of h left rf t wf m) held total k
    → IsFront held (front.whole asked rest)
    → RepliesTo asks mode asked h h' m m' t t' wf wf' true → after_cut h' next
    → Finishes asks asks_cut after after_cut mode start (state_of next left rf t' wf' m') (k + 1) SE.Memory
after_short asks asks_cut after after_cut mode start h h' next left rf t t' wf wf' m m' held rest total k asked p front r f =
    let x : Exchange = record { asked = asked; now = r.0; reply = r.1 } in
    inr (inl (record {
      bytes = p.bytes;
      done = p.done;
      last = h;
      middle = h';
      exchange = x;
      served = served_then asks after mode start h next left rf t t' wf wf' m m' p.bytes p.done r.0 (exchange_bytes x) p.served r.2.moment (r.3.whole refl) r.3.cause.later;
      next = (held, rest, p.reads, front);
      asked = r.2.answered;
      cut = f;
      count = omega (arith, p.answered);
    }))

pub ask_short : {H : Type 0} (asks : H → Option ℕ → Request → Reply → H → Type 0) (asks_cut : H → Option ℕ → Request → H → Type 0)
    (after : H → H → Type 0) (after_cut : H → H → Type 0) (mode : ClockMode)
    (start : SessionState H) (h h' : H) (left : Option (List ℕ)) (rf : ℕ) (t t' : Option (List ℕ)) (wf wf' : ℕ) (m m' : Option (List ℕ))
    (held rest : List ℕ) (total k : ℕ) (asked : Asked)
    → Progress asks after mode start (state_of h left rf t wf m) held total k
    → IsFront held (front.whole asked rest)
    → AsksCut asks_cut mode asked.request h h' m m' → t' ≡ t → wf' ≡ wf
    → Finishes asks asks_cut after after_cut mode start (state_of h' left rf t' wf' m') k SE.Memory
ask_short asks asks_cut after after_cut mode start h h' left rf t t' wf wf' m m' held rest total k asked p front a et ewf =
    let P : Type 0 = Finishes asks asks_cut after after_cut mode start (state_of h' left rf t' wf' m') k SE.Memory in
    elim a as (λ _. P) [
      | inl same ↦ inl (record {
        bytes = p.bytes;
        done = p.done;
        served = rw (same.0, same.1, et, ewf) p.served;
        end = (held, p.reads);
        count = p.answered;
      })
      | inr cut ↦ inr (inr (record {
        bytes = p.bytes;
        done = p.done;
        last = h;
        asked = asked;
        now = cut.0;
        served = served_then asks after mode start h h' left rf t t' wf wf' m m' p.bytes p.done cut.0 [] p.served cut.1
            (subst (λ (o : Option (List ℕ)). Appends t o []) (sym et) (Appends-nil t)) (omega (arith, ewf));
        next = (held, rest, p.reads, front);
        cut = cut.2;
        count = p.answered;
      }))
    ]

-- ---- reading on

pub reads_on : {H : Type 0} (asks : H → Option ℕ → Request → Reply → H → Type 0) (after : H → H → Type 0) (mode : ClockMode)
    (start : SessionState H) (h : H) (left left' : Option (List ℕ)) (rf rf' : ℕ) (t : Option (List ℕ)) (wf : ℕ) (m : Option (List ℕ))
    (held held' : List ℕ) (total total' k : ℕ)
    → (p : Progress asks after mode start (state_of h left rf t wf m) held total k) → (r : Takes left left' rf rf' held held' total total')
    → length held' ≤ 73728
    → (q : Progress asks after mode start (state_of h left' rf' t wf m) held' total' k) × (q.bytes ≡ p.bytes ++ r.chunk)
reads_on asks after mode start h left left' rf rf' t wf m held held' total total' k p r room =
    let reads : Reads (p.bytes ++ r.chunk) (asked_in p.done) held' =
    subst (λ (xs : List ℕ). Reads (p.bytes ++ r.chunk) (asked_in p.done) xs) (sym r.held) (Reads-append p.bytes (asked_in p.done) held r.chunk p.reads) in (
      record {
        bytes = p.bytes ++ r.chunk;
        done = p.done;
        served = record {
          run = p.served.run;
          consumed = Consumes-trans start.left left left' p.bytes r.chunk p.served.consumed r.consumed;
          written = p.served.written;
          moments = p.served.moments;
          reads_later = omega (arith, p.served.reads_later, r.later);
          writes_later = p.served.writes_later;
          bounded = bounded_by (p.bytes ++ r.chunk) p.done held' reads room;
        };
        reads = reads;
        room = room;
        count = omega (arith, p.count, r.total, length-append p.bytes r.chunk);
        answered = p.answered;
      },
      refl,
    )

-- the bytes are all that there were, behind those that were taken before
pub IsAll-after : (old new : Option (List ℕ)) (bytes rest : List ℕ) → Consumes old new bytes → IsAll new rest → IsAll old (bytes ++ rest)
IsAll-after None new bytes rest took all = tt
IsAll-after (Some xs) None bytes rest took all = absurd took
IsAll-after (Some xs) (Some ys) bytes rest took all = took ∙ ap (λ zs. bytes ++ zs) all

-- ---- a head that is refused

served_tail : {H : Type 0} (asks : H → Option ℕ → Request → Reply → H → Type 0) (after : H → H → Type 0) (mode : ClockMode)
    (start : SessionState H) (h : H) (left : Option (List ℕ)) (rf : ℕ) (t t' : Option (List ℕ)) (wf wf' : ℕ) (m : Option (List ℕ))
    (bytes tail : List ℕ) (done : List Exchange)
    → Served asks after mode start (state_of h left rf t wf m) bytes done h [] [] → Appends t t' tail → wf ≤ wf'
    → Served asks after mode start (state_of h left rf t' wf' m) bytes done h tail []
served_tail asks after mode start h left rf t t' wf wf' m bytes tail done s sent later = record {
  run = s.run;
  consumed = s.consumed;
  written =
      subst (λ (xs : List ℕ). Appends start.taken t' (xs ++ tail)) (append-nil (replies_in done))
      (Appends-trans start.taken t t' (replies_in done ++ []) tail s.written sent);
  moments = s.moments;
  reads_later = s.reads_later;
  writes_later = omega (arith, s.writes_later, later);
  bounded = s.bounded;
}

pub bad_sent : {H : Type 0} (asks : H → Option ℕ → Request → Reply → H → Type 0) (asks_cut : H → Option ℕ → Request → H → Type 0)
    (after : H → H → Type 0) (after_cut : H → H → Type 0) (mode : ClockMode)
    (start : SessionState H) (h : H) (left : Option (List ℕ)) (rf : ℕ) (t t' : Option (List ℕ)) (wf wf' : ℕ) (m : Option (List ℕ))
    (held : List ℕ) (total k : ℕ) (fault : HeadFault)
    → Progress asks after mode start (state_of h left rf t wf m) held total k → IsFront held (front.bad fault)
    → Sends t t' wf wf' (fault_bytes fault) true
    → Finishes asks asks_cut after after_cut mode start (state_of h left rf t' wf' m) k (SE.Bad fault)
bad_sent asks asks_cut after after_cut mode start h left rf t t' wf wf' m held total k fault p front s = record {
  bytes = p.bytes;
  done = p.done;
  served = served_tail asks after mode start h left rf t t' wf wf' m p.bytes (fault_bytes fault) p.done p.served (s.whole refl) s.cause.later;
  end = IsStream-ends p.bytes (asked_in p.done) held (stream.Bad fault) p.reads front;
  count = p.answered;
}

pub cuts_refusal : {H : Type 0} (asks : H → Option ℕ → Request → Reply → H → Type 0) (after : H → H → Type 0) (mode : ClockMode)
    (start : SessionState H) (h : H) (left : Option (List ℕ)) (rf : ℕ) (t t' : Option (List ℕ)) (wf wf' : ℕ) (m : Option (List ℕ))
    (held : List ℕ) (total k : ℕ) (fault : HeadFault)
    → Progress asks after mode start (state_of h left rf t wf m) held total k → IsFront held (front.bad fault)
    → Sends t t' wf wf' (fault_bytes fault) false
    → (sent : ℕ) × (sent < length (fault_bytes fault))
    × Answered asks after mode start (state_of h left rf t' wf' m) k (take sent (fault_bytes fault)) (λ bytes asked. IsStream bytes asked (stream.Bad fault))
cuts_refusal asks after mode start h left rf t t' wf wf' m held total k fault p front s =
    let cut = s.cut refl in (
      cut.0,
      cut.1,
      record {
        bytes = p.bytes;
        done = p.done;
        served = served_tail asks after mode start h left rf t t' wf wf' m p.bytes (take cut.0 (fault_bytes fault)) p.done p.served cut.2 s.cause.later;
        end = IsStream-ends p.bytes (asked_in p.done) held (stream.Bad fault) p.reads front;
        count = p.answered;
      },
    )

pub bad_cut : {H : Type 0} (asks : H → Option ℕ → Request → Reply → H → Type 0) (asks_cut : H → Option ℕ → Request → H → Type 0)
    (after : H → H → Type 0) (after_cut : H → H → Type 0) (mode : ClockMode)
    (start : SessionState H) (h : H) (left : Option (List ℕ)) (rf : ℕ) (t t' : Option (List ℕ)) (wf wf' : ℕ) (m : Option (List ℕ))
    (held : List ℕ) (total k : ℕ) (fault : HeadFault)
    → Progress asks after mode start (state_of h left rf t wf m) held total k → IsFront held (front.bad fault)
    → Sends t t' wf wf' (fault_bytes fault) false
    → Finishes asks asks_cut after after_cut mode start (state_of h left rf t' wf' m) k SE.WriteFault
bad_cut asks asks_cut after after_cut mode start h left rf t t' wf wf' m held total k fault p front s =
    let cut = cuts_refusal asks after mode start h left rf t t' wf wf' m held total k fault p front s in (
      rose_since start.writes_failed wf wf' p.served.writes_later (s.cause.rose refl),
      inr (fault, cut.0, cut.1, cut.2),
    )

-- ---- the start

served_none : {H : Type 0} (asks : H → Option ℕ → Request → Reply → H → Type 0) (after : H → H → Type 0) (mode : ClockMode)
    (h : H) (left : Option (List ℕ)) (rf : ℕ) (t : Option (List ℕ)) (wf : ℕ) (m : Option (List ℕ))
    → Served asks after mode (state_of h left rf t wf m) (state_of h left rf t wf m) [] [] h [] []
served_none asks after mode h left rf t wf m = record {
  run = refl;
  consumed = Consumes-nil left;
  written = Appends-nil t;
  moments = refl;
  reads_later = omega arith;
  writes_later = omega arith;
  bounded = ([], refl, omega arith);
}

pub begins : {H : Type 0} (asks : H → Option ℕ → Request → Reply → H → Type 0) (after : H → H → Type 0) (mode : ClockMode)
    (h : H) (left : Option (List ℕ)) (rf : ℕ) (t : Option (List ℕ)) (wf : ℕ) (m : Option (List ℕ)) (held : List ℕ) (total k : ℕ)
    → held ≡ [] → total ≡ 0 → k ≡ 0
    → Progress asks after mode (state_of h left rf t wf m) (state_of h left rf t wf m) held total k
begins asks after mode h left rf t wf m held total k e none zero_done = record {
  bytes = [];
  done = [];
  served = served_none asks after mode h left rf t wf m;
  reads = sym e;
  room = omega (arith, ap length e);
  count = none;
  answered = zero_done;
}

pub short_at_once : {H : Type 0} (asks : H → Option ℕ → Request → Reply → H → Type 0) (asks_cut : H → Option ℕ → Request → H → Type 0)
    (after : H → H → Type 0) (after_cut : H → H → Type 0) (mode : ClockMode)
    (h : H) (left : Option (List ℕ)) (rf : ℕ) (t : Option (List ℕ)) (wf : ℕ) (m : Option (List ℕ))
    → Finishes asks asks_cut after after_cut mode (state_of h left rf t wf m) (state_of h left rf t wf m) 0 SE.Memory
short_at_once asks asks_cut after after_cut mode h left rf t wf m = inl (record {
  bytes = [];
  done = [];
  served = served_none asks after mode h left rf t wf m;
  end = ([], refl);
  count = refl;
})
