-- What a session leaves, with the moment of each request.
use Rattle.std.proofs.Common.{◌≡◌, ℕ, suc, ◌+◌, List, [], ◌∷◌, ◌++◌, length, map, take, max, Option, Some, refl, sym, ap, ap₂, subst, ◌∙◌, inl, inr, append-nil, append_assoc}
use Rattle.std.proofs.Math.Nat.{max-eq_right, le-max_left}
use Rattle.std.specs.Io.KnownBytes.{Appends}
use Rattle.serve_io.specs.Gate.{Ends}
use Rattle.serve_io.specs.Clock.{Ticks}
use Rattle.http_session.specs.declared.report.ClockMode.TheVariants.{Ask}
use Rattle.http_session.specs.declared.report.SessionEnd.{SessionEnd}
use Rattle.http_session.specs.declared.report.SessionEnd.TheVariants.{Clean, Closed, Cut, Bad, ReadFault, WriteFault, TooLong, Memory}
use Rattle.http_session.specs.declared.message.Asked.{Asked}
use Rattle.http_session.specs.declared.message.Request.{Request}
use Rattle.http_session.specs.declared.message.Reply.{Reply}
use Rattle.http_session.specs.Session as session
use Rattle.http_session.specs.Session.{Exchange, exchange_bytes, asked_in, moments_in, replies_in, Run, SessionState, TakesMoments, Finishes}
use Rattle.http_session.specs.Stream.{IsNext}
use Rattle.control_rules.specs.Slots.{Plane}
use Rattle.api_server.specs.declared.mark.Mark.{Mark}
use Rattle.api_server.specs.Ask.{WorldView, Asks, AskCut, After, AfterCut, Answers as AnswersOver, IsCutShort, PatchesAsPut, at_moment, mark_at}
use Rattle.connection_loop.specs.Sessions.{TimedWorld, timed, AsksAt, AfterAt, Answers, AnswersAll, CutsReply, CutsRefusal, CutsAfter, CutsAsk, Leaves}

-- ---- a request at the moment of its mark

-- the greater of a moment and a later one
max_again : (a b : ℕ) → max a (max a b) ≡ max a b
max_again a b = max-eq_right (le-max_left a b)

same_plane : (w : Plane) (tick : ℕ) → at_moment w (Some (max w.now tick)) ≡ at_moment w (Some tick)
same_plane w tick = ap (λ (n : ℕ). record w { now = n }) (max_again w.now tick)

asks_at : (old new : WorldView) (tick : ℕ) (request : Request) (reply : Reply) → Asks old (Some tick) request reply new
    → Asks old (Some (max old.plane.now tick)) request reply new
asks_at old new tick request reply a =
    let same = sym (same_plane old.plane tick) in record {
      answers = subst (λ (w : Plane). AnswersOver w request reply new.plane) same a.answers;
      only = subst (λ (w : Plane). (other : Reply) (v : Plane) → AnswersOver w request other v → (other ≡ reply) × (v ≡ new.plane)) same a.only;
      as_put = subst (λ (w : Plane). PatchesAsPut w request reply new.plane) same a.as_put;
      marked = subst (λ (w : Plane). new.marks ≡ old.marks ++ mark_at w ∷ []) same a.marked;
      auto = a.auto;
      kept = a.kept;
      safe = a.safe;
      unused = a.unused;
    }

cut_at : (old new : WorldView) (tick : ℕ) (request : Request) → AskCut old (Some tick) request new → AskCut old (Some (max old.plane.now tick)) request new
cut_at old new tick request a = record {
  plane = subst (λ (w : Plane). IsCutShort w request new.plane) (sym (same_plane old.plane tick)) a.plane;
  marks = a.marks;
  auto = a.auto;
}

-- ---- the requests of a session, at the moments of their marks

-- the same requests and replies, each at the moment of its mark
record Noted (old last : TimedWorld) (done : List Exchange) : Type 0 where
  noted : List Exchange
  asked : asked_in noted ≡ asked_in done
  replies : replies_in noted ≡ replies_in done
  count : length noted ≡ length done
  run : Run (AsksAt Ask) AfterAt old noted last
  marks : List Mark
  marked : last.world.marks ≡ old.world.marks ++ marks
  counted : length marks ≡ length noted
  moments : moments_in noted ≡ map (λ (mark : Mark). Some mark.moment) marks

-- a request that was handed over at a moment of the clock
at : Exchange → Option ℕ → Exchange
at x now = record x { now = now }

noted_none : (old last : WorldView) (clock clock' : Option (List ℕ)) → last ≡ old → clock' ≡ clock → Noted (timed old clock) (timed last clock') []
noted_none old last clock clock' run takes = record {
  noted = [];
  asked = refl;
  replies = refl;
  count = refl;
  run = ap₂ (λ (w : WorldView) (c : Option (List ℕ)). timed w c) run takes;
  marks = [];
  marked = ap (λ (w : WorldView). w.marks) run ∙ sym (append-nil old.marks);
  counted = refl;
  moments = refl;
}

noted_more : (old answered next : WorldView) (last : TimedWorld) (clock middle : Option (List ℕ)) (x : Exchange) (done : List Exchange) (tick : ℕ)
    → Ticks clock middle tick → Asks old (Some tick) x.asked.request x.reply answered → After answered next
    → Noted (timed next middle) last done → Noted (timed old clock) last (x ∷ done)
noted_more old answered next last clock middle x done tick ticks asks after rest =
    let now : Option ℕ = Some (max old.plane.now tick) in
    let here : AsksAt Ask (timed old clock) now x.asked.request x.reply (timed answered middle) =
    record { moment = (tick, ticks, refl); asked = asks_at old answered tick x.asked.request x.reply asks } in
    let mark : Mark = mark_at (at_moment old.plane now) in
    record {
      noted = record x { now = now } ∷ rest.noted;
      asked = ap (λ (a : List Asked). x.asked ∷ a) rest.asked;
      replies = ap (λ (r : List ℕ). exchange_bytes x ++ r) rest.replies;
      count = ap suc rest.count;
      run = (timed answered middle, timed next middle, here, (after, refl), rest.run);
      marks = mark ∷ rest.marks;
      marked = rest.marked ∙ ap (λ (ms : List Mark). ms ++ rest.marks) (ap (λ (w : WorldView). w.marks) after ∙ here.asked.marked) ∙ append_assoc old.marks (mark ∷ []) rest.marks;
      counted = ap suc rest.counted;
      moments = ap₂ (λ (m : Option ℕ) (ms : List (Option ℕ)). m ∷ ms) (ap (λ (n : ℕ). Some n) (sym (max_again old.plane.now tick))) rest.moments;
    }

notes : (old : WorldView) (done : List Exchange) (last : WorldView) (clock clock' : Option (List ℕ)) → Run Asks After old done last
    → TakesMoments Ask clock (moments_in done) clock' → Noted (timed old clock) (timed last clock') done
notes old [] last clock clock' run takes = noted_none old last clock clock' run takes
notes old (x ∷ done) last clock clock' (answered, next, asks, after, rest) (middle, (tick, is, ticks), takes) =
    noted_more old answered next (timed last clock') clock middle x done tick ticks
    (subst (λ (now : Option ℕ). Asks old now x.asked.request x.reply answered) is asks) after (notes next done last middle clock' rest takes)

-- the moments of some requests, and then of others
record Split (old new : Option (List ℕ)) (first later : List (Option ℕ)) : Type 0 where
  middle : Option (List ℕ)
  before : TakesMoments Ask old first middle
  behind : TakesMoments Ask middle later new

split : (old new : Option (List ℕ)) (first later : List (Option ℕ)) → TakesMoments Ask old (first ++ later) new → Split old new first later
split old new [] later takes = record { middle = old; before = refl; behind = takes }
split old new (now ∷ first) later (middle, here, rest) =
    let s = split middle new first later rest in record { middle = s.middle; before = (middle, here, s.before); behind = s.behind }

-- ---- the ends of a session

abbrev pub ends_in : SessionState WorldView → Ends
ends_in s = record { left = s.left; reads_failed = s.reads_failed; taken = s.taken; writes_failed = s.writes_failed }

abbrev pub at_start : SessionState WorldView → TimedWorld
at_start s = timed s.handler s.moments

answers : (old new : SessionState WorldView) (last : TimedWorld) (bytes : List ℕ) (done : List Exchange) (tail : List ℕ) (more : List (Option ℕ)) (end : WorldView)
    → session.Served Asks After Ask old new bytes done end tail more → (n : Noted (at_start old) last done)
    → Answers Ask (ends_in old) (ends_in new) (at_start old) last bytes n.noted tail
answers old new last bytes done tail more end served n = record {
  run = n.run;
  marks = n.marks;
  marked = n.marked;
  counted = n.counted;
  moments = n.moments;
  consumed = served.consumed;
  written = subst (λ (r : List ℕ). Appends old.taken new.taken (r ++ tail)) (sym n.replies) served.written;
}

answers_all : (old new : SessionState WorldView) (answered : ℕ) (tail : List ℕ) (IsEnd : List ℕ → List Asked → Type 0)
    → session.Answered Asks After Ask old new answered tail IsEnd → AnswersAll Ask (ends_in old) (ends_in new) (at_start old) (at_start new) answered tail IsEnd
answers_all old new answered tail IsEnd a =
    let n = notes old.handler a.done new.handler old.moments new.moments a.served.run
    (subst (λ (ms : List (Option ℕ)). TakesMoments Ask old.moments ms new.moments) (append-nil (moments_in a.done)) a.served.moments) in
    record {
      bytes = a.bytes;
      done = n.noted;
      answers = answers old new (at_start new) a.bytes a.done tail [] new.handler a.served n;
      end = subst (λ (asked : List Asked). IsEnd a.bytes asked) (sym n.asked) a.end;
      count = a.count ∙ sym n.count;
    }

-- the requests before the last one, and the moment of this one
record Last (old : SessionState WorldView) (last : WorldView) (done : List Exchange) (now : Option ℕ) (new : SessionState WorldView) : Type 0 where
  middle : Option (List ℕ)
  noted : Noted (at_start old) (timed last middle) done
  tick : ℕ
  is : now ≡ Some tick
  ticks : Ticks middle new.moments tick

last_of : (old new : SessionState WorldView) (bytes : List ℕ) (done : List Exchange) (last : WorldView) (tail : List ℕ) (now : Option ℕ)
    → session.Served Asks After Ask old new bytes done last tail (now ∷ []) → Last old last done now new
last_of old new bytes done last tail now served =
    let s = split old.moments new.moments (moments_in done) (now ∷ []) served.moments in
    let (clock, (tick, is, ticks), same) = s.behind in
    record {
      middle = s.middle;
      noted = notes old.handler done last old.moments s.middle served.run s.before;
      tick = tick;
      is = is;
      ticks = subst (λ (c : Option (List ℕ)). Ticks s.middle c tick) (sym same) ticks;
    }

cuts_reply : (old new : SessionState WorldView) (answered : ℕ) → session.CutsReply Asks After Ask old new answered
    → CutsReply Ask (ends_in old) (ends_in new) (at_start old) (at_start new) answered
cuts_reply old new answered a =
    let l = last_of old new a.bytes a.done a.last (take a.sent (exchange_bytes a.exchange)) a.exchange.now a.served in
    let asks = subst (λ (now : Option ℕ). Asks a.last now a.exchange.asked.request a.exchange.reply new.handler) l.is a.asked in
    record {
      bytes = a.bytes;
      done = l.noted.noted;
      last = timed a.last l.middle;
      exchange = record a.exchange { now = Some (max a.last.plane.now l.tick) };
      sent = a.sent;
      answers = answers old new (timed a.last l.middle) a.bytes a.done (take a.sent (exchange_bytes a.exchange)) (a.exchange.now ∷ []) a.last a.served l.noted;
      next = subst (λ (asked : List Asked). IsNext a.bytes asked a.exchange.asked) (sym l.noted.asked) a.next;
      asked = record { moment = (l.tick, l.ticks, refl); asked = asks_at a.last new.handler l.tick a.exchange.asked.request a.exchange.reply asks };
      proper = a.proper;
      count = a.count ∙ sym l.noted.count;
    }

cuts_refusal : (old new : SessionState WorldView) (answered : ℕ) → session.CutsRefusal Asks After Ask old new answered
    → CutsRefusal Ask (ends_in old) (ends_in new) (at_start old) (at_start new) answered
cuts_refusal old new answered (fault, sent, proper, a) = (fault, sent, proper, answers_all old new answered _ _ a)

cuts_after : (old new : SessionState WorldView) (answered : ℕ) → session.CutsAfter Asks After AfterCut Ask old new answered
    → CutsAfter Ask (ends_in old) (ends_in new) (at_start old) (at_start new) answered
cuts_after old new answered a =
    let l = last_of old new a.bytes a.done a.last (exchange_bytes a.exchange) a.exchange.now a.served in
    let asks = subst (λ (now : Option ℕ). Asks a.last now a.exchange.asked.request a.exchange.reply a.middle) l.is a.asked in
    record {
      bytes = a.bytes;
      done = l.noted.noted;
      last = timed a.last l.middle;
      middle = timed a.middle new.moments;
      exchange = record a.exchange { now = Some (max a.last.plane.now l.tick) };
      answers = answers old new (timed a.last l.middle) a.bytes a.done (exchange_bytes a.exchange) (a.exchange.now ∷ []) a.last a.served l.noted;
      next = subst (λ (asked : List Asked). IsNext a.bytes asked a.exchange.asked) (sym l.noted.asked) a.next;
      asked = record { moment = (l.tick, l.ticks, refl); asked = asks_at a.last a.middle l.tick a.exchange.asked.request a.exchange.reply asks };
      cut = (a.cut, refl);
      count = a.count ∙ ap (λ (n : ℕ). n + 1) (sym l.noted.count);
    }

cuts_ask : (old new : SessionState WorldView) (answered : ℕ) → session.CutsAsk Asks AskCut After Ask old new answered
    → CutsAsk Ask (ends_in old) (ends_in new) (at_start old) (at_start new) answered
cuts_ask old new answered a =
    let l = last_of old new a.bytes a.done a.last [] a.now a.served in
    let cut = subst (λ (now : Option ℕ). AskCut a.last now a.asked.request new.handler) l.is a.cut in
    record {
      bytes = a.bytes;
      done = l.noted.noted;
      last = timed a.last l.middle;
      asked = a.asked;
      now = Some (max a.last.plane.now l.tick);
      answers = answers old new (timed a.last l.middle) a.bytes a.done [] (a.now ∷ []) a.last a.served l.noted;
      next = subst (λ (asked : List Asked). IsNext a.bytes asked a.asked) (sym l.noted.asked) a.next;
      cut = record { moment = (l.tick, l.ticks, refl); cut = cut_at a.last new.handler l.tick a.asked.request cut };
      count = a.count ∙ sym l.noted.count;
    }

pub leaves : (old new : SessionState WorldView) (answered : ℕ) (end : SessionEnd) → Finishes Asks AskCut After AfterCut Ask old new answered end
    → Leaves Ask (ends_in old) (ends_in new) (at_start old) (at_start new) answered end
leaves old new answered Clean a = answers_all old new answered _ _ a
leaves old new answered Cut a = answers_all old new answered _ _ a
leaves old new answered Closed a = answers_all old new answered _ _ a
leaves old new answered (Bad fault) a = answers_all old new answered _ _ a
leaves old new answered ReadFault (rose, a) = (rose, answers_all old new answered _ _ a)
leaves old new answered TooLong a = answers_all old new answered _ _ a
leaves old new answered WriteFault (rose, inl a) = (rose, inl (cuts_reply old new answered a))
leaves old new answered WriteFault (rose, inr a) = (rose, inr (cuts_refusal old new answered a))
leaves old new answered Memory (inl a) = inl (answers_all old new answered _ _ a)
leaves old new answered Memory (inr (inl a)) = inr (inl (cuts_after old new answered a))
leaves old new answered Memory (inr (inr a)) = inr (inr (cuts_ask old new answered a))
