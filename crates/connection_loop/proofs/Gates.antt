-- Connections that were taken, served and handed back, one more or some more.
use Rattle.std.proofs.Common.{◌≡◌, ◌≤◌, List, [], ◌∷◌, ◌++◌, Option, Some, None, refl, sym, ap, subst, ◌∙◌, arith, append-nil, append_assoc}
use Rattle.std.proofs.lemmas.List.{map-append}
use Rattle.std.specs.Prelude.{◌≢◌}
use Rattle.serve_io.specs.Gate.{Ends, TakesFirst, AddsBack}
use Rattle.http_session.specs.declared.report.ClockMode.TheVariants.{Ask}
use Rattle.http_session.specs.declared.report.SessionEnd.TheVariants.{ReadFault, WriteFault}
use Rattle.http_session.specs.declared.report.SessionReport.{SessionReport}
use Rattle.connection_loop.specs.Sessions.{TimedWorld, Leaves}
use Rattle.connection_loop.specs.Serves.{Serving, Served, IsServed, AreServed, TakesAll, HandsBack, Serves}
use Rattle.connection_loop.specs.Turns.{ServesOne}

takes_none : (a b : Option (List Ends)) → b ≡ a → TakesAll a b []
takes_none None b same = tt
takes_none (Some xs) None same = cc
takes_none (Some xs) (Some ys) same = cc

hands_none : (a b : Option (List Ends)) → b ≡ a → HandsBack a b []
hands_none None b same = tt
hands_none (Some xs) None same = cc
hands_none (Some xs) (Some ys) same = let is : ys ≡ xs = cc in is ∙ sym (append-nil xs)

takes_one : (a b c : Option (List Ends)) (ends : Ends) → TakesFirst a b ends → c ≡ b → TakesAll a c (ends ∷ [])
takes_one None b c ends t same = tt
takes_one (Some xs) None c ends t same = absurd t
takes_one (Some xs) (Some ys) None ends t same = cc
takes_one (Some xs) (Some ys) (Some zs) ends t same = let is : ys ≡ zs = cc in t ∙ ap (λ (l : List Ends). ends ∷ l) is

hands_one : (a b c : Option (List Ends)) (ends : Ends) → b ≡ a → AddsBack b c ends → HandsBack a c (ends ∷ [])
hands_one None b c ends same t = tt
hands_one (Some xs) None c ends same t = cc
hands_one (Some xs) (Some ys) None ends same t = absurd t
hands_one (Some xs) (Some ys) (Some zs) ends same t = let is : ys ≡ xs = cc in t ∙ ap (λ (l : List Ends). l ++ ends ∷ []) is

takes_more : (a b c : Option (List Ends)) (xs ys : List Ends) → TakesAll a b xs → TakesAll b c ys → TakesAll a c (xs ++ ys)
takes_more None b c xs ys p q = tt
takes_more (Some x) None c xs ys p q = absurd p
takes_more (Some x) (Some y) None xs ys p q = absurd q
takes_more (Some x) (Some y) (Some z) xs ys p q = p ∙ ap (λ (l : List Ends). xs ++ l) q ∙ sym (append_assoc xs ys z)

hands_more : (a b c : Option (List Ends)) (xs ys : List Ends) → HandsBack a b xs → HandsBack b c ys → HandsBack a c (xs ++ ys)
hands_more None b c xs ys p q = tt
hands_more (Some x) None c xs ys p q = absurd p
hands_more (Some x) (Some y) None xs ys p q = absurd q
hands_more (Some x) (Some y) (Some z) xs ys p q = q ∙ ap (λ (l : List Ends). l ++ ys) p ∙ append_assoc x xs ys

served_more : (a b c : TimedWorld) (xs ys : List Served) → AreServed a xs b → AreServed b ys c → AreServed a (xs ++ ys) c
served_more a b c [] ys p q = subst (λ (w : TimedWorld). AreServed w ys c) p q
served_more a b c (x ∷ xs) ys (middle, one, rest) q = (middle, one, served_more middle b c xs ys rest q)

pub serves_none : (old new : Serving) → new.world ≡ old.world → new.coming ≡ old.coming → new.back ≡ old.back → old.failed ≤ new.failed → Serves old new []
serves_none old new world coming back later = record {
  worlds = world;
  came = takes_none old.coming new.coming coming;
  handed = hands_none old.back new.back back;
  later = later;
}

pub serves_one : (old middle new : Serving) (c : Served) → IsServed c old.world new.world → TakesFirst old.coming middle.coming c.came → new.coming ≡ middle.coming
    → middle.back ≡ old.back → AddsBack middle.back new.back c.handed → old.failed ≤ middle.failed → middle.failed ≤ new.failed → Serves old new (c ∷ [])
serves_one old middle new c is first coming back added before behind = record {
  worlds = (new.world, is, refl);
  came = takes_one old.coming middle.coming new.coming c.came first coming;
  handed = hands_one old.back middle.back new.back c.handed back added;
  later = omega (arith, before, behind);
}

pub serves_more : (a b c : Serving) (xs ys : List Served) → Serves a b xs → Serves b c ys → Serves a c (xs ++ ys)
serves_more a b c xs ys p q = record {
  worlds = served_more a.world b.world c.world xs ys p.worlds q.worlds;
  came = subst (λ (l : List Ends). TakesAll a.coming c.coming l) (sym (map-append (λ (x : Served). x.came) xs ys)) (takes_more a.coming b.coming c.coming _ _ p.came q.came);
  handed = subst (λ (l : List Ends). HandsBack a.back c.back l) (sym (map-append (λ (x : Served). x.handed) xs ys)) (hands_more a.back b.back c.back _ _ p.handed q.handed);
  later = omega (arith, p.later, q.later);
}

-- a connection that was taken, served by a session with this report and handed back
pub one_served : (old middle new : Serving) (came handed : Ends) (report : SessionReport) → Leaves Ask came handed old.world new.world report.answered report.end
    → (report.end ≢ ReadFault → handed.reads_failed ≡ came.reads_failed) → (report.end ≢ WriteFault → handed.writes_failed ≡ came.writes_failed)
    → TakesFirst old.coming middle.coming came → new.coming ≡ middle.coming → middle.back ≡ old.back → AddsBack middle.back new.back handed
    → old.failed ≤ middle.failed → middle.failed ≤ new.failed → ServesOne old new report
one_served old middle new came handed report leaves calm_input calm_output first coming back added before behind =
    let c : Served = record { came = came; handed = handed; end = report.end; answered = report.answered } in
    let is : IsServed c old.world new.world = record { leaves = leaves; calm_input = calm_input; calm_output = calm_output } in record {
      c = c;
      end = refl;
      answered = refl;
      serves = serves_one old middle new c is first coming back added before behind;
    }
