use Rattle.std.proofs.Common.{Some, None, length, map, refl, sym, ap, subst, ◌∙◌}
use Rattle.std.specs.List.{find}
use Rattle.std.specs.Option.{option_copied}
use Rattle.control_rules.specs.Slots.{present}
use Rattle.touched_keys.specs.declared.marks.Mark.{Mark}
use Rattle.touched_keys.specs.Marks.{IsTakenIn}
use Rattle.step_scheduler.specs.Passes.{is_next, lesser, IsVisit}
use Rattle.step_scheduler.specs.Planes.{plane_of}
use Rattle.step_scheduler.specs.Rows.{Row}
use Rattle.step_scheduler.specs.Touched.{TookIn}
use Rattle.step_scheduler.proofs.Marking.{untouched_rests, untouched_taken}
use Rattle.step_scheduler.proofs.Visits.{visit_is}
use Rattle.step_scheduler.proofs.plane.Plane.first_busy.Goals as goal

pub returns-in_ok-copy-in-Some-clause-visit : goal.returns-in_ok-copy-in-Some-clause-visit
returns-in_ok-copy-in-Some-clause-visit c =
    let p = c.self.inside in
    let w = plane_of p.settings p.store.entries p.moment p.slots p.cursor in
    let next = is_next c.args.controller c.args.last.now (present w) in
    let taken : IsTakenIn (length p.store.entries) p.marks = subst TookIn (sym c.self.view_is) c.requires in
    subst (λ v. IsVisit v.plane c.args.controller c.args.last.now (Some c.in_ok-copy-in-Some.field-0)) c.self.view_is
    (visit_is w c.args.controller c.args.last.now p.marks.keys p.slots
    c.rows.ensures.ordered c.rows-2.ensures.ordered refl
    (λ k off. untouched_rests w c.self.invariant.slots.kept p.marks c.self.invariant.marked k (untouched_taken p.store.entries p.marks taken k off))
    (Some c.in_ok-copy-in-Some.field-0)
    (ap Some c.in_ok-copy-in-Some.ensures ∙ sym (ap option_copied c.in-Some.is) ∙ c.lesser.ensures ∙ (λ i. lesser
    ((c.first_next-marked.ensures ∙ ap (λ ms. find next (map (λ (m : Mark). m.key) ms)) c.rows.ensures.all) i)
    ((c.first_next-held.ensures ∙ ap (λ rs. find next (map (λ (r : Row). r.key) rs)) c.rows-2.ensures.all) i))))

pub returns-in-None-clause-visit : goal.returns-in-None-clause-visit
returns-in-None-clause-visit c =
    let p = c.self.inside in
    let w = plane_of p.settings p.store.entries p.moment p.slots p.cursor in
    let next = is_next c.args.controller c.args.last.now (present w) in
    let taken : IsTakenIn (length p.store.entries) p.marks = subst TookIn (sym c.self.view_is) c.requires in
    subst (λ v. IsVisit v.plane c.args.controller c.args.last.now None) c.self.view_is
    (visit_is w c.args.controller c.args.last.now p.marks.keys p.slots
    c.rows.ensures.ordered c.rows-2.ensures.ordered refl
    (λ k off. untouched_rests w c.self.invariant.slots.kept p.marks c.self.invariant.marked k (untouched_taken p.store.entries p.marks taken k off))
    None
    (sym (ap option_copied c.in-None.is) ∙ c.lesser.ensures ∙ (λ i. lesser
    ((c.first_next-marked.ensures ∙ ap (λ ms. find next (map (λ (m : Mark). m.key) ms)) c.rows.ensures.all) i)
    ((c.first_next-held.ensures ∙ ap (λ rs. find next (map (λ (r : Row). r.key) rs)) c.rows-2.ensures.all) i))))
