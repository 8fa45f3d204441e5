use Rattle.std.proofs.Common.{◌+◌, sym, ap, ◌∙◌, subst, get_or, arith}
use Rattle.touched_keys.specs.Marks.{Adds}
use Rattle.touched_keys.specs.Changes.{ChangeView, IsTouched, MarksOverBelow}
use Rattle.touched_keys.proofs.Adding.{adds_then}
use Rattle.touched_keys.proofs.Over.{over_dash, over_skip, over_all}
use Rattle.touched_keys.proofs.marking.mark_over.Goals.{then-as_bytes-end-eq45+in_ok-mark_beside, else-as_bytes-end-eq45}
use Rattle.touched_keys.proofs.marking.mark_over.Goals as goal

pub loop-end-preserved : goal.loop-end-preserved
loop-end-preserved c =
    let v = c.args.change.now in
    let text = c.as_str-text.result.now in
    let same = c.as_str-text.ensures ∙ ap (λ (v : ChangeView). v.key.name.name) c.change.view_is in
    let end = c.loop-end.end in
    let i = c.loop-end.invariant in
    elim c.if-as_bytes-end-eq45.branch [
      | then-as_bytes-end-eq45+in_ok-mark_beside w ↦
          subst (λ keys. record { adds : Adds (IsTouched v) c.args.keys.now keys; all : MarksOverBelow (end + 1) v c.args.controller keys }) (sym w.keys-is)
          (record {
            adds = adds_then (IsTouched v) _ _ _ i.adds w.in_ok-mark_beside.ensures.adds;
            all = over_dash v c.args.controller text same (IsTouched v) end w.range.result.now c.loop-end.keys w.mark_beside.new.keys w.range.ensures.value w.in_ok-mark_beside.ensures.all w.in_ok-mark_beside.ensures.adds i.all;
          })
      | else-as_bytes-end-eq45 w ↦
          subst (λ keys. record { adds : Adds (IsTouched v) c.args.keys.now keys; all : MarksOverBelow (end + 1) v c.args.controller keys }) (sym w.keys-is)
          (record {
            adds = i.adds;
            all = over_skip v c.args.controller text same (IsTouched v) end c.loop-end.keys (λ q. w.if-as_bytes-end-eq45.false (ap (λ bytes. get_or bytes end 0) c.as_bytes.ensures.value ∙ q)) i.all;
          })
    ]

pub returns-clause-all : goal.returns-clause-all
returns-clause-all c =
    let v = c.args.change.now in
    over_all v c.args.controller c.as_str-text.result.now (c.as_str-text.ensures ∙ ap (λ (v : ChangeView). v.key.name.name) c.change.view_is) c.loop-end.end c.loop-end.keys (omega (arith, c.loop-end-test.false)) c.loop-end.invariant.all
