use Rattle.std.specs.Prelude.{Err, IfOk, IsErrOf}
use Rattle.std.proofs.Common.{take, rules, refl, sym, ap, subst, ◌∙◌, arith, length-take}
use Rattle.gateway_command.proofs.Inputs.{Taken, size, taken_none, taken_more, refused_reads, fault_reads, long_reads, end_reads, front}
use Rattle.gateway_command.specs.Lines.{new_gateway, FollowsLine, IsRefused}
use Rattle.gateway_command.specs.declared.input.Unread.TheVariants.{Refused}
use Rattle.gateway_command.proofs.input.follow_in.Goals as goal

pub reads-init : goal.reads-init
reads-init g c = record {
  taken = subst (λ view. Taken (g.S.Source.left c.args.source.now) (g.S.Source.left c.args.source.now) 0 view c.new-line.result.items) (sym c.new-gateway.ensures)
      (subst (λ xs. Taken (g.S.Source.left c.args.source.now) (g.S.Source.left c.args.source.now) 0 new_gateway xs) (sym c.new-line.ensures.items)
      (taken_none (g.S.Source.left c.args.source.now)));
  few = omega arith;
  room = c.requires;
  calm = refl;
}

pub reads-preserved : goal.reads-preserved
reads-preserved g c = record {
  taken = taken_more _ (g.S.Source.left c.reads.source) _ c.reads.taken c.in-Got.count (take c.in-Got.count c.read_most.new.room)
      c.reads.gateway c.take_bytes.new.gateway c.reads.line.items c.take_bytes.new.line.items c.reads.invariant.taken
      (front _ _ c.read_most.new.room c.min-most.result c.in-Got.count c.in-Got.ensures.bytes.1 c.in-Got.ensures.bytes.2)
      (size c.read_most.new.room c.min-most.result c.in-Got.count c.in-Got.ensures.bytes.1)
      (λ bytes read. c.in-Ok.ensures.ok bytes read);
  few = search (rules, arith, length-take c.min-most.result c.read_most.new.room);
  room = c.read_most.ensures.length ∙ c.reads.invariant.room;
  calm = c.in-Got.ensures.calm (λ e. cc) ∙ c.reads.invariant.calm;
}

pub returns-in-Err-clause-reads : goal.returns-in-Err-clause-reads
returns-in-Err-clause-reads g c =
    refused_reads _ (g.S.Source.left c.reads.source) _ (g.S.Source.faults c.args.source.now) (g.S.Source.faults c.read_most.new.source) c.reads.taken c.in-Got.count (take c.in-Got.count c.read_most.new.room)
    c.reads.gateway c.reads.line.items c.unfollowed.result c.reads.invariant.taken
    (front _ _ c.read_most.new.room c.min-most.result c.in-Got.count c.in-Got.ensures.bytes.1 c.in-Got.ensures.bytes.2)
    (size c.read_most.new.room c.min-most.result c.in-Got.count c.in-Got.ensures.bytes.1)
    (search (rules, arith, length-take c.min-most.result c.read_most.new.room))
    (λ is bytes read. c.in-Err.ensures.refused bytes read (ap (λ error. Err error) (c.unfollowed.ensures.refused is))) c.unfollowed.ensures.calm c.unfollowed.ensures.short

pub returns-in-End-clause-reads : goal.returns-in-End-clause-reads
returns-in-End-clause-reads g c =
    end_reads _ (g.S.Source.left c.reads.source) _ (g.S.Source.faults c.args.source.now) (g.S.Source.faults c.read_most.new.source) c.reads.taken c.reads.gateway c.reads.line.items c.follow_last.result c.reads.invariant.taken
    c.in-End.ensures.bytes.0 c.in-End.ensures.bytes.1 c.reads-test.true
    (subst (λ line. IfOk c.follow_last.result (FollowsLine c.reads.gateway line)) c.as_slice.ensures.value c.follow_last.ensures.ok)
    (subst (λ line. IsErrOf c.follow_last.result Refused → IsRefused line c.reads.gateway) c.as_slice.ensures.value c.follow_last.ensures.refused)
    c.follow_last.ensures.calm c.follow_last.ensures.short

pub returns-in-Failed-clause-reads : goal.returns-in-Failed-clause-reads
returns-in-Failed-clause-reads g c =
    fault_reads _ (g.S.Source.left c.reads.source) _ _ (g.S.Source.faults c.reads.source) _ c.reads.taken c.reads.gateway c.reads.line.items c.reads.invariant.taken
    c.in-Failed.ensures.bytes c.reads-test.true c.reads.invariant.calm (c.in-Failed.ensures.cause.rose refl)

pub returns-clause-reads : goal.returns-clause-reads
returns-clause-reads g c =
    long_reads _ _ 0 0 c.reads.taken c.reads.gateway c.reads.line.items c.reads.invariant.taken c.reads.invariant.few (omega (arith, c.reads-test.false))
