use Rattle.std.proofs.Common.{◌∙◌, arith, refl, length-drop}
use Rattle.manifest_check.proofs.Inputs.{reads_more, reads_end, reads_fault}
use Rattle.manifest_check.proofs.input.read_into.Goals as goal

pub reads-preserved : goal.reads-preserved
reads-preserved g c = record {
  within = omega (arith, c.in-Got.ensures.bytes.1, length-drop c.reads.count c.read_behind.new.room);
  consumed = reads_more _ _ _ c.reads.room c.read_behind.new.room c.reads.count c.in-Got.more c.reads.invariant.consumed c.read_behind.ensures.before c.in-Got.ensures.bytes.2;
  calm = c.in-Got.ensures.calm (λ e. cc) ∙ c.reads.invariant.calm;
  later = omega (arith, c.reads.invariant.later, c.read_behind.ensures.cause.later);
}

pub returns-in-End-clause-bytes : goal.returns-in-End-clause-bytes
returns-in-End-clause-bytes g c =
    reads_end _ _ _ 0 0 c.reads.room c.read_behind.new.room c.reads.count (omega arith) c.reads.invariant.consumed c.read_behind.ensures.before
    c.in-End.ensures.bytes.0 c.in-End.ensures.bytes.1

pub returns-in-Failed-clause-bytes : goal.returns-in-Failed-clause-bytes
returns-in-Failed-clause-bytes g c =
    reads_fault _ _ _ _ _ _ c.reads.room c.read_behind.new.room c.reads.count (omega arith) c.reads.invariant.consumed c.read_behind.ensures.before
    c.in-Failed.ensures.bytes c.reads.invariant.later (c.in-Failed.ensures.cause.rose refl)
