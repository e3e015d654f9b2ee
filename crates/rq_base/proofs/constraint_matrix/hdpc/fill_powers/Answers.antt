use Rattle.std.proofs.Common.{◌∙◌, sym, arith}
use Rattle.rq_standard.proofs.HdpcLaws.{hdpc-last}
use Rattle.rq_base.proofs.constraint_matrix.hdpc.fill_powers.Goals as goal

pub returns : goal.returns
returns c = record {
  long = omega arith;
  each = λ i below. c.loop-i.invariant i (omega arith) ∙ sym (hdpc-last c.args.row.now.numbers i (omega arith));
}
