-- What the check leaves to show of `counts::OperationList::counts`.
use Rattle.std.proofs.Common.{refl}
use Rattle.rq_elimination.specs.OperationCounts.{is_addition, is_multiplication}
use Rattle.rq_elimination.proofs.PhaseTotals.{phases_counted}
use Rattle.rq_elimination.proofs.counts.OperationList.counts.Goals as goal

pub returns : goal.returns
returns c =
    let steps = c.as_slice-steps.result.now in
    rw (← c.self.view_is, ← c.as_slice-steps.ensures.value) (record {
      additions_are = phases_counted is_addition steps c.args.ends c.count_steps-clearing.result.0 c.count_steps-forward.result.0 c.count_steps-sparsifying.result.0 c.count_steps-back.result.0 c.count_steps-last.result.0 c.count_steps-clearing.ensures.additions c.count_steps-forward.ensures.additions
          c.count_steps-sparsifying.ensures.additions c.count_steps-back.ensures.additions c.count_steps-last.ensures.additions _ refl refl refl;
      multiplications_are = phases_counted is_multiplication steps c.args.ends c.count_steps-clearing.result.1 c.count_steps-forward.result.1 c.count_steps-sparsifying.result.1 c.count_steps-back.result.1 c.count_steps-last.result.1 c.count_steps-clearing.ensures.multiplications c.count_steps-forward.ensures.multiplications
          c.count_steps-sparsifying.ensures.multiplications c.count_steps-back.ensures.multiplications c.count_steps-last.ensures.multiplications _ refl refl refl;
    })
