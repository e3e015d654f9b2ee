use Rattle.std.proofs.Common.{◌≡◌, ◌∙◌, arith}
use borrow.Author.Count.{below_more}
use Rattle.std.proofs.lemmas.Result.{err_from_is_err_and}
use Rattle.rq_standard.specs.Headline.{block_row, IsNonsingular}
use Rattle.raptorq.proofs.encoder.blockwise_encoder.BlockwiseEncoder.check_rows.Goals as goal

pub prepare_plan-requires : goal.prepare_plan-requires
prepare_plan-requires c =
    let blocks : c.loop-number.self.config.now.source_blocks ≡ c.args.self.now.config.now.source_blocks = (λ i. (c.loop-number.invariant.config i).now.source_blocks) in
    omega (arith, c.loop-number-test.true, c.source_blocks-number-end.ensures, blocks)

pub returns-in_err-prepare_plan-clause-refused : goal.returns-in_err-prepare_plan-clause-refused
returns-in_err-prepare_plan-clause-refused c =
    let v = c.loop-number.invariant in
    let p = err_from_is_err_and c.from_residual.result c.from_residual.ensures.1 in
    rw (p.1, p.2) (rw (v.table, v.config) at c.in_err-prepare_plan.ensures.refused)

pub loop-number-preserved : goal.loop-number-preserved
loop-number-preserved c =
    let v = c.loop-number.invariant in
    record {
      table = c.prepare_plan.ensures.table ∙ v.table;
      config = c.prepare_plan.ensures.config ∙ v.config;
      nonsingular = below_more (λ b. IsNonsingular (block_row c.args.self.now.table.now c.args.self.now.config.now b)) c.loop-number.number v.nonsingular (rw (v.table, v.config) at c.in_ok-prepare_plan.ensures.nonsingular);
    }

pub returns-clause-nonsingular : goal.returns-clause-nonsingular
returns-clause-nonsingular c = λ b below. c.loop-number.invariant.nonsingular b (omega (arith, below, c.loop-number-test.false, c.source_blocks-number-end.ensures))
