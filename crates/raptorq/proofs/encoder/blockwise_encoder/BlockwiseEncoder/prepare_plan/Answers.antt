use Rattle.std.proofs.Common.{sym, ap, ◌∙◌, subst, arith}
use Rattle.std.proofs.lemmas.Result.{err_from_is_err_and}
use Rattle.rq_standard.specs.Headline.{IsNonsingular}
use Rattle.rq_standard.specs.TableRows.{row_of}
use Rattle.rq_standard.proofs.BlockCuts.{block_symbols_few}
use Rattle.raptorq.proofs.EncodedBlocks.{refuses_block_plan}
use Rattle.raptorq.proofs.encoder.blockwise_encoder.BlockwiseEncoder.prepare_plan.Goals as goal

pub overflow_cast-count : goal.overflow_cast-count
overflow_cast-count c =
    let s = c.args.self.now in
    omega (arith, c.block_symbols-count.ensures, block_symbols_few s.config.now c.args.number c.requires, s.few)

pub returns-in_err-self-clause-refused : goal.returns-in_err-self-clause-refused
returns-in_err-self-clause-refused c =
    let s = c.args.self.now in
    let p = err_from_is_err_and c.from_residual.result c.from_residual.ensures.1 in
    rw (p.1, p.2) (refuses_block_plan s.table.now s.config.now c.args.number c.block_symbols-count.result c.in_err-self.field-0.0 s.accepted c.requires c.block_symbols-count.ensures c.in_err-self.ensures.refused)

pub returns-in_ok-self-clause-nonsingular : goal.returns-in_ok-self-clause-nonsingular
returns-in_ok-self-clause-nonsingular c = subst (λ m. IsNonsingular (row_of c.args.self.now.table.now m)) c.block_symbols-count.ensures c.in_ok-self.ensures.nonsingular

pub returns-else-from-count-clause-nonsingular : goal.returns-else-from-count-clause-nonsingular
returns-else-from-count-clause-nonsingular c =
    let s = c.args.self.now in
    subst IsNonsingular (s.planned ∙ ap (row_of s.table.now) (sym c.source_symbol_count.ensures ∙ sym c.from.ensures ∙ c.if-from-count.false ∙ c.block_symbols-count.ensures)) s.plan.nonsingular
