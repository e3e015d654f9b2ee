use Rattle.std.proofs.Common.{◌≡◌, ◌-◌, arith, subst}
use Rattle.rq_bytes.specs.SymbolSlab.{symbol_in}
use Rattle.rq_standard.specs.Equations.{before_hdpc}
use Rattle.rq_block.specs.HdpcSums.{AreHdpcSums}
use Rattle.rq_block.proofs.HdpcSumSteps.{sums_tell}
use Rattle.rq_block.proofs.decoder.fitting.solves_hdpc.Goals as goal

pub returns : goal.returns
returns c =
    let row = c.args.row.now.numbers in
    let column = symbol_in c.args.intermediate.now in
    let size = c.args.intermediate.now.symbol_size in
    let last = before_hdpc row - 1 in
    let at_end : c.loop-column.column ≡ last = omega arith in
    let tell = sums_tell row column size c.loop-column.sums (omega arith) c.requires.symbols (subst (λ n. AreHdpcSums row column size n c.loop-column.sums) at_end c.loop-column.invariant) in
    let told = rw c.hdpc_symbols.ensures.value at c.are_zero_with_last.ensures in
    (λ t. tell.0 (told.0 t), λ s. told.1 (tell.1 s))
