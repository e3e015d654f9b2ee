-- What the check leaves to show of `system::System::of_matrix`.
use Rattle.std.proofs.Common.{◌∙◌}
use Rattle.rq_peeling.proofs.MatrixRows.{are_rows_of_bits, octet_rows}
use Rattle.rq_peeling.proofs.PeelingLaws.{columns_below}
use Rattle.rq_peeling.proofs.system.System.of_matrix.Goals as goal

pub of_rows-requires-clause-columns : goal.of_rows-requires-clause-columns
of_rows-requires-clause-columns g c =
    let m = g.T.BinaryMatrix.content c.args.bits.now in
    let wide = c.width-width.ensures.width ∙ c.requires.width in
    rw wide (columns_below m.width c.in_ok-ones.ones (are_rows_of_bits m.height m.width m.bit c.in_ok-ones.ones c.in_ok-ones.ensures.ones (g.met.T.BinaryMatrix.is_table c.args.bits.now).bits))

pub invariant_of-result-clause-bits : goal.invariant_of-result-clause-bits
invariant_of-result-clause-bits g c =
    let m = g.T.BinaryMatrix.content c.args.bits.now in
    let wide = c.width-width.ensures.width ∙ c.requires.width in
    rw wide (are_rows_of_bits m.height m.width m.bit c.in_ok-ones.ones c.in_ok-ones.ensures.ones (g.met.T.BinaryMatrix.is_table c.args.bits.now).bits)

pub invariant_of-result-clause-octet_rows : goal.invariant_of-result-clause-octet_rows
invariant_of-result-clause-octet_rows g c =
    let m = g.T.BinaryMatrix.content c.args.bits.now in
    let wide = c.width-width.ensures.width ∙ c.requires.width in
    rw wide (octet_rows m.height m.width m.bit c.in_ok-ones.ones c.in_ok-ones.ensures.ones c.args.first_hdpc c.args.hdpc c.requires.width c.requires.within c.requires.zeros)
