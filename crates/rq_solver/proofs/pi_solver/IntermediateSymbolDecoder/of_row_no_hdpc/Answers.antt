-- What the check leaves to show of `pi_solver::IntermediateSymbolDecoder::of_row_no_hdpc`.
use Rattle.std.proofs.Common.{◌≡◌, ℕ, None, length, ap, arith}
use Rattle.rq_parts.specs.DenseOctetMatrix.{OctetTable, entry_of}
use Rattle.rq_solver.specs.Solving.{Solver, solver_without_hdpc}
use Rattle.rq_solver.proofs.EquationLaws.{bits_alone}
use Rattle.rq_solver.proofs.pi_solver.IntermediateSymbolDecoder.of_row_no_hdpc.Goals as goal

pub returns : goal.returns
returns g c =
    let bits = g.T.BinaryMatrix.content c.args.matrix in
    let of_rows : (ℕ → ℕ → ℕ) → Solver = λ rows. record (solver_without_hdpc c.args.row.now.numbers bits None) { rows = rows } in
    let empty : length c.without_rows-hdpc.result.rows ≡ 0 = ap (λ (t : OctetTable). length t.rows) c.without_rows-hdpc.ensures in
    let counts = c.none.result in
    let a : counts.additions.first ≡ 0 = omega (arith, c.none.ensures.additions) in
    let b : counts.additions.second ≡ 0 = omega (arith, c.none.ensures.additions) in
    let d : counts.additions.fourth ≡ 0 = omega (arith, c.none.ensures.additions) in
    let e : counts.multiplications.first ≡ 0 = omega (arith, c.none.ensures.multiplications) in
    let f : counts.multiplications.second ≡ 0 = omega (arith, c.none.ensures.multiplications) in
    let h : counts.multiplications.fourth ≡ 0 = omega (arith, c.none.ensures.multiplications) in
    rw (empty, a, b, d, e, f, h, c.lt_symbols.ensures.value, c.requires.shape.width) (ap of_rows (bits_alone bits.bit (entry_of c.without_rows-hdpc.result)))
