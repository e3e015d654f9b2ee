-- What the check leaves to show of `pi_solver::first_phase::inactive::fill_octets`.
use Rattle.std.proofs.Common.{◌≡◌, ◌+◌, List, ℕ, length, ap, ◌∙◌, arith}
use Rattle.std.proofs.lemmas.List.{get_or-drop, length-drop}
use Rattle.std.proofs.lemmas.Result.{on_ok_weaker}
use Rattle.rq_algebra.specs.Systems.{at}
use Rattle.rq_parts.specs.DenseOctetMatrix.{entry_of, row_at}
use Rattle.rq_elimination.proofs.Writes.{writes_columns}
use Rattle.rq_solver.proofs.pi_solver.first_phase.inactive.fill_octets.Goals as goal

pub returns : goal.returns
returns c =
    let p = c.args.peeling.now in
    let pivots : ℕ = length p.rows in
    let columns = c.inactive_columns.result.now in
    let octets : List ℕ = row_at c.args.system.now.hdpc c.args.from in
    let many : length columns ≡ c.args.inactive = omega (arith, ap length c.inactive_columns.ensures, length-drop pivots p.order, c.requires.order.order_count, c.requires.inactive) in
    on_ok_weaker c.fill.result
    (writes_columns (c.args.system.now.first_hdpc + c.args.from) c.args.inactive octets columns (λ f. entry_of c.args.system.now.hdpc c.args.from (at p.order (pivots + f))) c.args.entries.now c.fill.new.self c.requires.row many
    (λ f l. ap (at octets) (ap (λ (cs : List ℕ). at cs f) c.inactive_columns.ensures ∙ get_or-drop pivots p.order f 0))
    c.fill.ensures.octets)
    c.fill.ensures.ok
