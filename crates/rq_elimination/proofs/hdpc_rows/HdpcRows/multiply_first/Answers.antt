-- What the check leaves to show of `hdpc_rows::HdpcRows::multiply_first`.
use Rattle.std.proofs.Common.{◌<◌, length, set, ap, ◌∙◌, arith}
use Rattle.std.proofs.lemmas.List.{get_or-set_same, get_or-set_other}
use Rattle.rq_algebra.specs.Systems.{at}
use Rattle.rq_elimination.specs.HdpcRows.{HdpcTable}
use Rattle.rq_elimination.proofs.HdpcFactors.{factor_scales}
use Rattle.rq_elimination.proofs.hdpc_rows.HdpcRows.multiply_first.Goals as goal

pub returns-clause-multiple : goal.returns-clause-multiple
returns-clause-multiple c =
    let old = c.args.self.now in
    let inside = c.self.inside.factors.items in
    let some : 0 < length inside = omega (arith, c.self.invariant.count, ap (λ (hdpc : HdpcTable). length hdpc.table.rows) c.self.view_is, c.requires) in
    let now : HdpcTable = record { table = c.self.inside.table; factors = set inside 0 c.first_multiple.result } in
    factor_scales old now (ap (λ (hdpc : HdpcTable). hdpc.table) c.self.view_is) c.args.scalar (length old.table.rows) old.table.width
    (get_or-set_same inside 0 _ 0 some ∙ c.first_multiple.ensures)
    (λ i d. get_or-set_other inside 0 i _ 0 d ∙ ap (λ (hdpc : HdpcTable). at hdpc.factors i) c.self.view_is)
