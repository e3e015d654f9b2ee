-- What the check leaves to show of `hdpc_rows::HdpcRows::add_first`.
use Rattle.std.proofs.Common.{◌≡◌, ℕ, ◌<◌, List, length, set, refl, sym, ap, ◌∙◌, arith}
use Rattle.std.proofs.lemmas.List.{get_or_read, get_or-set_same, get_or-set_other}
use Rattle.rq_algebra.specs.Systems.{at}
use Rattle.rq_standard.specs.OctetField.{octets}
use Rattle.rq_elimination.specs.HdpcRows.{HdpcTable}
use Rattle.rq_elimination.proofs.HdpcFactors.{factor_adds}
use Rattle.rq_elimination.proofs.hdpc_rows.HdpcRows.add_first.Goals as goal

pub returns-clause-sum : goal.returns-clause-sum
returns-clause-sum c =
    let old = c.args.self.now in
    let inside = c.self.inside.factors.items in
    let dest = c.args.dest in
    let factors : old.factors ≡ inside = sym (ap (λ (hdpc : HdpcTable). hdpc.factors) c.self.view_is) in
    let in_dest : dest < length inside = omega (arith, c.self.invariant.count, ap (λ (hdpc : HdpcTable). length hdpc.table.rows) c.self.view_is, c.requires.dest) in
    let was : c.index_mut.result.now ≡ at inside dest = get_or_read inside dest c.index_mut.result.now in_dest c.index_mut.ensures.value 0 in
    let now : HdpcTable = record { table = c.self.inside.table; factors = set inside dest (octets.add c.index_mut.result.now c.first_multiple.result) } in
    factor_adds old now (ap (λ (hdpc : HdpcTable). hdpc.table) c.self.view_is) c.args.scalar dest (length old.table.rows) old.table.width (omega (arith, c.requires.other))
    (get_or-set_same inside dest _ 0 in_dest ∙ rw (was, c.first_multiple.ensures, factors) refl)
    (λ i d. get_or-set_other inside dest i _ 0 d ∙ ap (λ (l : List ℕ). at l i) (sym factors))
