-- What the check leaves to show of `hdpc_rows::HdpcRows::new`.
use Rattle.std.proofs.Common.{◌≡◌, ◌≤◌, ℕ, length, set, replicate, ap, ◌∙◌, arith, List}
use Rattle.std.proofs.lemmas.List.{get_or-set_same, get_or-set_other, length-replicate}
use Rattle.rq_algebra.specs.Systems.{at}
use Rattle.rq_algebra.proofs.Placewise.{at-zeros}
use Rattle.rq_elimination.proofs.HdpcFactors.{first_factors}
use Rattle.rq_elimination.proofs.hdpc_rows.HdpcRows.new.Goals as goal

pub returns-clause-octets : goal.returns-clause-octets
returns-clause-octets c =
    let table = c.args.table in
    let n = c.whole_vectors.result in
    let enough : length table.rows ≤ n = rw c.height.ensures at c.whole_vectors.ensures.from in
    let zeros : c.in_ok-factors.factors.items ≡ replicate n 0 = c.in_ok-factors.ensures.items_if_clones_equal (λ y same. same) in
    let factors = set c.in_ok-factors.factors.items 0 1 in
    let all : length c.in_ok-factors.factors.items ≡ n = ap (λ (l : List ℕ). length l) zeros ∙ length-replicate n 0 in
    first_factors (record { table = table; factors = factors }) c.requires.octets
    (get_or-set_same c.in_ok-factors.factors.items 0 1 0 (omega (arith, all, enough, c.requires.some)))
    (λ i d. get_or-set_other c.in_ok-factors.factors.items 0 i 1 0 d ∙ ap (λ (l : List ℕ). at l i) zeros ∙ at-zeros n i)
