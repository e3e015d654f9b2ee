-- What the check leaves to show of `sparse_matrix::rows::add_row`.
use Rattle.std.proofs.Common.{ℕ, List, [], get_or, set, ap, ◌∙◌, get_or-set_same, get_or-set_other}
use Rattle.std.specs.Int.Bits.{bit_xor}
use Rattle.std.proofs.lemmas.List.{get_or_read}
use Rattle.rq_parts.specs.SparseBinaryVec.{listed_bit}
use Rattle.rq_parts.proofs.MemoryAlone.{on_ok_past}
use Rattle.rq_matrix.proofs.sparse_matrix.rows.add_row.Goals as goal

pub returns-clause-sum : goal.returns-clause-sum
returns-clause-sum c = λ k.
    let rows = c.args.rows.now in
    let dest = c.args.dest in
    let src = c.args.src in
    let sum = c.add_assign.new.self in
    let first = get_or_read rows dest c.get_both_indices-to.result.0.now c.requires.dest c.get_both_indices-to.ensures.first [] in
    let second = get_or_read rows src c.get_both_indices-to.result.1.now c.requires.src c.get_both_indices-to.ensures.second [] in
    let new = get_or-set_other (set rows dest sum) src dest c.get_both_indices-to.result.1.now [] c.requires.two ∙ get_or-set_same rows dest sum [] c.requires.dest in
    ap (λ (l : List ℕ). listed_bit l k) new
    ∙ on_ok_past c.add_assign.result c.in_ok-map_err.ensures.variant c.add_assign.ensures.sum k
    ∙ ap (λ (l : List ℕ). bit_xor (listed_bit l k) (listed_bit c.get_both_indices-to.result.1.now k)) first
    ∙ ap (λ (l : List ℕ). bit_xor (listed_bit (get_or rows dest []) k) (listed_bit l k)) second
