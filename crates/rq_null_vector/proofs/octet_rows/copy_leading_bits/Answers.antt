-- What the check leaves to show of `octet_rows::copy_leading_bits`.
use Rattle.std.proofs.Common.{◌≡◌, ℕ, ◌<◌, ◌≤◌, ◌++◌, ◌∷◌, [], sym, subst, arith, append_assoc}
use Rattle.rq_standard.specs.BitTableSteps.{AreOnesOf, ones_at}
use Rattle.rq_standard.proofs.BitTableLaws.{is_next_pair}
use Rattle.rq_elimination.proofs.Writes.{sets_entry, writes_again}
use Rattle.rq_null_vector.proofs.octet_rows.copy_leading_bits.Goals as goal

pub loop-column-preserved : goal.loop-column-preserved
loop-column-preserved g c =
    let bit = (g.T.BinaryMatrix.content c.args.bits.now).bit c.args.row in
    let table = g.met.T.BinaryMatrix.is_table c.args.bits.now in
    let taken = c.loop-column.yielded in
    let pair : ℕ × ℕ = (c.in-Some.column, c.in-Some.octet) in
    let rest = c.next.new.self in
    let v = c.loop-column.invariant in
    let split : c.loop-column.column-iterator ≡ pair ∷ rest = c.in-Some.ensures.steps in
    let bits : (k : ℕ) → 0 ≤ k → k < c.args.lt_columns → bit k < 2 = (λ k from below. table.bits c.args.row k c.requires.row.inside (omega (arith, table.within))) in
    let whole : AreOnesOf bit 0 c.args.lt_columns (taken ++ pair ∷ rest) = subst (λ l. AreOnesOf bit 0 c.args.lt_columns (taken ++ l)) split v.whole in
    let next = is_next_pair bit 0 c.args.lt_columns taken rest pair bits whole in
    let small : c.in-Some.octet < 256 = omega (arith, next.place.octet, bits c.in-Some.column (omega arith) next.place.below) in
    let sets = sets_entry c.loop-column.rows v.writes.octets c.args.row c.in-Some.column c.in-Some.octet (omega (arith, v.writes.height)) (omega (arith, v.writes.width, table.within, next.place.below)) small c.set.new.self c.set.ensures in
    record {
      can = tt;
      ends = tt;
      whole = subst (AreOnesOf bit 0 c.args.lt_columns) (sym (append_assoc taken (pair ∷ []) rest)) whole;
      writes = writes_again c.args.row 0 c.args.rows.now c.loop-column.rows c.set.new.self c.args.lt_columns c.in-Some.column c.in-Some.octet (λ k. ones_at k taken) (λ k. ones_at k (taken ++ pair ∷ [])) (omega arith) next.place.below v.writes sets (sym next.here) next.elsewhere;
    }
