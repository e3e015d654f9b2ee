-- What the check leaves to show of `sparse_matrix::dense_tail::DenseTail::row`.
use Rattle.std.proofs.Common.{◌≡◌, ◌-◌, ◌<◌, ℕ, zero, suc, refl, sym, ap, ◌∙◌, inl, inr, arith}
use Rattle.std.proofs.lemmas.Bool.{cases_eq}
use Rattle.rq_bytes.specs.BinaryOctetVec.{packed_bit}
use Rattle.rq_standard.specs.BitTableSteps.{bit_of}
use Rattle.rq_matrix.specs.DenseTails.{Tail, tail_bit}
use Rattle.rq_matrix.specs.SparseTables.{tail-small}
use Rattle.rq_matrix.proofs.sparse_matrix.dense_tail.DenseTail.row.Goals as goal

bit_of-bit : (bit : ℕ) → bit < 2 → bit_of bit ≡ bit
bit_of-bit zero small = refl
bit_of-bit (suc zero) small = refl
bit_of-bit (suc (suc bit)) small = absurd (omega arith)

pub loop-column-preserved : goal.loop-column-preserved
loop-column-preserved c =
    let tail = c.args.self.now in
    let column = c.loop-column.column in
    let from : ℕ = tail.columns - 1 - column in
    let seen : c.self.inside.columns ≡ tail.columns = ap (λ (t : Tail). t.columns) c.self.view_is in
    record {
      long = c.set.ensures.len ∙ c.loop-column.invariant.long;
      copied = λ k below. elim (cases_eq k column) [
        | inl e ↦
            ap (packed_bit c.set.new.self) e
            ∙ c.set.ensures.here
            ∙ ap bit_of (c.get.ensures ∙ ap (λ n. tail_bit tail c.args.row (n - 1 - column)) seen)
            ∙ bit_of-bit (tail_bit tail c.args.row from) (tail-small tail c.args.row from)
            ∙ ap (λ n. tail_bit tail c.args.row (tail.columns - 1 - n)) (sym e)
        | inr other ↦ c.set.ensures.elsewhere k other ∙ c.loop-column.invariant.copied k (omega arith)
      ];
    }
