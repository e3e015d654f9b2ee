-- What becomes of rows when an operation is recorded.
use Rattle.std.proofs.Common.{◌≡◌, ◌≢◌, ℕ, ◌+◌, ◌<◌, List, [], ◌∷◌, ◌++◌, length, ap, ◌∙◌}
use Rattle.std.proofs.lemmas.List.{length-set}
use Rattle.rq_algebra.specs.Operations.{Operation, MulAssign}
use Rattle.rq_standard.specs.Rows.{row_sum, row_multiple}
use Rattle.rq_parts.specs.DenseOctetMatrix.{OctetTable, row_at, with_row}
use Rattle.rq_elimination.specs.OperationCounts.{additions}
use Rattle.rq_elimination.specs.RecordedRows.{Performs, Records}
use Rattle.rq_elimination.specs.RowSteps.{sum_step}
use Rattle.rq_elimination.specs.declared.recorded.RecordedRows.{RecordedRows}
use Rattle.rq_elimination.proofs.AdditionLaws.{additions-sum, additions-scaling}
use Rattle.rq_elimination.proofs.ChangedEntries.{multiplied_row, summed_row}
use Rattle.rq_elimination.proofs.Performing.{performs_sum, performs_scaling, one_sum}

-- how many additions there are then
module _ (before after : List Operation) (recorded : Operation) (pushed : after ≡ before ++ recorded ∷ []) where
  pub sum_counted : (dest src scalar : ℕ) → recorded ≡ sum_step dest src scalar → additions after ≡ additions before + 1
  sum_counted dest src scalar is = ap additions (pushed ∙ ap (λ (o : Operation). before ++ o ∷ []) is) ∙ additions-sum before dest src scalar

  pub scaling_counted : (dest scalar : ℕ) → recorded ≡ MulAssign dest scalar → additions after ≡ additions before
  scaling_counted dest scalar is = ap additions (pushed ∙ ap (λ (o : Operation). before ++ o ∷ []) is) ∙ additions-scaling before dest scalar

-- what was done
module _ (old new : RecordedRows) (recorded : Operation) (pushed : new.operations ≡ old.operations ++ recorded ∷ []) where
  pushed_operation : (operation : Operation) → recorded ≡ operation → new.operations ≡ old.operations ++ operation ∷ []
  pushed_operation operation is = pushed ∙ ap (λ (o : Operation). old.operations ++ o ∷ []) is

  module _ (dest : ℕ) (in_dest : dest < length old.table.rows) (scalar : ℕ) where
    pub sum_recorded : (src : ℕ) → src ≢ dest → src < length old.table.rows → recorded ≡ sum_step dest src scalar → new.table ≡ old.table → Records (sum_step dest src scalar ∷ []) old new
    sum_recorded src apart in_src is same = record {
      recorded = pushed_operation (sum_step dest src scalar) is;
      among = one_sum old old dest src scalar apart in_dest in_src;
      table = same;
    }

    module _ (small : scalar < 256) where
      pub sum_performed : (src : ℕ) → src ≢ dest → src < length old.table.rows → recorded ≡ sum_step dest src scalar → new.table ≡ with_row old.table dest (row_sum (row_at old.table dest) (row_multiple scalar (row_at old.table src)))
          → Performs (sum_step dest src scalar ∷ []) old new
      sum_performed src apart in_src is sum =
          performs_sum old new
          (ap (λ (t : OctetTable). t.width) sum) (ap (λ (t : OctetTable). length t.rows) sum ∙ length-set old.table.rows dest _)
          dest src scalar (pushed_operation (sum_step dest src scalar) is) apart in_dest in_src
          (rw sum (summed_row old.table old.octets dest scalar in_dest small src in_src))

      pub scaling_performed : scalar ≢ 0 → recorded ≡ MulAssign dest scalar → new.table ≡ with_row old.table dest (row_multiple scalar (row_at old.table dest)) → Performs (MulAssign dest scalar ∷ []) old new
      scaling_performed nonzero is multiple =
          performs_scaling old new
          (ap (λ (t : OctetTable). t.width) multiple) (ap (λ (t : OctetTable). length t.rows) multiple ∙ length-set old.table.rows dest _)
          dest scalar (pushed_operation (MulAssign dest scalar) is) in_dest small nonzero
          (rw multiple (multiplied_row old.table old.octets dest scalar in_dest small))
