-- A peeler's columns that aren't active any more.
use Rattle.std.proofs.Common.{◌≡◌, ℕ, ◌<◌, List, [], All, length, sym, ◌∙◌, arith}
use Rattle.std.specs.Prelude.{slice_index_or}
use Rattle.rq_peeling.specs.RowDegrees.{CountsActive, HasLeastDegree, KeepsDegrees, LowersRows, is_active}
use Rattle.rq_peeling.specs.ColumnState.{ColumnState, EndsActive, HasNoActive, IsActive}
use Rattle.rq_peeling.specs.RowOnes.{ones_of}
use Rattle.rq_peeling.specs.declared.peeler.Peeler.{Peeler}
use Rattle.rq_peeling.proofs.ActiveOnes.{degrees_lowered, true_active}
use Rattle.rq_peeling.proofs.Counting.{count_nothing}
use Rattle.rq_peeling.proofs.PeelingLaws.{columns_below}
use Rattle.std.proofs.lemmas.Bool.{false_from_ne_true}

-- the columns of a row's ones
pub columns_inside : (p : Peeler) (row : ℕ) → row < length p.degrees → All (λ column. column < length p.columns.order) (ones_of p.system.now.ones row)
columns_inside p row l = rw p.column_count (p.system.now.bits.within row (omega (arith, l, p.row_count)))

-- where a column isn't active any more, and its rows' degrees are lowered
pub leave_lowered : (p : Peeler) (new : ColumnState) (column : ℕ) (now : List ℕ) → column < length p.columns.order → IsActive p.columns column → EndsActive column p.columns new → LowersRows (slice_index_or p.system.now.column_rows.lists column []) p.degrees now → KeepsDegrees p.system.now.ones p.columns new p.degrees now
leave_lowered p new column now inside active ends lowered =
    let s = p.system.now in
    degrees_lowered s.ones s.column_rows s.column_lists (sym s.row_count) (rw s.column_count (columns_below s.width s.ones s.bits)) p.columns new column p.degrees now (s.column_count ∙ sym p.column_count) inside active ends (s.row_count ∙ sym p.row_count) lowered

-- a row of least degree has an active column
pub least_active : (lists : List (List ℕ)) (state : ColumnState) (degrees : List ℕ) (row : ℕ) → length degrees ≡ length lists → CountsActive lists state degrees → HasLeastDegree degrees row → HasNoActive (ones_of lists row) state → ⊥
least_active lists state degrees row long counts least none =
    let nothing = count_nothing (is_active state) (ones_of lists row) (λ k is. false_from_ne_true (is_active state k) (λ e. none k is (true_active state k e))) in
    let some = least.some in
    omega (arith, some, nothing, counts row (omega (arith, least.below, long)))
