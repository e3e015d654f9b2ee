-- The column that the rows of a system leave open where an inactive column has no pivot.
use Rattle.std.proofs.Common.{◌≡◌, ◌≢◌, ℕ, ◌+◌, ◌<◌, List, None, length, ◌∙◌, refl, arith}
use Rattle.rq_algebra.specs.Systems.{at, IsColumn}
use Rattle.rq_standard.specs.OctetField.{octets}
use Rattle.rq_parts.specs.DenseOctetMatrix.{entry_of}
use Rattle.rq_peeling.specs.System.{rows_of_system}
use Rattle.rq_peeling.specs.SystemRows.{one_in}
use Rattle.rq_peeling.specs.declared.system.System.{System}
use Rattle.rq_elimination.specs.declared.counts.PhaseEnds.{PhaseEnds}
use Rattle.rq_elimination.specs.declared.recorded.RecordedRows.{RecordedRows}
use Rattle.rq_solver.specs.HomogeneousColumns.{SolvesLeftRows, SolvesPivotRows}
use Rattle.rq_solver.specs.PhaseOutcome.{RunsOverSystem}
use Rattle.rq_solver.specs.Phases.{ShowsSystem}
use Rattle.rq_solver.specs.declared.pi_solver.peeled.Peeled.{Peeled}
use Rattle.rq_solver.proofs.OctetRows.{bit_row}
use Rattle.rq_solver.proofs.PeeledSolutions.{shown_by_peeled}
use Rattle.rq_solver.proofs.PivotsCleared.{pivot_of_bits}
use Rattle.rq_algebra.proofs.Sums.{dot_same}

module _ (system : System) (p : Peeled) (left : List ℕ) (last : RecordedRows) (ends : PhaseEnds) (runs : RunsOverSystem system p left last (ends, None)) where
  abbrev rows : List ℕ
  rows = p.peeling.rows

  of_bits : (q : ℕ) → q < length rows → (i : ℕ) → i < length system.hdpc.rows → system.first_hdpc + i ≢ at rows q
  of_bits q l i n =
      pivot_of_bits system.ones system.first_hdpc system.hdpc system.width system.bits system.octet_rows rows p.peeling.order p.peeling.places runs.peeled q i l n

  pub shows_system : (column : List ℕ) → IsColumn octets (length p.peeling.places) (at column) → SolvesLeftRows p.peeling left last.table column
      → SolvesPivotRows p (length rows) column → ShowsSystem system column
  shows_system column elements solves pivots =
      let width : length p.peeling.places ≡ system.width = runs.peeled.columns.place_count in
      let inside : length rows + solves.place < system.width = omega (arith, solves.below, width) in
      rw (runs.ones, width) at
      (shown_by_peeled p runs.before runs.first runs.under_way (rw runs.ones runs.listed) (rows_of_system system) (rw (runs.ones, width) runs.cleared) last
      runs.later.changes left runs.later.permuted column
      (λ m k none q l. runs.alone.bits m k none (at rows q) (of_bits q l))
      (λ q l.
      dot_same octets (length p.peeling.places) (rows_of_system system (at rows q)) (one_in p.ones (at rows q)) (at column) (at column)
      (λ k m. bit_row system.first_hdpc (length system.hdpc.rows) (entry_of system.hdpc) (one_in system.ones) (at rows q) k (of_bits q l) ∙ rw runs.ones refl) (λ k m. refl)
      ∙ pivots q l)
      solves.rows solves.count elements (at p.peeling.order (length rows + solves.place)) (rw width (runs.peeled.columns.ordered (length rows + solves.place) inside).0)
      solves.nonzero)
