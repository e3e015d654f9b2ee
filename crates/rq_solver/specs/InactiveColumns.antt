-- What the rows of a system have in the inactive columns, written row by row and column by column.
use Rattle.std.specs.Prelude.{◌≡◌, ◌≢◌, ℕ, ◌+◌, ◌-◌, ◌<◌, ◌==◌, List, count_by, length, min}
use Rattle.rq_algebra.specs.Systems.{at}
use Rattle.rq_parts.specs.DenseOctetMatrix.{OctetTable, entry_of, HasOctets}
use Rattle.rq_elimination.specs.LeadingRows.{HasLeading, WritesRow}
use Rattle.rq_peeling.specs.Peeling.{Pivots}
use Rattle.rq_peeling.specs.SystemRows.{one_in}
use Rattle.rq_peeling.specs.declared.system.System.{System}

-- what these rows have in the columns behind the pivots'
abbrev pub HasInactive : ℕ → ℕ → (ℕ → ℕ → ℕ) → Pivots → OctetTable → Type 0
HasInactive height width rows pivots table =
    HasLeading height (width - length pivots.rows) height (λ r f. rows r (at pivots.order (length pivots.rows + f))) table

-- what the first n rows of bits have there
abbrev pub AreFilled : List (List ℕ) → Pivots → ℕ → ℕ → OctetTable → Type 0
AreFilled lists pivots inactive n table = HasLeading (length lists) inactive n (λ r f. one_in lists r (at pivots.order (length pivots.rows + f))) table

-- a column that was zeros has 1 in these rows, and the others are as they were
pub record FillsColumn (rows : List ℕ) (column : ℕ) (old new : OctetTable) : Type 0 where
  pub width : new.width ≡ old.width
  pub height : length new.rows ≡ length old.rows
  pub octets : HasOctets new
  pub here : (i : ℕ) → i < length old.rows → entry_of new i column ≡ min 1 (count_by (λ row. row == i) rows)
  pub beside : (i k : ℕ) → k ≢ column → entry_of new i k ≡ entry_of old i k

-- an HDPC row of a system has its octets in the inactive columns
abbrev pub FillsHdpcRow : System → ℕ → Pivots → ℕ → OctetTable → OctetTable → Type 0
FillsHdpcRow system from pivots inactive old new =
    WritesRow (system.first_hdpc + from) 0 inactive (λ f. entry_of system.hdpc from (at pivots.order (length pivots.rows + f))) old new
