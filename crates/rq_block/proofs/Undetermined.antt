-- What a column that solves a block's equations with all values zero says of the ids that were received.
use Rattle.std.proofs.Common.{ℕ, Bool, List, Option, None, Some, Vec, Global, length, vec_items}
use Rattle.std.specs.Prelude.{option_map, MatchOption}
use Rattle.rq_algebra.specs.Systems.{at}
use Rattle.rq_standard.specs.declared.row.TableRow.{TableRow}
use Rattle.rq_standard.specs.BitTable.{BitTable}
use Rattle.rq_standard.specs.ConstraintMatrix.{IsBinaryPart, with_octet_rows}
use Rattle.rq_standard.specs.Headline.{AreDetermined}
use Rattle.rq_standard.specs.Equations.{equations, equation_count}
use Rattle.rq_standard.specs.IdLists.{IsListOf}
use Rattle.rq_standard.specs.TableRows.{intermediate_symbols}
use Rattle.rq_standard.proofs.KnownIds.{from_list, determined_by}
use Rattle.rq_base.specs.HdpcPart.{IsHdpcPart}
use Rattle.rq_parts.specs.DenseOctetMatrix.{OctetTable, entry_of}
use Rattle.rq_null_vector.specs.Homogeneous.{ShowsHomogeneous}
use Rattle.rq_solver.proofs.EquationLaws.{equations_same}
use Rattle.rq_null_vector.proofs.FreeColumns.{shows_same}
use Rattle.rq_standard.specs.ReceivedBlock.{IsHomogeneous}
use Rattle.rq_block.specs.BlockSolutions.{ShowsListed}

-- the matrices of a list of ids stand for its equations
pub shows_equations : (row : TableRow) (ids : List ℕ) (bits : BitTable) (hdpc : OctetTable) → IsBinaryPart row ids bits → IsHdpcPart row hdpc → (answer : Option (Vec ℕ Global))
    → ShowsHomogeneous bits.height bits.width (with_octet_rows row.ldpc_symbols (length hdpc.rows) bits.bit (entry_of hdpc)) answer → ShowsListed row ids answer
shows_equations row ids bits hdpc part octet_part answer shows =
    shows_same (equation_count row ids) (intermediate_symbols row) _ (equations row ids) (equations_same row ids bits hdpc part octet_part.rows) answer (rw (part.shape.height, part.shape.width, octet_part.shape.tall) at shows)

-- the equations of a list of all known ids stand for what is known
pub shows_known : (row : TableRow) (known : ℕ → Bool) (ids : List ℕ) → IsListOf known ids → (answer : Option (Vec ℕ Global)) → ShowsListed row ids answer
    → MatchOption (option_map vec_items answer) (AreDetermined row known) (IsHomogeneous row known)
shows_known row known ids list None determined = determined_by row known ids list.listed determined
shows_known row known ids list (Some column) shows = record {
  count = shows.count;
  elements = shows.elements;
  solves = from_list row known ids (at column.items) list shows.solves;
  nonzero = λ zeros. shows.nonzero (zeros shows.index shows.below);
}
