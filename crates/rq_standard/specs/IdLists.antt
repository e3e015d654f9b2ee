-- Known internal symbol ids as a list, which has each of them at least once.
use Rattle.std.specs.Prelude.{◌≡◌, ℕ, ◌<◌, Bool, true, List, length}
use Rattle.rq_algebra.specs.Systems.{IsDetermined, at}
use Rattle.rq_standard.specs.declared.row.TableRow.{TableRow}
use Rattle.rq_standard.specs.OctetField.{octets}
use Rattle.rq_standard.specs.TableRows.{intermediate_symbols}
use Rattle.rq_standard.specs.Equations.{equations, equation_count}

pub record IsListOf (known : ℕ → Bool) (ids : List ℕ) : Type 0 where
  pub listed : (j : ℕ) → j < length ids → known (at ids j) ≡ true
  pub place : (x : ℕ) → known x ≡ true → (j : ℕ) × (j < length ids) × (at ids j ≡ x)

-- the equations of the listed ids, and those of LDPC and HDPC, have only the zero solution
abbrev pub HasDeterminedRows : TableRow → List ℕ → Type 0
HasDeterminedRows row ids = IsDetermined octets (equation_count row ids) (intermediate_symbols row) (equations row ids)
