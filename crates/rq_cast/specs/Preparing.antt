-- How the bytes of a part are made ready to be sent.
use Rattle.std.specs.Prelude.{◌≡◌, ◌≢◌, ◌⊎◌, ℕ, ◌+◌, ◌/◌, ◌%◌, ◌≤◌, Bool, if◌then◌else◌, ◌==◌, List, length, Ok, Err}
use Rattle.rq_bytes.specs.declared.error.Error.{Error}
use Rattle.rq_bytes.specs.declared.error.Error.TheVariants.{OutOfMemory, TransferTooLong, TooManyBlocks}
use Rattle.rq_standard.specs.declared.row.TableRow.{TableRow}
use Rattle.rq_standard.specs.Configuration.{Configuration, largest_block}
use Rattle.rq_standard.specs.TableRows.{built_in_rows}
use Rattle.rq_tables.specs.SystematicTable.{wanted_table}
use Rattle.raptorq.specs.Refused.{RefusesEncoder}
use Rattle.rq_rows.specs.declared.further_rows.TheConstants.{FURTHER_ROWS}
use Rattle.rq_streams.specs.Sent.{default_parameters}
use Rattle.rq_cast.specs.declared.order.Order.{Order}
use Rattle.rq_cells.specs.Cells.{Key}
use Rattle.rq_cast.specs.Parts.{greatest_count, object_of}
use Rattle.rq_cast.specs.Sent.{Sending, IsSendingOf, IsSeriesOf}

-- A default configuration over the built-in rows where the object fits them, and else over all.
abbrev pub IsFitting : ℕ → ℕ → List TableRow → Configuration → Type 0
IsFitting length_of_object size table c =
    ((table ≡ built_in_rows) × (default_parameters table length_of_object size ≡ Ok c))
    ⊎ ((default_parameters built_in_rows length_of_object size ≡ Err TooManyBlocks) × (wanted_table FURTHER_ROWS ≡ Ok table) × (default_parameters table length_of_object size ≡ Ok c))

-- Neither the built-in rows nor all are taken: some other refusal of theirs, or want of memory.
abbrev pub RefusesFitting : ℕ → ℕ → Error → Type 0
RefusesFitting length_of_object size e =
    (e ≡ OutOfMemory)
    ⊎ (((default_parameters built_in_rows length_of_object size ≡ Err e) × (e ≢ TooManyBlocks))
    ⊎ ((default_parameters built_in_rows length_of_object size ≡ Err TooManyBlocks)
    × ((wanted_table FURTHER_ROWS ≡ Err e) ⊎ ((table : List TableRow) × (wanted_table FURTHER_ROWS ≡ Ok table) × (default_parameters table length_of_object size ≡ Err e)))))

-- what sends bytes as the part behind parts of these names, as it is ordered: its encoder, its head and key, and the ids that are asked for
pub record IsPrepared (order : Order) (key : Key) (is_last : Bool) (names : List (List ℕ)) (bytes : List ℕ) (s : Sending) : Type 0 where
  pub table : List TableRow
  pub fitting : IsFitting (length (object_of is_last names bytes)) order.symbol_size table s.encoded.configuration
  pub sends : IsSendingOf table is_last names (object_of is_last names bytes) s
  pub keyed : s.key ≡ key
  pub series : IsSeriesOf order.ids (largest_block s.encoded.configuration) order.repair s.series

-- what is refused of an object: its configuration, or its encoder
abbrev pub RefusesObject : Order → List ℕ → Error → Type 0
RefusesObject order object e =
    RefusesFitting (length object) order.symbol_size e
    ⊎ ((table : List TableRow) × (c : Configuration) × IsFitting (length object) order.symbol_size table c × RefusesEncoder table c (length object) e)

-- ---- lengths alone

-- how many bytes the object of the part of an index has, where an input of so many bytes is cut into parts of a size: the seal ends the last one
abbrev pub object_length : ℕ → ℕ → ℕ → ℕ
object_length size length_of_input index = if index == length_of_input / size then length_of_input % size + 32 else size

-- each part has a number, and its object a configuration
pub record FitParts (order : Order) (length_of_input : ℕ) : Type 0 where
  pub numbered : length_of_input / order.part + 1 ≤ greatest_count
  pub each :
      (index : ℕ) → index ≤ length_of_input / order.part
      → (table : List TableRow) × (c : Configuration) × IsFitting (object_length order.part length_of_input index) order.symbol_size table c

-- a part has none
abbrev pub RefusesParts : Order → ℕ → Error → Type 0
RefusesParts order length_of_input e =
    ((index : ℕ) × (index ≤ length_of_input / order.part) × RefusesFitting (object_length order.part length_of_input index) order.symbol_size e)
    ⊎ ((e ≡ TransferTooLong) × (greatest_count ≤ length_of_input / order.part))
