-- How runs end that are over a file and its guard.
use Rattle.std.specs.Prelude.{◌≡◌, ◌⊎◌, List, [], ◌∷◌, Option, Ok, option_map}
use Rattle.rq_standard.specs.declared.row.TableRow.{TableRow}
use Rattle.rq_tables.specs.SystematicTable.{wanted_table}
use Rattle.rq_rows.specs.declared.further_rows.TheConstants.{FURTHER_ROWS}
use Rattle.rq_streams.specs.declared.run.Stop.{Stop}
use Rattle.rq_cells.specs.Cells.{Key}
use Rattle.rq_guard.specs.declared.protecting.GuardOrder.{GuardOrder}
use Rattle.rq_guard.specs.declared.protecting.Guarded.{Guarded}
use Rattle.rq_guard.specs.Protecting.{Protects, StopsProtecting}
use Rattle.rq_words.specs.declared.jobs.ProtectJob.{ProtectJob}
use Rattle.rq_devices.specs.Failed.{StopsReading}
use Rattle.rq_devices.specs.Folder.{KeepsBut}
use Rattle.rq_devices.specs.Keyed.{IsKeyOf, IsEmptyKey, key_file}
use Rattle.rq_devices.specs.Placed.{Contents, Files, guard_name}
use Rattle.rq_devices.specs.Spots.{Spot, Spots, AtFile}
use Rattle.rq_command.specs.declared.ending.End.{End}
use Rattle.rq_command.specs.declared.ending.End.TheVariants.{EmptyKey, Protected, Stopped}

-- ---- a guard is made

abbrev pub order_of : ProtectJob → GuardOrder
order_of job = record { part = job.part; repair = job.repair }

-- All that is read is guarded by the key of a file, and this is the guard.
pub record Guards (order : GuardOrder) (file : Option Contents) (input blank new : Contents) (made : Guarded) : Type 0 where
  pub key : Key
  pub keyed : IsKeyOf file key
  pub after : Contents
  pub protects : Protects order key input after blank new made

-- A part of what is read is refused, or a call failed, also at the end.
abbrev pub StopsGuard : GuardOrder → Option Contents → Contents → Contents → Stop → Type 0
StopsGuard order file input blank stop =
    StopsReading stop ⊎ ((key : Key) × (after : Contents) × (written : Contents) × IsKeyOf file key × StopsProtecting order key input after blank written stop)

-- where the guard is put: in the place that is said, or in that which is named by the file
abbrev pub guard_spot : ProtectJob → Spot
guard_spot job = AtFile (guard_name job.file.now (option_map (λ s. s.now) job.output))

-- How a run ends that guards what is read by the key of a file. The guard is in its place where it is whole, and only then.
abbrev pub EndsProtect : GuardOrder → Option Contents → Contents → Spot → Spots → End → Spots → Spots → Type 0
EndsProtect order file input spot blank EmptyKey old new = IsEmptyKey file × (new ≡ old)
EndsProtect order file input spot blank (Protected made) old new = Guards order file input (blank spot) (new spot) made × KeepsBut spot old new
EndsProtect order file input spot blank (Stopped stop) old new = (new ≡ old) × StopsGuard order file input (blank spot) stop
EndsProtect order file input spot blank _ old new = ⊥

abbrev pub EndsProtecting : ProtectJob → Files → Spots → End → Spots → Spots → Type 0
EndsProtecting job stands blank ended old new =
    EndsProtect (order_of job) (key_file stands (option_map (λ s. s.now) job.key)) (stands (job.file.now ∷ [])) (guard_spot job) blank ended old new

-- ---- what is found of a file

-- This is so by the key of a file, and over all rows.
pub record ByKey (file : Option Contents) (Holds : List TableRow → Key → Type 0) : Type 0 where
  pub key : Key
  pub keyed : IsKeyOf file key
  pub table : List TableRow
  pub rows : wanted_table FURTHER_ROWS ≡ Ok table
  pub holds : Holds table key
