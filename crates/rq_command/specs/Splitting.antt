-- How a run ends that splits a file into shards.
use Rattle.std.specs.Prelude.{◌≡◌, ◌⊎◌, ⊤, ℕ, ◌+◌, ◌<◌, false, [], ◌∷◌, Option, option_map}
use Rattle.rq_streams.specs.declared.counted.Counted.{Counted}
use Rattle.rq_streams.specs.declared.run.Stop.{Stop}
use Rattle.rq_streams.specs.declared.run.Stop.TheVariants.{Fault, Refused}
use Rattle.rq_streams.specs.Counted.{failed_count}
use Rattle.rq_cast.specs.declared.halt.Halt.TheVariants.{By}
use Rattle.rq_cast.specs.declared.known.Known.{Known}
use Rattle.rq_cast.specs.declared.order.Order.{Order}
use Rattle.rq_cast.specs.declared.output.Output.{Output}
use Rattle.rq_cast.specs.declared.series.Repair.TheVariants.{Shares}
use Rattle.rq_cast.specs.declared.stream_sending.Sent.{Sent as SentParts}
use Rattle.rq_cast.specs.Output.{counting}
use Rattle.rq_cast.specs.Rounds.{IsFresh}
use Rattle.rq_cast.specs.SentParts.{SendsStream, StopsStream}
use Rattle.rq_cells.specs.Cells.{Key}
use Rattle.rq_words.specs.declared.jobs.SplitJob.{SplitJob}
use Rattle.rq_devices.specs.Failed.{StopsReading}
use Rattle.rq_devices.specs.Folder.{KeepsBut}
use Rattle.rq_devices.specs.Keyed.{IsKeyOf, IsEmptyKey, key_file}
use Rattle.rq_devices.specs.Placed.{Contents, Files}
use Rattle.rq_devices.specs.Spots.{Spot, Spots, AsShards}
use Rattle.rq_command.specs.declared.ending.End.{End}
use Rattle.rq_command.specs.declared.ending.End.TheVariants.{EmptyKey, Sent, Stopped}
use Rattle.rq_command.specs.Outside.{KnownCalls}

-- ---- what all shards have together

-- the cells of all ids from the first one on, as many as the shards take
abbrev pub order_of : SplitJob → Order
order_of job = record {
  part = job.part;
  symbol_size = job.symbol_size;
  repair = Shares job.shares;
  ids = record { first = 0; step = 1; round = 0 };
}

-- All that is read is sent once, and no cell is lost.
pub record SendsWhole (order : Order) (key : Key) (before after there then : Contents) (sent : SentParts) : Type 0 where
  pub first : Known
  pub fresh : IsFresh false first
  pub told : KnownCalls
  pub told_behind : KnownCalls
  pub known : Known
  pub sends : SendsStream order key first before after there then told told_behind sent known
  pub none_lost : sent.lost ≡ 0

-- It is, and a cell is lost.
pub record LosesSome (order : Order) (key : Key) (first : Known) (before after there then : Contents) (told told_behind : KnownCalls) : Type 0 where
  pub sent : SentParts
  pub known : Known
  pub sends : SendsStream order key first before after there then told told_behind sent known
  pub some_lost : 0 < sent.lost

-- Some first parts are sent, and of the next one what could be; or a cell is lost, which is a fault.
pub record StopsWhole (order : Order) (key : Key) (before after there then : Contents) (stop : Stop) : Type 0 where
  pub first : Known
  pub fresh : IsFresh false first
  pub told : KnownCalls
  pub told_behind : KnownCalls
  pub stopped :
      ((lost : ℕ) × StopsStream order key first before after there then told told_behind (By stop) lost)
      ⊎ ((stop ≡ Fault) × LosesSome order key first before after there then told told_behind)

-- a fault is a failed call of the reader or of the writer
abbrev pub CountsStop : {R W : Type 0} → Counted R → Counted R → Output W → Output W → Stop → Type 0
CountsStop reader reader' output output' Fault = failed_count reader + failed_count (counting output) < failed_count reader' + failed_count (counting output')
CountsStop reader reader' output output' (Refused e) = ⊤

-- ---- the run

-- All that is read is sent by the key of a file, and this is in the shards.
pub record Splits (order : Order) (file : Option Contents) (input blank new : Contents) (sent : SentParts) : Type 0 where
  pub key : Key
  pub keyed : IsKeyOf file key
  pub after : Contents
  pub sends : SendsWhole order key input after blank new sent

-- A part of what is read is refused, or a call failed, also at the end.
abbrev pub StopsSplit : Order → Option Contents → Contents → Contents → Stop → Type 0
StopsSplit order file input blank stop =
    StopsReading stop ⊎ ((key : Key) × (after : Contents) × (written : Contents) × IsKeyOf file key × StopsWhole order key input after blank written stop)

-- where the shards are put: in the folder's place, as many as there are to be of the file
abbrev pub shards_spot : SplitJob → Spot
shards_spot job = AsShards job.folder.now job.file.now job.shares.all

-- How a run ends that splits what is read by the key of a file. The shards are in their place where all are whole, and only then.
abbrev pub EndsSplit : Order → Option Contents → Contents → Spot → Spots → End → Spots → Spots → Type 0
EndsSplit order file input spot blank EmptyKey old new = IsEmptyKey file × (new ≡ old)
EndsSplit order file input spot blank (Sent sent) old new = Splits order file input (blank spot) (new spot) sent × KeepsBut spot old new
EndsSplit order file input spot blank (Stopped stop) old new = (new ≡ old) × StopsSplit order file input (blank spot) stop
EndsSplit order file input spot blank _ old new = ⊥

abbrev pub EndsSplitting : SplitJob → Files → Spots → End → Spots → Spots → Type 0
EndsSplitting job stands blank ended old new =
    EndsSplit (order_of job) (key_file stands (option_map (λ s. s.now) job.key)) (stands (job.file.now ∷ [])) (shards_spot job) blank ended old new
