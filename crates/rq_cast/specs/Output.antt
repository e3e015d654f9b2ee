-- What a clause reads of an output.
use Rattle.std.specs.Prelude.{◌≡◌, ℕ, ◌+◌, Bool}
use Rattle.rq_streams.specs.declared.counted.Counted.{Counted}
use Rattle.rq_streams.specs.Counted.{failed_count, inner}
use Rattle.rq_cast.specs.declared.output.Output.{Output}

-- the writer that counts its failed calls
abbrev pub counting : {W : Type 0} → Output W → Counted W
counting o = o.writer

-- the writer that this counts for
abbrev pub sink : {W : Type 0} → Output W → W
sink o = inner o.writer

-- how many calls that should have begun a cell lost it
abbrev pub lost_count : {W : Type 0} → Output W → ℕ
lost_count o = o.lost

-- whether it was flushed behind all that is written
abbrev pub flushed : {W : Type 0} → Output W → Bool
flushed o = o.is_flushed

-- So many cells are lost, each by a call, and so many calls failed beside these.
pub record CountsLost {W : Type 0} (old new : Output W) (lost others : ℕ) : Type 0 where
  pub lost_more : lost_count new ≡ lost_count old + lost
  pub failed : failed_count (counting new) ≡ failed_count (counting old) + lost + others
