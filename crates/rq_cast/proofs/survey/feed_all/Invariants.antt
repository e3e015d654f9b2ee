use Rattle.std.proofs.Common.{◌≡◌, ℕ, ◌≤◌, ◌-◌, List, [], length, take}
use Rattle.rq_standard.specs.declared.row.TableRow.{TableRow}
use Rattle.rq_cells.specs.Wanted.{Wish}
use Rattle.rq_cast.specs.Reading.{chunk_length}
use Rattle.rq_cast.specs.Searching.{counted}
use Rattle.rq_cast.specs.Receiving.{HasFed, IsSoundReceiver, ready_of}
use Rattle.rq_cast.proofs.survey.feed_all.Given as goal

-- the bytes before a place are fed
abbrev pub invariant-feeding : goal.invariant-feeding
invariant-feeding l = record {
  fed : (table : List TableRow) (w : Wish) (width : ℕ) → HasFed table w width chunk_length [] [] l.fn.receiver
      → (given : List ℕ) × HasFed table w width chunk_length (take l.at l.bytes) given l.receiver × (l.written ≡ counted (length given));
  sound : IsSoundReceiver l.receiver;
  none : ready_of l.receiver ≡ [];
  within : l.at ≤ length l.bytes;
}

abbrev pub decreases-feeding : goal.decreases-feeding
decreases-feeding l = length l.bytes - l.at
