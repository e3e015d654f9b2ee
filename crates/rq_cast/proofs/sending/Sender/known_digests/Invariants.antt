use Rattle.std.proofs.Common.{◌≡◌, ℕ, ◌+◌, ◌<◌, List, [], length, get_or}
use Rattle.rq_cast.specs.Rows.{HasPacketOf, symbol_digest}
use Rattle.rq_cast.specs.Sent.{sending_of}
use Rattle.rq_cast.proofs.sending.Sender.known_digests.Given as goal

-- the digests so far
abbrev pub invariant-loop-j : goal.invariant-loop-j
invariant-loop-j l = record {
  long : length l.digests ≡ 8;
  made : (k : ℕ) (cell : List ℕ) → k < l.j → HasPacketOf (sending_of l.self) (l.first + k) cell → get_or l.digests k [] ≡ symbol_digest (sending_of l.self).encoded cell;
}
