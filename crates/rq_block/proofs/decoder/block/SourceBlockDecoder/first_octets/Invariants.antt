use Rattle.std.proofs.Common.{◌≡◌}
use Rattle.rq_algebra.specs.Systems.{at}
use Rattle.rq_standard.specs.Differences.{first_octets_below, plain_sum}
use Rattle.rq_block.proofs.decoder.block.SourceBlockDecoder.first_octets.Given as goal

-- the octets so far are written
abbrev pub invariant-loop-e : goal.invariant-loop-e
invariant-loop-e l = l.block.items ≡ first_octets_below l.self.config l.self.source_symbols (plain_sum l.self.row.numbers (at l.column)) l.e
