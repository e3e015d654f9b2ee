use Rattle.rq_block.specs.Decoding.{Recorded}
use Rattle.rq_block.proofs.decoder.block.SourceBlockDecoder.decode.Given as goal

-- the packets so far are recorded
abbrev pub invariant-loop-packet : goal.invariant-loop-packet
invariant-loop-packet g l = record { recorded : Recorded l.fn.self l.yielded l.self }
