use Rattle.rq_block.specs.AppendedBlock.{AppendsBlock}
use Rattle.rq_block.specs.BorrowedBlock.{borrowed_of}
use Rattle.rq_block.proofs.encoder.borrowed.BorrowedBlock.append_packets.Given as goal

-- the packets so far
abbrev pub invariant-loop-esi : goal.invariant-loop-esi
invariant-loop-esi l = AppendsBlock (borrowed_of l.fn.self) l.esi l.fn.bytes.items l.bytes.items
