-- What the check leaves to show of `bit_rows::BitRows::len`.
use Rattle.rq_bytes.proofs.Pieces.{count_is}
use Rattle.rq_parts.proofs.RowBuffers.{holds_rows}
use Rattle.rq_parts.proofs.bit_rows.BitRows.len.Goals as goal

pub returns : goal.returns
returns c = count_is (holds_rows c.self.inside c.args.self.now c.self.view_is c.self.invariant)
