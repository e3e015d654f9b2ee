-- What the check leaves to show of `range_multiples::add_piece`.
use Rattle.std.proofs.Common.{sym, arith}
use Rattle.rq_bytes.proofs.Spreads.{row_added-is}
use Rattle.rq_bytes.proofs.range_multiples.add_piece.Goals as goal

pub returns : goal.returns
returns g c =
    let bytes = c.args.bytes.now in
    let piece = c.args.piece in
    rw (← c.fits-piece.0) (sym (row_added-is bytes c.args.start piece (omega arith)))
