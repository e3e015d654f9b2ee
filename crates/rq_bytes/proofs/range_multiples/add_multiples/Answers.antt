-- What the check leaves to show of `range_multiples::add_multiples`.
use Rattle.std.proofs.Common.{◌+◌, ◌*◌, refl, arith}
use Rattle.rq_bytes.specs.Targets.{start_and_octet}
use Rattle.rq_bytes.proofs.Spreads.{none_added, more_added}
use Rattle.rq_bytes.proofs.range_multiples.add_multiples.Goals as goal

pub loop-piece-init : goal.loop-piece-init
loop-piece-init c = none_added start_and_octet c.args.bytes.now c.args.src c.args.len c.args.targets.now c.requires.src c.requires.targets (32 * 0) refl

pub loop-piece-preserved : goal.loop-piece-preserved
loop-piece-preserved c =
    let piece = c.loop-piece.piece in
    more_added start_and_octet c.args.bytes.now c.args.src c.args.len c.args.targets.now c.requires.src c.requires.targets
    c.loop-piece.bytes c.add_multiples_of_piece.new.bytes (32 * piece) 32 (32 * (piece + 1)) c.loop-piece.invariant c.add_multiples_of_piece.ensures (omega arith) (omega arith)

pub loop-at-preserved : goal.loop-at-preserved
loop-at-preserved c =
    let at = c.loop-at.at in
    more_added start_and_octet c.args.bytes.now c.args.src c.args.len c.args.targets.now c.requires.src c.requires.targets
    c.loop-at.bytes c.add_multiples_of_octet.new.bytes at 1 (at + 1) c.loop-at.invariant c.add_multiples_of_octet.ensures refl (omega arith)
