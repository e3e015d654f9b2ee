-- What the check leaves to show of `range_multiples::double_add_and_spread`.
use Rattle.std.proofs.Common.{◌≡◌, ◌+◌, ◌*◌, ◌<◌, [], ◌∷◌, length, get_or, refl, arith}
use Rattle.std.proofs.Math.Seq.{drop-cons}
use Rattle.std.specs.Int.Bits.{bit_xor}
use Rattle.rq_bytes.specs.RangeSums.{doubled_sum, by_one}
use Rattle.rq_bytes.proofs.Spreads.{none_spread, more_spread}
use Rattle.rq_bytes.proofs.range_multiples.double_add_and_spread.Goals as goal

pub loop-piece-init : goal.loop-piece-init
loop-piece-init c =
    none_spread by_one c.args.bytes.now c.args.dest c.args.len c.args.targets.now c.requires.dest c.requires.targets
    c.args.src c.requires.src c.requires.unmixed (32 * 0) refl

pub loop-piece-preserved : goal.loop-piece-preserved
loop-piece-preserved c =
    let at = 32 * c.loop-piece.piece in
    let sum = c.sum_of_pieces-sum in
    more_spread by_one c.args.bytes.now c.args.dest c.args.len c.args.targets.now c.requires.dest c.requires.targets
    c.args.src c.requires.src c.requires.unmixed c.loop-piece.bytes _ sum.result at 32 (32 * (c.loop-piece.piece + 1)) c.loop-piece.invariant sum.ensures
    (rw c.add_piece_to_all.ensures refl) (omega arith) (omega arith)

pub loop-at-preserved : goal.loop-at-preserved
loop-at-preserved c =
    let now = c.loop-at.bytes in
    let at = c.loop-at.at in
    let sum = bit_xor c.product.result (get_or now (c.args.src + at) 0) ∷ [] in
    let to : c.args.dest + at < length now = omega arith in
    let from : c.args.src + at < length now = omega (arith, c.requires.src.0) in
    let sum_is : sum ≡ doubled_sum now (c.args.dest + at) (c.args.src + at) 1 =
    rw (c.product.ensures, drop-cons now (c.args.dest + at) 0 to, drop-cons now (c.args.src + at) 0 from) refl in
    more_spread by_one c.args.bytes.now c.args.dest c.args.len c.args.targets.now c.requires.dest c.requires.targets
    c.args.src c.requires.src c.requires.unmixed now _ sum at 1 (at + 1) c.loop-at.invariant sum_is
    (rw c.add_piece_to_all-in-loop-at.ensures refl) refl (omega arith)
