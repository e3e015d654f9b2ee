-- What the check leaves to show of `range_multiples::sum_of_pieces`.
use Rattle.std.proofs.Common.{ap}
use Rattle.std.proofs.lemmas.Simd.{length-chunk}
use Rattle.rq_standard.specs.Rows.{row_sum}
use Rattle.rq_bytes.specs.Ranges.{range_of}
use Rattle.rq_bytes.proofs.range_multiples.sum_of_pieces.Goals as goal

pub doubled_lanes-multiple-requires : goal.doubled_lanes-multiple-requires
doubled_lanes-multiple-requires c = length-chunk c.args.dest 32 c.args.bytes.now c.requires.dest

pub returns : goal.returns
returns c = ap (λ xs. row_sum xs (range_of c.args.bytes.now c.args.src 32)) c.doubled_lanes-multiple.ensures
