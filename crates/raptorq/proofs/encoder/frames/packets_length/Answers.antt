use Rattle.std.proofs.Common.{◌≤◌, ◌+◌, ◌*◌, ◌^◌, sym, arith}
use Rattle.std.proofs.Math.Nat.{le-mul_of_pos_right, mul-le-mul}
use Rattle.raptorq.proofs.EncodedBlocks.{enough_ids}
use Rattle.raptorq.proofs.encoder.frames.packets_length.Goals as goal

pub overflow_mul-result : goal.overflow_mul-result
overflow_mul-result c =
    let config = c.args.config.now in
    let few : c.from-2.result ≤ 2 ^ 24 = omega (arith, c.from-2.ensures, enough_ids config c.args.repair_packets_per_block (sym c.in_ok-check_repair.ensures)) in
    let blocks : c.from.result ≤ 2 ^ 8 = omega (arith, c.from.ensures) in
    let total : c.total_symbols.result ≤ 2 ^ 41 = omega (arith, c.total_symbols.ensures.bytes, le-mul_of_pos_right {m = config.symbol_size} c.total_symbols.result c.requires.size) in
    let repair : c.from.result * c.from-2.result ≤ 2 ^ 8 * 2 ^ 24 = mul-le-mul blocks few in
    let packets : c.total_symbols.result + c.from.result * c.from-2.result ≤ 2 ^ 42 = omega (arith, total, repair) in
    let frame : c.frame_size.result ≤ 2 ^ 17 = omega arith in
    let product : (c.total_symbols.result + c.from.result * c.from-2.result) * c.frame_size.result ≤ 2 ^ 42 * 2 ^ 17 = mul-le-mul packets frame in
    omega (arith, product)
