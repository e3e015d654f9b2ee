use Rattle.std.proofs.Common.{arith}
use Rattle.rq_standard.specs.TableRows.{intermediate_symbols}
use Rattle.rq_block.proofs.Summing.{place_of_slab}
use Rattle.rq_block.proofs.encoder.block.SourceBlockEncoder.packet_length.Goals as goal

pub get-requires : goal.get-requires
get-requires c =
    let b = c.args.self.now in
    place_of_slab b.intermediate 0 (intermediate_symbols b.row.numbers) b.enough (omega (arith, b.row.checked.two_hdpc))
