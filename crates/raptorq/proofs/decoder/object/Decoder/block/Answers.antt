use Rattle.raptorq.proofs.ObjectBlocks.{block_found, found_solving}
use Rattle.raptorq.proofs.decoder.object.Decoder.block.Goals as goal

pub returns-clause-at : goal.returns-clause-at
returns-clause-at c =
    let s = c.args.self.now in
    let told = rw (c.deref.ensures.value, c.from.ensures) at c.get.ensures.lookup in
    block_found s.config s.blocks.items c.args.number c.get.result s.numbered told.0 told.1

pub returns-clause-solving : goal.returns-clause-solving
returns-clause-solving c =
    let s = c.args.self.now in
    let told = rw (c.deref.ensures.value, c.from.ensures) at c.get.ensures.lookup in
    found_solving s.blocks.items c.args.number c.get.result told.0 told.1
