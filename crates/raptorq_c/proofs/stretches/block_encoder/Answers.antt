use Rattle.raptorq_c.proofs.Names.{◌≡◌, Err, subst, UnknownBlock, ok_of, block_encoded_of, encoded_of, block_in}
use Rattle.raptorq_c.proofs.StretchSteps.{block_found, block_missing}
use Rattle.raptorq_c.proofs.stretches.block_encoder.Goals as goal

pub returns-in-Some-clause-found : goal.returns-in-Some-clause-found
returns-in-Some-clause-found c =
    let e = encoded_of c.args.encoder.now in
    let blocks = c.get_block_encoders.result.now in
    let x = c.in-Some.found.now in
    let there = c.in-Some.ensures.lookup.3 in
    subst (λ n. block_in e n ≡ ok_of (block_encoded_of x)) c.from.ensures
    (block_found e blocks c.from.result c.get_block_encoders.ensures x there.0 (there.1 x))

pub returns-in-None-clause-refused : goal.returns-in-None-clause-refused
returns-in-None-clause-refused c =
    let e = encoded_of c.args.encoder.now in
    let blocks = c.get_block_encoders.result.now in
    subst (λ n. block_in e n ≡ Err UnknownBlock) c.from.ensures (block_missing e blocks c.from.result c.get_block_encoders.ensures c.in-None.ensures.lookup.3)
