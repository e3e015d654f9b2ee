-- What the check leaves to show of `products::plane`.
use Rattle.std.proofs.Common.{◌*◌, ◌%◌, ◌^◌, refl, ap, ◌∙◌, eqb, length, get_or, replicate, List, Bool, w8}
use Rattle.std.proofs.lemmas.Nat.{one_shl}
use Rattle.std.proofs.lemmas.Simd.{get_or-replicate, tops_compared}
use lib.Bits.{bit_and}
use lib.Lanes.{zip2, sel_l}
use Rattle.rq_bytes.proofs.BitLanes.{length-where_set, where_set_at}
use Rattle.rq_bytes.proofs.products.plane.Goals as goal

pub returns-clause-len : goal.returns-clause-len
returns-clause-len c =
    let v = c.args.lanes in
    let masks = replicate 32 (1 * 2 ^ c.args.k % 256) in
    ap (λ (ms : List Bool). length (sel_l ms (replicate 32 c.args.term) (replicate 32 0))) (tops_compared w8 eqb (zip2 bit_and v masks) masks)
    ∙ length-where_set 32 c.args.term masks v refl c.requires.long

pub returns-clause-each : goal.returns-clause-each
returns-clause-each c = λ i lt.
    let v = c.args.lanes in
    let bit = 1 * 2 ^ c.args.k % 256 in
    let masks = replicate 32 bit in
    ap (λ (ms : List Bool). get_or (sel_l ms (replicate 32 c.args.term) (replicate 32 0)) i 0) (tops_compared w8 eqb (zip2 bit_and v masks) masks)
    ∙ where_set_at 32 c.args.term masks v refl c.requires.long i c.args.k lt (get_or-replicate 32 i bit 0 lt ∙ one_shl c.args.k 8 c.requires.bit)
