-- What the check leaves to show of `products::bits_from`.
use Rattle.std.proofs.Common.{◌/◌}
use Rattle.rq_bytes.proofs.BitLanes.{bits_joined}
use Rattle.rq_bytes.proofs.products.bits_from.Goals as goal

pub returns : goal.returns
returns c = λ i lt. bits_joined c.args.words.now c.args.place i (c.type_inv.words (c.args.place / 64)).fits lt
