-- What the type of a row says.
use Rattle.std.proofs.Common.{◌<◌, arith}
use Rattle.std.proofs.lemmas.List.Elements.{All-from_get_or}
use Rattle.rq_bytes.proofs.octets.are_octets.Goals as goal

pub returns : goal.returns
returns c = All-from_get_or (λ x. x < 256) c.args.octets.now 0 (λ i below. let fits = c.type_inv.octets i in omega (arith, fits))
