-- What the check leaves to show of `octets::powers`.
use Rattle.rq_standard.proofs.Powers.{power-lt, mul-power, power_of_order}
use Rattle.rq_standard.proofs.octets.powers.Goals as goal

pub returns : goal.returns
returns c = record { closed = power-lt; add = mul-power; order = power_of_order }
