-- How many packets of a block shares have, of which some are enough.
use Rattle.std.specs.Prelude.{ℕ, ◌+◌, ◌-◌, ◌*◌, max}
use Rattle.std.specs.Int.{div_ceil}
use Rattle.rq_cast.specs.declared.shares.Shares.{Shares}

-- so many packets are enough of k source symbols, and one in 26 of them may be damaged
abbrev pub enough_of : ℕ → ℕ
enough_of k = k + div_ceil k 25 + 2

-- how many each share has, where those that are needed have enough
abbrev pub packets_of : ℕ → Shares → ℕ
packets_of k s = div_ceil (enough_of k) (max s.needed 1)

-- how many there are of all, beside the source packets
abbrev pub shares_repair : ℕ → Shares → ℕ
shares_repair k s = s.all * packets_of k s - k
