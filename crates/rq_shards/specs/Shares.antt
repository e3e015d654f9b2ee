-- What shares promise that are enough.
use Rattle.std.specs.Prelude.{◌≡◌, ℕ, ◌+◌, ◌*◌, ◌<◌, ◌≤◌}
use Rattle.rq_cast.specs.declared.shares.Shares.{Shares}
use Rattle.rq_cast.specs.Shares.{enough_of, packets_of, shares_repair}

-- Those that are needed have as many packets of a block as are enough of it.
abbrev pub SharesAreEnough : Type 0
SharesAreEnough = (k : ℕ) (s : Shares) → 0 < s.needed → enough_of k ≤ s.needed * packets_of k s

-- All that are sent of the largest block are in the shares, each of which has as many.
abbrev pub SharesAreAlike : Type 0
SharesAreAlike = (k : ℕ) (s : Shares) → 0 < s.needed → s.needed ≤ s.all → k + shares_repair k s ≡ s.all * packets_of k s
