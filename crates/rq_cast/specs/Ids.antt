-- Which encoding symbol ids are sent.
use Rattle.std.specs.Prelude.{◌≡◌, ℕ, ◌+◌, ◌*◌, ◌<◌, ◌^◌, min}
use Rattle.std.specs.Int.{div_ceil}
use Rattle.rq_cast.specs.declared.series.Repair.{Repair}
use Rattle.rq_cast.specs.declared.series.Repair.TheVariants.{Packets, Share, Against, All, Shares}
use Rattle.rq_cast.specs.Loss.{IsLossRepair, whole}
use Rattle.rq_cast.specs.Shares.{shares_repair}

-- so many ids, the first one and others a step apart, have 24 bits
abbrev pub AreIds : ℕ → ℕ → ℕ → Type 0
AreIds first step count = (k : ℕ) → k < count → first + step * k < 2 ^ 24

-- how many repair symbols a block has, where the largest has k source symbols
abbrev pub IsRepairCount : ℕ → Repair → ℕ → Type 0
IsRepairCount k (Packets n) count = count ≡ n
IsRepairCount k (Share n) count = count ≡ div_ceil (k * n) whole
IsRepairCount k (Against loss) count = IsLossRepair k (min loss.parts 50000) count
IsRepairCount k All count = count ≡ 2 ^ 24
IsRepairCount k (Shares shares) count = count ≡ shares_repair k shares

-- the ids below this are sent, of 2^24
abbrev pub IsIdEnd : ℕ → Repair → ℕ → Type 0
IsIdEnd k repair end = (count : ℕ) × IsRepairCount k repair count × (end ≡ min (k + count) (2 ^ 24))
