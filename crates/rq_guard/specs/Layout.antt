-- How a part of a guarded file is cut: into one block, so that damage may stand anywhere in it.
use Rattle.std.specs.Prelude.{◌≡◌, ℕ, ◌*◌, ◌<◌, ◌≤◌, if◌then◌else◌, nat_lt}
use Rattle.rq_standard.specs.Configuration.{Configuration}
use Rattle.rq_base.specs.RefusedInput.{configuration_of}

-- A symbol has a multiple of so many bytes: from 4 MB on whole sectors of a disk, so that few symbols share a bad one.
abbrev pub unit_of : ℕ → ℕ
unit_of length = if nat_lt length 4000000 then 8 else 4096

-- symbols of so many bytes are at most 16,384
abbrev pub AreFew : ℕ → ℕ → Type 0
AreFew length size = length ≤ size * 16384

-- the least multiple with which they are
pub record IsSymbolSize (length size : ℕ) : Type 0 where
  pub units : ℕ
  pub some : 0 < units
  pub multiple : size ≡ units * unit_of length
  pub few : AreFew length size
  pub least : (fewer : ℕ) → 0 < fewer → fewer < units → ¬ AreFew length (fewer * unit_of length)

-- one block of such symbols, in units of 8 bytes and without sub-blocks
pub record IsLayout (length : ℕ) (c : Configuration) : Type 0 where
  pub size : IsSymbolSize length c.symbol_size
  pub one_block : c ≡ configuration_of length c.symbol_size 1 1 8
