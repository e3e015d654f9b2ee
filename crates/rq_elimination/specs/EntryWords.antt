-- Words of bits.
use Rattle.std.specs.Prelude.{◌≡◌, ℕ, ◌+◌, ◌*◌, ◌<◌}
use Rattle.std.specs.Int.{bit_at}

-- the bits of a word are what there is in its columns, 64 of them, that come before an end
abbrev pub AreBitsOfWord : (ℕ → ℕ) → ℕ → ℕ → ℕ → Type 0
AreBitsOfWord entry word end bits = (k : ℕ) → k < 64 → 64 * word + k < end → bit_at bits k ≡ entry (64 * word + k)
