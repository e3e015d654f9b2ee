-- A row, to be read: octets of its own, or bits.
use Rattle.std.specs.Prelude.{◌≡◌, ℕ, ◌*◌, ◌≤◌, List, length}
use Rattle.rq_bytes.specs.BinaryOctetVec.{octets_of_bits}
use Rattle.rq_elimination.specs.declared.entries.octet_row.EntryRow.{EntryRow}
use Rattle.rq_elimination.specs.declared.entries.octet_row.EntryRow.TheVariants.{Octets, Bits}

-- its octets, or its first `width` bits as octets
abbrev pub octets_of : ℕ → EntryRow → List ℕ
octets_of width (Octets octets) = octets.now
octets_of width (Bits bits) = octets_of_bits width bits.now

-- `width` octets, or at least as many bits
abbrev pub HasWidth : ℕ → EntryRow → Type 0
HasWidth width (Octets octets) = length octets.now ≡ width
HasWidth width (Bits bits) = width ≤ 64 * length bits.now
