-- What a buffer is filled with of an object, its packets, or why it is not.
use Rattle.std.specs.Prelude.{◌≡◌, ◌≢◌, ℕ, List, [], length, Ok}
use Rattle.rq_bytes.specs.declared.error.Error.{Error}
use Rattle.rq_bytes.specs.Error.{code_of}
use Rattle.rq_standard.specs.Configuration.{configuration_of_bytes}
use Rattle.raptorq.specs.Appended.{AppendsObject, RefusesPackets}
use Rattle.rq_rows.specs.FullTable.{full_rows}
use Rattle.raptorq_c.specs.Sizes.{bytes_of_packets}

-- bytes of the packets of an object, in the configuration of these twelve bytes: those of its source symbols and of `repair` repair symbols a block, block by block
abbrev pub IsEncoding : List ℕ → List ℕ → ℕ → List ℕ → Type 0
IsEncoding header object repair bytes = AppendsObject full_rows (configuration_of_bytes header) object repair [] bytes

-- Why no packets are written: for want of memory (21), for what refuses the packets, of which a singular row is 9, or for room of another length (24).
pub data StopsEncoding (header object : List ℕ) (repair room : ℕ) (number : ℕ) : Type 0 where
  no_memory : number ≡ 21 → StopsEncoding header object repair room number
  refused : (e : Error) → RefusesPackets full_rows (configuration_of_bytes header) (length object) repair e
      → number ≡ code_of e → StopsEncoding header object repair room number
  other_length : (bytes : List ℕ) → IsEncoding header object repair bytes → room ≢ length bytes
      → number ≡ 24 → StopsEncoding header object repair room number

-- What a call answers and does to a buffer: it is filled with the packets of an object (0), or is as it was.
pub record FillsWithPackets (header object : List ℕ) (repair answer : ℕ) (before after : List ℕ) : Type 0 where
  pub packets : answer ≡ 0 → IsEncoding header object repair after
  pub room : answer ≡ 0 → bytes_of_packets header repair ≡ Ok (length before)
  pub stopped : answer ≢ 0 → StopsEncoding header object repair (length before) answer
  pub kept : answer ≢ 0 → after ≡ before
