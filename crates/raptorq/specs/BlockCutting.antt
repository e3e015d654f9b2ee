-- An object that is cut into its blocks, one after another.
use Rattle.std.specs.Prelude.{◌≡◌, ◌⊎◌, ℕ, ◌+◌, ◌*◌, ◌++◌, List, drop, length}
use Rattle.rq_bytes.specs.declared.error.Error.{Error}
use Rattle.rq_bytes.specs.declared.error.Error.TheVariants.{OutOfMemory, Singular}
use Rattle.rq_standard.specs.declared.row.TableRow.{TableRow}
use Rattle.rq_standard.specs.Configuration.{Configuration}
use Rattle.rq_standard.specs.Cutting.{symbols_before}
use Rattle.rq_standard.specs.Headline.{HasNonsingularRows}
use Rattle.rq_standard.specs.ObjectPackets.{AreEncoded}
use Rattle.rq_standard.specs.Packet.{Packet}
use Rattle.rq_standard.specs.Streams.{frames_of}
use Rattle.rq_block.specs.SourceBlockEncoder.{BlockEncoded}
use Rattle.raptorq.specs.BlocksEncoded.{new_block_encoded}
use Rattle.raptorq.specs.declared.encoder.blockwise_encoder.BlockwiseEncoder.{BlockwiseEncoder}

-- the object without the blocks before one
abbrev pub from_block : Configuration → List ℕ → ℕ → List ℕ
from_block c object b = drop (symbols_before c b * c.symbol_size) object

-- the object's blocks from one on are left
abbrev pub StandsBefore : List ℕ → ℕ → BlockwiseEncoder → Type 0
StandsBefore object b blocks = blocks.rest.now ≡ from_block blocks.config.now object b

-- the next block was cut off, whatever the object is
abbrev pub CutsBlock : ℕ → BlockwiseEncoder → BlockEncoded → BlockwiseEncoder → Type 0
CutsBlock b old encoded new =
    (object : List ℕ) → StandsBefore object b old → (encoded ≡ new_block_encoded old.table.now old.config.now object b) × StandsBefore object (b + 1) new

-- the packets of the object of which all blocks are left stand behind bytes, whatever the object is
pub record AppendsBlocks (blocks : BlockwiseEncoder) (repair : ℕ) (old new : List ℕ) : Type 0 where
  pub packets : List Packet
  pub grown : new ≡ old ++ frames_of packets
  pub encoded : (object : List ℕ) → length object ≡ blocks.config.now.transfer_length → StandsBefore object 0 blocks
      → AreEncoded blocks.table.now blocks.config.now object repair packets

-- why blocks aren't encoded: for want of memory, or for a singular row
abbrev pub RefusesRows : List TableRow → Configuration → Error → Type 0
RefusesRows table c e = (e ≡ OutOfMemory) ⊎ ((e ≡ Singular) × ¬ HasNonsingularRows table c)
