-- What coders of an object refuse, in the order of the tests.
use Rattle.std.specs.Prelude.{◌≡◌, ◌⊎◌, ℕ, List, Result, Ok, Err, if◌then◌else◌, ◌==◌, not, nat_lt}
use Rattle.rq_bytes.specs.declared.error.Error.{Error}
use Rattle.rq_bytes.specs.declared.error.Error.TheVariants.{UnknownBlock, WrongDataLength, Singular}
use Rattle.rq_bytes.specs.Refusals.{IsRefusal, and_then}
use Rattle.rq_standard.specs.declared.row.TableRow.{TableRow}
use Rattle.rq_standard.specs.TableRows.{greatest_size}
use Rattle.rq_standard.specs.Headline.{HasNonsingularRows}
use Rattle.rq_base.specs.RefusedInput.{checked_configuration}
use Rattle.rq_block.specs.RefusedBlocks.{size_refusal}
use Rattle.rq_standard.specs.Packet.{Packet}
use Rattle.rq_standard.specs.Configuration.{Configuration}

-- whether the decoder of an object takes a packet
abbrev pub packet_refusal : Configuration → Packet → Result (Unit {0}) Error
packet_refusal c p = if not (nat_lt p.id.block c.source_blocks) then Err UnknownBlock else size_refusal c p

-- whether the encoder of an object of this length is made
abbrev pub new_encoder : ℕ → Configuration → ℕ → Result (Unit {0}) Error
new_encoder greatest c length_of_data =
    and_then (checked_configuration greatest c) (λ _. if length_of_data == c.transfer_length then Ok tt else Err WrongDataLength)

-- what it is refused for: first these, and then a singular row
abbrev pub RefusesEncoder : List TableRow → Configuration → ℕ → Error → Type 0
RefusesEncoder table c length_of_data e =
    let wanted = new_encoder (greatest_size table) c length_of_data in
    IsRefusal e wanted ⊎ ((wanted ≡ Ok tt) × (e ≡ Singular) × ¬ HasNonsingularRows table c)
