-- Which packets cells bring, whether one sender made those of a part, and what is answered of them.
use Rattle.std.specs.Prelude.{◌≡◌, ◌≢◌, ℕ, ◌%◌, ◌^◌, List, [], map, filter, All, Bool, nat_lt, Option, Some, None, Ok}
use Rattle.rq_standard.specs.declared.row.TableRow.{TableRow}
use Rattle.rq_standard.specs.TableRows.{greatest_size}
use Rattle.rq_standard.specs.Configuration.{Configuration}
use Rattle.rq_standard.specs.Packet.{Packet}
use Rattle.rq_standard.specs.Headline.{IsHonestRun, AnswersExactly, AnswersWhereAnyCan}
use Rattle.rq_standard.specs.Following.{IsAnswerAfter}
use Rattle.rq_base.specs.RefusedInput.{checked_configuration}
use Rattle.rq_cells.specs.declared.head.Head.{Head}
use Rattle.rq_cells.specs.declared.cell.Cell.{Cell}
use Rattle.rq_cells.specs.contracts.head.HeadPartialEq.TheImpl.{ghosts}
use Rattle.rq_cast.specs.Parts.{name_of_part}

-- the index of the part of a head: its number without the bit of the last one
abbrev pub part_index : Head → ℕ
part_index h = h.number % 2 ^ 31

-- coders take the configuration of a head
abbrev pub IsTakenHead : List TableRow → Head → Type 0
IsTakenHead table h = checked_configuration (greatest_size table) h.configuration ≡ Ok tt

-- ---- packets

-- a cell has this head
abbrev pub has_head : Head → Cell → Bool
has_head h cell = ghosts.eq cell.head h

-- the packets of those among some cells
abbrev pub packets_with : Head → List Cell → List Packet
packets_with h cells = map (λ cell. cell.packet) (filter (has_head h) cells)

-- the object has the block that the packet names
abbrev pub is_known : Configuration → Packet → Bool
is_known c p = nat_lt p.id.block c.source_blocks

abbrev pub known_packets : Configuration → List Packet → List Packet
known_packets c packets = filter (is_known c) packets

-- the packets of the cells with a head, but for those of blocks that its part has not
abbrev pub received_packets : Head → List Cell → List Packet
received_packets h cells = known_packets h.configuration (packets_with h cells)

-- ---- objects

-- An object is named as a head says. A part has bytes.
pub record IsNamed (h : Head) (object : List ℕ) : Type 0 where
  pub some : object ≢ []
  pub named : name_of_part h.number h.configuration object ≡ h.name

-- an answer isn't
abbrev pub IsNotNamed : Head → Option (List ℕ) → Type 0
IsNotNamed h answer = (object : List ℕ) → answer ≡ Some object → IsNamed h object → ⊥

-- the object that is answered, where it is named so
abbrev pub IsNamedIn : Head → Option (List ℕ) → Option (List ℕ) → Type 0
IsNamedIn h answer (Some object) = (answer ≡ Some object) × IsNamed h object
IsNamedIn h answer None = IsNotNamed h answer

-- One sender's cells of a part: all have this head, and their packets are those of an object that is named so.
pub record IsOneSender (table : List TableRow) (h : Head) (cells : List Cell) : Type 0 where
  pub heads : All (λ cell. cell.head ≡ h) cells
  pub object : List ℕ
  pub named : IsNamed h object
  pub honest : IsHonestRun table h.configuration object (received_packets h cells)

-- What is answered of packets, whoever sent them; where they are an object's, exactly where they determine it, which is where no other object makes them.
pub record IsAnswered (table : List TableRow) (c : Configuration) (packets : List Packet) (answer : Option (List ℕ)) : Type 0 where
  pub whoever : IsAnswerAfter table c packets answer
  pub honest : AnswersExactly table c packets answer
  pub only_object : AnswersWhereAnyCan table c packets answer
