-- Which cells the sender of a part sends, and what is written of them.
use Rattle.std.specs.Prelude.{◌≡◌, ◌↔◌, ◌⊎◌, ℕ, zero, suc, ◌+◌, ◌-◌, ◌*◌, ◌/◌, ◌%◌, ◌<◌, ◌≤◌, min, Bool, false, List, [], ◌∷◌, ◌++◌, length, take, Option}
use Rattle.std.specs.Io.KnownBytes.{Appends}
use Rattle.rq_bytes.specs.declared.error.Error.TheVariants.{OutOfMemory}
use Rattle.rq_standard.specs.declared.row.TableRow.{TableRow}
use Rattle.rq_standard.specs.TableRows.{IsTable, greatest_size}
use Rattle.rq_standard.specs.Configuration.{IsConfiguration, IsAccepted}
use Rattle.rq_standard.specs.Headline.{HasNonsingularRows}
use Rattle.rq_standard.specs.Packet.{SymbolId, Packet}
use Rattle.raptorq.specs.Encoder.{Encoded, encoded_of, IsEncoderOf, IsPacketIn}
use Rattle.rq_streams.specs.declared.run.Stop.{Stop}
use Rattle.rq_streams.specs.declared.run.Stop.TheVariants.{Fault, Refused}
use Rattle.rq_cells.specs.declared.head.Head.{Head}
use Rattle.rq_cells.specs.Cells.{Key, cell_bytes}
use Rattle.rq_cast.specs.declared.digested.Digested.{Digested}
use Rattle.rq_cast.specs.declared.order.Ids.{Ids}
use Rattle.rq_cast.specs.declared.series.Series.{Series}
use Rattle.rq_cast.specs.declared.sending.Sender.{Sender}
use Rattle.rq_cast.specs.declared.series.Repair.{Repair}
use Rattle.rq_cast.specs.Calls.{Call, kept_of, one_call, Tells}
use Rattle.rq_cast.specs.Ids.{IsIdEnd}
use Rattle.rq_cast.specs.Parts.{greatest_count, part_head}
use Rattle.rq_cast.specs.Rounds.{round_first}

-- ---- which cells

-- those of the ids first, first + step, .. that are below an end
pub record IsSeries (first step end : ℕ) (s : Series) : Type 0 where
  pub begins : s.first ≡ first
  pub by : s.step ≡ step
  pub below : (k : ℕ) → (k < s.count) ↔ (first + step * k < end)

-- as many in a round, where the first one has these
pub record IsRoundOf (round : ℕ) (begun s : Series) : Type 0 where
  pub begins : 0 < begun.count → s.first ≡ round_first begun.first begun.step begun.count round
  pub by : s.step ≡ begun.step
  pub many : s.count ≡ begun.count

-- those of a round, where the first one has those below the end that so many repair packets ask for, and the largest block so many source symbols
abbrev pub IsSeriesOf : Ids → ℕ → Repair → Series → Type 0
IsSeriesOf ids largest repair s =
    (begun : Series) × (end : ℕ) × IsIdEnd largest repair end × IsSeries ids.first ids.step end begun × IsRoundOf ids.round begun s

-- what a sender sends: packets of an object's encoder, under the head of its cells, with these ids and with checks by a key
pub record Sending : Type 0 where
  pub key : Key
  pub encoded : Encoded
  pub head : Head
  pub series : Series

abbrev pub sending_of : Sender → Sending
sending_of s = record { key = s.key.now; encoded = encoded_of s.encoder; head = s.head; series = s.series }

-- what is encoded of an object, and the digests of its source symbols
abbrev pub encoded_by : Digested → Encoded
encoded_by d = encoded_of d.encoder

abbrev pub digests_of : Digested → List (List ℕ)
digests_of d = d.digests.items

-- An object is encoded over a table, in a configuration that coders take.
pub record Encodes (table : List TableRow) (object : List ℕ) (e : Encoded) : Type 0 where
  pub checked : IsTable table
  pub configuration : IsConfiguration e.configuration
  pub accepted : IsAccepted (greatest_size table) e.configuration
  pub nonsingular : HasNonsingularRows table e.configuration
  pub encoder : IsEncoderOf table object e

-- It sends packets of an object over a table, as the part behind parts of these names.
pub record IsSendingOf (table : List TableRow) (is_last : Bool) (names : List (List ℕ)) (object : List ℕ) (s : Sending) : Type 0 where
  pub few : length names < greatest_count
  pub checked : IsTable table
  pub configuration : IsConfiguration s.encoded.configuration
  pub accepted : IsAccepted (greatest_size table) s.encoded.configuration
  pub nonsingular : HasNonsingularRows table s.encoded.configuration
  pub encoder : IsEncoderOf table object s.encoded
  pub head : s.head ≡ part_head is_last names s.encoded.configuration object

-- how many cells are sent: one of each block for each id
abbrev pub cell_count : Sending → ℕ
cell_count s = s.series.count * s.encoded.configuration.source_blocks

-- ---- their order: blocks in groups of eight, one group behind another; in a group id by id, and of an id that of each of its blocks in turn

-- the group of the cell of a number
abbrev pub group_of : Sending → ℕ → ℕ
group_of s i = i / (8 * s.series.count)

-- how many cells of its group stand before it
abbrev pub place_of : Sending → ℕ → ℕ
place_of s i = i % (8 * s.series.count)

-- how many blocks a group has: eight, and those that are left in the last one
abbrev pub width_of : Sending → ℕ → ℕ
width_of s group = min 8 (s.encoded.configuration.source_blocks - 8 * group)

-- which symbol the cell of a number carries
abbrev pub sent_id : Sending → ℕ → SymbolId
sent_id s i =
    let group = group_of s i in
    let width = width_of s group in
    record { block = 8 * group + place_of s i % width; esi = s.series.first + s.series.step * (place_of s i / width) }

-- the bytes of the cell of a number, with a packet of the object whose encoder it is
pub record IsSentCell (s : Sending) (i : ℕ) (bytes : List ℕ) : Type 0 where
  pub packet : Packet
  pub id : packet.id ≡ sent_id s i
  pub of_object : IsPacketIn s.encoded packet
  pub spelled : bytes ≡ cell_bytes s.key (record { head = s.head; packet = packet })

-- ---- what is written

-- Each of the first n cells is begun by one call. They are written one behind another, but for those whose calls lost them.
abbrev pub AreSent : Sending → ℕ → List ℕ → List Call → Type 0
AreSent s zero written calls = (written ≡ []) × (calls ≡ [])
AreSent s (suc n) written calls =
    (front : List ℕ) × (before : List Call) × (call : Call) × AreSent s n front before × IsSentCell s n call.bytes
    × (written ≡ front ++ kept_of call) × (calls ≡ before ++ (call ∷ []))

-- the first n cells are written as these calls began them, and then these bytes by one more call or none; which are told
pub record SendsFirst (s : Sending) (n : ℕ) (calls : List Call) (behind : List ℕ) (more : List Call) (told told' : Option (List Call))
    (there then : Option (List ℕ)) : Type 0 where
  pub written : List ℕ
  pub sent : AreSent s n written calls
  pub is_told : Tells told told' (calls ++ more)
  pub appended : Appends there then (written ++ behind)

-- a beginning of the cell of a number, where there is one, by a call that didn't lose it
pub record IsBegun (s : Sending) (n : ℕ) (bytes : List ℕ) (more : List Call) : Type 0 where
  pub within : n < cell_count s
  pub cell : List ℕ
  pub sent : IsSentCell s n cell
  pub taken : ℕ
  pub begun : bytes ≡ take taken cell
  pub by : more ≡ one_call cell false

-- a failed call may leave a beginning of the next cell, and want of memory comes before the first
abbrev pub StopsBehind : Sending → ℕ → List ℕ → List Call → Stop → Type 0
StopsBehind s n bytes more Fault = ((bytes ≡ []) × (more ≡ [])) ⊎ IsBegun s n bytes more
StopsBehind s n bytes more (Refused e) = (e ≡ OutOfMemory) × (n ≡ 0) × (bytes ≡ []) × (more ≡ [])

-- Some first cells are written as these calls began them, and then something stops it.
pub record StopsSending (s : Sending) (calls : List Call) (told told' : Option (List Call)) (there then : Option (List ℕ)) (stop : Stop) : Type 0 where
  pub number : ℕ
  pub within : number ≤ cell_count s
  pub behind : List ℕ
  pub more : List Call
  pub sends : SendsFirst s number calls behind more told told' there then
  pub stopped : StopsBehind s number behind more stop
