-- Lists of packets compared by the ids of their packets.
use Rattle.std.specs.Prelude.{List, map, All, Contains}
use Rattle.rq_standard.specs.Packet.{SymbolId, Packet}

abbrev pub ids_of : List Packet → List SymbolId
ids_of packets = map (λ p. p.id) packets

-- a list has a packet of each id that another has
abbrev pub HasIdsOf : List Packet → List Packet → Type 0
HasIdsOf more packets = All (Contains (ids_of more)) (ids_of packets)

-- two lists have packets of the same ids, in any order and any number of times
pub record HaveSameIds (one other : List Packet) : Type 0 where
  pub there : HasIdsOf other one
  pub back : HasIdsOf one other
