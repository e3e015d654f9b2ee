-- Packets of cells that come one by one.
use Rattle.std.proofs.Common.{◌≡◌, ℕ, ◌≤◌, List, [], ◌∷◌, ◌++◌, Bool, true, false, if◌then◌else◌, ap, subst, ◌∙◌, arith, length, drop, map, filter}
use Rattle.std.specs.Prelude.{All}
use Rattle.std.proofs.lemmas.List.{map-append, drop-append-le, drop_all}
use Rattle.std.proofs.lemmas.List.Elements.{filter-append, All-contains, Contains-push}
use Rattle.rq_standard.specs.declared.row.TableRow.{TableRow}
use Rattle.rq_standard.specs.Packet.{Packet}
use Rattle.rq_standard.specs.Headline.{IsHonestRun, IsPacketOf}
use Rattle.raptorq.proofs.Lists.{all_front}
use Rattle.rq_cells.specs.declared.head.Head.{Head}
use Rattle.rq_cells.specs.declared.cell.Cell.{Cell}
use Rattle.rq_cast.specs.Taken.{has_head, packets_with, is_known, known_packets, received_packets}

abbrev packet_of : Cell → Packet
packet_of c = c.packet

module _ (h : Head) where
  packets_both : (xs ys : List Cell) → packets_with h (xs ++ ys) ≡ packets_with h xs ++ packets_with h ys
  packets_both xs ys = ap (map packet_of) (filter-append (has_head h) xs ys) ∙ map-append packet_of (filter (has_head h) xs) (filter (has_head h) ys)

  pub received_both : (xs ys : List Cell) → received_packets h (xs ++ ys) ≡ received_packets h xs ++ received_packets h ys
  received_both xs ys =
      ap (known_packets h.configuration) (packets_both xs ys)
      ∙ filter-append (is_known h.configuration) (packets_with h xs) (packets_with h ys)

  -- one cell, which has the head or another one
  pub received_own : (c : Cell) → has_head h c ≡ true → received_packets h (c ∷ []) ≡ known_packets h.configuration (c.packet ∷ [])
  received_own c is = ap (λ (b : Bool). known_packets h.configuration (map packet_of (if b then c ∷ [] else []))) is

  pub received_other : (c : Cell) → has_head h c ≡ false → received_packets h (c ∷ []) ≡ []
  received_other c is = ap (λ (b : Bool). known_packets h.configuration (map packet_of (if b then c ∷ [] else []))) is

  -- those that came since so many
  module _ (begun : ℕ) (came more : List Cell) (within : begun ≤ length came) where
    pub received_since : received_packets h (drop begun (came ++ more)) ≡ received_packets h (drop begun came) ++ received_packets h more
    received_since = ap (received_packets h) (drop-append-le begun came more within) ∙ received_both (drop begun came) more

  pub received_since_all : (came : List Cell) → received_packets h (drop (length came) came) ≡ []
  received_since_all came = ap (received_packets h) (drop_all (length came) came (omega arith))

  -- of an object's packets the first ones are the object's
  pub first_run : (table : List TableRow) (object : List ℕ) (xs ys : List Cell)
      → IsHonestRun table h.configuration object (received_packets h (xs ++ ys)) → IsHonestRun table h.configuration object (received_packets h xs)
  first_run table object xs ys run =
      let both = subst (IsHonestRun table h.configuration object) (received_both xs ys) run in
      record {
        long = both.long;
        nonsingular = both.nonsingular;
        honest = all_front (IsPacketOf table h.configuration object) (received_packets h xs) (received_packets h ys) both.honest;
      }

  pub last_head : (came : List Cell) (c : Cell) → All (λ (x : Cell). x.head ≡ h) (came ++ c ∷ []) → c.head ≡ h
  last_head came c heads = All-contains (λ (x : Cell). x.head ≡ h) (came ++ c ∷ []) c heads (Contains-push came c)
