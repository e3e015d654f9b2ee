-- What the check leaves to show of `entries::InactiveEntries::next_entry`.
use Rattle.std.proofs.Common.{◌≡◌, ◌<◌, ℕ, List, get_or, slice_index, sym, ap, ◌∙◌, arith}
use Rattle.rq_parts.specs.DenseOctetMatrix.{row_at}
use Rattle.rq_bytes.specs.BinaryOctetVec.{packed_bit}
use Rattle.rq_bytes.proofs.PackedRows.{at-octets_of_bits}
use Rattle.rq_elimination.proofs.EntryRows.{next_place}
use Rattle.rq_elimination.proofs.entries.InactiveEntries.next_entry.Goals as goal
use Rattle.rq_elimination.proofs.entries.InactiveEntries.next_entry.Goals.{In-Bits}

-- the bits are what the row has
same : (c : In-Bits) (k : ℕ) → k < c.args.end → packed_bit c.in-Bits.bits.now k ≡ slice_index (row_at c.args.self.now c.args.row) k
same c k l = sym (at-octets_of_bits c.args.self.now.width c.in-Bits.bits.now k (omega (arith, c.requires.end))) ∙ ap (λ (r : List ℕ). get_or r k 0) c.in-Bits.ensures.octets

pub returns-in-Some : goal.returns-in-Some
returns-in-Some c =
    let at = (goal.at.returns-in-Some c).In-Bits in
    let bits = c.in-Bits.bits.now in
    let next = c.in-Some.ensures in (
      next_place (packed_bit bits) (slice_index (row_at c.args.self.now c.args.row)) c.args.from c.args.end c.in-Some.column (same at) next,
      c.one.ensures ∙ sym next.one ∙ same at c.in-Some.column next.below,
    )

pub returns-in-None : goal.returns-in-None
returns-in-None c = λ k l m. sym (same (goal.at.returns-in-None c).In-Bits k m) ∙ c.in-None.ensures k l m
