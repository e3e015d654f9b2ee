-- What the check leaves to show of `entries::InactiveEntries::set_one`.
use Rattle.std.proofs.Common.{ℕ, List, length, set, ap, refl, ◌∙◌, arith}
use Rattle.rq_parts.specs.DenseOctetMatrix.{with_row}
use Rattle.rq_bytes.specs.BinaryOctetVec.{octets_of_bits}
use Rattle.rq_elimination.proofs.EntryRows.{bits_place, bits_room, bits_written, bits_written_seen, own_octets, own_place, row_unpacked, width_is, words_long, written, written_seen}
use Rattle.rq_elimination.proofs.UnpackedBits.{octets_of_bits-set}
use Rattle.rq_elimination.proofs.entries.InactiveEntries.set_one.Goals as goal

-- ---- a row of bits

pub is_bits-requires : goal.is_bits-requires
is_bits-requires c = own_place c.self.inside c.self.invariant c.self.view_is c.args.row c.requires.row

pub row_mut-requires : goal.row_mut-requires
row_mut-requires c = bits_place c.self.inside c.self.invariant c.self.view_is c.args.row c.requires.row

pub set_bit-requires : goal.set_bit-requires
set_bit-requires c = omega (arith, bits_room c.self.inside c.self.invariant c.self.view_is c.args.row c.requires.row, ap length c.row_mut.ensures.row, c.requires.column, width_is c.self.inside c.self.invariant c.self.view_is)

pub invariant_of-self : goal.invariant_of-self
invariant_of-self c =
    let bits = c.set_bit.new.row in
    let long = c.set_bit.auto.row ∙ ap length c.row_mut.ensures.row in
    let inside = bits_place c.self.inside c.self.invariant c.self.view_is c.args.row c.requires.row in
    bits_written c.self.inside c.self.invariant c.self.view_is c.args.row c.requires.row (c.if-is_bits.ensures.none refl) bits (long ∙ words_long c.self.inside.octets.width c.self.inside.bits c.self.inside.octets.rows c.self.invariant c.args.row inside) _ (c.row_mut.ensures.whole_row bits long)

pub returns-then-is_bits : goal.returns-then-is_bits
returns-then-is_bits c =
    let width = c.self.inside.octets.width in
    let bits = c.set_bit.new.row in
    let long = c.set_bit.auto.row ∙ ap length c.row_mut.ensures.row in
    let inside = bits_place c.self.inside c.self.invariant c.self.view_is c.args.row c.requires.row in
    let one = λ (r : List ℕ). set r c.args.column 1 in
    bits_written_seen c.self.inside c.self.invariant c.self.view_is c.args.row c.requires.row (c.if-is_bits.ensures.none refl) bits (long ∙ words_long width c.self.inside.bits c.self.inside.octets.rows c.self.invariant c.args.row inside) _ (c.row_mut.ensures.whole_row bits long)
    ∙ ap (with_row c.args.self.now c.args.row) (
    octets_of_bits-set width c.row_mut.result.now bits c.args.column (rw (width_is c.self.inside c.self.invariant c.self.view_is) c.requires.column) c.set_bit.ensures.here c.set_bit.ensures.elsewhere
    ∙ ap (λ (b : List ℕ). one (octets_of_bits width b)) c.row_mut.ensures.row
    ∙ ap one (row_unpacked c.self.inside c.self.invariant c.self.view_is c.args.row c.requires.row (c.if-is_bits.ensures.none refl)))

-- ---- a row of octets

pub set_one-requires-clause-row : goal.set_one-requires-clause-row
set_one-requires-clause-row c = own_place c.self.inside c.self.invariant c.self.view_is c.args.row c.requires.row

pub set_one-requires-clause-column : goal.set_one-requires-clause-column
set_one-requires-clause-column c = rw (width_is c.self.inside c.self.invariant c.self.view_is) c.requires.column

pub invariant_of-self-else-is_bits : goal.invariant_of-self-else-is_bits
invariant_of-self-else-is_bits c = written c.self.inside c.self.invariant c.self.view_is c.args.row c.requires.row c.self.inside.octets c.set_one.new.self _ c.set_one.ensures.set c.set_one.ensures.octets refl

pub returns-else-is_bits : goal.returns-else-is_bits
returns-else-is_bits c =
    written_seen c.self.inside c.self.invariant c.self.view_is c.args.row c.requires.row c.self.inside.octets c.set_one.new.self _ c.set_one.ensures.set c.set_one.ensures.octets refl
    ∙ ap (λ (r : List ℕ). with_row c.args.self.now c.args.row (set r c.args.column 1)) (own_octets c.self.inside c.self.invariant c.self.view_is c.args.row c.requires.row (c.if-is_bits.ensures.own refl))
