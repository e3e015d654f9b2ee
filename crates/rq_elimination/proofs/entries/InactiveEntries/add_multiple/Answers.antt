-- What the check leaves to show of `entries::InactiveEntries::add_multiple`.
use Rattle.std.proofs.Common.{List, ℕ, length, refl, sym, ap, ◌∙◌, arith}
use Rattle.rq_parts.specs.DenseOctetMatrix.{row_at, with_row}
use Rattle.rq_standard.specs.Rows.{row_sum, row_multiple}
use Rattle.rq_bytes.specs.BinaryOctetVec.{octets_of_bits}
use Rattle.rq_elimination.proofs.EntryRows.{bits_place, bits_room, can_unpack, filled_long, filled_other, filled_place, filled_read, filled_width, filled_written, filled_written_seen, has_octets, own_octets, own_place, row_unpacked, sum_are, sum_seen}
use Rattle.rq_elimination.proofs.entries.InactiveEntries.add_multiple.Goals as goal

-- ---- both are bits

pub is_bits-requires : goal.is_bits-requires
is_bits-requires c = own_place c.self.inside c.self.invariant c.self.view_is c.args.dest c.requires.dest

pub is_bits-requires-then-is_bits : goal.is_bits-requires-then-is_bits
is_bits-requires-then-is_bits c = own_place c.self.inside c.self.invariant c.self.view_is c.args.src c.requires.src

pub add-requires-clause-dest : goal.add-requires-clause-dest
add-requires-clause-dest c = bits_place c.self.inside c.self.invariant c.self.view_is c.args.dest c.requires.dest

pub add-requires-clause-src : goal.add-requires-clause-src
add-requires-clause-src c = bits_place c.self.inside c.self.invariant c.self.view_is c.args.src c.requires.src

pub invariant_of-self : goal.invariant_of-self
invariant_of-self c = sum_are c.self.inside c.self.invariant c.self.view_is c.args.dest c.args.src c.requires.dest c.requires.src (c.if-is_bits.ensures.none refl) (c.if-is_bits-2.ensures.none refl) c.args.scalar.now (sym c.byte.ensures ∙ c.if-byte-eq1.true) c.add.new.self c.add.ensures

pub returns-then-is_bits-2-clause-ok : goal.returns-then-is_bits-2-clause-ok
returns-then-is_bits-2-clause-ok c = sum_seen c.self.inside c.self.invariant c.self.view_is c.args.dest c.args.src c.requires.dest c.requires.src (c.if-is_bits.ensures.none refl) (c.if-is_bits-2.ensures.none refl) c.args.scalar.now (sym c.byte.ensures ∙ c.if-byte-eq1.true) c.add.new.self c.add.ensures

pub returns-then-is_bits-2-clause-octets : goal.returns-then-is_bits-2-clause-octets
returns-then-is_bits-2-clause-octets c = has_octets c.self.inside.octets.width c.add.new.self c.self.inside.octets.rows (sum_are c.self.inside c.self.invariant c.self.view_is c.args.dest c.args.src c.requires.dest c.requires.src (c.if-is_bits.ensures.none refl) (c.if-is_bits-2.ensures.none refl) c.args.scalar.now (sym c.byte.ensures ∙ c.if-byte-eq1.true) c.add.new.self c.add.ensures)

-- ---- the row that takes gets octets

pub unpack_row-requires : goal.unpack_row-requires
unpack_row-requires c = can_unpack c.self.inside c.self.invariant c.self.view_is c.args.dest c.requires.dest

pub is_bits-requires-2 : goal.is_bits-requires-2
is_bits-requires-2 c = filled_place c.self.inside c.self.invariant c.self.view_is c.args.dest c.requires.dest c.unpack_row.new.self c.in_ok-unpack_row.ensures.row c.args.src (own_place c.self.inside c.self.invariant c.self.view_is c.args.src c.requires.src)

-- ---- bits are added

pub row-requires : goal.row-requires
row-requires c = bits_place c.self.inside c.self.invariant c.self.view_is c.args.src c.requires.src

pub add_bits-requires-clause-row : goal.add_bits-requires-clause-row
add_bits-requires-clause-row c = filled_place c.self.inside c.self.invariant c.self.view_is c.args.dest c.requires.dest c.unpack_row.new.self c.in_ok-unpack_row.ensures.row c.args.dest (own_place c.self.inside c.self.invariant c.self.view_is c.args.dest c.requires.dest)

pub add_bits-requires-clause-own : goal.add_bits-requires-clause-own
add_bits-requires-clause-own c = filled_long c.self.inside c.self.invariant c.self.view_is c.args.dest c.requires.dest c.unpack_row.new.self c.in_ok-unpack_row.ensures.row

pub add_bits-requires-clause-room : goal.add_bits-requires-clause-room
add_bits-requires-clause-room c = omega (arith, bits_room c.self.inside c.self.invariant c.self.view_is c.args.src c.requires.src, filled_width c.self.inside c.self.invariant c.self.view_is c.args.dest c.requires.dest c.unpack_row.new.self c.in_ok-unpack_row.ensures.row, ap length c.row.ensures)

pub invariant_of-self-then-is_bits-3 : goal.invariant_of-self-then-is_bits-3
invariant_of-self-then-is_bits-3 c = filled_written c.self.inside c.self.invariant c.self.view_is c.args.dest c.requires.dest c.unpack_row.new.self c.in_ok-unpack_row.ensures.row c.add_bits.new.self _ c.add_bits.ensures.sum c.add_bits.ensures.octets

pub returns-then-is_bits-3-clause-ok : goal.returns-then-is_bits-3-clause-ok
returns-then-is_bits-3-clause-ok c =
    let none = ap length (sym (filled_other c.self.inside c.self.invariant c.self.view_is c.args.dest c.requires.dest c.unpack_row.new.self c.in_ok-unpack_row.ensures.row c.args.src (λ same. c.requires.two (sym same)))) ∙ c.if-is_bits-3.ensures.none refl in
    filled_written_seen c.self.inside c.self.invariant c.self.view_is c.args.dest c.requires.dest c.unpack_row.new.self c.in_ok-unpack_row.ensures.row c.add_bits.new.self _ c.add_bits.ensures.sum c.add_bits.ensures.octets
    ∙ ap (λ (r : List ℕ). with_row c.args.self.now c.args.dest (row_sum r (row_multiple c.args.scalar.now (octets_of_bits c.unpack_row.new.self.width c.row.result.now)))) (filled_read c.self.inside c.self.invariant c.self.view_is c.args.dest c.requires.dest c.unpack_row.new.self c.in_ok-unpack_row.ensures.row)
    ∙ ap (λ (b : List ℕ). with_row c.args.self.now c.args.dest (row_sum (row_at c.args.self.now c.args.dest) (row_multiple c.args.scalar.now b))) (
    ap (λ n. octets_of_bits n c.row.result.now) (filled_width c.self.inside c.self.invariant c.self.view_is c.args.dest c.requires.dest c.unpack_row.new.self c.in_ok-unpack_row.ensures.row)
    ∙ ap (octets_of_bits c.self.inside.octets.width) c.row.ensures
    ∙ row_unpacked c.self.inside c.self.invariant c.self.view_is c.args.src c.requires.src none)

-- ---- octets are added

pub add_multiple-requires-clause-dest : goal.add_multiple-requires-clause-dest
add_multiple-requires-clause-dest c = filled_place c.self.inside c.self.invariant c.self.view_is c.args.dest c.requires.dest c.unpack_row.new.self c.in_ok-unpack_row.ensures.row c.args.dest (own_place c.self.inside c.self.invariant c.self.view_is c.args.dest c.requires.dest)

pub add_multiple-requires-clause-src : goal.add_multiple-requires-clause-src
add_multiple-requires-clause-src c = filled_place c.self.inside c.self.invariant c.self.view_is c.args.dest c.requires.dest c.unpack_row.new.self c.in_ok-unpack_row.ensures.row c.args.src (own_place c.self.inside c.self.invariant c.self.view_is c.args.src c.requires.src)

pub add_multiple-requires-clause-own : goal.add_multiple-requires-clause-own
add_multiple-requires-clause-own c = filled_long c.self.inside c.self.invariant c.self.view_is c.args.dest c.requires.dest c.unpack_row.new.self c.in_ok-unpack_row.ensures.row

pub invariant_of-self-else-is_bits-3 : goal.invariant_of-self-else-is_bits-3
invariant_of-self-else-is_bits-3 c = filled_written c.self.inside c.self.invariant c.self.view_is c.args.dest c.requires.dest c.unpack_row.new.self c.in_ok-unpack_row.ensures.row c.add_multiple.new.self _ c.add_multiple.ensures.sum c.add_multiple.ensures.octets

pub returns-else-is_bits-3-clause-ok : goal.returns-else-is_bits-3-clause-ok
returns-else-is_bits-3-clause-ok c =
    let other = filled_other c.self.inside c.self.invariant c.self.view_is c.args.dest c.requires.dest c.unpack_row.new.self c.in_ok-unpack_row.ensures.row c.args.src (λ same. c.requires.two (sym same)) in
    let some = ap length (sym other) ∙ c.if-is_bits-3.ensures.own refl ∙ filled_width c.self.inside c.self.invariant c.self.view_is c.args.dest c.requires.dest c.unpack_row.new.self c.in_ok-unpack_row.ensures.row in
    filled_written_seen c.self.inside c.self.invariant c.self.view_is c.args.dest c.requires.dest c.unpack_row.new.self c.in_ok-unpack_row.ensures.row c.add_multiple.new.self _ c.add_multiple.ensures.sum c.add_multiple.ensures.octets
    ∙ ap (λ (r : List ℕ). with_row c.args.self.now c.args.dest (row_sum r (row_multiple c.args.scalar.now (row_at c.unpack_row.new.self c.args.src)))) (filled_read c.self.inside c.self.invariant c.self.view_is c.args.dest c.requires.dest c.unpack_row.new.self c.in_ok-unpack_row.ensures.row)
    ∙ ap (λ (r : List ℕ). with_row c.args.self.now c.args.dest (row_sum (row_at c.args.self.now c.args.dest) (row_multiple c.args.scalar.now r))) (other ∙ own_octets c.self.inside c.self.invariant c.self.view_is c.args.src c.requires.src some)

-- ---- all are octets

pub returns-then-is_bits-3-clause-octets : goal.returns-then-is_bits-3-clause-octets
returns-then-is_bits-3-clause-octets c = has_octets c.add_bits.new.self.width c.self.inside.bits c.add_bits.new.self.rows (filled_written c.self.inside c.self.invariant c.self.view_is c.args.dest c.requires.dest c.unpack_row.new.self c.in_ok-unpack_row.ensures.row c.add_bits.new.self _ c.add_bits.ensures.sum c.add_bits.ensures.octets)

pub returns-else-is_bits-3-clause-octets : goal.returns-else-is_bits-3-clause-octets
returns-else-is_bits-3-clause-octets c = has_octets c.add_multiple.new.self.width c.self.inside.bits c.add_multiple.new.self.rows (filled_written c.self.inside c.self.invariant c.self.view_is c.args.dest c.requires.dest c.unpack_row.new.self c.in_ok-unpack_row.ensures.row c.add_multiple.new.self _ c.add_multiple.ensures.sum c.add_multiple.ensures.octets)
