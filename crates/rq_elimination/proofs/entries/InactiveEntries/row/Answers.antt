-- What the check leaves to show of `entries::InactiveEntries::row`.
use Rattle.std.proofs.Common.{refl, sym, ap, ◌∙◌, length, arith}
use Rattle.rq_bytes.specs.BinaryOctetVec.{octets_of_bits}
use Rattle.rq_elimination.proofs.EntryRows.{bits_place, bits_room, own_octets, own_place, row_unpacked, width_is}
use Rattle.rq_elimination.proofs.entries.InactiveEntries.row.Goals as goal

pub is_bits-requires : goal.is_bits-requires
is_bits-requires c = own_place c.self.inside c.self.invariant c.self.view_is c.args.row c.requires

pub row-requires : goal.row-requires
row-requires c = bits_place c.self.inside c.self.invariant c.self.view_is c.args.row c.requires

pub row-requires-else-is_bits-clause-row : goal.row-requires-else-is_bits-clause-row
row-requires-else-is_bits-clause-row c = own_place c.self.inside c.self.invariant c.self.view_is c.args.row c.requires

pub returns-then-is_bits-clause-octets : goal.returns-then-is_bits-clause-octets
returns-then-is_bits-clause-octets c =
    let bits = c.row.result.now in
    ap (λ n. octets_of_bits n bits) (sym (width_is c.self.inside c.self.invariant c.self.view_is))
    ∙ ap (octets_of_bits c.self.inside.octets.width) c.row.ensures
    ∙ row_unpacked c.self.inside c.self.invariant c.self.view_is c.args.row c.requires (c.if-is_bits.ensures.none refl)

pub returns-then-is_bits-clause-width : goal.returns-then-is_bits-clause-width
returns-then-is_bits-clause-width c = omega (arith, bits_room c.self.inside c.self.invariant c.self.view_is c.args.row c.requires, ap length c.row.ensures, width_is c.self.inside c.self.invariant c.self.view_is)

pub returns-else-is_bits-clause-octets : goal.returns-else-is_bits-clause-octets
returns-else-is_bits-clause-octets c = c.row-else-is_bits.ensures ∙ own_octets c.self.inside c.self.invariant c.self.view_is c.args.row c.requires (c.if-is_bits.ensures.own refl)

pub returns-else-is_bits-clause-width : goal.returns-else-is_bits-clause-width
returns-else-is_bits-clause-width c = ap length c.row-else-is_bits.ensures ∙ c.if-is_bits.ensures.own refl ∙ width_is c.self.inside c.self.invariant c.self.view_is
