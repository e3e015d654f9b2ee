-- What the check leaves to show of `entries::own_octets::OwnOctets::add_bits`.
use Rattle.std.proofs.Common.{List, ℕ, ap, ◌∙◌}
use Rattle.rq_parts.specs.DenseOctetMatrix.{with_row}
use Rattle.rq_standard.specs.Rows.{row_sum, row_multiple}
use Rattle.rq_bytes.specs.BinaryOctetVec.{octets_of_bits}
use Rattle.rq_elimination.proofs.OwnRows.{kept_place, read, width_is, written}
use Rattle.rq_elimination.proofs.entries.own_octets.OwnOctets.add_bits.Goals as goal

pub returns-in-Some : goal.returns-in-Some
returns-in-Some c =
    let is = kept_place c.args.row c.in-Some.place c.as_slice.ensures.value c.in-Some.ensures in
    let now = c.args.self.now in
    let bits = c.args.bits.now in
    let lent = c.get_mut-octets in
    let ws = c.add_bit_multiples.new.octets in
    let long = c.add_bit_multiples.auto.octets ∙ lent.ensures.len in
    let row = written c.self.invariant c.self.view_is c.args.row c.requires.row c.in-Some.place is _ ws long (lent.ensures.whole_symbol ws long) in
    record {
      sum = row.is ∙ ap (with_row now c.args.row) (
          c.add_bit_multiples.ensures
          ∙ ap (λ (n : ℕ). row_sum lent.result.now (row_multiple c.byte.result (octets_of_bits n bits))) (lent.ensures.len ∙ width_is c.self.invariant c.self.view_is)
          ∙ ap (λ (a : ℕ). row_sum lent.result.now (row_multiple a (octets_of_bits now.width bits))) c.byte.ensures
          ∙ ap (λ (r : List ℕ). row_sum r (row_multiple c.args.scalar.now (octets_of_bits now.width bits))) (lent.ensures.symbol ∙ read c.self.invariant c.self.view_is c.args.row c.requires.row c.in-Some.place is));
      octets = row.octets c.are_octets.ensures;
    }
