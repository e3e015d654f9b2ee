-- What the check leaves to show of `entries::own_octets::OwnOctets::multiply`.
use Rattle.std.proofs.Common.{ap, ◌∙◌}
use Rattle.rq_parts.specs.DenseOctetMatrix.{with_row}
use Rattle.rq_standard.specs.Rows.{row_multiple}
use Rattle.rq_elimination.proofs.OwnRows.{kept_place, read, written}
use Rattle.rq_elimination.proofs.entries.own_octets.OwnOctets.multiply.Goals as goal

pub returns-in-Some : goal.returns-in-Some
returns-in-Some c =
    let is = kept_place c.args.row c.in-Some.place c.as_slice.ensures.value c.in-Some.ensures in
    let lent = c.get_mut-octets in
    let ws = c.multiply_row.new.octets in
    let long = c.multiply_row.auto.octets ∙ lent.ensures.len in
    let row = written c.self.invariant c.self.view_is c.args.row c.requires.row c.in-Some.place is _ ws long (lent.ensures.whole_symbol ws long) in
    record {
      multiple = row.is ∙ ap (with_row c.args.self.now c.args.row) (c.multiply_row.ensures.multiple ∙ ap (row_multiple c.args.scalar.now) (lent.ensures.symbol ∙ read c.self.invariant c.self.view_is c.args.row c.requires.row c.in-Some.place is));
      octets = row.octets c.are_octets.ensures;
    }
