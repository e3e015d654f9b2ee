-- What the check leaves to show of `entries::own_octets::OwnOctets::add_multiple`.
use Rattle.std.proofs.Common.{List, ℕ, ap, ◌∙◌}
use Rattle.rq_parts.specs.DenseOctetMatrix.{row_at, with_row}
use Rattle.rq_standard.specs.Rows.{row_sum, row_multiple}
use Rattle.rq_elimination.proofs.OwnRows.{kept_place, read, written}
use Rattle.rq_elimination.proofs.entries.own_octets.OwnOctets.add_multiple.Goals as goal

pub returns-in-Some-Some : goal.returns-in-Some-Some
returns-in-Some-Some c =
    let to = kept_place c.args.dest c.in-Some-Some.to c.as_slice-places.ensures.value c.in-Some-Some.ensures in
    let from = kept_place c.args.src c.in-Some-Some.from c.as_slice-places.ensures.value c.in-Some-Some.ensures' in
    let now = c.args.self.now in
    let scalar = c.args.scalar.now in
    let pair = c.get_pair_mut-sum in
    let ws = c.add_row_multiple.new.octets in
    let long = c.add_row_multiple.auto.octets ∙ pair.ensures.dest_len in
    let row = written c.self.invariant c.self.view_is c.args.dest c.requires.dest c.in-Some-Some.to to _ ws long (pair.ensures.whole_symbol ws long) in
    record {
      sum = row.is ∙ ap (with_row now c.args.dest) (
          c.add_row_multiple.ensures.sum
          ∙ ap (λ (r : List ℕ). row_sum r (row_multiple scalar pair.result.1.now)) (pair.ensures.dest ∙ read c.self.invariant c.self.view_is c.args.dest c.requires.dest c.in-Some-Some.to to)
          ∙ ap (λ (r : List ℕ). row_sum (row_at now c.args.dest) (row_multiple scalar r)) (pair.ensures.src ∙ read c.self.invariant c.self.view_is c.args.src c.requires.src c.in-Some-Some.from from));
      octets = row.octets c.are_octets.ensures;
    }
