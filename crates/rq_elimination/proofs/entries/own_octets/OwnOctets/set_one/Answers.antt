-- What the check leaves to show of `entries::own_octets::OwnOctets::set_one`.
use Rattle.std.proofs.Common.{List, ℕ, set, sym, ap, ◌∙◌, arith}
use Rattle.std.proofs.lemmas.List.{length-set}
use Rattle.rq_parts.specs.DenseOctetMatrix.{with_row}
use Rattle.rq_elimination.proofs.OwnRows.{is_bits, kept_place, no_place, read, written}
use Rattle.rq_elimination.proofs.entries.own_octets.OwnOctets.set_one.Goals as goal

pub returns-in-Some : goal.returns-in-Some
returns-in-Some c =
    let is = kept_place c.args.row c.in-Some.place c.as_slice.ensures.value c.in-Some.ensures in
    let lent = c.get_mut-octets in
    let ws : List ℕ = set lent.result.now c.args.column 1 in
    let long = length-set lent.result.now c.args.column 1 ∙ lent.ensures.len in
    let row = written c.self.invariant c.self.view_is c.args.row c.requires.row c.in-Some.place is _ ws long (lent.ensures.whole_symbol ws long) in
    record {
      set = row.is ∙ ap (λ (r : List ℕ). with_row c.args.self.now c.args.row (set r c.args.column 1)) (lent.ensures.symbol ∙ read c.self.invariant c.self.view_is c.args.row c.requires.row c.in-Some.place is);
      octets = row.octets c.are_octets.ensures;
    }

-- a row of no octets has no column
pub returns-in_default-clause-set : goal.returns-in_default-clause-set
returns-in_default-clause-set c =
    let none = no_place c.args.row c.as_slice.ensures.value (sym c.place_of.ensures ∙ c.in_default.is) in
    let empty = is_bits c.self.invariant c.self.view_is c.args.row c.requires.row none in
    absurd (omega (arith, empty, c.requires.own, c.requires.column))
