-- What the check leaves to show of `entries::own_octets::OwnOctets::fill`.
use Rattle.std.proofs.Common.{List, [], ℕ, length, sym, ap, ◌∙◌, ◌≤◌, arith}
use Rattle.std.proofs.lemmas.List.{set-get_or}
use Rattle.rq_parts.specs.DenseOctetMatrix.{row_at, with_row}
use Rattle.rq_elimination.specs.InactiveEntries.{with_column_octets}
use Rattle.rq_elimination.proofs.OwnRows.{is_bits, kept_place, no_place, read, width_is, written}
use Rattle.rq_elimination.proofs.WithOctets.{length-octets, octets_of_none}
use Rattle.rq_elimination.proofs.entries.own_octets.OwnOctets.fill.Goals as goal

pub copy_columns-requires-clause-room : goal.copy_columns-requires-clause-room
copy_columns-requires-clause-room c = rw (c.get_mut-own.ensures.len ∙ width_is c.self.invariant c.self.view_is) c.requires.room

pub returns-in-Some : goal.returns-in-Some
returns-in-Some c =
    let is = kept_place c.args.row c.in-Some.place c.as_slice.ensures.value c.in-Some.ensures in
    let lent = c.get_mut-own in
    let other : List ℕ = row_at c.args.octets.now c.args.from in
    let columns = c.args.columns.now in
    let ws = c.copy_columns.new.own in
    let room : length columns ≤ length lent.result.now = rw (lent.ensures.len ∙ width_is c.self.invariant c.self.view_is) c.requires.room in
    let long = ap length c.copy_columns.ensures ∙ length-octets other columns lent.result.now room ∙ lent.ensures.len in
    let row = written c.self.invariant c.self.view_is c.args.row c.requires.row c.in-Some.place is _ ws long (lent.ensures.whole_symbol ws long) in
    record {
      filled = row.is ∙ ap (with_row c.args.self.now c.args.row) (
          c.copy_columns.ensures
          ∙ ap (with_column_octets other columns) (lent.ensures.symbol ∙ read c.self.invariant c.self.view_is c.args.row c.requires.row c.in-Some.place is));
      octets = row.octets c.are_octets.ensures;
    }

-- a row of no octets stays
pub returns-in_default-clause-filled : goal.returns-in_default-clause-filled
returns-in_default-clause-filled c =
    let now = c.args.self.now in
    let row = row_at now c.args.row in
    let none = no_place c.args.row c.as_slice.ensures.value (sym c.place_of.ensures ∙ c.in_default.is) in
    let empty = is_bits c.self.invariant c.self.view_is c.args.row c.requires.row none in
    sym (
    ap (with_row now c.args.row) (octets_of_none (row_at c.args.octets.now c.args.from) c.args.columns.now row empty (omega (arith, c.requires.room, c.requires.own)))
    ∙ ap (λ (rows : List (List ℕ)). record now { rows = rows }) (set-get_or now.rows c.args.row []))
