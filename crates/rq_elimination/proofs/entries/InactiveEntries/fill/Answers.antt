-- What the check leaves to show of `entries::InactiveEntries::fill`.
use Rattle.std.proofs.Common.{List, ℕ, ap, ◌∙◌}
use Rattle.rq_parts.specs.DenseOctetMatrix.{row_at, with_row}
use Rattle.rq_elimination.specs.InactiveEntries.{with_column_octets}
use Rattle.rq_elimination.proofs.EntryRows.{can_unpack, filled_long, filled_place, filled_read, filled_written, filled_written_seen, has_octets, own_place}
use Rattle.rq_elimination.proofs.entries.InactiveEntries.fill.Goals as goal

pub unpack_row-requires : goal.unpack_row-requires
unpack_row-requires c = can_unpack c.self.inside c.self.invariant c.self.view_is c.args.row c.requires.row

pub fill-requires-clause-row : goal.fill-requires-clause-row
fill-requires-clause-row c = filled_place c.self.inside c.self.invariant c.self.view_is c.args.row c.requires.row c.unpack_row.new.self c.in_ok-unpack_row.ensures.row c.args.row (own_place c.self.inside c.self.invariant c.self.view_is c.args.row c.requires.row)

pub fill-requires-clause-own : goal.fill-requires-clause-own
fill-requires-clause-own c = filled_long c.self.inside c.self.invariant c.self.view_is c.args.row c.requires.row c.unpack_row.new.self c.in_ok-unpack_row.ensures.row

pub invariant_of-self-2 : goal.invariant_of-self-2
invariant_of-self-2 c = filled_written c.self.inside c.self.invariant c.self.view_is c.args.row c.requires.row c.unpack_row.new.self c.in_ok-unpack_row.ensures.row c.fill.new.self _ c.fill.ensures.filled c.fill.ensures.octets

pub returns-clause-ok : goal.returns-clause-ok
returns-clause-ok c =
    filled_written_seen c.self.inside c.self.invariant c.self.view_is c.args.row c.requires.row c.unpack_row.new.self c.in_ok-unpack_row.ensures.row c.fill.new.self _ c.fill.ensures.filled c.fill.ensures.octets
    ∙ ap (λ (r : List ℕ). with_row c.args.self.now c.args.row (with_column_octets (row_at c.args.octets.now c.args.from) c.args.columns.now r)) (filled_read c.self.inside c.self.invariant c.self.view_is c.args.row c.requires.row c.unpack_row.new.self c.in_ok-unpack_row.ensures.row)

pub returns-clause-octets : goal.returns-clause-octets
returns-clause-octets c = has_octets c.fill.new.self.width c.self.inside.bits c.fill.new.self.rows (filled_written c.self.inside c.self.invariant c.self.view_is c.args.row c.requires.row c.unpack_row.new.self c.in_ok-unpack_row.ensures.row c.fill.new.self _ c.fill.ensures.filled c.fill.ensures.octets)
