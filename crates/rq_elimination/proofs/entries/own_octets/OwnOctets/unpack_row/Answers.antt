-- What the check leaves to show of `entries::own_octets::OwnOctets::unpack_row`.
use Rattle.std.proofs.Common.{List, ℕ, sym, ap, ◌∙◌}
use Rattle.std.proofs.lemmas.List.{get_or_default}
use Rattle.rq_parts.specs.DenseOctetMatrix.{row_at, with_row}
use Rattle.rq_bytes.specs.BinaryOctetVec.{octets_of_bits}
use Rattle.rq_bytes.proofs.PackedRows.{length-octets_of_bits}
use Rattle.rq_elimination.specs.InactiveEntries.{entry_row}
use Rattle.rq_elimination.proofs.EntryRows.{row_of_none}
use Rattle.rq_elimination.proofs.OwnRows.{in_places, is_bits, placed_next, seen_next, width_is}
use Rattle.rq_elimination.proofs.entries.own_octets.OwnOctets.unpack_row.Goals as goal

pub invariant_of-self-then-index-eq0 : goal.invariant_of-self-then-index-eq0
invariant_of-self-then-index-eq0 c =
    let e = c.self.inside in
    let bits = c.row.result.now in
    let size = e.rows.symbol_size in
    let none = sym (get_or_default e.places.items c.args.row c.index.result.now 0 (in_places c.self.invariant c.self.view_is c.args.row c.requires.row)) ∙ sym c.index.ensures ∙ c.if-index-eq0.true in
    placed_next c.self.invariant c.self.view_is c.args.row c.requires.row none c.push_bits.new.rows (octets_of_bits size bits) (length-octets_of_bits size bits) c.in_ok-push_bits.ensures.ok c.len.result c.len.ensures.count

pub returns-in_ok-push_bits-clause-row : goal.returns-in_ok-push_bits-clause-row
returns-in_ok-push_bits-clause-row c =
    let e = c.self.inside in
    let now = c.args.self.now in
    let bits = c.row.result.now in
    let size = e.rows.symbol_size in
    let row = row_at now c.args.row in
    let none = sym (get_or_default e.places.items c.args.row c.index.result.now 0 (in_places c.self.invariant c.self.view_is c.args.row c.requires.row)) ∙ sym c.index.ensures ∙ c.if-index-eq0.true in
    seen_next c.self.invariant c.self.view_is c.args.row c.requires.row none c.push_bits.new.rows (octets_of_bits size bits) (length-octets_of_bits size bits) c.in_ok-push_bits.ensures.ok c.len.result c.len.ensures.count
    ∙ ap (with_row now c.args.row) (ap (λ n. octets_of_bits n bits) (width_is c.self.invariant c.self.view_is) ∙ sym (row_of_none now.width bits row (is_bits c.self.invariant c.self.view_is c.args.row c.requires.row none)))
    ∙ ap (λ (b : List ℕ). with_row now c.args.row (entry_row now.width b row)) c.row.ensures
