-- What the check leaves to show of `symbol_slab::SymbolSlab::add_places_to`.
use Rattle.std.proofs.Common.{length, ◌∙◌, arith}
use Rattle.rq_bytes.specs.SymbolSlab.{symbol_in}
use Rattle.rq_bytes.proofs.RowSums.{rows_long, rows_summed}
use Rattle.rq_bytes.proofs.SlabFacts.{holds_slab}
use Rattle.rq_bytes.proofs.SlabSums.{places_of, symbols_long}
use Rattle.rq_bytes.proofs.symbol_slab.SymbolSlab.add_places_to.Goals as goal

pub add_rows-requires : goal.add_rows-requires
add_rows-requires g c =
    let slab = c.args.self.now in
    let places = c.args.places.now in
    rows_long (λ r. r.now) (symbol_in slab) c.loop-i.rows places c.loop-i.i g.row.C c.loop-i.invariant.so_far (omega arith) c.requires.count (length c.args.row.now)
    (symbols_long (holds_slab c.self.inside slab c.self.view_is c.self.invariant) (length c.args.row.now) places c.requires.len (places_of c.self.inside slab c.self.view_is c.self.invariant places c.requires.places))

pub returns : goal.returns
returns g c = c.add_rows.ensures ∙ rows_summed (λ r. r.now) (symbol_in c.args.self.now) c.loop-i.rows c.args.places.now c.loop-i.i g.row.C c.loop-i.invariant.so_far (omega arith) c.requires.count c.args.row.now
