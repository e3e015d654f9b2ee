-- What the check leaves to show of `symbol_slab::SymbolSlab::double_and_add`.
use Rattle.std.proofs.Common.{◌≡◌, arith, length, map, sym, ap, ◌∙◌}
use Rattle.std.proofs.lemmas.List.{length-map}
use Rattle.rq_standard.specs.OctetField.{octets}
use Rattle.rq_standard.proofs.RowSymbols.{add_symbols-rows, scale-rows}
use Rattle.rq_bytes.specs.SymbolSlab.{symbol_in}
use Rattle.rq_bytes.proofs.SlabSums.{with_symbol, scaled_and_added}
use Rattle.rq_bytes.proofs.symbol_slab.SymbolSlab.double_and_add.Goals as goal

pub returns : goal.returns
returns c =
    let slab = c.args.self.now in
    let pair = c.get_pair_mut-dest in
    let x = symbol_in slab c.args.dest in
    let y = symbol_in slab c.args.src in
    let doubled = map (octets.mul 2) x in
    let as_long : length y ≡ length doubled =
    ap length (sym pair.ensures.src) ∙ pair.ensures.src_len ∙ sym pair.ensures.dest_len ∙ ap length pair.ensures.dest ∙ sym (length-map x (octets.mul 2)) in
    pair.ensures.whole_symbol c.double_and_add.new.octets (c.double_and_add.auto.octets ∙ pair.ensures.dest_len)
    ∙ ap (with_symbol slab c.args.dest) (
    rw (c.double_and_add.ensures, pair.ensures.dest, pair.ensures.src, ← scale-rows 2 x (omega arith)) (sym (add_symbols-rows doubled y as_long)))
    ∙ sym (scaled_and_added slab c.args.dest 2 c.args.src c.requires.2)
