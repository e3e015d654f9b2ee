-- What the check leaves to show of `symbol_slab::SymbolSlab::fma`.
use Rattle.std.proofs.Common.{◌≡◌, List, ℕ, length, map, set, sym, ap, ◌∙◌}
use Rattle.std.proofs.lemmas.List.{length-map}
use Rattle.rq_algebra.specs.Operations.{step, meant_at}
use Rattle.rq_standard.specs.OctetField.{octets}
use Rattle.rq_standard.proofs.RowSymbols.{add_symbols-rows, scale-rows}
use Rattle.rq_bytes.specs.SymbolSlab.{symbol_in}
use Rattle.rq_bytes.proofs.symbol_slab.SymbolSlab.fma.Goals as goal

pub returns : goal.returns
unfolding step
returns c =
    let slab = c.args.self.now in
    let pair = c.get_pair_mut-dest in
    let scalar = c.args.scalar.now in
    let x = symbol_in slab c.args.dest in
    let y = symbol_in slab c.args.src in
    let as_long : length (map (octets.mul scalar) y) ≡ length x =
    length-map y (octets.mul scalar) ∙ ap length (sym pair.ensures.src) ∙ pair.ensures.src_len ∙ sym pair.ensures.dest_len ∙ ap length pair.ensures.dest in
    pair.ensures.whole_symbol c.add_row_multiple.new.octets (c.add_row_multiple.auto.octets ∙ pair.ensures.dest_len)
    ∙ ap (λ (xs : List ℕ). record slab { values = set slab.values (meant_at slab.order c.args.dest) xs }) (
    rw (c.add_row_multiple.ensures.sum, pair.ensures.dest, pair.ensures.src, ← scale-rows scalar y c.add_row_multiple.ensures.octet)
    (sym (add_symbols-rows x (map (octets.mul scalar) y) as_long)))
