use Rattle.std.proofs.Common.{◌≡◌, ℕ, ◌/◌, length, replicate, sym, ap, ◌∙◌, arith}
use Rattle.std.proofs.lemmas.List.{length-replicate}
use Rattle.rq_bytes.specs.Ranges.{cut, with_range}
use Rattle.rq_bytes.specs.SymbolSlab.{Slab, slab_of}
use Rattle.rq_parts.proofs.MemoryAlone.{ok_past}
use Rattle.rq_base.proofs.Accepted.{same_ok}
use Rattle.rq_block.proofs.OctetSymbols.{one_by_one-cut}
use Rattle.rq_block.proofs.decoder.columns.octet_symbols.Goals as goal

pub returns : goal.returns
returns c =
    let xs = c.args.column.now in
    let count = length xs in
    let zeros = replicate count (replicate {A = ℕ} 1 0) in
    let answered = ok_past _ _ c.with_zeros.result c.in_ok-symbols.ensures.variant c.in_ok-symbols.ensures.cases in
    let old : c.in_ok-symbols.symbols ≡ slab_of 1 zeros = sym (same_ok _ c.in_ok-symbols.symbols (rw answered at c.with_zeros.ensures)) in
    c.copy_block_from.ensures ∙ ap (λ (s : Slab). let t : Slab = record s { values = with_range s.values 0 (cut (count / s.symbol_size) s.symbol_size xs) } in t) old ∙ ap (slab_of 1) (one_by_one-cut zeros xs (count / 1) (omega arith) (length-replicate count (replicate {A = ℕ} 1 0) ∙ omega arith))
