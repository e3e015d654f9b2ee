use Rattle.std.proofs.Common.{◌≡◌, ◌+◌, ◌-◌, ◌++◌, length, replicate, ap, ◌∙◌, arith}
use Rattle.std.proofs.lemmas.Result.{IfOk-weaker}
use Rattle.rq_bytes.specs.SymbolSlab.{slab_of}
use Rattle.rq_standard.specs.Equations.{zero_symbol}
use Rattle.rq_block.specs.BlockLayout.{cut_by}
use Rattle.rq_block.proofs.encoder.plan.source_values.Goals as goal

pub returns : goal.returns
returns c =
    let row = c.args.row.now.numbers in
    let layout = c.args.layout.now in
    let source = cut_by layout c.args.block.now in
    let size = layout.config.symbol_size in
    let precode_rows = row.ldpc_symbols + row.hdpc_symbols in
    let count = c.intermediate_symbols.result in
    let rest : count - precode_rows ≡ row.extended_symbols = omega (arith, c.intermediate_symbols.ensures.value) in
    IfOk-weaker c.symbols_among_zeros.result _ _
    (λ slab is. is
    ∙ ap (λ f. slab_of size (replicate f (zero_symbol size) ++ (source ++ replicate (count - f - length source) (zero_symbol size)))) c.precode_rows.ensures.value
    ∙ ap (λ k. slab_of size (replicate precode_rows (zero_symbol size) ++ (source ++ replicate (k - length source) (zero_symbol size)))) rest)
    c.symbols_among_zeros.ensures
