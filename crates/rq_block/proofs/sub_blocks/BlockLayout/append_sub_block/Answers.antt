use Rattle.std.proofs.Common.{◌+◌, ℕ, List, Option, [], sym, ap}
use Rattle.std.specs.Prelude.{slice_range, unwrap_or}
use Rattle.rq_block.specs.SourceSymbols.{source_symbol}
use Rattle.rq_block.proofs.Interleaving.{pieces_more}
use Rattle.rq_block.proofs.sub_blocks.BlockLayout.append_sub_block.Goals as goal

pub loop-e-preserved : goal.loop-e-preserved
loop-e-preserved c =
    let part = c.args.part in
    let cut = λ (xs : List ℕ). slice_range xs part.start (part.start + part.width) in
    pieces_more (λ e. cut (unwrap_or (source_symbol c.args.symbols.now e) [])) c.loop-e.e c.args.block.now.items c.loop-e.block.items c.extend_from_slice.new.self.items (cut c.symbol-symbol.result.now)
    c.loop-e.invariant c.in_ok-extend_from_slice.ensures.items (ap cut (sym (ap (λ (o : Option (List ℕ)). unwrap_or o []) c.symbol-symbol.ensures)))
