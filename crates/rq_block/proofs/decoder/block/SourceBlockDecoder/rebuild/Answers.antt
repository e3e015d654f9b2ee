use Rattle.std.proofs.Common.{sym, ◌∙◌}
use Rattle.std.specs.Prelude.{Result, Ok, Err, IfOk}
use Rattle.rq_block.specs.SourceBlockDecoder.{received_of}
use Rattle.rq_block.specs.Known.{rebuilt_symbol}
use Rattle.rq_block.proofs.Answered.{length-rebuilt, rebuilt_sized, rebuilt_block}
use Rattle.rq_block.proofs.decoder.block.SourceBlockDecoder.rebuild.Goals as goal

-- what holds of an answer by two facts of it
ok_of_both : {X Y : Type 0} (r : Result X Y) (P Q R : X → Type 0) → ((x : X) → P x → Q x → R x) → IfOk r P → IfOk r Q → IfOk r R
ok_of_both (Ok x) P Q R f p q = f x p q
ok_of_both (Err e) P Q R f p q = tt

pub block_of_symbols-requires-clause-symbols : goal.block_of_symbols-requires-clause-symbols
block_of_symbols-requires-clause-symbols c =
    let d = c.args.self.now in
    let slab = c.args.intermediate in
    rw (c.layout.ensures.config, c.layout.ensures.source_symbols)
    (λ e below. rebuilt_sized _ (rebuilt_symbol (received_of d) slab e) _ (c.in_ok-lost.ensures.each e below) (length-rebuilt (received_of d) slab e d.row.checked d.sized c.requires))

pub returns : goal.returns
returns c =
    let d = c.args.self.now in
    let made = rw (c.layout.ensures.config, c.layout.ensures.source_symbols) at c.block_of_symbols.ensures in
    ok_of_both c.block_of_symbols.result _ _ _
    (λ block long each. rebuilt_block (received_of d) c.args.intermediate block.items d.row.checked c.requires long (λ e below. sym (c.in_ok-lost.ensures.each e below) ∙ each e below))
    made.long made.each
