-- What the check leaves to show of `symbol_slab::SymbolSlab::with_zeros`.
use Rattle.std.proofs.Common.{List, ℕ, ap, sym, ◌∙◌, Ok}
use Rattle.rq_bytes.specs.Ranges.{cut}
use Rattle.rq_bytes.specs.SymbolSlab.{slab_of}
use Rattle.rq_bytes.proofs.Cuts.{cut-replicate}
use Rattle.rq_bytes.proofs.symbol_slab.SymbolSlab.with_zeros.Goals as goal

pub returns : goal.returns
returns c =
    let n = c.args.count in
    let s = c.args.symbol_size in
    ap (λ (values : List (List ℕ)). Ok (slab_of s values)) (sym (ap (cut n s) c.in_ok-zeros.ensures ∙ cut-replicate n s 0))
