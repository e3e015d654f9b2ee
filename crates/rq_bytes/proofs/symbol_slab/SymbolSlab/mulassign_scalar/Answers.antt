-- What the check leaves to show of `symbol_slab::SymbolSlab::mulassign_scalar`.
use Rattle.std.proofs.Common.{List, ℕ, set, sym, ap, ◌∙◌}
use Rattle.rq_algebra.specs.Operations.{step, meant_at}
use Rattle.rq_standard.proofs.RowSymbols.{scale-rows}
use Rattle.rq_bytes.specs.SymbolSlab.{symbol_in}
use Rattle.rq_bytes.proofs.symbol_slab.SymbolSlab.mulassign_scalar.Goals as goal

pub returns : goal.returns
unfolding step
returns c =
    let slab = c.args.self.now in
    let lent = c.get_mut in
    let scalar = c.args.scalar.now in
    lent.ensures.whole_symbol c.multiply_row.new.octets (c.multiply_row.auto.octets ∙ lent.ensures.len)
    ∙ ap (λ (xs : List ℕ). record slab { values = set slab.values (meant_at slab.order c.args.dest) xs }) (
    rw (c.multiply_row.ensures.multiple, lent.ensures.symbol) (sym (scale-rows scalar (symbol_in slab c.args.dest) c.multiply_row.ensures.octet)))
