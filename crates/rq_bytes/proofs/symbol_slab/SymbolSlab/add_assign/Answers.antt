-- What the check leaves to show of `symbol_slab::SymbolSlab::add_assign`.
use Rattle.std.proofs.Common.{◌≡◌, List, ℕ, length, set, sym, ap, ◌∙◌}
use Rattle.rq_algebra.specs.Operations.{step, meant_at}
use Rattle.rq_standard.proofs.RowSymbols.{add_symbols-rows}
use Rattle.rq_bytes.specs.SymbolSlab.{symbol_in}
use Rattle.rq_bytes.proofs.symbol_slab.SymbolSlab.add_assign.Goals as goal

pub returns : goal.returns
unfolding step
returns c =
    let slab = c.args.self.now in
    let pair = c.get_pair_mut-sum in
    let x = symbol_in slab c.args.dest in
    let y = symbol_in slab c.args.src in
    let as_long : length y ≡ length x = ap length (sym pair.ensures.src) ∙ pair.ensures.src_len ∙ sym pair.ensures.dest_len ∙ ap length pair.ensures.dest in
    pair.ensures.whole_symbol c.add_assign.new.octets (c.add_assign.auto.octets ∙ pair.ensures.dest_len)
    ∙ ap (λ (xs : List ℕ). record slab { values = set slab.values (meant_at slab.order c.args.dest) xs }) (
    rw (c.add_assign.ensures, pair.ensures.dest, pair.ensures.src) (sym (add_symbols-rows x y as_long)))
