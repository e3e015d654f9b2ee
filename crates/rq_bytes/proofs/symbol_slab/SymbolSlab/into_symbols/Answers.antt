-- What the check leaves to show of `symbol_slab::SymbolSlab::into_symbols`.
use Rattle.std.proofs.Common.{◌<◌, ◌++◌, [], ◌∷◌, List, ℕ, length, take, ap, sym, ◌∙◌, arith}
use Rattle.std.proofs.lemmas.List.{take_more}
use Rattle.rq_bytes.specs.SymbolSlab.{symbols_in}
use Rattle.rq_bytes.proofs.SlabFacts.{get_or-values_in}
use Rattle.rq_bytes.proofs.symbol_slab.SymbolSlab.into_symbols.Goals as goal

pub loop-i-preserved : goal.loop-i-preserved
loop-i-preserved c =
    let slab = c.args.self in
    let i = c.loop-i.i in
    let lt : i < length (symbols_in slab) = omega (arith, c.places-i-end.ensures) in
    c.in_ok-push.ensures.items
    ∙ ap (λ (xs : List (List ℕ)). xs ++ c.new.result ∷ []) c.loop-i.invariant
    ∙ ap (λ (x : List ℕ). take i (symbols_in slab) ++ x ∷ [])
    (c.new.ensures ∙ c.in_ok-from_slice.ensures.items ∙ c.get.ensures.symbol ∙ sym (get_or-values_in slab.values slab.order i lt))
    ∙ sym (take_more (symbols_in slab) i [] lt)
