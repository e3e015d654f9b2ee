use Rattle.std.proofs.Common.{◌≡◌, ◌+◌, ◌-◌, ◌++◌, ap, ◌∙◌, arith}
use Rattle.std.specs.List.{flat_map, range_with_len}
use Rattle.rq_cast.proofs.SymbolDigests.{symbol, joined_next}
use Rattle.rq_cast.proofs.parts.cut_symbols.Goals as goal

pub loop-e-preserved : goal.loop-e-preserved
loop-e-preserved c =
    let f = symbol c.args.layout.now.config c.args.layout.now.source_symbols c.args.block.now in
    let n = c.loop-e.e - c.args.first in
    let here : c.args.first + n ≡ c.loop-e.e = omega (arith, c.loop-e.auto.e) in
    let next : n + 1 ≡ c.loop-e.e + 1 - c.args.first = omega (arith, c.loop-e.auto.e) in
    c.in_ok-append_source_symbol.ensures.symbol ∙ ap (λ xs. xs ++ f c.loop-e.e) c.loop-e.invariant
    ∙ joined_next f c.args.first n c.loop-e.e here ∙ ap (λ m. flat_map f (range_with_len c.args.first m)) next

pub returns : goal.returns
returns c =
    let f = symbol c.args.layout.now.config c.args.layout.now.source_symbols c.args.block.now in
    let all : c.loop-e.e - c.args.first ≡ c.args.end - c.args.first = omega (arith, c.loop-e.auto.e, c.loop-e.auto.e-end, c.loop-e-test.false, c.requires) in
    c.loop-e.invariant ∙ ap (λ m. flat_map f (range_with_len c.args.first m)) all
