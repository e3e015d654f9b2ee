use Rattle.std.proofs.Common.{◌≡◌, ◌≤◌, All, length, map, sym, ap, subst, arith}
use Rattle.std.specs.List.{range_with_len}
use Rattle.std.proofs.lemmas.List.Elements.{All-map}
use Rattle.std.proofs.lemmas.List.FromFn.{length-map-range_with_len}
use Rattle.rq_bytes.specs.SymbolSlab.{Slab, symbol_in, symbols_in}
use Rattle.rq_standard.specs.Cutting.{symbol_of_block}
use Rattle.rq_standard.specs.Headline.{IsOnlyIntermediateColumn}
use Rattle.rq_standard.specs.declared.row.TableRow.{TableRow}
use Rattle.rq_standard.specs.TableRows.{intermediate_symbols}
use Rattle.rq_standard.proofs.StandingSteps.{length-symbol_of_block}
use Rattle.rq_block.proofs.encoder.block.SourceBlockEncoder.of_block.Goals as goal

pub invariant_of-result : goal.invariant_of-result
invariant_of-result c =
    let config = c.args.config.now in
    let count = c.from.result in
    let cut = symbol_of_block config count c.args.block.now in
    let source = c.in_ok-source.source in
    let slab = c.in_ok-intermediate.intermediate in
    let made = c.in_ok-intermediate.ensures in
    let row = sym c.row.ensures.row in
    let is : source.values ≡ map cut (range_with_len 0 count) = ap (λ (s : Slab). s.values) c.in_ok-source.ensures.symbols in
    let few : length source.values ≤ c.args.plan.now.row.numbers.extended_symbols =
    omega (arith, ap length is, length-map-range_with_len cut 0 count, c.from.ensures, c.source_symbol_count.ensures, c.args.plan.now.few) in
    let sized : All (λ x. length x ≡ config.symbol_size) (map cut (range_with_len 0 count)) =
    All-map (λ s. length s ≡ config.symbol_size) cut (range_with_len 0 count) (λ k d below. length-symbol_of_block config count c.args.block.now _) in
    record {
      nonsingular = c.row.ensures.nonsingular;
      unordered = ap (λ (s : Slab). s.order) c.in_ok-source.ensures.symbols;
      few = subst (λ (r : TableRow). length source.values ≤ r.extended_symbols) row few;
      sized = subst (λ xs. All (λ x. length x ≡ slab.symbol_size) xs) (sym is) (subst (λ n. All (λ x. length x ≡ n) (map cut (range_with_len 0 count))) (sym made.size) sized);
      enough = subst (λ (r : TableRow). intermediate_symbols r ≤ length (symbols_in slab)) row made.enough;
      solved = subst (λ xs. IsOnlyIntermediateColumn c.row.result.numbers slab.symbol_size xs (symbol_in slab)) (sym is)
          (subst (λ n. IsOnlyIntermediateColumn c.row.result.numbers n (map cut (range_with_len 0 count)) (symbol_in slab)) (sym made.size)
          (subst (λ (r : TableRow). IsOnlyIntermediateColumn r config.symbol_size (map cut (range_with_len 0 count)) (symbol_in slab)) row made.column));
    }
