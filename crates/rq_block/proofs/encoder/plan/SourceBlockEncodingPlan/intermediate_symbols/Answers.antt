use Rattle.std.proofs.Common.{◌≡◌, ◌≤◌, length, None, sym, ap, ◌∙◌, subst, arith}
use Rattle.std.proofs.lemmas.List.FromFn.{length-map-range_with_len}
use Rattle.rq_algebra.specs.Operations.{AreAllowed}
use Rattle.rq_bytes.specs.SymbolSlab.{Slab, after_all, symbol_in, symbols_in}
use Rattle.rq_operations.specs.RecordedOperations.{operations_of}
use Rattle.rq_standard.specs.Cutting.{symbol_of_block}
use Rattle.rq_standard.specs.Headline.{IsOnlyIntermediateColumn}
use Rattle.rq_standard.specs.TableRows.{intermediate_symbols}
use Rattle.rq_block.specs.BlockLayout.{cut_by}
use Rattle.rq_block.specs.Planned.{planned_slab}
use Rattle.rq_block.proofs.Interleaving.{symbols_by}
use Rattle.rq_block.proofs.Intermediates.{count_source, length-source_values}
use Rattle.rq_block.proofs.encoder.plan.SourceBlockEncodingPlan.intermediate_symbols.Goals as goal
use Rattle.rq_block.proofs.encoder.plan.SourceBlockEncodingPlan.intermediate_symbols.Goals.{In_ok-symbols, In_ok-replay}

module _ (c : In_ok-symbols) where
  fits : length (cut_by c.args.layout.now c.args.block.now) ≤ c.args.self.now.row.numbers.extended_symbols
  fits =
      let layout = c.args.layout.now in
      omega (arith, c.requires.few, length-map-range_with_len (symbol_of_block layout.config layout.source_symbols c.args.block.now) 0 layout.source_symbols)

module _ (c : In_ok-replay) where
  made : c.replay.new.symbols ≡ planned_slab c.args.self.now.row.numbers (operations_of c.args.self.now.operations) c.args.layout.now.config.symbol_size (cut_by c.args.layout.now c.args.block.now)
  made = c.in_ok-replay.ensures.ok ∙ ap (λ (s : Slab). after_all (operations_of c.args.self.now.operations) s) c.in_ok-symbols.ensures

pub replay-requires : goal.replay-requires
replay-requires c =
    let plan = c.args.self.now in
    let row = plan.row.numbers in
    let operations = operations_of plan.operations in
    let layout = c.args.layout.now in
    let source = cut_by layout c.args.block.now in
    let many = length-source_values row layout.config.symbol_size source (fits (goal.at.replay-requires c).In_ok-symbols) ∙ count_source row in
    subst (λ (s : Slab). AreAllowed (length s.values) s.order operations) (sym c.in_ok-symbols.ensures) (subst (λ n. AreAllowed n None operations) (sym many) plan.allowed)

pub returns-clause-enough : goal.returns-clause-enough
returns-clause-enough c =
    let plan = c.args.self.now in
    let layout = c.args.layout.now in
    subst (λ (s : Slab). intermediate_symbols plan.row.numbers ≤ length (symbols_in s)) (sym (made c))
    (plan.finds.enough layout.config.symbol_size (cut_by layout c.args.block.now) (fits (goal.at.returns-clause-enough c).In_ok-symbols))

pub returns-clause-column : goal.returns-clause-column
returns-clause-column c =
    let plan = c.args.self.now in
    let layout = c.args.layout.now in
    let source = cut_by layout c.args.block.now in
    let size = layout.config.symbol_size in
    subst (λ (s : Slab). IsOnlyIntermediateColumn plan.row.numbers size source (symbol_in s)) (sym (made c))
    (plan.finds.column size source (fits (goal.at.returns-clause-column c).In_ok-symbols) (symbols_by layout c.args.block.now (λ i. omega (arith, (c.type_inv.block i).fits))))
