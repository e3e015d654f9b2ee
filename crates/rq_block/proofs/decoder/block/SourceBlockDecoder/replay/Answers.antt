use Rattle.std.proofs.Common.{◌≡◌, ◌+◌, ℕ, List, None, length, refl, sym, ap, ◌∙◌, subst, inr, arith}
use Rattle.rq_algebra.specs.Operations.{AreAllowed}
use Rattle.rq_algebra.specs.Symbols.{AreSymbols, IsSymbolColumn}
use Rattle.rq_bytes.specs.SymbolSlab.{Slab, symbol_in}
use Rattle.rq_operations.specs.RecordedOperations.{operations_of}
use Rattle.rq_standard.specs.OctetField.{octets}
use Rattle.rq_standard.specs.TableRows.{intermediate_symbols}
use Rattle.rq_block.specs.BlockSolutions.{IsBlockSolution}
use Rattle.rq_block.specs.SourceBlockDecoder.{received_of}
use Rattle.rq_block.proofs.Listing.{length-known_values}
use Rattle.rq_block.proofs.ReceivedEquations.{IsHeldIn, received_ids, received_values, held_by_decoder}
use Rattle.rq_block.proofs.ReceivedSolutions.{solution_of_values, received_solution, received_contradiction}
use Rattle.rq_block.proofs.BlockOutcomes.{solution_found}
use Rattle.rq_block.proofs.decoder.block.SourceBlockDecoder.replay.Goals as goal
use Rattle.rq_block.proofs.decoder.block.SourceBlockDecoder.replay.Goals.{After-len-symbols, In_ok-replay}

-- a value for each equation
module _ (c : After-len-symbols) where
  count : length c.in_ok-values.values.values ≡ c.args.solution.precode_rows + length (received_ids (received_of c.args.self.now) c.args.self.now.received)
  count =
      let d = c.args.self.now in
      ap (λ (s : Slab). length s.values) c.in_ok-values.ensures ∙ length-known_values d.row.numbers d.source_symbols c.args.solution.precode_rows c.symbol_size.result d.received.entries

pub known_symbol_values-requires-clause-sized : goal.known_symbol_values-requires-clause-sized
known_symbol_values-requires-clause-sized c = λ e x is. c.args.self.now.sized e x is ∙ sym c.symbol_size.ensures.value

pub known_symbol_values-requires-clause-few_symbols : goal.known_symbol_values-requires-clause-few_symbols
known_symbol_values-requires-clause-few_symbols c = omega (arith, c.requires.few, c.args.self.now.fits, c.args.self.now.row.checked.few_columns)

pub replay-requires : goal.replay-requires
replay-requires c =
    let values = c.in_ok-values.values in
    let operations = operations_of c.args.solution.operations in
    subst (λ o. AreAllowed (length values.values) o operations) (sym (ap (λ (s : Slab). s.order) c.in_ok-values.ensures))
    (subst (λ n. AreAllowed n None operations) (sym (count (goal.at.replay-requires c).After-len-symbols)) c.requires.finds.allowed)

-- what the operations find
module _ (c : In_ok-replay) where
  abbrev FoundFrom : ℕ → List (List ℕ) → Type 0
  FoundFrom size values = IsBlockSolution c.args.self.now.row.numbers c.args.solution.precode_rows (received_ids (received_of c.args.self.now) c.args.self.now.received) size values c.replay.new.symbols

  found : FoundFrom c.in_ok-values.values.symbol_size c.in_ok-values.values.values
  found =
      let values = c.in_ok-values.values in
      let counted = count (goal.at.In_ok-replay c).After-len-symbols in
      let are = subst (λ n. AreSymbols octets values.symbol_size n values.values) (c.len-symbols.ensures.count ∙ counted) c.len-symbols.ensures.symbols in
      solution_found c.args.self.now.row.numbers _ c.args.solution values c.replay.new.symbols c.requires are (ap (λ (s : Slab). s.order) c.in_ok-values.ensures) c.in_ok-replay.ensures.ok

  held : IsHeldIn (received_of c.args.self.now) c.args.self.now.received
  held = held_by_decoder c.args.self.now c.len-count.ensures.ordered

  -- of what was received
  found_received : FoundFrom c.args.self.now.config.symbol_size (received_values (received_of c.args.self.now) c.args.self.now.received c.args.solution.precode_rows)
  found_received =
      let d = c.args.self.now in
      solution_of_values (received_of d) d.received held c.args.solution.precode_rows c.symbol_size.result c.in_ok-values.values c.replay.new.symbols c.symbol_size.ensures.value c.in_ok-values.ensures found

pub solves_all-requires : goal.solves_all-requires
solves_all-requires c =
    let s = found (goal.at.solves_all-requires c).In_ok-replay in
    record {
      enough = s.enough;
      symbols = subst (λ n. IsSymbolColumn octets n (intermediate_symbols c.args.self.now.row.numbers) (symbol_in c.replay.new.symbols)) (sym s.size_is) s.symbols;
    }

pub returns-then-branch-clause-solved : goal.returns-then-branch-clause-solved
returns-then-branch-clause-solved c =
    let d = c.args.self.now in
    let at = (goal.at.returns-then-branch-clause-solved c).In_ok-replay in
    received_solution (received_of d) d.received (held at) d.sized c.args.solution.precode_rows c.requires.ldpc c.requires.few c.replay.new.symbols (found_received at) (c.in_ok-solves_all.ensures.0 c.if-branch.true)

pub returns-clause-unanswered : goal.returns-clause-unanswered
returns-clause-unanswered c =
    let d = c.args.self.now in
    let at = (goal.at.returns-clause-unanswered c).In_ok-replay in
    inr (
      refl,
      received_contradiction (received_of d) d.received (held at) d.sized c.args.solution.precode_rows c.requires.ldpc c.requires.few c.replay.new.symbols (found_received at) (λ fit. absurd (cc (sym c.if-branch.false ∙ c.in_ok-solves_all.ensures.1 fit))),
    )
