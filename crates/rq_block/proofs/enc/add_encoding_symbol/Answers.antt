use Rattle.std.proofs.Common.{◌≡◌, ℕ, [], ◌++◌, ◌<◌, length, take, All, sym, ap, ◌∙◌, subst, arith}
use Rattle.std.proofs.lemmas.List.{length-replicate}
use Rattle.std.proofs.lemmas.List.Elements.{All-weaker}
use Rattle.rq_bytes.specs.SymbolSlab.{HasPlace, symbol_in, with_symbols_added}
use Rattle.rq_standard.specs.Equations.{row_indices}
use Rattle.rq_standard.specs.TableRows.{intermediate_symbols}
use Rattle.rq_block.proofs.Summing.{place_of_slab, nothing_summed, several_summed, length-several, All-front, All-back, all_summed}
use Rattle.rq_block.proofs.enc.add_encoding_symbol.Goals as goal

pub loop-count-init : goal.loop-count-init
loop-count-init c =
    let slab = c.args.intermediate.now in
    let first = c.next_terms-count in
    let zeros = c.requires.zeros in
    record {
      room = first.ensures.room;
      all = first.ensures.all;
      sums = nothing_summed slab.symbol_size (row_indices c.args.row.now.numbers c.args.internal_symbol_id) (take first.result first.new.terms ++ first.new.indices) (symbol_in slab) c.args.symbol.now
          (sym first.ensures.listed ∙ c.of_id-indices.ensures.value) zeros;
      below = subst (All (λ p. p < intermediate_symbols c.args.row.now.numbers)) first.ensures.listed c.of_id-indices.ensures.below;
      long = ap length zeros ∙ length-replicate {A = ℕ} slab.symbol_size 0;
    }

pub add_symbols_to-requires-clause-places : goal.add_symbols_to-requires-clause-places
add_symbols_to-requires-clause-places c =
    let slab = c.args.intermediate.now in
    let below = λ (p : ℕ). p < intermediate_symbols c.args.row.now.numbers in
    let listed = take c.loop-count.count c.loop-count.terms in
    All-weaker below (HasPlace slab) (λ p l. place_of_slab slab p (intermediate_symbols c.args.row.now.numbers) c.requires.has.enough l) listed (All-front below listed c.loop-count.indices c.loop-count.invariant.below)

pub loop-count-preserved : goal.loop-count-preserved
loop-count-preserved c =
    let slab = c.args.intermediate.now in
    let size = slab.symbol_size in
    let kept = c.loop-count.invariant in
    let below = λ (p : ℕ). p < intermediate_symbols c.args.row.now.numbers in
    let listed = take c.loop-count.count c.loop-count.terms in
    let left = c.loop-count.indices in
    let next = c.next_terms-count-in-loop-count in
    let row = c.add_symbols_to.new.row in
    let each : All (λ p. length (symbol_in slab p) ≡ size) listed =
    All-weaker below (λ p. length (symbol_in slab p) ≡ size) (λ p l. (c.requires.has.symbols p l).size_is) listed (All-front below listed left kept.below) in
    let added : row ≡ with_symbols_added slab c.loop-count.symbol listed = c.add_symbols_to.ensures in
    record {
      room = next.ensures.room;
      all = next.ensures.all;
      sums = several_summed slab size (row_indices c.args.row.now.numbers c.args.internal_symbol_id) (take next.result next.new.terms ++ next.new.indices) listed (listed ++ left) c.loop-count.symbol row
          (ap (λ l. listed ++ l) next.ensures.listed) each kept.long added kept.sums;
      below = subst (All below) next.ensures.listed (All-back below listed left kept.below);
      long = ap length added ∙ length-several slab size listed c.loop-count.symbol each kept.long;
    }

pub returns : goal.returns
returns c =
    let kept = c.loop-count.invariant in
    let none : c.loop-count.count ≡ 0 = omega (arith, c.loop-count-test.false) in
    let left : take c.loop-count.count c.loop-count.terms ++ c.loop-count.indices ≡ [] = ap (λ n. take n c.loop-count.terms ++ c.loop-count.indices) none ∙ kept.all none in
    all_summed c.args.row.now.numbers c.args.intermediate.now c.args.internal_symbol_id _ c.loop-count.symbol c.args.row.now.checked c.requires.has.symbols left kept.sums
