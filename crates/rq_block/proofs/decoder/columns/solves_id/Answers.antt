use Rattle.std.proofs.Common.{◌≡◌, ℕ, ◌<◌, List, All, sym, ap, ◌∙◌, eqb-true, subst, arith}
use Rattle.std.proofs.lemmas.Bool.{eq-eqb}
use Rattle.std.proofs.lemmas.List.Elements.{All-tail}
use Rattle.rq_algebra.specs.Operations.{plain}
use Rattle.rq_algebra.specs.Parities.{sum_listed}
use Rattle.rq_algebra.specs.Systems.{at, dot}
use Rattle.rq_algebra.proofs.Parity.{sum_listed_is}
use Rattle.rq_standard.specs.Equations.{row_indices, symbol_coefficient}
use Rattle.rq_standard.specs.OctetField.{octets}
use Rattle.rq_standard.specs.TableRows.{intermediate_symbols}
use Rattle.rq_block.proofs.decoder.columns.solves_id.Goals as goal

pub loop-index-init : goal.loop-index-init
loop-index-init c = record {
  sum = ap (λ (l : List ℕ). sum_listed (plain octets) l (at c.args.column.now)) c.of_id-indices.ensures.value;
  below = c.of_id-indices.ensures.below;
}

pub loop-index-preserved : goal.loop-index-preserved
unfolding sum_listed
loop-index-preserved c =
    let kept = c.loop-index.invariant in
    let column = at c.args.column.now in
    let left = c.next_index.new.self in
    let index = c.in-Some.index in
    record {
      sum = octets.add_assoc c.loop-index.sum (column index) (sum_listed (plain octets) left column)
          ∙ ap (octets.add c.loop-index.sum) (sym (ap (λ (l : List ℕ). sum_listed (plain octets) l column) c.in-Some.ensures)) ∙ kept.sum;
      below = All-tail (λ k. k < intermediate_symbols c.args.row.now.numbers) index left (subst (All (λ k. k < intermediate_symbols c.args.row.now.numbers)) c.in-Some.ensures kept.below);
    }

pub returns : goal.returns
unfolding sum_listed
returns c =
    let row = c.args.row.now.numbers in
    let column = at c.args.column.now in
    let indices = row_indices row c.args.internal_symbol_id in
    let below : All (λ k. k < intermediate_symbols row) indices = subst (All (λ k. k < intermediate_symbols row)) c.of_id-indices.ensures.value c.of_id-indices.ensures.below in
    let sum : dot octets (intermediate_symbols row) (symbol_coefficient row c.args.internal_symbol_id) column ≡ c.loop-index.sum =
    sym (sum_listed_is octets (intermediate_symbols row) indices column below (λ k l. c.are_octets.ensures k 0 (omega (arith, l, c.requires.count))))
    ∙ sym c.loop-index.invariant.sum
    ∙ ap (λ (l : List ℕ). octets.add c.loop-index.sum (sum_listed (plain octets) l column)) c.in_default.ensures.0
    ∙ octets.add_comm c.loop-index.sum 0
    ∙ octets.zero_add c.loop-index.sum in
    (λ zero. sum ∙ eqb-true c.loop-index.sum 0 zero, λ solves. eq-eqb c.loop-index.sum 0 (sym sum ∙ solves))
