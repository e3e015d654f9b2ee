-- What the check leaves to show of `peeler::Peeler::new`.
use Rattle.std.proofs.Common.{◌≡◌, Result, Ok, Err, ℕ, length, sym, ap, ◌∙◌, arith}
use Rattle.std.proofs.lemmas.List.FromFn.{length-range_with_len}
use Rattle.std.proofs.lemmas.List.{length-replicate}
use Rattle.std.proofs.lemmas.List.Elements.{same_from_all_zip}
use Rattle.rq_parts.specs.ConnectedComponentGraph.{Components}
use Rattle.rq_parts.proofs.MemoryAlone.{ok_past}
use Rattle.rq_peeling.proofs.ActiveOnes.{counts_first, left_first}
use Rattle.rq_peeling.proofs.PeelingLaws.{columns_below, peeled_none}
use Rattle.rq_peeling.proofs.peeler.Peeler.new.Goals as goal

abbrev node_count : {E : Type 0} → Result Components E → ℕ
node_count (Ok g) = length g.labels
node_count (Err e) = 0

pub invariant_of-result : goal.invariant_of-result
invariant_of-result c =
    let s = c.args.system.now in
    let copied = same_from_all_zip (λ (x y : ℕ). y ≡ x) s.degrees.items c.in_ok-clone.field-0.items c.in_ok-clone.ensures.cases.0 (λ x y same. same) in
    let answered = ok_past _ _ c.new-3.result c.in_ok-graph.ensures.variant c.in_ok-graph.ensures.cases in
    let made = rw answered at c.new-3.ensures in
    record {
      row_count = ap length (c.in_ok-degrees.ensures ∙ copied) ∙ s.degree_count;
      column_count = rw c.in_ok-columns.ensures (length-range_with_len 0 c.args.system.now.width);
      node_count = sym (ap node_count made) ∙ length-replicate c.args.system.now.lt_columns 0;
    }

pub returns-clause-chosen : goal.returns-clause-chosen
returns-clause-chosen c =
    let s = c.args.system.now in
    let copied = same_from_all_zip (λ (x y : ℕ). y ≡ x) s.degrees.items c.in_ok-clone.field-0.items c.in_ok-clone.ensures.cases.0 (λ x y same. same) in
    rw c.in_ok-columns.ensures (record {
      so = peeled_none s.ones s.width s.lt_columns;
      end = omega arith;
      left = left_first s.ones s.width s.lt_columns;
      counts = counts_first s.ones s.lt_columns s.width c.in_ok-degrees.degrees (columns_below s.width s.ones s.bits) (rw (c.in_ok-degrees.ensures, copied) s.counted);
      fewest = λ p l. absurd (omega arith);
      columns = λ p l. absurd (omega arith);
    })
