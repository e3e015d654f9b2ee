use Rattle.std.proofs.Common.{◌≡◌, ◌<◌, ◌++◌, ◌⊎◌, length, drop, get_or, sym, ap, subst, ◌∙◌, inl, inr, arith}
use mathlib.Core.Bool.{false≢true}
use Rattle.std.specs.declared.cmp.Ordering.TheVariants.{Less, Equal, Greater}
use Rattle.std.proofs.lemmas.Cmp.{ranked}
use Rattle.std.proofs.lemmas.List.{length-drop, take_rest}
use Rattle.rq_parts.proofs.Merging.{IsMerged, next_row, next_other, next_both, merges_all}
use Rattle.rq_parts.proofs.sparse_vec.merged.Goals.{then-loop-i-test+else-j-other, else-loop-i-test, then-added, else-added}
use Rattle.rq_parts.proofs.sparse_vec.merged.Goals as goal

pub loop-i-preserved-in-Less : goal.loop-i-preserved-in-Less
loop-i-preserved-in-Less c =
    let row = c.args.row.now in
    let other = c.args.other.now in
    let less : get_or row c.loop-i.i 0 < get_or other c.loop-i.j 0 = ranked _ _ Less (sym c.in-Less.is ∙ c.cmp.ensures) in
    record {
      merges = rw c.in_ok-push-in-Less.ensures.ok (next_row row other c.loop-i.sum.items c.loop-i.added c.loop-i.i c.loop-i.j c.loop-i.invariant.merges c.loop-i-test.true c.if-j-other.true less);
      row_within = omega (arith, c.loop-i-test.true);
      other_within = c.loop-i.invariant.other_within;
    }

pub loop-i-preserved-in-Equal : goal.loop-i-preserved-in-Equal
loop-i-preserved-in-Equal c =
    let row = c.args.row.now in
    let other = c.args.other.now in
    let same : get_or row c.loop-i.i 0 ≡ get_or other c.loop-i.j 0 = ranked _ _ Equal (sym c.in-Equal.is ∙ c.cmp.ensures) in
    record {
      merges = next_both row other c.loop-i.sum.items c.loop-i.added c.loop-i.i c.loop-i.j c.loop-i.invariant.merges c.loop-i-test.true c.if-j-other.true same;
      row_within = omega (arith, c.loop-i-test.true);
      other_within = omega (arith, c.if-j-other.true);
    }

pub loop-i-preserved : goal.loop-i-preserved
loop-i-preserved c =
    let row = c.args.row.now in
    let other = c.args.other.now in
    let less : get_or other c.loop-i.j 0 < get_or row c.loop-i.i 0 = ranked _ _ Greater (sym c.in-Greater.is ∙ c.cmp.ensures) in
    record {
      merges = rw c.in_ok-push-in-Greater.ensures.ok (next_other row other c.loop-i.sum.items c.loop-i.added c.loop-i.i c.loop-i.j c.loop-i.invariant.merges c.loop-i-test.true c.if-j-other.true less);
      row_within = c.loop-i.invariant.row_within;
      other_within = omega (arith, c.if-j-other.true);
    }

ended : (c : goal.Joined-added) → (length (drop c.loop-i.i c.args.row.now) ≡ 0) ⊎ (length (drop c.loop-i.j c.args.other.now) ≡ 0)
ended c = elim c.loop-i-test.branch [
  | then-loop-i-test+else-j-other w ↦ inr (omega (arith, length-drop c.loop-i.j c.args.other.now, w.if-j-other))
  | else-loop-i-test w ↦ inl (omega (arith, length-drop c.loop-i.i c.args.row.now, w.loop-i-test))
]

all_merged : (c : goal.Joined-added) → IsMerged c.args.row.now c.args.other.now c.extend_from_slice-2.new.self.items c.loop-i.added (length (drop c.loop-i.j c.args.other.now))
all_merged c =
    subst (λ xs. IsMerged c.args.row.now c.args.other.now xs c.loop-i.added (length (drop c.loop-i.j c.args.other.now)))
    (sym (c.in_ok-extend_from_slice-2.ensures.ok ∙ ap (λ xs. c.extend_from_slice.new.self.items ++ xs) (take_rest c.args.other.now c.loop-i.j) ∙ ap (λ xs. xs ++ drop c.loop-i.j c.args.other.now) (c.in_ok-extend_from_slice.ensures.ok ∙ ap (λ xs. c.loop-i.sum.items ++ xs) (take_rest c.args.row.now c.loop-i.i))))
    (merges_all c.args.row.now c.args.other.now c.loop-i.sum.items c.loop-i.added (drop c.loop-i.i c.args.row.now) (drop c.loop-i.j c.args.other.now) c.loop-i.invariant.merges (ended c))

pub returns-clause-increasing : goal.returns-clause-increasing
returns-clause-increasing c = (all_merged c).rises

pub returns-clause-sum : goal.returns-clause-sum
returns-clause-sum c = (all_merged c).bits

pub returns-clause-added : goal.returns-clause-added
returns-clause-added c = (
  λ is. (all_merged c).some (elim c.if-added.branch [
    | then-added w ↦ inl w.if-added.true
    | else-added w ↦ inr (grind (arith, is, w.result-is, length-drop c.loop-i.j c.args.other.now))
  ]),
  λ h. elim ((all_merged c).none h) [
    | inl e ↦ elim c.if-added.branch [ then-added w ↦ w.result-is ∙ w.if-added.true | else-added w ↦ absurd (false≢true (sym w.if-added.false ∙ e)) ]
    | inr some ↦ elim c.if-added.branch [ then-added w ↦ w.result-is ∙ w.if-added.true | else-added w ↦ grind (arith, some, w.result-is, length-drop c.loop-i.j c.args.other.now) ]
  ],
)
