-- What the check leaves to show of `matrix::swap_columns_from`.
use Rattle.std.proofs.Common.{◌≡◌, ◌≢◌, ◌+◌, ◌<◌, ◌≤◌, ℕ, List, [], length, set, get_or, sym, subst, ap, ◌∙◌, arith, inl, inr, length-set, get_or-set_same, get_or-set_other}
use Rattle.std.proofs.Math.ListN.{get_or-eq_default}
use Rattle.std.proofs.lemmas.Bool.Decides.{eqb_tells}
use Rattle.rq_bytes.specs.BinaryOctetVec.{packed_bit}
use Rattle.rq_standard.specs.BitTableSteps.{SwapsPlaces}
use Rattle.rq_matrix.specs.DenseRows.{AreSwappedFrom}
use Rattle.rq_matrix.proofs.matrix.swap_columns_from.Goals as goal

-- one more row has the two columns exchanged
more : (i j start n : ℕ) (old items : List (List ℕ)) (row : List ℕ) → start ≤ n → n < length items → AreSwappedFrom i j start n old items → length row ≡ length (get_or items n [])
    → ((width : ℕ) → SwapsPlaces width (packed_bit (get_or items n [])) i j (packed_bit row)) → AreSwappedFrom i j start (n + 1) old (set items n row)
more i j start n old items row from below kept long swapped =
    let here = get_or-set_same items n row [] below in
    let other = λ (a : ℕ) (ne : a ≢ n). get_or-set_other items n a row [] ne in
    let was = kept.after n (omega arith) in
    record {
      count = length-set items n row ∙ kept.count;
      lengths = λ a. elim (eqb_tells a n) [
        | inl e ↦ subst (λ b. length (get_or (set items n row) b []) ≡ length (get_or old b [])) (sym e.1) (ap length here ∙ long ∙ kept.lengths n)
        | inr e ↦ ap length (other a e.1) ∙ kept.lengths a
      ];
      swapped = λ a width lower upper. elim (eqb_tells a n) [
        | inl e ↦ subst (λ b. SwapsPlaces width (packed_bit (get_or old b [])) i j (packed_bit (get_or (set items n row) b []))) (sym e.1)
            (subst (λ l. SwapsPlaces width (packed_bit (get_or old n [])) i j (packed_bit l)) (sym here) (subst (λ l. SwapsPlaces width (packed_bit l) i j (packed_bit row)) was (swapped width)))
        | inr e ↦ subst (λ l. SwapsPlaces width (packed_bit (get_or old a [])) i j (packed_bit l)) (sym (other a e.1)) (kept.swapped a width lower (let ne = e.1 in omega arith))
      ];
      above = λ a lower. other a (λ e. let f = e in absurd (omega arith)) ∙ kept.above a lower;
      after = λ a upper. other a (λ e. let f = e in absurd (omega arith)) ∙ kept.after a (omega arith);
    }

pub loop-row-preserved : goal.loop-row-preserved
loop-row-preserved c =
    let items = c.loop-row.rows in
    let n = c.loop-row.row in
    let below : n < length items = omega (arith, c.loop-row.invariant.count, c.loop-row-test.true, c.len-row-end.ensures) in
    let lent = c.row_mut.ensures in
    let swap = c.swap_bits.ensures in
    let long = c.swap_bits.auto.row ∙ ap length lent.row in
    subst (AreSwappedFrom c.args.i c.args.j c.args.start (n + 1) c.args.rows.now) (sym (lent.whole_row c.swap_bits.new.row long))
    (more c.args.i c.args.j c.args.start n c.args.rows.now items c.swap_bits.new.row c.loop-row.auto.row below c.loop-row.invariant long
    (λ width. record {
      first = swap.first ∙ ap (λ l. packed_bit l c.args.j) lent.row;
      second = swap.second ∙ ap (λ l. packed_bit l c.args.i) lent.row;
      elsewhere = λ k _ other other'. swap.elsewhere k other other' ∙ ap (λ l. packed_bit l k) lent.row;
    }))

pub returns : goal.returns
returns c =
    let kept = c.loop-row.invariant in
    let done : length c.args.rows.now ≤ c.loop-row.row = omega (arith, c.loop-row-test.false, c.len-row-end.ensures) in
    record {
      count = kept.count;
      lengths = kept.lengths;
      swapped = λ a width lower upper. kept.swapped a width lower (omega arith);
      above = kept.above;
      after = λ a upper. get_or-eq_default c.loop-row.rows [] (omega (arith, kept.count)) ∙ sym (get_or-eq_default c.args.rows.now [] upper);
    }
