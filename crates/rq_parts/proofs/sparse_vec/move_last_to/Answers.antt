-- What the check leaves to show of `sparse_vec::move_last_to`.
use Rattle.std.proofs.Common.{◌-◌, [], ◌∷◌, length, ap, ◌∙◌, arith}
use Rattle.std.specs.List.{swap}
use Rattle.std.proofs.lemmas.List.{length-append}
use Rattle.rq_parts.proofs.InsertedLower.{inserted_lower}
use Rattle.rq_parts.proofs.sparse_vec.move_last_to.Goals as goal

pub loop-at-preserved : goal.loop-at-preserved
loop-at-preserved c =
    let at = c.loop-at.at in
    let kept = c.loop-at.invariant in
    record {
      above = omega (arith, c.loop-at-test.true);
      within = omega (arith, kept.within, c.swap.ensures.len);
      same = c.swap.ensures.len ∙ kept.same;
      lower = λ xs one is.
          c.swap.ensures.after ∙ ap (λ ys. swap ys (at - 1) at) (kept.lower xs one is)
          ∙ inserted_lower xs one at (omega (arith, c.loop-at-test.true)) (omega (arith, kept.within, kept.same, ap length is, length-append xs (one ∷ [])));
    }
