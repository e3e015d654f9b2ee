use Rattle.std.proofs.Common.{ℕ, ◌*◌, ◌≤◌, sym, subst, arith}
use Rattle.rq_cast.specs.Loss.{IsLeastEnough}
use Rattle.rq_cast.proofs.LeastEnough.{least_enough, root_at, root_behind}
use Rattle.rq_cast.proofs.loss.by_formula.Goals as goal
use Rattle.rq_cast.proofs.loss.by_formula.Goals.{then-below-squared, else-below-squared}

pub returns-clause-least : goal.returns-clause-least
returns-clause-least c =
    let symbols = c.args.symbols in
    let parts = c.args.parts in
    let squared = 25 * (symbols * parts) * 100000 in
    let below = c.isqrt-below.result in
    let root = c.if-below-squared.root in
    let is_root : (squared ≤ root * root) × ((r : ℕ) → squared ≤ r * r → root ≤ r) = elim c.if-below-squared.branch [
      | then-below-squared w ↦ (
        subst (λ x. squared ≤ x * x) (sym w.root-is) (omega (arith, c.isqrt-below.ensures.next_square_gt)),
        λ r h. subst (λ x. x ≤ r) (sym w.root-is) (root_behind squared below r w.if-below-squared.true h),
      )
      | else-below-squared w ↦ (
        subst (λ x. squared ≤ x * x) (sym w.root-is) w.if-below-squared.false,
        λ r h. subst (λ x. x ≤ r) (sym w.root-is) (root_at squared below r (omega (arith, w.if-below-squared.false, c.isqrt-below.ensures.square_le)) h),
      )
    ] in
    subst (IsLeastEnough symbols parts) (sym c.div_ceil.ensures) (least_enough symbols parts root (omega arith) is_root.0 is_root.1)
