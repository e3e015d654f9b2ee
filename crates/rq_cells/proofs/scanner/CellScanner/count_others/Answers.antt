use Rattle.std.proofs.Common.{◌≡◌, ℕ, ◌<◌, sym, ap, ◌∙◌, length, drop, arith, Bool, cond}
use Rattle.std.proofs.lemmas.List.{take_rest}
use Rattle.rq_cells.specs.Found.{is_other}
use Rattle.rq_cells.proofs.Scanning.{count_place}
use Rattle.rq_cells.proofs.scanner.CellScanner.count_others.Goals as goal
use Rattle.rq_cells.proofs.scanner.CellScanner.count_others.Goals.{then-is_other, else-is_other}

pub loop-at-preserved : goal.loop-at-preserved
loop-at-preserved c =
    let s = c.args.self.now in
    let bytes = c.args.bytes.now in
    let at = c.loop-at.at in
    let below : at < length bytes = omega (arith, c.loop-at-test.true, c.loop-at.auto.at-end) in
    let test : c.is_other.result ≡ is_other s (drop at bytes) = c.is_other.ensures ∙ ap (is_other s) (take_rest bytes at) in
    let count : Bool → ℕ = λ b. cond b 1 0 in
    let step = count_place (is_other s) bytes at below in
    elim c.if-is_other.branch [
      | then-is_other w ↦
          let one = ap count (sym test ∙ w.if-is_other.true) in
          record { counted = omega (arith, c.loop-at.invariant.counted, step, one, w.others-is); few = omega (arith, c.loop-at.invariant.few, w.others-is) }
      | else-is_other w ↦
          let none = ap count (sym test ∙ w.if-is_other.false) in
          record { counted = omega (arith, c.loop-at.invariant.counted, step, none, w.others-is); few = omega (arith, c.loop-at.invariant.few, w.others-is) }
    ]
