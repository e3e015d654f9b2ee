-- What the check leaves to show of `pi_solver::first_phase::left_rows::left_rows`.
use Rattle.std.proofs.Common.{◌≡◌, ℕ, ◌++◌, ◌∷◌, [], ap, ◌∙◌, arith}
use Rattle.rq_solver.specs.LeftRows.{row_in_turn}
use Rattle.rq_solver.proofs.LeftRows.{lists_rows, turns_apart, turn_below, turns_more, turns_none, turns_skipped}
use Rattle.rq_solver.proofs.pi_solver.first_phase.left_rows.left_rows.Goals as goal
use Rattle.rq_solver.proofs.pi_solver.first_phase.left_rows.left_rows.Goals.{then-not-has_pivot-row+in_ok-push, else-not-has_pivot-row}

pub loop-turn-init : goal.loop-turn-init
loop-turn-init c = rw c.in_ok-left.ensures.items (turns_none c.args.height _ c.mark_rows.new.marks)

pub loop-turn-preserved : goal.loop-turn-preserved
loop-turn-preserved c =
    let marks = c.mark_rows.new.marks in
    let t = c.loop-turn.turn in
    let old = c.loop-turn.left.items in
    let of : ℕ → ℕ = row_in_turn c.args.height c.args.first_hdpc c.args.hdpc_count in
    let row : c.row_in_turn-row.result ≡ of t = c.row_in_turn-row.ensures in
    elim c.if-not-has_pivot-row.branch [
      | then-not-has_pivot-row+in_ok-push w ↦
          let pushed : w.push.new.self.items ≡ old ++ of t ∷ [] = w.in_ok-push.ensures.items ∙ ap (λ (r : ℕ). old ++ r ∷ []) row in
          let within = c.requires.hdpc in
          rw (w.left-is, pushed) (turns_more c.args.height of marks t old c.loop-turn.invariant (turn_below c.args.height c.args.first_hdpc c.args.hdpc_count within t c.loop-turn-test.true)
          (λ q l. turns_apart c.args.height c.args.first_hdpc c.args.hdpc_count within q t l c.loop-turn-test.true) (rw (← row) w.if-not-has_pivot-row.true))
      | else-not-has_pivot-row w ↦ rw w.left-is (turns_skipped c.args.height of marks t old c.loop-turn.invariant (rw (← row) w.if-not-has_pivot-row.false))
    ]

pub returns : goal.returns
returns c =
    let all : c.loop-turn.turn ≡ c.args.height = omega (arith, c.loop-turn.auto.turn-end, c.loop-turn-test.false) in
    lists_rows c.args.height c.args.first_hdpc c.args.hdpc_count c.requires.hdpc c.args.pivots.now c.loop-turn.left.items c.mark_rows.new.marks
    c.mark_rows.ensures (rw all at c.loop-turn.invariant)
