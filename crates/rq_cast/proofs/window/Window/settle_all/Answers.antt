use Rattle.std.proofs.Common.{◌≡◌, true, false, subst, arith}
use Rattle.std.proofs.lemmas.Bool.{true≢false}
use Rattle.rq_cast.specs.Windows.{SettlesFirst}
use Rattle.rq_cast.proofs.Dropped.{keeps_both}
use Rattle.rq_cast.proofs.WindowSteps.{rested}
use Rattle.rq_cast.proofs.window.Window.settle_all.Goals as goal

pub settling-preserved : goal.settling-preserved
settling-preserved c =
    let settled : c.in_ok-settle_first.field-0 ≡ true = grind (arith, c.if-not-branch.false) in
    let first = subst (λ b. SettlesFirst c.args.table.now c.settling.self b c.settle_first.new.self) settled c.in_ok-settle_first.ensures.settles in
    record {
      sound = c.in_ok-settle_first.ensures.sound;
      counts = keeps_both c.settling.invariant.counts c.in_ok-settle_first.ensures.counts;
      moving = λ stream width came cell given m. first stream width came cell given (c.settling.invariant.moving stream width came cell given m);
    }

pub returns-then-not-branch-clause-settles : goal.returns-then-not-branch-clause-settles
returns-then-not-branch-clause-settles c = λ stream width came cell given m.
    let unsettled : c.in_ok-settle_first.field-0 ≡ false = grind (arith, c.if-not-branch.true) in
    subst (λ b. SettlesFirst c.args.table.now c.settling.self b c.settle_first.new.self) unsettled c.in_ok-settle_first.ensures.settles
    stream width came cell given (c.settling.invariant.moving stream width came cell given m)

pub returns-clause-settles : goal.returns-clause-settles
returns-clause-settles c = λ stream width came cell given m.
    rested c.args.table.now stream width came cell given c.settling.self (c.settling.invariant.moving stream width came cell given m)
    c.settling.invariant.sound (λ open_still. absurd (true≢false (grind (arith, open_still, c.settling-test.false))))

pub returns-then-not-branch-clause-counts : goal.returns-then-not-branch-clause-counts
returns-then-not-branch-clause-counts c = keeps_both c.settling.invariant.counts c.in_ok-settle_first.ensures.counts
