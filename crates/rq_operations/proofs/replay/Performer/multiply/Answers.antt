-- What the check leaves to show of `replay::Performer::multiply`.
use Rattle.std.proofs.Common.{sym, ◌∙◌, arith}
use Rattle.rq_algebra.specs.Operations.{MulAssign}
use Rattle.rq_operations.proofs.Performed.{after_all-one}
use Rattle.rq_operations.proofs.ZeroMultiples.{zeros_multiplied}
use Rattle.rq_operations.proofs.replay.Performer.multiply.Goals as goal

pub returns-then-not-is_found_zero : goal.returns-then-not-is_found_zero
returns-then-not-is_found_zero c =
    record { within = omega arith; performed = c.mulassign_scalar.ensures ∙ sym (after_all-one (MulAssign c.args.dest c.args.scalar.now) c.args.symbols.now) }

pub returns-else-not-is_found_zero : goal.returns-else-not-is_found_zero
returns-else-not-is_found_zero c =
    let slab = c.args.symbols.now in
    record {
      within = omega arith;
      performed = sym (
          after_all-one (MulAssign c.args.dest c.args.scalar.now) slab
          ∙ zeros_multiplied slab c.args.dest (c.is_found_zero.ensures.zeros c.if-not-is_found_zero.false) c.args.scalar.now);
    }
