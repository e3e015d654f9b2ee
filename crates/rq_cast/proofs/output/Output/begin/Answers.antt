use Rattle.std.proofs.Common.{◌≤◌, ◌-◌, ◌^◌, sym, ◌∙◌, arith}
use Rattle.rq_streams.specs.Counted.{failed_count}
use Rattle.rq_cast.proofs.CountedCalls.{lost_counts, write_grows}
use Rattle.rq_cast.proofs.output.Output.begin.Goals as goal

-- a lost cell is a failed call
pub invariant_of-self : goal.invariant_of-self
invariant_of-self g c =
    let old = failed_count c.args.self.now.writer in
    let new = failed_count c.write-result.new.self in
    let grown = lost_counts old new c.write-result.result c.args.cell.now (omega (arith, c.requires)) c.write-result.ensures.counts
    (sym c.is_lost-is_lost.ensures ∙ c.if-is_lost.true) in
    record { failed = omega (arith, grown, c.args.self.now.failed) }

pub invariant_of-self-else-is_lost : goal.invariant_of-self-else-is_lost
invariant_of-self-else-is_lost g c =
    let old = failed_count c.args.self.now.writer in
    let fits : old ≤ 2 ^ 64 - 1 = omega (arith, c.requires) in
    let grown = write_grows old (failed_count c.write-result.new.self) c.write-result.result c.args.cell.now fits c.write-result.ensures.counts in
    record { failed = omega (arith, grown, c.args.self.now.failed) }
