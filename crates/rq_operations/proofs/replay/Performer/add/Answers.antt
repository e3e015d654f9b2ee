-- What the check leaves to show of `replay::Performer::add`.
use Rattle.std.proofs.Common.{length, map, refl, arith, ◌-◌}
use Rattle.std.proofs.lemmas.List.{length-map}
use Rattle.rq_algebra.specs.Operations.{AddAssign}
use Rattle.rq_operations.specs.RecordedSteps.{operation_of_step}
use Rattle.rq_operations.proofs.Performed.{run_allowed, run_performed}
use Rattle.rq_operations.specs.declared.replay.TheConstants.{RUN}
use Rattle.rq_operations.proofs.replay.Performer.add.Goals as goal

pub add_all-requires-clause-sources : goal.add_all-requires-clause-sources
add_all-requires-clause-sources c =
    let run = c.read_run-more in
    let slab = c.args.symbols.now in
    run_allowed (AddAssign c.args.dest) c.args.src c.args.self.now.sources run.new.items (RUN - 1) run.result (map operation_of_step c.args.behind.now) (omega arith) run.ensures.room run.ensures.run
    (λ order src. refl) (length slab.values) slab.order c.requires

pub returns : goal.returns
returns c =
    let run = c.read_run-more in
    run_performed (AddAssign c.args.dest) c.args.src c.args.self.now.sources run.new.items (RUN - 1) run.result (map operation_of_step c.args.behind.now) (omega arith) run.ensures.room run.ensures.run
    c.args.symbols.now c.add_all.new.self (omega (arith, run.ensures.within, length-map c.args.behind.now operation_of_step)) c.add_all.ensures
