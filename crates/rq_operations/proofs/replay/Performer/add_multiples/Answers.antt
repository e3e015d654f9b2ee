-- What the check leaves to show of `replay::Performer::add_multiples`.
use Rattle.std.proofs.Common.{◌+◌, List, ◌∷◌, length, map, take, refl, sym, ap, ◌∙◌, arith, ◌-◌}
use Rattle.std.proofs.lemmas.List.{length-map}
use Rattle.rq_algebra.specs.Operations.{Operation, Fma}
use Rattle.rq_bytes.specs.SymbolSlab.{after_all}
use Rattle.rq_operations.specs.RecordedSteps.{operation_of_step}
use Rattle.rq_operations.specs.declared.replay.Performer.{Performer}
use Rattle.rq_operations.proofs.Performed.{run_allowed, run_performed}
use Rattle.rq_operations.proofs.ZeroMultiples.{all_zeros_added}
use Rattle.rq_operations.specs.declared.replay.TheConstants.{MULTIPLES}
use Rattle.rq_operations.proofs.replay.Performer.add_multiples.Goals as goal

pub add_multiples-requires : goal.add_multiples-requires
add_multiples-requires c =
    let run = c.read_run-more in
    let slab = c.args.symbols.now in
    rw c.is_found_zero.ensures.kept
    (run_allowed (λ m. Fma m.dest c.args.src m.scalar) c.args.first c.args.self.now.multiples run.new.items (MULTIPLES - 1) run.result (map operation_of_step c.args.behind.now) (omega arith) run.ensures.room run.ensures.run
    (λ order m. refl) (length slab.values) slab.order c.requires)

pub returns-then-not-is_found_zero : goal.returns-then-not-is_found_zero
returns-then-not-is_found_zero c =
    let run = c.read_run-more in
    let slab = c.args.symbols.now in
    run_performed (λ m. Fma m.dest c.args.src m.scalar) c.args.first c.args.self.now.multiples run.new.items (MULTIPLES - 1) run.result (map operation_of_step c.args.behind.now) (omega arith) run.ensures.room run.ensures.run
    slab c.add_multiples.new.self (omega (arith, run.ensures.within, length-map c.args.behind.now operation_of_step))
    (c.add_multiples.ensures ∙ ap (λ (p : Performer). after_all (map (λ m. Fma m.dest c.args.src m.scalar) (take (1 + run.result) p.multiples)) slab) c.is_found_zero.ensures.kept)

pub returns-else-not-is_found_zero : goal.returns-else-not-is_found_zero
returns-else-not-is_found_zero c =
    let run = c.read_run-more in
    let slab = c.args.symbols.now in
    record {
      within = omega (arith, run.ensures.within, length-map c.args.behind.now operation_of_step);
      performed = sym (
          ap (λ (l : List Operation). after_all (Fma c.args.first.dest c.args.src c.args.first.scalar ∷ l) slab) run.ensures.run
          ∙ all_zeros_added slab c.args.src (c.is_found_zero.ensures.zeros c.if-not-is_found_zero.false) c.is_found_zero.ensures.symbols (λ m. m.dest) (λ m. m.scalar) (c.args.first ∷ take run.result run.new.items));
    }
