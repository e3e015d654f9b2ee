-- What the check leaves to show of `symbol_slab::SymbolSlab::double_add_and_spread`.
use Rattle.std.proofs.Common.{get_or, map, refl, arith}
use Rattle.std.proofs.lemmas.List.{take_all}
use Rattle.rq_algebra.specs.Operations.{AddAssign, MulAssign}
use Rattle.rq_bytes.proofs.SlabDoublings.{after_all-two, still_allowed}
use Rattle.rq_bytes.proofs.SlabSums.{next_allowed, run_next, run_none}
use Rattle.rq_bytes.proofs.symbol_slab.SymbolSlab.double_add_and_spread.Goals as goal

pub add_assign-requires : goal.add_assign-requires
add_assign-requires c =
    let i = c.loop-target.target-index in
    let target = get_or c.args.targets.now i 0 in
    next_allowed (λ t. AddAssign t c.args.dest) (λ t order. refl) c.args.targets.now i 0 c.double_and_add.new.self c.loop-target.self c.loop-target.invariant
    (still_allowed c.args.dest c.args.src target c.args.self.now c.double_and_add.new.self c.double_and_add.ensures (c.requires.targets i 0 c.loop-target-test.true))

pub loop-target-init : goal.loop-target-init
loop-target-init c = run_none c.double_and_add.new.self

pub loop-target-preserved : goal.loop-target-preserved
loop-target-preserved c =
    run_next (λ t. AddAssign t c.args.dest) (λ t order. refl) c.args.targets.now c.loop-target.target-index 0 c.double_and_add.new.self c.loop-target.self c.loop-target.invariant
    c.loop-target-test.true _ c.add_assign.ensures

pub returns-after-loop-target : goal.returns-after-loop-target
returns-after-loop-target c =
    let dest = c.args.dest in
    let targets = c.args.targets.now in
    let adds = map (λ t. AddAssign t dest) targets in
    rw (c.loop-target.invariant.so_far, take_all c.loop-target.target-index targets (omega arith), c.double_and_add.ensures)
    (after_all-two (MulAssign dest 2) (AddAssign dest c.args.src) adds c.args.self.now)
