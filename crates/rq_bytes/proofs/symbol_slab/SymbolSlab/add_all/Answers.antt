-- What the check leaves to show of `symbol_slab::SymbolSlab::add_all`.
use Rattle.std.proofs.Common.{ℕ, refl}
use Rattle.rq_algebra.specs.Operations.{AddAssign}
use Rattle.rq_bytes.proofs.SlabSums.{next_allowed, run_next, run_none}
use Rattle.rq_bytes.proofs.symbol_slab.SymbolSlab.add_all.Goals as goal

pub add_assign-requires : goal.add_assign-requires
add_assign-requires c =
    next_allowed (λ (src : ℕ). AddAssign c.args.dest src) (λ src order. refl) c.args.sources.now c.loop-src.src-index 0 c.args.self.now c.loop-src.self c.loop-src.invariant
    (c.requires.sources c.loop-src.src-index 0 c.loop-src-test.true)

pub loop-src-init : goal.loop-src-init
loop-src-init c = run_none c.args.self.now

pub loop-src-preserved : goal.loop-src-preserved
loop-src-preserved c =
    run_next (λ (src : ℕ). AddAssign c.args.dest src) (λ src order. refl) c.args.sources.now c.loop-src.src-index 0 c.args.self.now c.loop-src.self c.loop-src.invariant
    c.loop-src-test.true _ c.add_assign.ensures
