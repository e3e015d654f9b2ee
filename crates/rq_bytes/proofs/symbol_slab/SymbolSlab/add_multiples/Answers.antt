-- What the check leaves to show of `symbol_slab::SymbolSlab::add_multiples`.
use Rattle.std.proofs.Common.{ℕ, get_or, refl, ap, ◌∙◌}
use Rattle.rq_algebra.specs.Operations.{Fma}
use Rattle.rq_bytes.specs.SymbolSlab.{after}
use Rattle.rq_bytes.specs.declared.symbol_slab.multiples.Multiple.{Multiple}
use Rattle.rq_bytes.proofs.SlabSums.{next_allowed, run_next, run_none}
use Rattle.rq_bytes.proofs.SlabMultiples.{fma_of}
use Rattle.rq_bytes.proofs.symbol_slab.SymbolSlab.add_multiples.Goals as goal

abbrev none : Multiple
none = record { dest = 0; scalar = 0 }

pub fma-requires : goal.fma-requires
fma-requires c =
    next_allowed (fma_of c.args.src) (λ m order. refl) c.args.multiples.now c.loop-multiple.multiple-index none c.args.self.now c.loop-multiple.self c.loop-multiple.invariant
    (c.requires c.loop-multiple.multiple-index none c.loop-multiple-test.true)

pub loop-multiple-init : goal.loop-multiple-init
loop-multiple-init c = run_none c.args.self.now

pub loop-multiple-preserved : goal.loop-multiple-preserved
loop-multiple-preserved c =
    let m = get_or c.args.multiples.now c.loop-multiple.multiple-index none in
    run_next (fma_of c.args.src) (λ m order. refl) c.args.multiples.now c.loop-multiple.multiple-index none c.args.self.now c.loop-multiple.self c.loop-multiple.invariant
    c.loop-multiple-test.true _ (c.fma.ensures ∙ ap (λ (a : ℕ). after (Fma m.dest c.args.src a) c.loop-multiple.self) c.new.ensures)
