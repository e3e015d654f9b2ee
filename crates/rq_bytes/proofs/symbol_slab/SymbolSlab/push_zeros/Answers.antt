-- What the check leaves to show of `symbol_slab::SymbolSlab::push_zeros`.
use Rattle.std.proofs.Common.{◌≡◌, ◌+◌, ◌-◌, arith}
use Rattle.std.proofs.lemmas.List.{take_all}
use Rattle.rq_bytes.proofs.SlabFacts.{holds_slab, count_is, zeros_behind}
use Rattle.rq_bytes.proofs.symbol_slab.SymbolSlab.push_zeros.Goals as goal

pub overflow_add-self : goal.overflow_add-self
overflow_add-self c = record { fits = omega (arith, c.requires, count_is (holds_slab c.self.inside c.args.self.now c.self.view_is c.self.invariant)) }

pub returns-clause-ok : goal.returns-clause-ok
returns-clause-ok c =
    let inside = c.self.inside in
    let old = inside.data in
    let size = inside.symbol_size in
    let more : old.len + size - old.len ≡ size = omega arith in
    rw (c.in_ok-resize.ensures.items, c.len.ensures, take_all (old.len + size) old.items (omega (arith, old.ok)), more)
    (zeros_behind (holds_slab inside c.args.self.now c.self.view_is c.self.invariant))
