-- What the check leaves to show of `symbol_slab::SymbolSlab::copy_block_from`.
use Rattle.std.proofs.Common.{◌*◌, ◌/◌, length, ap, ◌∙◌, arith}
use Rattle.std.proofs.lemmas.List.{with_items_is}
use Rattle.std.specs.Vec.{with_items}
use Rattle.rq_bytes.proofs.SlabFacts.{holds_slab, size_is, block_within, block_written}
use Rattle.rq_bytes.proofs.symbol_slab.SymbolSlab.copy_block_from.Goals as goal

pub overflow_mul-start : goal.overflow_mul-start
overflow_mul-start c =
    let slab = c.args.self.now in
    let is = holds_slab c.self.inside slab c.self.view_is c.self.invariant in
    let k = length c.args.source.now / slab.symbol_size in
    record { fits = omega (arith, block_within is c.args.start k c.requires.fits, ap (λ s. c.args.start * s) (size_is is), c.self.inside.«data».small, c.self.inside.«data».ok) }

pub write_range-requires : goal.write_range-requires
write_range-requires c =
    let slab = c.args.self.now in
    let is = holds_slab c.self.inside slab c.self.view_is c.self.invariant in
    let k = length c.args.source.now / slab.symbol_size in
    omega (
      arith,
      block_within is c.args.start k c.requires.fits,
      c.requires.whole,
      ap (λ s. c.args.start * s) (size_is is),
      ap length c.as_mut_slice-bytes.ensures.value,
    )

pub returns : goal.returns
returns c =
    let slab = c.args.self.now in
    let k = length c.args.source.now / slab.symbol_size in
    let new = c.write_range.new.bytes in
    let buffer = c.self.inside.«data» in
    let is = holds_slab c.self.inside slab c.self.view_is c.self.invariant in
    block_written is c.args.start k (c.args.start * c.self.inside.symbol_size) c.as_mut_slice-bytes.result.now new (with_items buffer new).items c.args.source.now
    c.requires.fits (ap (λ s. c.args.start * s) (size_is is)) c.requires.whole c.as_mut_slice-bytes.ensures.value
    (with_items_is buffer new (c.write_range.auto.bytes ∙ c.as_mut_slice-bytes.ensures.len)) c.write_range.ensures
