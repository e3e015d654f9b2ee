use Rattle.std.proofs.Common.{◌≡◌, ◌+◌, ◌*◌, ◌/◌, ◌%◌, ◌≤◌, min, ap, ◌∙◌, arith}
use Rattle.std.proofs.Math.Nat.{mul-le-mul_right}
use Rattle.raptorq.proofs.BlockParts.{symbols_before-parts, few_before}
use Rattle.raptorq.proofs.blocks.symbols_before.Goals as goal

pub returns-clause-value : goal.returns-clause-value
returns-clause-value c =
    let k = c.args.config.now in
    let symbols = c.total_symbols-symbols.result in
    let blocks : c.from-blocks.result ≡ k.source_blocks = c.from-blocks.ensures ∙ c.source_blocks.ensures in
    let is = ap (λ m. symbols / c.from-blocks.result * c.from-number.result + m) c.min.ensures
    ∙ (λ i. c.total_symbols-symbols.ensures.value i / blocks i * c.from-number.ensures i + min (c.from-number.ensures i) (c.total_symbols-symbols.ensures.value i % blocks i)) in
    symbols_before-parts k c.args.number _ (omega (arith, c.requires.number)) is

pub returns-clause-bytes : goal.returns-clause-bytes
returns-clause-bytes c =
    let i = c.total_symbols-symbols.result in
    let j = c.from-blocks.result in
    let b = c.from-number.result in
    let below = few_before i j b (omega (arith, c.requires.number, c.from-blocks.ensures, c.source_blocks.ensures, c.from-number.ensures)) in
    let few : i / j * b + c.min.result ≤ i = omega (arith, below, c.min.ensures) in
    omega (arith, mul-le-mul_right c.args.config.now.symbol_size few, c.total_symbols-symbols.ensures.bytes)
