use Rattle.std.proofs.Common.{◌≡◌, ◌+◌, ◌-◌, ◌*◌, ◌≤◌, sym, ap, subst, ◌∙◌, arith}
use Rattle.std.proofs.lemmas.Grind.{div_ceil_times}
use Rattle.rq_standard.proofs.Interleaved.{place_below}
use Rattle.rq_cast.specs.Digests.{last_width}
use Rattle.rq_cast.proofs.KnownSymbols.{are_whole}
use Rattle.rq_cast.proofs.digests.whole_symbols.Goals as goal

pub returns-then-length-all-clause-whole : goal.returns-then-length-all-clause-whole
returns-then-length-all-clause-whole c = λ e t below small.
    let k = c.args.layout.now.config in
    let count = c.args.layout.now.source_symbols in
    let all : count * c.from.result ≡ count * k.symbol_size = ap (λ n. count * n) (c.from.ensures ∙ c.symbol_size.ensures) in
    omega (arith, place_below k count e t c.requires.aligned below small, c.if-length-all.true, all)

pub returns-clause-whole : goal.returns-clause-whole
returns-clause-whole c = λ e t below small.
    let k = c.args.layout.now.config in
    let count = c.args.layout.now.source_symbols in
    let n = c.args.length in
    let width = c.last_width-width.result in
    let filled = c.div_ceil-filled_up.result in
    let size = c.from.ensures ∙ c.symbol_size.ensures in
    let covered : count * c.from.result - n ≤ filled * width =
    subst (λ m. count * c.from.result - n ≤ m * width) (sym c.div_ceil-filled_up.ensures)
    (div_ceil_times (count * c.from.result - n) width (omega (arith, c.if-width-eq0.false))).0 in
    let covered_there : count * k.symbol_size - n ≤ filled * last_width k =
    subst (λ w. count * k.symbol_size - n ≤ filled * w) c.last_width-width.ensures
    (subst (λ m. count * m - n ≤ filled * width) size covered) in
    let fits : c.saturating_sub.result + filled ≤ count = omega (arith, c.saturating_sub.ensures, below) in
    are_whole k count n filled c.saturating_sub.result c.requires.aligned covered_there fits e t below small
