use Rattle.std.proofs.Common.{ℕ, [], replicate, sym, ap, ◌∙◌}
use Rattle.std.specs.Option.{option_copied}
use Rattle.rq_standard.specs.Equations.{symbol_coefficient}
use Rattle.rq_standard.specs.Differences.{plain_sum}
use Rattle.rq_standard.proofs.DifferenceColumns.{zero_dot}
use Rattle.rq_standard.proofs.FirstOctets.{zero_octets}
use Rattle.rq_algebra.specs.Systems.{at}
use Rattle.rq_block.specs.SourceBlockDecoder.{received_of}
use Rattle.rq_block.specs.Difference.{octets_of_column}
use Rattle.rq_block.proofs.decoder.block.SourceBlockDecoder.difference.Goals as goal

pub returns-in_ok-vec-in-None : goal.returns-in_ok-vec-in-None
returns-in_ok-vec-in-None c =
    let s = c.args.self.now in
    c.in_ok-vec-in-None.ensures.items_if_clones_equal (λ y same. same) ∙ ap (λ n. replicate {A = ℕ} n 0) c.length.ensures
    ∙ sym (zero_octets s.config s.source_symbols (plain_sum s.row.numbers (at [])) (λ e. zero_dot s.row.numbers (symbol_coefficient s.row.numbers e)))
    ∙ ap (λ o. octets_of_column (received_of s) (option_copied o)) (sym c.in-None.is)
