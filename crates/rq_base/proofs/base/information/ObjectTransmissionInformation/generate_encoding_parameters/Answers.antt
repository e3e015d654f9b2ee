use Rattle.std.proofs.Common.{◌≡◌, ℕ, ◌<◌, ◌≤◌, ◌∙◌, ap, subst, refl, arith}
use Rattle.std.specs.Int.{div_ceil}
use Rattle.rq_standard.specs.Parameters.{is_fitting, first_from, fitting_block, most_sub_blocks, symbol_size_for, symbols_for, blocks_for, sub_blocks_for}
use Rattle.rq_standard.proofs.LeastNumbers.{least_sub_blocks, ceil_some}
use Rattle.rq_base.proofs.DefaultParameters.{not_refused}
use Rattle.rq_base.proofs.base.information.ObjectTransmissionInformation.generate_encoding_parameters.Goals as goal

greatest_is : (c : goal.After-alignment) → c.fitting_block-greatest.result ≡ fitting_block c.args.table.now c.args.max_packet_size c.args.decoder_memory_requirement (most_sub_blocks c.args.max_packet_size)
greatest_is c = c.fitting_block-greatest.ensures ∙ ap (λ (n : ℕ). fitting_block c.args.table.now c.args.max_packet_size c.args.decoder_memory_requirement n) c.most_sub_blocks-most.ensures.value

symbols_is : (c : goal.After-alignment) → c.total_symbols-symbols.result ≡ symbols_for c.args.transfer_length c.args.max_packet_size
symbols_is c = c.total_symbols-symbols.ensures ∙ ap (λ (n : ℕ). div_ceil c.args.transfer_length n) c.symbol_size-symbol_size.ensures.value

blocks_is : (c : goal.After-alignment) → c.div_ceil-blocks.result ≡ blocks_for c.args.table.now c.args.transfer_length c.args.max_packet_size c.args.decoder_memory_requirement
blocks_is c = c.div_ceil-blocks.ensures ∙ ap (λ (n : ℕ). div_ceil n c.from.result) (symbols_is c) ∙ ap (λ (n : ℕ). div_ceil (symbols_for c.args.transfer_length c.args.max_packet_size) n) (c.from.ensures ∙ greatest_is c)

largest_is : (c : goal.After-alignment) →
    c.div_ceil-largest.result ≡ div_ceil (symbols_for c.args.transfer_length c.args.max_packet_size) (blocks_for c.args.table.now c.args.transfer_length c.args.max_packet_size c.args.decoder_memory_requirement)
largest_is c = c.div_ceil-largest.ensures ∙ ap (λ (n : ℕ). div_ceil n c.div_ceil-blocks.result) (symbols_is c) ∙ ap (λ (n : ℕ). div_ceil (symbols_for c.args.transfer_length c.args.max_packet_size) n) (blocks_is c)

sub_blocks_is : (c : goal.After-alignment) → c.least_sub_blocks.result ≡ sub_blocks_for c.args.table.now c.args.transfer_length c.args.max_packet_size c.args.decoder_memory_requirement
unfolding sub_blocks_for
sub_blocks_is c =
    c.least_sub_blocks.ensures
    ∙ ap (λ (n : ℕ). first_from (is_fitting c.args.table.now c.args.max_packet_size c.args.decoder_memory_requirement n) 1 (most_sub_blocks c.args.max_packet_size)) (largest_is c)

pub returns-clause-value : goal.returns-clause-value
returns-clause-value c =
    let accepted = not_refused c.args.table.now c.args.transfer_length c.args.max_packet_size c.args.decoder_memory_requirement
    c.if-max_packet_size-eq0.false c.if-transfer_length-eq0.false c.if-transfer_length-gt-MAX_TRANSFER_LENGTH.false
    (λ none. c.if-greatest-eq0.false (greatest_is c ∙ none))
    (subst (λ (n : ℕ). n ≤ 255) (blocks_is c) c.if-blocks-gt255.false) in
    rw (accepted, c.symbol_size-symbol_size.ensures.value, blocks_is c, sub_blocks_is c, c.alignment.ensures.value) refl

pub returns-clause-least : goal.returns-clause-least
returns-clause-least c =
    let rows = c.args.table.now in
    let s = c.args.max_packet_size in
    let memory = c.args.decoder_memory_requirement in
    let size_some : 0 < symbol_size_for s = rw c.symbol_size-symbol_size.ensures.value at c.symbol_size-symbol_size.ensures.positive in
    let some : 0 < symbols_for c.args.transfer_length s = ceil_some c.args.transfer_length (symbol_size_for s) (omega (arith, c.if-transfer_length-eq0.false)) size_some in
    let fits : 0 < fitting_block rows s memory (most_sub_blocks s) = rw (greatest_is c) at (let h : 0 < c.fitting_block-greatest.result = omega (arith, c.if-greatest-eq0.false) in h) in
    let most : 0 < most_sub_blocks s = rw c.most_sub_blocks-most.ensures.value at c.most_sub_blocks-most.ensures.positive in
    rw (blocks_is c, sub_blocks_is c) (least_sub_blocks rows c.args.transfer_length s memory some fits most)
