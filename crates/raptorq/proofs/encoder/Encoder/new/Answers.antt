use Rattle.std.proofs.Common.{◌≡◌, length, refl, sym, ◌∙◌}
use Rattle.std.specs.List.{range_with_len}
use Rattle.std.proofs.lemmas.Result.{err_from_is_err_and}
use Rattle.rq_standard.specs.TableRows.{greatest_size}
use Rattle.rq_block.specs.SourceBlockEncoder.{block_encoded_of}
use Rattle.raptorq.specs.BlocksEncoded.{new_block_encoded}
use Rattle.raptorq.specs.Encoder.{no_block}
use Rattle.raptorq.proofs.EncodedBlocks.{new_encoder-taken, refuses_singular, new_counts, new_block}
use Rattle.rq_block.proofs.Numbered.{mapped_through, new_numbers}
use Rattle.raptorq.proofs.encoder.Encoder.new.Goals as goal

pub returns-in_err-blocks-clause-refused : goal.returns-in_err-blocks-clause-refused
returns-in_err-blocks-clause-refused c =
    let k = c.args.config in
    let long : length c.args.object.now ≡ k.transfer_length = c.if-object-transfer_length.false ∙ c.transfer_length.ensures.value in
    let taken = new_encoder-taken (greatest_size c.args.table.now) k (length c.args.object.now) (sym c.in_ok-check.ensures.refused) long in
    let p = err_from_is_err_and c.from_residual-in_err-blocks.result c.from_residual-in_err-blocks.ensures.1 in
    rw (p.1, p.2) (refuses_singular c.args.table.now k (length c.args.object.now) c.in_err-blocks.field-0.0 taken c.in_err-blocks.ensures.refused)

pub invariant_of-result : goal.invariant_of-result
invariant_of-result c =
    let k = c.args.config in
    let items = c.in_ok-blocks.blocks.items in
    let encoded = c.in_ok-blocks.ensures.encoded in
    record {
      positive = c.in_ok-check.ensures.accepted.size_positive;
      few = c.in_ok-check.ensures.few;
      some = c.in_ok-check.ensures.accepted.blocks_positive;
      numbered = new_numbers block_encoded_of (new_block_encoded c.args.table.now k c.args.object.now) k.source_blocks items encoded (λ b. b.number) (λ b. refl);
      sized = mapped_through (λ b. b.size) block_encoded_of (new_block_encoded c.args.table.now k c.args.object.now) items (range_with_len 0 k.source_blocks) encoded;
      counted = new_counts c.args.table.now k c.args.object.now items encoded;
    }

pub returns-clause-encoder : goal.returns-clause-encoder
returns-clause-encoder c =
    let k = c.args.config in
    record {
      long = c.if-object-transfer_length.false ∙ c.transfer_length.ensures.value;
      block = λ b below. new_block c.args.table.now k c.args.object.now c.in_ok-blocks.blocks.items c.in_ok-blocks.ensures.encoded b below (no_block b k.symbol_size);
    }
