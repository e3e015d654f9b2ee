use Rattle.std.proofs.Common.{◌≡◌, ◌+◌, ◌-◌, ◌++◌, length, drop, take, replicate, refl, sym, ap, ◌∙◌, arith, length-append}
use Rattle.std.proofs.Math.Seq.{take-append_seam}
use Rattle.std.proofs.lemmas.List.FromFn.{length-map-range_with_len}
use Rattle.std.proofs.lemmas.Result.{on_ok_weaker}
use Rattle.rq_bytes.specs.SymbolSlab.{symbol_in}
use Rattle.rq_standard.specs.Cutting.{symbol_of_block}
use Rattle.rq_standard.specs.Equations.{internal_id, tuple_sum}
use Rattle.rq_block.specs.BlockLayout.{cut_by}
use Rattle.rq_block.proofs.AppendedPackets.{before_zeros, zeros_behind}
use Rattle.rq_block.proofs.Encodes.{encodes_borrowed}
use Rattle.rq_block.proofs.encoder.borrowed.BorrowedBlock.append_symbol.Goals as goal

pub returns-then-esi-self-clause-symbol : goal.returns-then-esi-self-clause-symbol
returns-then-esi-self-clause-symbol c =
    let b = c.args.self.now in
    let payload = symbol_of_block b.layout.config b.layout.source_symbols b.block.now c.args.esi in
    on_ok_weaker c.append_source_symbol.result
    (λ grown. record { payload = payload; symbol = encodes_borrowed b c.args.esi payload c.if-esi-self.true refl; grown = grown })
    c.append_source_symbol.ensures.symbol

pub add_encoding_symbol-requires-clause-zeros : goal.add_encoding_symbol-requires-clause-zeros
add_encoding_symbol-requires-clause-zeros c =
    let len = c.len-start.result in
    let size = c.from.result in
    c.split_at_mut-symbol.ensures.back ∙ ap (drop len) c.as_mut_slice.ensures.value
    ∙ zeros_behind c.args.bytes.now.items c.resize.new.self.items len (len + size) size (c.len-start.ensures ∙ c.args.bytes.now.ok.0) refl
    (c.in_ok-resize.ensures.items ∙ ap (λ n. take (len + size) c.args.bytes.now.items ++ replicate (len + size - n) 0) (sym c.len-start.ensures))
    ∙ ap (λ n. replicate n 0) (c.from.ensures ∙ c.symbol_size.ensures ∙ sym c.args.self.now.sized)

pub returns-clause-symbol : goal.returns-clause-symbol
returns-clause-symbol c =
    let b = c.args.self.now in
    let layout = b.layout in
    let len = c.len-start.result in
    let size = c.from.result in
    let payload = c.add_encoding_symbol.new.symbol in
    let many = length-map-range_with_len (symbol_of_block layout.config layout.source_symbols b.block.now) 0 layout.source_symbols in
    let id : c.internal_symbol_id-id.result ≡ internal_id b.row.numbers (length (cut_by layout b.block.now)) c.args.esi =
    c.internal_symbol_id-id.ensures ∙ ap (λ k. internal_id b.row.numbers k c.args.esi) (sym many) in
    let before : c.split_at_mut-symbol.result.0.now ≡ c.args.bytes.now.items =
    c.split_at_mut-symbol.ensures.front ∙ ap (take len) c.as_mut_slice.ensures.value
    ∙ before_zeros c.args.bytes.now.items c.resize.new.self.items len (len + size) size (c.len-start.ensures ∙ c.args.bytes.now.ok.0) refl
    (c.in_ok-resize.ensures.items ∙ ap (λ n. take (len + size) c.args.bytes.now.items ++ replicate (len + size - n) 0) (sym c.len-start.ensures)) in
    let front = c.split_at_mut-symbol.result.0.now in
    let long : c.resize.new.self.len ≡ length (front ++ payload) =
    omega (arith, length-append front payload, c.split_at_mut-symbol.ensures.front_len, c.split_at_mut-symbol.ensures.back_len, c.as_mut_slice.ensures.len, c.add_encoding_symbol.auto.symbol) in
    record {
      payload = payload;
      symbol = record { column = symbol_in b.intermediate; is_only = b.solved; is_sum = c.add_encoding_symbol.ensures ∙ ap (tuple_sum b.row.numbers (symbol_in b.intermediate)) id };
      grown = ap (λ n. take n ((front ++ payload) ++ drop (length (front ++ payload)) c.resize.new.self.items)) long
          ∙ take-append_seam (front ++ payload) (drop (length (front ++ payload)) c.resize.new.self.items) ∙ ap (λ xs. xs ++ payload) before;
    }
