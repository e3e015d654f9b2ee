use Rattle.std.proofs.Common.{sym, ◌∙◌, vec_items}
use Rattle.rq_bytes.specs.SymbolSlab.{symbol_in}
use Rattle.rq_standard.specs.Equations.{tuple_sum}
use Rattle.rq_block.specs.Payloads.{payload_of}
use Rattle.rq_standard.proofs.OptionValues.{is_some-mapped}
use Rattle.rq_block.proofs.LostSymbols.{there-came, sums-more, there-more}
use Rattle.rq_block.proofs.decoder.block.SourceBlockDecoder.lost_symbols.Goals as goal
use Rattle.rq_block.proofs.decoder.block.SourceBlockDecoder.lost_symbols.Goals.{then-not-contains_key+in_ok-symbol+in_ok-_new, else-not-contains_key}

pub loop-e-preserved : goal.loop-e-preserved
loop-e-preserved c =
    let came = payload_of c.args.self.now.received in
    let before = payload_of c.loop-e.lost in
    let sum = tuple_sum c.args.self.now.row.numbers (symbol_in c.args.intermediate.now) in
    let e = c.loop-e.e-counter in
    let kept = c.loop-e.invariant in
    elim c.if-not-contains_key.branch [
      | then-not-contains_key+in_ok-symbol+in_ok-_new w ↦
          let after = payload_of w.keep_first.new.received in
          let x = w.in_ok-symbol.symbol.items in
          rw w.lost-is
          (record {
            sums = sums-more came before sum e after x kept.sums w.in_ok-symbol.ensures.sum w.in_ok-_new.ensures.ok;
            there = there-more came before sum e after x kept.sums w.in_ok-symbol.ensures.sum w.in_ok-_new.ensures.ok kept.there;
          })
      | else-not-contains_key w ↦
          rw w.lost-is
          (record {
            sums = kept.sums;
            there = there-came came before sum e (is_some-mapped vec_items _ ∙ sym c.contains_key.ensures ∙ w.if-not-contains_key.false) kept.there;
          })
    ]
