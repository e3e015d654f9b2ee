use Rattle.std.proofs.Common.{◌≡◌, true, false, rules, tests}
use Rattle.std.specs.Prelude.{is_some}
use Rattle.std.proofs.lemmas.Iterator.{cases_from_all, YieldsList-from_slice}
use Rattle.raptorq.specs.declared.decoder.block.ObjectBlock.{ObjectBlock}
use Rattle.raptorq.proofs.ObjectBlocks.{all_answered}
use Rattle.raptorq.proofs.decoder.object.Decoder.is_complete.Goals as goal

pub returns : goal.returns
returns c =
    let s = c.args.self.now in
    let items = s.blocks.items in
    all_answered s.config items s.numbered c.all.result
    (cases_from_all _ _ _ (λ (b : ObjectBlock). is_some b.answer ≡ true) (λ (b : ObjectBlock). is_some b.answer ≡ false) c.all.ensures.ran (YieldsList-from_slice items cc) (λ x q k. search (rules, tests)) (λ x q k. search (rules, tests)))
