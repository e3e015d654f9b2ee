use Rattle.raptorq_c.proofs.Names.{Some, sym, ap, ◌∙◌, subst, ◌+◌, block_decoder_in, AreAdded, IsAddedHere, refusal_number, Coder}
use Rattle.raptorq.specs.InTurn.{block_of}
use Rattle.raptorq_c.proofs.FrameSteps.{added_seen}
use Rattle.raptorq_c.proofs.Held.{changed_kept}
use Rattle.raptorq_c.proofs.block_decoders.reamertan_block_decoder_add_packets.Goals as goal

pub returns : goal.returns
returns c =
    let inner = c.in-BlockDecoder.inner in
    let new = c.add_whole-said.new.receiver in
    let bytes = c.args.packets.now in
    let held = c.take-coder.ensures.taken ∙ ap (λ (k : Coder). Some k) (sym c.as_mut.ensures.value ∙ c.in-BlockDecoder.is) in
    let added = added_seen block_of IsAddedHere (4 + c.symbol_size-size.result) inner bytes (refusal_number c.add_whole-said.result) new c.add_whole-said.ensures in
    let sized = subst (λ n. AreAdded IsAddedHere (4 + n) (block_of inner) bytes (refusal_number c.add_whole-said.result) (block_of new)) c.symbol_size-size.ensures.value added in
    changed_kept block_decoder_in _ _ held _ _ (λ old now. AreAdded IsAddedHere (4 + old.received.configuration.symbol_size) old bytes c.refusal.result now) c.put.ensures
    (subst (λ n. AreAdded IsAddedHere (4 + (block_of inner).received.configuration.symbol_size) (block_of inner) bytes n (block_of new)) (sym c.refusal.ensures) sized)
