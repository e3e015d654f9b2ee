use Rattle.std.proofs.Common.{◌≡◌, ◌≢◌, Bool, true, false, sym, ap, subst, arith}
use Rattle.std.proofs.lemmas.Bool.{lt-ltb}
use Rattle.std.proofs.lemmas.Result.{IfOk-weaker}
use Rattle.rq_bytes.specs.declared.error.Error.TheVariants.{OutOfMemory}
use Rattle.rq_standard.specs.Packet.{SymbolId}
use Rattle.raptorq.specs.Decoder.{state_of}
use Rattle.rq_cells.specs.Cells.{digest_of}
use Rattle.rq_cast.specs.Digests.{Notes}
use Rattle.rq_cast.specs.Taken.{is_known}
use Rattle.rq_cast.specs.PartReceiving.{TakesOrFails}
use Rattle.rq_cast.proofs.AttemptSteps.{refused, unlooked, looked}
use Rattle.rq_cast.proofs.attempt.Attempt.take.Goals as goal
use Rattle.rq_cast.proofs.attempt.Attempt.take.Goals.{After-add_new_packet}

module _ (c : After-add_new_packet) where
  -- the part has the packet's block
  known : is_known c.args.head.now.configuration c.args.packet ≡ true
  known =
      lt-ltb c.args.packet.id.block c.args.head.now.configuration.source_blocks
      (omega (
        arith,
        c.if-block-source_blocks.false,
        c.source_block_number-block.ensures,
        ap (λ (i : SymbolId). i.block) c.payload_id.ensures,
        c.source_blocks.ensures,
      ))

  notes : Notes (state_of c.args.self.now.decoder) c.args.packet.id (digest_of c.args.packet.payload) c.args.self.now.known c.note.new.self
  notes =
      subst (λ d. Notes (state_of c.args.self.now.decoder) c.args.packet.id d c.args.self.now.known c.note.new.self) c.requires.digest
      (subst (λ (i : SymbolId). Notes (state_of c.args.self.now.decoder) i c.args.digest c.args.self.now.known c.note.new.self) c.payload_id-2.ensures
      c.in_ok-note.ensures)

pub look-requires : goal.look-requires
look-requires c =
    let at = (goal.at.look-requires c).After-add_new_packet in
    unlooked c.args.head.now c.args.self.now c.requires.attempt c.args.packet (known at) c.note.new.self (notes at) c.add_new_packet.new.self
    c.in-Ok.ensures

pub returns-in-Ok-clause-takes : goal.returns-in-Ok-clause-takes
returns-in-Ok-clause-takes c =
    let at = (goal.at.returns-in-Ok-clause-takes c).After-add_new_packet in
    IfOk-weaker c.look.result _ (TakesOrFails c.args.head.now c.args.self.now c.args.packet c.look.new.self)
    (looked c.args.head.now c.args.self.now c.requires.attempt c.args.packet (known at) c.note.new.self (notes at) c.add_new_packet.new.self
    c.in-Ok.ensures c.look.new.self) c.look.ensures.looks

pub returns-in-Err-clause-takes : goal.returns-in-Err-clause-takes
returns-in-Err-clause-takes c =
    let at = (goal.at.returns-in-Err-clause-takes c).After-add_new_packet in
    let h = c.args.head.now in
    let old = c.args.self.now in
    let p = c.args.packet in
    let fails : (b : Bool) → (b ≡ false) × (c.in-Err.refusal ≢ OutOfMemory) → TakesOrFails h old p _ b =
    λ b (ended, not_memory). subst (TakesOrFails h old p _) (sym ended)
    (refused h old c.requires.attempt p (known at) c.add_new_packet.new.self c.in-Err.refusal c.in-Err.ensures not_memory) in
    IfOk-weaker c.end_unless_memory.result _ (TakesOrFails h old p _) fails c.end_unless_memory.ensures.ends
