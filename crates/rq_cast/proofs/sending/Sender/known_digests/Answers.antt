use Rattle.std.proofs.Common.{◌≡◌, ℕ, ◌+◌, ◌<◌, List, get_or, sym, ap, subst, ◌∙◌, arith}
use Rattle.std.proofs.lemmas.List.{length-set}
use Rattle.rq_standard.specs.Cutting.{block_symbols, symbols_before}
use Rattle.raptorq.specs.Encoder.{encoded_of}
use Rattle.rq_cast.specs.Rows.{HasPacket, HasPacketOf, packet_in, symbol_digest}
use Rattle.rq_cast.specs.Sent.{sending_of, sent_id}
use Rattle.rq_cast.proofs.RowCells.{set_below}
use Rattle.rq_cast.proofs.SentDigests.{among, digest_there}
use Rattle.rq_cast.proofs.sending.Sender.known_digests.Goals as goal
use Rattle.rq_cast.proofs.sending.Sender.known_digests.Goals.{After-symbols_before-before}

module _ (c : After-symbols_before-before) where
  source : c.place-block.result.1 < block_symbols (encoded_of c.args.self.now.encoder).configuration c.place-block.result.0
  source = omega (arith, c.if-esi-block_symbols.false, c.block_symbols.ensures, ap (λ k. block_symbols k c.place-block.result.0) c.get_config-config.ensures)

  place : c.symbols_before-before.result + c.place-block.result.1
      ≡ symbols_before (encoded_of c.args.self.now.encoder).configuration c.place-block.result.0 + c.place-block.result.1
  place = ap (λ n. n + c.place-block.result.1) (c.symbols_before-before.ensures.value ∙ ap (λ k. symbols_before k c.place-block.result.0) c.get_config-config.ensures)

  -- the packet of its number is that of its block and id
  packet_is : (cell : List ℕ) → HasPacketOf (sending_of c.args.self.now) (c.args.first + c.loop-j.j) cell
      → HasPacket (encoded_of c.args.self.now.encoder) c.place-block.result.0 c.place-block.result.1 cell
  packet_is cell has =
      let s = sending_of c.args.self.now in
      let number = c.args.first + c.loop-j.j in
      subst (λ b. HasPacket s.encoded b c.place-block.result.1 cell) (sym c.place-block.ensures.block)
      (subst (λ e. HasPacket s.encoded (sent_id s number).block e cell) (sym c.place-block.ensures.id) has)

pub index-requires : goal.index-requires
index-requires c =
    let moved = (goal.at.index-requires c).After-symbols_before-before in
    let s = c.args.self.now in
    omega (
      arith,
      among (encoded_of s.encoder) s.digests.items s.digested c.place-block.result.0 c.place-block.result.1 c.place-block.ensures.known (source moved),
      place moved,
      s.digests.ok.0,
    )

pub loop-j-preserved : goal.loop-j-preserved
loop-j-preserved c =
    let moved = (goal.at.loop-j-preserved c).After-symbols_before-before in
    let s = c.args.self.now in
    let e = encoded_of s.encoder in
    let found = c.index.result.now in
    let kept = c.loop-j.invariant in
    record {
      long = length-set c.loop-j.digests c.loop-j.j found ∙ kept.long;
      made = λ k cell few has.
          set_below (λ i digest. (x : List ℕ) → HasPacketOf (sending_of s) (c.args.first + i) x → digest ≡ symbol_digest e x) c.loop-j.digests c.loop-j.j found
          (omega (arith, kept.long, c.requires.few, c.loop-j-test.true))
          (λ i less x there. kept.made i x less there)
          (λ x there. c.index.ensures ∙ ap (λ n. get_or s.digests.items n found) (place moved)
          ∙ digest_there e s.digests.items s.digested c.place-block.result.0 c.place-block.result.1 c.place-block.ensures.known (source moved) (packet_in e x) (packet_is moved x there) found)
          k few cell has;
    }

pub returns : goal.returns
returns c j cell few has = c.loop-j.invariant.made j cell (omega (arith, few, c.loop-j-test.false)) has
