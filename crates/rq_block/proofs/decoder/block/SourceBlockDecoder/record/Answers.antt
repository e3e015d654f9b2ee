use Rattle.std.proofs.Common.{◌≡◌, ℕ, ◌+◌, ◌^◌, ◌<◌, All, List, Option, length, true, cond, ltb, not, sym, ap, ◌∙◌, subst}
use Rattle.std.specs.Prelude.{◌&&◌}
use Rattle.rq_standard.specs.Packet.{SymbolId}
use Rattle.rq_standard.specs.ReceivedBlock.{has_received, with_received}
use Rattle.rq_block.specs.Payloads.{payload_of, has_payload, missing_count}
use Rattle.rq_block.proofs.Keeping.{keeps_same}
use Rattle.rq_block.proofs.Payloads.{all-more, few-more}
use Rattle.rq_block.proofs.MissingCounts.{missing_count-step, missing-after}
use Rattle.rq_block.specs.SourceBlockDecoder.{received_of, solving_of}
use Rattle.rq_block.proofs.Outcomes.{not_undetermined, solving_more, solving_repeated, still_contradictory}
use Rattle.rq_block.proofs.TakenPackets.{recorded_packet, taken_size}
use Rattle.rq_block.proofs.Waiting.{came-more, contradictory-later, repeat-same, shown-more}
use Rattle.rq_block.proofs.decoder.block.SourceBlockDecoder.record.Goals as goal
use Rattle.rq_block.proofs.decoder.block.SourceBlockDecoder.record.Goals.{In_ok-kept}

pub invariant_of-self : goal.invariant_of-self
invariant_of-self c = keeps_same c.args.self.now c.args.self.now.column c.args.self.now.shown (payload_of c.keep_first.new.received) c.in_err-kept.ensures.err

module _ (c : In_ok-kept) where
  abbrev before : ℕ → Option (List ℕ)
  before = payload_of c.args.self.now.received

  abbrev now : ℕ → Option (List ℕ)
  now = payload_of c.keep_first.new.received

  abbrev esi : ℕ
  esi = c.encoding_symbol_id-esi.result

  abbrev payload : List ℕ
  payload = c.split-id.result.1.items

  recorded : record (received_of c.args.self.now) { received = now } ≡ with_received (received_of c.args.self.now) c.args.packet.id.esi c.args.packet.payload
  recorded = recorded_packet (received_of c.args.self.now) c.args.packet now c.split-id.result.0 esi payload c.split-id.ensures.id c.encoding_symbol_id-esi.ensures.value c.split-id.ensures.payload c.in_ok-kept.ensures.ok

  there : has_received (received_of c.args.self.now) c.args.packet.id.esi ≡ not c.in_ok-kept.kept
  there =
      let same : c.args.packet.id.esi ≡ esi = sym (c.encoding_symbol_id-esi.ensures.value ∙ ap (λ (k : SymbolId). k.esi) c.split-id.ensures.id) in
      ap (has_received (received_of c.args.self.now)) same ∙ c.in_ok-kept.ensures.kept

  missing_step : c.in_ok-kept.kept ≡ true → missing_count c.args.self.now.source_symbols (has_payload c.args.self.now.received) ≡ missing_count c.args.self.now.source_symbols (has_payload c.keep_first.new.received) + cond (true && ltb esi c.args.self.now.source_symbols) 1 0
  missing_step is = missing_count-step c.args.self.now.source_symbols esi before now true payload (c.in_ok-kept.ensures.kept ∙ ap not is) c.in_ok-kept.ensures.ok

-- a payload of a new id
pub overflow_sub-self : goal.overflow_sub-self
overflow_sub-self c =
    let step = missing_step (goal.at.overflow_sub-self c).In_ok-kept c.if-kept.true in
    (missing-after c.args.self.now.missing_symbols _ _ c.from.result _ c.args.self.now.counted c.from.ensures step).0

-- whose column is kept where it solves its equation too
pub invariant_of-self-then-kept : goal.invariant_of-self-then-kept
invariant_of-self-then-kept c =
    let d = c.args.self.now in
    let state = (goal.at.invariant_of-self-then-kept c).In_ok-kept in
    let was = before state in
    let has = now state in
    let e = esi state in
    let x = payload state in
    let added = c.in_ok-kept.ensures.ok in
    let long = ap length c.split-id.ensures.payload ∙ taken_size (received_of d) c.args.packet c.requires in
    let octets = subst (All (λ octet. octet < 256)) c.as_slice.ensures.value c.are_octets.ensures in
    let kept = c.keep_where_it_solves.ensures in
    record {
      sized = all-more (λ _ p. length p ≡ d.config.symbol_size) was has e x d.sized long added;
      bytes = all-more (λ _. All (λ octet. octet < 256)) was has e x d.bytes octets added;
      positive = d.positive;
      aligned = d.aligned;
      fits = d.fits;
      few = few-more was has e x (2 ^ 24) d.few c.encoding_symbol_id-esi.ensures.below added;
      counted = (missing-after d.missing_symbols _ _ c.from.result _ d.counted c.from.ensures (missing_step state c.if-kept.true)).1;
      waits = λ still. absurd (not_undetermined d.last_outcome (sym c.after_new_payload-self.ensures ∙ still));
      shown = shown-more d.row.numbers d.source_symbols _ _ e d.fits (came-more was has e x added) c.keep_where_it_solves.new.column kept.solves (λ octets is. d.shown octets (kept.same octets is));
      contradicted = λ still. contradictory-later (received_of d) has e x added (d.contradicted (still_contradictory d.last_outcome (sym c.after_new_payload-self.ensures ∙ still)));
    }

-- a payload of an id that was received before
pub invariant_of-self-else-kept : goal.invariant_of-self-else-kept
invariant_of-self-else-kept c =
    let state = (goal.at.invariant_of-self-else-kept c).In_ok-kept in
    keeps_same c.args.self.now c.args.self.now.column c.args.self.now.shown (now state) (repeat-same (before state) (now state) (esi state) (payload state) c.in_ok-kept.kept c.in_ok-kept.ensures.kept c.in_ok-kept.ensures.ok c.if-kept.false)

pub returns-then-kept-clause-ok : goal.returns-then-kept-clause-ok
returns-then-kept-clause-ok c = recorded (goal.at.returns-then-kept-clause-ok c).In_ok-kept

pub returns-else-kept-clause-ok : goal.returns-else-kept-clause-ok
returns-else-kept-clause-ok c = recorded (goal.at.returns-else-kept-clause-ok c).In_ok-kept

pub returns-then-kept-clause-solving : goal.returns-then-kept-clause-solving
returns-then-kept-clause-solving c =
    let d = c.args.self.now in
    let new = there (goal.at.returns-then-kept-clause-solving c).In_ok-kept ∙ ap not c.if-kept.true in
    solving_more (received_of d) c.args.packet.id.esi (solving_of d) _ c.after_new_payload-self.ensures new

pub returns-else-kept-clause-solving : goal.returns-else-kept-clause-solving
returns-else-kept-clause-solving c =
    let d = c.args.self.now in
    let repeated = there (goal.at.returns-else-kept-clause-solving c).In_ok-kept ∙ ap not c.if-kept.false in
    solving_repeated (received_of d) c.args.packet.id.esi (solving_of d) repeated
