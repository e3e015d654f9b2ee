-- What is contradictory stays so, and an object's packets never are.
use Rattle.std.proofs.Common.{◌≡◌, ◌≢◌, ℕ, ◌<◌, cond, eqb, List, [], ◌∷◌, ◌++◌, Option, Some, None, refl, sym, ◌∙◌, subst, inl, inr}
use Rattle.std.specs.Prelude.{IfSome}
use Rattle.std.proofs.lemmas.Bool.{cases_eq}
use Rattle.rq_standard.specs.Packet.{Packet}
use Rattle.rq_standard.specs.Configuration.{Configuration}
use Rattle.rq_standard.specs.Received.{or_later, first_payload}
use Rattle.rq_standard.specs.Headline.{DetermineBlock, block_source, IsPacketOf}
use Rattle.rq_standard.specs.ReceivedBlock.{ReceivedBlock, has_received, with_received, SolvesReceived, IsContradictory, IsBlockAnswer}
use Rattle.rq_standard.specs.DecoderState.{State}
use Rattle.rq_standard.specs.DecoderSteps.{AddsOpen, AddsToBlock, IsSameElsewhere, Adds, RecordsOnly, IsBlockContradictory, KeepsContradictions, received_after}
use Rattle.rq_standard.specs.PacketLaws.{DeterminedByIdsAlone, ContradictionsStay}
use Rattle.rq_standard.specs.StepLaws.{ContradictionsAreKept, ContradictoryTakesNone, HonestRunsGrow, HonestPacketsFit}
use Rattle.rq_standard.proofs.KnownIds.{block_more, block_same}
use Rattle.rq_standard.proofs.Columns.{solves_received}
use Rattle.rq_standard.proofs.Firsts.{stays}
use Rattle.rq_standard.proofs.FollowingSteps.{recorded_after}
use Rattle.rq_standard.proofs.StandingSteps.{row_of_shape, AllByRecursion-append, length-block_source, source_sized, received_symbol}

-- ---- a block

less : (o later : Option (List ℕ)) (P : List ℕ → Type 0) → IfSome (or_later o later) P → IfSome o P
less None later P h = tt
less (Some x) later P h = h

-- the ids alone say whether what was received determines its block
pub determined_by_ids : DeterminedByIdsAlone
determined_by_ids one other row symbols same = (
  λ d. subst (λ r. DetermineBlock r other.source_symbols (has_received other)) row (subst (λ k. DetermineBlock one.row k (has_received other)) symbols (block_same one.row one.source_symbols (has_received one) (has_received other) same d)),
  λ d. block_same one.row one.source_symbols (has_received other) (has_received one) (λ e. sym (same e)) (subst (λ k. DetermineBlock one.row k (has_received other)) (sym symbols) (subst (λ r. DetermineBlock r other.source_symbols (has_received other)) (sym row) d)),
)

-- a column that solves what was received with a payload more solves what was received before it
solves_less : (h : ReceivedBlock) (esi : ℕ) (payload : List ℕ) (column : ℕ → List ℕ) → SolvesReceived (with_received h esi payload) column → SolvesReceived h column
solves_less h esi payload column s = record {
  symbols = s.symbols;
  precode = s.precode;
  padding = s.padding;
  received = λ e. less (h.received e) (cond (eqb esi e) (Some payload) None) _ (s.received e);
}

-- more that is recorded stays contradictory
pub contradicts_more : ContradictionsStay
contradicts_more h esi payload c = record {
  determined = block_more h.row h.source_symbols (has_received h) (has_received (with_received h esi payload)) (λ e has. stays (h.received e) (cond (eqb esi e) (Some payload) None) has) c.determined;
  unsolved = λ s. c.unsolved (record { column = s.column; solves = solves_less h esi payload s.column s.solves });
}

-- what is contradictory isn't answered
pub contradictory-no_answer : (h : ReceivedBlock) (answer : Option (List ℕ)) → IsBlockAnswer h answer → IsContradictory h → ⊥
contradictory-no_answer h answer a c = c.unsolved (a.solved (a.none (inr c.determined)) c.determined)

-- ---- all blocks

-- what is there of a block, seen through the answer that it had
opened : (old : ReceivedBlock) (before : Option (List ℕ)) (p : Packet) (new : ReceivedBlock) (after : Option (List ℕ)) → before ≡ None → AddsToBlock old before p new after → AddsOpen old p new after
opened old before p new after none add = subst (λ o. AddsToBlock old o p new after) none add

-- a packet of a contradictory block isn't taken
pub no_more : ContradictoryTakesNone
no_more old p new add c =
    let b = p.id.block in
    let taken = opened (old.received b) (old.answer b) p (new.received b) (new.answer b) c.unanswered add.here in
    contradictory-no_answer (with_received (old.received b) p.id.esi p.payload) (new.answer b) taken.answers (contradicts_more (old.received b) p.id.esi p.payload c.contradictory)

-- the other blocks
kept_elsewhere : (old : State) (p : Packet) (new : State) (b : ℕ) → IsSameElsewhere old p.id.block new → p.id.block ≢ b → IsBlockContradictory old b → IsBlockContradictory new b
kept_elsewhere old p new b same ne c =
    let q = same.other b c.below (λ e. ne (sym e)) in
    record {
      below = subst (λ (k : Configuration). b < k.source_blocks) (sym same.configuration) c.below;
      unanswered = q.1 ∙ c.unanswered;
      contradictory = subst IsContradictory (sym q.0) c.contradictory;
    }

keeps_added : (old : State) (p : Packet) (new : State) → Adds old p new → KeepsContradictions old new
keeps_added old p new add b c = elim (cases_eq p.id.block b) [
  | inl e ↦ absurd (no_more old p new add (subst (IsBlockContradictory old) (sym e) c))
  | inr ne ↦ kept_elsewhere old p new b add.elsewhere ne c
]

keeps_recorded : (old : State) (p : Packet) (new : State) → RecordsOnly old p new → KeepsContradictions old new
keeps_recorded old p new more b c = elim (cases_eq p.id.block b) [
  | inl e ↦
      let here = subst (IsBlockContradictory old) (sym e) c in
      subst (IsBlockContradictory new) e (record {
        below = subst (λ (k : Configuration). p.id.block < k.source_blocks) (sym more.elsewhere.configuration) here.below;
        unanswered = more.here.waits;
        contradictory = subst IsContradictory (sym more.here.received) (contradicts_more (old.received p.id.block) p.id.esi p.payload here.contradictory);
      })
  | inr ne ↦ kept_elsewhere old p new b more.elsewhere ne c
]

pub contradictions_are_kept : ContradictionsAreKept
contradictions_are_kept old p new (inl adds) = keeps_added old p new adds
contradictions_are_kept old p new (inr (inl same)) = λ b c. subst (λ s. IsBlockContradictory s b) (sym same) c
contradictions_are_kept old p new (inr (inr records)) = keeps_recorded old p new records

-- ---- an object's packets

pub honest_runs_grow : HonestRunsGrow
honest_runs_grow table c object packets p run pk = record { long = run.long; nonsingular = run.nonsingular; honest = AllByRecursion-append (IsPacketOf table c object) packets (p ∷ []) run.honest (pk, tt) }

-- what was received of them has a solution, so none of them contradicts what was received before
pub honest_packets_fit : HonestPacketsFit
honest_packets_fit old p new honest x =
    let table = honest.table in
    let c = old.configuration in
    let b = p.id.block in
    let f = honest.stands.follows in
    let pk = honest.of_object in
    let more = honest.packets ++ p ∷ [] in
    let is = recorded_after table c honest.packets p (honest.late b) (old.received b) (new.received b) (old.answer b) (new.answer b) (f.block b pk.block) x.records.here in
    (subst IsContradictory is x.contradictory).unsolved (record {
      column = pk.symbol.column;
      solves = solves_received (received_after table c b more) (block_source c honest.object b) pk.symbol.column (row_of_shape table c b (old.received b) (f.shape b pk.block)).checked (length-block_source c honest.object b) (source_sized c honest.object b) pk.symbol.is_only.is
          (received_symbol table c honest.object more b (first_payload b more) (honest_runs_grow table c honest.object honest.packets p honest.stands.run pk).honest (λ e. refl));
    })
