-- A decoder that follows an object's packets has just what they determine of it.
use Rattle.std.proofs.Common.{◌≡◌, ◌≢◌, ℕ, ◌*◌, ◌<◌, false, List, take, Option, Some, None, refl, sym, ap, ◌∙◌, subst, arith, inl, inr}
use Rattle.std.specs.List.{AllByRecursion}
use Rattle.std.proofs.lemmas.Bool.{cases_eq}
use Rattle.std.proofs.lemmas.List.{nil_from_length}
use Rattle.rq_standard.specs.declared.row.TableRow.{TableRow}
use Rattle.rq_standard.specs.TableRows.{greatest_size}
use Rattle.rq_standard.specs.Packet.{Packet}
use Rattle.rq_standard.specs.Configuration.{Configuration, IsAligned, IsAccepted}
use Rattle.rq_standard.specs.Cutting.{block_symbols, block_bytes}
use Rattle.rq_standard.specs.Received.{first_payload, has_id}
use Rattle.rq_standard.specs.Headline.{IsNonsingular, IsIntermediateColumn, DetermineBlock, block_row, block_source, IsPacketOf}
use Rattle.rq_standard.specs.ReceivedBlock.{ReceivedBlock, CanAnswer, IsBlockAnswer}
use Rattle.rq_standard.specs.DecoderState.{State}
use Rattle.rq_standard.specs.DecoderSteps.{received_after}
use Rattle.rq_standard.specs.Following.{Lateness, Late, FollowsBlock}
use Rattle.rq_standard.specs.Standing.{StandsForButLate}
use Rattle.rq_standard.proofs.KnownIds.{block_same, block_of_source, none_determined}
use Rattle.rq_standard.proofs.Columns.{source_sum, solves_received}
use Rattle.rq_standard.proofs.FirstAnswers.{fewer_can}
use Rattle.rq_standard.proofs.OneObject.{shared_packet}
use Rattle.rq_standard.proofs.PlainCut.{length-block_bytes}
use Rattle.rq_standard.proofs.Interleaved.{same_symbols}
use Rattle.rq_standard.proofs.StandingSteps.{HasRow, row_of_shape, length-block_source, source_sized, source_at, received_symbol, all_taken}

-- the packets of a list determine a block
abbrev pub Determined : List TableRow → Configuration → ℕ → List Packet → Type 0
Determined table c b packets = DetermineBlock (block_row table c b) (block_symbols c b) (has_id b packets)

-- A block is the object's, and determined; or the first payloads are kept, and, unless it is late, don't determine it.
abbrev pub BlockStandsFor : Lateness → List TableRow → Configuration → List ℕ → ℕ → List Packet → ReceivedBlock → Option (List ℕ) → Type 0
BlockStandsFor l table c object b packets h None = ((e : ℕ) → h.received e ≡ first_payload b packets e) × (l ≢ Late → Determined table c b packets → ⊥)
BlockStandsFor l table c object b packets h (Some bytes) = (bytes ≡ block_bytes c object b) × Determined table c b packets

pub aligned_of : (greatest : ℕ) (c : Configuration) → IsAccepted greatest c → IsAligned c
aligned_of greatest c a = record { alignment_positive = a.alignment_positive; aligned = a.aligned }

module _ (table : List TableRow) (c : Configuration) (object : List ℕ) (b : ℕ) (aligned : IsAligned c) (nonsingular : IsNonsingular (block_row table c b)) (has_row : HasRow (block_row table c b) (block_symbols c b)) where
  -- what can be answered is determined, over a row that isn't singular
  determined : (packets : List Packet) → CanAnswer (received_after table c b packets) → Determined table c b packets
  determined packets (inl all) = block_of_source (block_row table c b) (block_symbols c b) (has_id b packets) nonsingular all
  determined packets (inr d) = d

  module _ (packets : List Packet) (honest : AllByRecursion (IsPacketOf table c object) packets) (bytes : List ℕ) (answers : IsBlockAnswer (received_after table c b packets) (Some bytes)) where
    -- what is answered is the object's block, which intermediate symbols make
    by_column : (column : ℕ → List ℕ) → IsIntermediateColumn (block_row table c b) c.symbol_size (block_source c object b) column → bytes ≡ block_bytes c object b
    by_column column is =
        let solves = solves_received (received_after table c b packets) (block_source c object b) column has_row.checked (length-block_source c object b) (source_sized c object b) is (received_symbol table c object packets b (first_payload b packets) honest (λ e. refl)) in
        same_symbols c (block_symbols c b) bytes (block_bytes c object b) aligned answers.block.long (length-block_bytes c object b)
        (λ e below. answers.block.solved (determined packets (answers.some refl)) column solves e below ∙ source_sum (block_row table c b) c.symbol_size e (block_source c object b) column has_row.checked is (source_sized c object b) (omega (arith, has_row.fits)) ∙ source_at c object b e below)

    object_block : bytes ≡ block_bytes c object b
    object_block = elim (cases_eq (block_symbols c b) 0) [
      | inl none ↦
          let no_bytes : block_symbols c b * c.symbol_size ≡ 0 = ap (λ n. n * c.symbol_size) none ∙ omega arith in
          nil_from_length bytes (answers.block.long ∙ no_bytes) ∙ sym (nil_from_length (block_bytes c object b) (length-block_bytes c object b ∙ no_bytes))
      | inr some ↦ elim (shared_packet table c object object b packets honest honest) [
        | inl found ↦ subst (λ n. (column : ℕ → List ℕ) → IsIntermediateColumn (block_row table c n) c.symbol_size (block_source c object n) column → bytes ≡ block_bytes c object b) (sym found.here) by_column found.is_one.symbol.column found.is_one.symbol.is_only.is
        | inr none ↦ absurd (none_determined (block_row table c b) (block_symbols c b) (omega (arith, some)) has_row.fits (block_same (block_row table c b) (block_symbols c b) (has_id b packets) (λ _. false) none (determined packets (answers.some refl))))
      ]
    ]

  by_answer : (l : Lateness) (packets : List Packet) (h : ReceivedBlock) (a : Option (List ℕ)) → AllByRecursion (IsPacketOf table c object) packets → FollowsBlock l table c b packets h a → BlockStandsFor l table c object b packets h a
  by_answer l packets h None honest f = (λ e. ap (λ g. g.received e) f.0, λ now d. f.1 now (subst CanAnswer (sym f.0) (inr d)))
  by_answer l packets h (Some bytes) honest f =
      (object_block (take f.count packets) (all_taken (IsPacketOf table c object) f.count packets honest) bytes f.answers, determined packets (fewer_can table c b packets f.count (f.answers.some refl)))

-- so an honest run and a decoder that follows it say all that was ever said of a decoder that stands for it
pub stands_block : (late : ℕ → Lateness) (table : List TableRow) (object : List ℕ) (packets : List Packet) (s : State) → StandsForButLate late table object packets s
    → (b : ℕ) → b < s.configuration.source_blocks → BlockStandsFor (late b) table s.configuration object b packets (s.received b) (s.answer b)
stands_block late table object packets s st b below =
    let f = st.follows in
    let c = s.configuration in
    by_answer table c object b (aligned_of (greatest_size table) c f.accepted) (st.run.nonsingular b below) (row_of_shape table c b (s.received b) (f.shape b below)) (late b) packets (s.received b) (s.answer b) st.run.honest (f.block b below)
