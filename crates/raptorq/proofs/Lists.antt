-- A list of an object's packets, taken one by one.
use Rattle.std.proofs.Common.{◌≡◌, ◌↔◌, ℕ, List, [], ◌∷◌, ◌++◌, length, Ok, refl, sym, ap, ◌∙◌, subst, append_assoc, append-nil, length-append, eq-eqb}
use Rattle.std.specs.Prelude.{IsSome}
use Rattle.std.specs.List.{AllByRecursion}
use Rattle.std.proofs.lemmas.Bool.{lt-ltb}
use Rattle.std.proofs.lemmas.List.{map-append}
use Rattle.rq_standard.specs.Packet.{Packet, id_bytes, packet_bytes}
use Rattle.rq_standard.specs.Streams.{frame_size}
use Rattle.rq_standard.specs.Configuration.{Configuration}
use Rattle.rq_standard.specs.Headline.{IsHonestRun, IsOnlyObject, block_row, block_source, IsPacketOf, IsObjectAnswer, AnswersExactly, AnswersWhereAnyCan}
use Rattle.rq_standard.specs.declared.row.TableRow.{TableRow}
use Rattle.rq_standard.specs.TableRows.{IsChecked}
use Rattle.rq_standard.specs.Equations.{internal_id}
use Rattle.rq_standard.specs.DecoderState.{State, result_of}
use Rattle.rq_standard.specs.Following.{InTime, FollowsRun}
use Rattle.rq_standard.specs.Standing.{StandsFor, IsHonestPacket}
use Rattle.rq_standard.proofs.ObjectAnswers.{answers_object}
use Rattle.rq_standard.proofs.OtherObjects.{answers_only}
use Rattle.rq_standard.proofs.Columns.{sum_symbol}
use Rattle.raptorq.specs.Refused.{packet_refusal}
use Rattle.raptorq.specs.Runs.{packets_of}

pub all_at : (P : Packet → Type 0) (front rest : List Packet) (p : Packet) → AllByRecursion P (front ++ p ∷ rest) → P p
all_at P [] rest p h = h.0
all_at P (x ∷ front) rest p h = all_at P front rest p h.1

pub all_front : (P : Packet → Type 0) (front rest : List Packet) → AllByRecursion P (front ++ rest) → AllByRecursion P front
all_front P [] rest h = tt
all_front P (x ∷ front) rest h = (h.0, all_front P front rest h.1)

-- a packet of the object carries a symbol
pub length-payload : (table : List TableRow) (c : Configuration) (object : List ℕ) (p : Packet) → IsChecked (block_row table c p.id.block) → IsPacketOf table c object p → length p.payload ≡ c.symbol_size
length-payload table c object p checked h =
    let row = block_row table c p.id.block in
    ap length h.symbol.is_sum ∙ (sum_symbol row c.symbol_size (internal_id row (length (block_source c object p.id.block)) p.id.esi) h.symbol.column checked h.symbol.is_only.is.symbols).size_is

-- so it takes a frame
pub length-packet_bytes : (table : List TableRow) (c : Configuration) (object : List ℕ) (p : Packet) → IsChecked (block_row table c p.id.block) → IsPacketOf table c object p → length (packet_bytes p) ≡ frame_size c
length-packet_bytes table c object p checked h =
    let four : length (id_bytes p.id) ≡ 4 = refl in
    length-append (id_bytes p.id) p.payload ∙ rw (four, length-payload table c object p checked h) refl

-- and isn't refused
pub packet_refusal-packet : (table : List TableRow) (c : Configuration) (object : List ℕ) (p : Packet) → IsChecked (block_row table c p.id.block) → IsPacketOf table c object p → packet_refusal c p ≡ Ok tt
packet_refusal-packet table c object p checked h =
    let here = lt-ltb p.id.block c.source_blocks h.block in
    let long = eq-eqb (length p.payload) c.symbol_size (length-payload table c object p checked h) in
    rw (here, long) refl

pub packets_of-push : (done : List (ℕ × Packet)) (step : ℕ × Packet) → packets_of (done ++ step ∷ []) ≡ packets_of done ++ step.1 ∷ []
packets_of-push done step = map-append (λ (s : ℕ × Packet). s.1) done (step ∷ [])

pub next_whole : {X : Type 0} → (all done rest left : List X) (x : X) → all ≡ done ++ rest → rest ≡ x ∷ left → all ≡ (done ++ x ∷ []) ++ left
next_whole all done rest left x whole is = whole ∙ ap (λ l. done ++ l) is ∙ sym (append_assoc done (x ∷ []) left)

-- what is said of all that was received is said of the whole list
pub done_is_all : {X : Type 0} → (all done rest : List X) → all ≡ done ++ rest → rest ≡ [] → done ≡ all
done_is_all all done rest whole none = sym (whole ∙ ap (λ l. done ++ l) none ∙ append-nil done)

module _ (table : List TableRow) (c : Configuration) (packets : List Packet) (s : State) (same : s.configuration ≡ c) (follows : FollowsRun table packets s) where
  -- a decoder that follows an honest run stands for it
  stands : (object : List ℕ) → IsHonestRun table c object packets → StandsFor table object packets s
  stands object run = record { run = subst (λ k. IsHonestRun table k object packets) (sym same) run; follows = follows }

  -- the answer after the whole list
  pub answers_exactly : AnswersExactly table c packets (result_of s)
  answers_exactly object run = subst (λ k. IsObjectAnswer table k object packets (result_of s)) same (answers_object s table object packets _ (stands object run) (λ b e. absurd (cc e)))

  -- an answer exactly where no other object fits the list
  pub answers_where_any_can : AnswersWhereAnyCan table c packets (result_of s)
  answers_where_any_can object run = subst (λ k. IsSome (result_of s) ↔ IsOnlyObject table k packets object) same (answers_only s table object packets _ (stands object run) (λ b e. absurd (cc e)))

  -- the next packet of an honest run
  pub next_honest : (object : List ℕ) (rest : List Packet) (p : Packet) → IsHonestRun table c object (packets ++ p ∷ rest) → IsHonestPacket s p
  next_honest object rest p run = record {
    table = table;
    object = object;
    packets = packets;
    late = λ _. InTime;
    stands = stands object (record { long = run.long; nonsingular = run.nonsingular; honest = all_front (IsPacketOf table c object) packets (p ∷ rest) run.honest });
    of_object = subst (λ k. IsPacketOf table k object p) (sym same) (all_at (IsPacketOf table c object) packets rest p run.honest);
  }
