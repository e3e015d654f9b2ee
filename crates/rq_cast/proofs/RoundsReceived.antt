-- The cells of a stream's rounds, as a receiver takes them together.
use Rattle.std.proofs.Common.{◌≡◌, inl, inr, ℕ, zero, suc, ◌+◌, ◌<◌, ◌≤◌, List, [], ◌∷◌, ◌++◌, length, refl, sym, ap, subst, ◌∙◌, arith}
use Rattle.std.specs.Prelude.{◌==◌}
use Rattle.std.proofs.lemmas.List.Elements.{All-weaker}
use Rattle.rq_standard.specs.declared.row.TableRow.{TableRow}
use Rattle.rq_standard.specs.Configuration.{Configuration}
use Rattle.rq_standard.specs.Headline.{IsPacketOf}
use Rattle.rq_standard.specs.Packet.{Packet}
use Rattle.raptorq.specs.Encoder.{Encoded, IsEncoderOf, IsPacketIn}
use Rattle.raptorq.specs.BlocksEncoded.{new_block_encoded}
use Rattle.rq_rows.specs.FullTable.{full_rows}
use Rattle.rq_cells.specs.declared.cell.Cell.{Cell}
use Rattle.rq_cells.specs.Cells.{Key}
use Rattle.rq_cast.specs.declared.order.Order.{Order}
use Rattle.rq_cast.specs.Parts.{object_of, part_head}
use Rattle.rq_cast.specs.Preparing.{IsFitting}
use Rattle.rq_cast.specs.Rounds.{in_round}
use Rattle.rq_cast.specs.Sent.{Sending}
use Rattle.rq_cast.specs.SentParts.{last_index, bytes_of_part, names_of, IsPreparedPart}
use Rattle.rq_cast.specs.Laws.{IsCellFrom, SendOverAllRows, RoundsAreOneSenders}
use Rattle.rq_cast.proofs.SentReceived.{prepared_parts_are_sent, sent_are_one_senders}
use Rattle.rq_cast.proofs.PartsInOrder.{names_next}

-- an object has one fitting configuration
one_fits : (n size : ℕ) (t t' : List TableRow) (c c' : Configuration) → IsFitting n size t c → IsFitting n size t' c' → c ≡ c'
one_fits n size t t' c c' (inl (built_in, is)) (inl (built_in', is')) = cc (built_in, is, built_in', is')
one_fits n size t t' c c' (inl (built_in, is)) (inr (not_built_in, all, is')) = absurd (cc (built_in, is, not_built_in))
one_fits n size t t' c c' (inr (not_built_in, all, is)) (inl (built_in, is')) = absurd (cc (built_in, is', not_built_in))
one_fits n size t t' c c' (inr (not_built_in, all, is)) (inr (not_built_in', all', is')) = cc (all, is, all', is')

-- ---- two encoders of one object in one configuration

module _ (table : List TableRow) (object : List ℕ) (e e' : Encoded) (cut : e.configuration ≡ e'.configuration) (is : IsEncoderOf table object e)
    (is' : IsEncoderOf table object e') where
  encoder_too : (t : List TableRow) (o : List ℕ) → IsEncoderOf t o e' → IsEncoderOf t o e
  encoder_too t o there = record {
    long = there.long ∙ ap (λ (k : Configuration). k.transfer_length) (sym cut);
    block = λ b below.
        let below' : b < e'.configuration.source_blocks = omega (arith, below, ap (λ (k : Configuration). k.source_blocks) cut) in
        is.block b below ∙ ap (λ k. new_block_encoded table k object b) cut ∙ sym (is'.block b below') ∙ there.block b below'
        ∙ ap (λ k. new_block_encoded t k o b) (sym cut);
  }

  packet_too : (p : Packet) → IsPacketIn e p → IsPacketIn e' p
  packet_too p of t o there = subst (λ k. IsPacketOf t k o p) cut (of t o (encoder_too t o there))

-- ---- rounds

module _ (order : Order) (key : Key) (input : List ℕ) (of : ℕ → ℕ → Sending)
    (all : (round i : ℕ) → i ≤ last_index order.part input → IsPreparedPart (in_round order round) key input (of round) i (of round i)) where
  abbrev last : ℕ
  last = last_index order.part input

  abbrev object : (round i : ℕ) → List ℕ
  object round i = object_of (i == last) (names_of (of round) i) (bytes_of_part order.part input i)

  sends : (round : ℕ) → SendOverAllRows (of round) last (bytes_of_part order.part input)
  sends round = prepared_parts_are_sent (in_round order round) key input (of round) (all round)

  module _ (round i : ℕ) (below : i ≤ last) (names : names_of (of round) i ≡ names_of (of 0) i) where
    same_object : object round i ≡ object 0 i
    same_object = ap (λ xs. object_of (i == last) xs (bytes_of_part order.part input i)) names

    same_cut : (of round i).encoded.configuration ≡ (of 0 i).encoded.configuration
    same_cut =
        let here = all round i below in
        let there = all 0 i below in
        one_fits (length (object 0 i)) order.symbol_size here.table there.table (of round i).encoded.configuration (of 0 i).encoded.configuration
        (subst (λ xs. IsFitting (length xs) order.symbol_size here.table (of round i).encoded.configuration) same_object here.fitting) there.fitting

    same_head : (of round i).head ≡ (of 0 i).head
    same_head =
        ((sends round).sends i below).head
        ∙ (λ j. part_head (i == last) (names j) (same_cut j) (same_object j))
        ∙ sym ((sends 0).sends i below).head

  same_names : (round n : ℕ) → n ≤ last + 1 → names_of (of round) n ≡ names_of (of 0) n
  same_names round zero few = refl
  same_names round (suc n) few =
      let next : n + 1 ≡ suc n = omega arith in
      let before = same_names round n (omega (arith, few)) in
      let head = same_head round n (omega (arith, few)) before in
      subst (λ m. names_of (of round) m ≡ names_of (of 0) m) next
      (names_next (of round) n ∙ (λ j. before j ++ ((head j).name ∷ [])) ∙ sym (names_next (of 0) n))

  from_first : (cell : Cell) → (round : ℕ) × (i : ℕ) × (i ≤ last) × IsCellFrom (of round i) cell → (i : ℕ) × (i ≤ last) × IsCellFrom (of 0 i) cell
  from_first cell (round, i, below, from) =
      let names = same_names round i (omega (arith, below)) in
      let there = ((sends 0).sends i below).encoder in
      let here = subst (λ xs. IsEncoderOf full_rows xs (of round i).encoded) (same_object round i below names) ((sends round).sends i below).encoder in
      let packet = packet_too full_rows (object 0 i) (of round i).encoded (of 0 i).encoded (same_cut round i below names) here there cell.packet from.1 in
      (i, below, (from.0 ∙ same_head round i below names, packet))

pub rounds_are_one_senders : RoundsAreOneSenders
rounds_are_one_senders order key input of all cells from =
    let last = last_index order.part input in
    let first = sends order key input of all 0 in
    sent_are_one_senders full_rows (of 0) last (bytes_of_part order.part input) first.sends first.have_bytes cells
    (All-weaker (λ cell. (round : ℕ) × (i : ℕ) × (i ≤ last) × IsCellFrom (of round i) cell) (λ cell. (i : ℕ) × (i ≤ last) × IsCellFrom (of 0 i) cell)
    (from_first order key input of all) cells from)
