-- Cells that are written or lost one by one.
use Rattle.std.proofs.Common.{◌≡◌, ℕ, suc, ◌+◌, ◌-◌, ◌≤◌, ◌<◌, true, false, List, [], ◌∷◌, ◌++◌, length, replicate, take, drop, Option, refl, sym, ap, subst, ◌∙◌, arith, inl, inr, append-nil, append_assoc, length-append}
use Rattle.std.proofs.Math.Seq.{take-append_seam}
use Rattle.std.proofs.lemmas.List.{length-replicate, length-take-le, take_all, take_at}
use Rattle.std.specs.Io.KnownBytes.{Keeps, Appends}
use Rattle.std.proofs.KnownBytes.{Appends-nil, Appends-trans, Appends-kept}
use Rattle.rq_bytes.specs.declared.error.Error.{Error}
use Rattle.rq_bytes.specs.declared.error.Error.TheVariants.{OutOfMemory}
use Rattle.rq_standard.specs.Packet.{id_bytes}
use Rattle.rq_standard.specs.Streams.{frame_size}
use Rattle.raptorq.specs.Encoder.{IsFrameIn}
use Rattle.rq_cells.specs.declared.head.Head.{Head}
use Rattle.rq_cells.specs.declared.cell.Cell.{Cell}
use Rattle.rq_cells.specs.Cells.{Key, check_of, digest_of, head_bytes, cell_fields, cell_size}
use Rattle.rq_cells.proofs.HeadBytes.{length-head_bytes}
use Rattle.rq_streams.specs.declared.run.Stop.TheVariants.{Fault, Refused}
use Rattle.rq_cast.specs.Calls.{Call, kept_of, one_call, Tells}
use Rattle.rq_cast.specs.Writing.{IsRoom}
use Rattle.rq_cast.proofs.SentDigests.{payload_of}
use Rattle.rq_cast.specs.Sent.{Sending, cell_count, sent_id, IsSentCell, AreSent, SendsFirst, StopsSending}
use Rattle.rq_cast.proofs.ToldCalls.{tells_none, tells_then}

-- nothing is sent yet
pub sends_none : (s : Sending) (told : Option (List Call)) (there : Option (List ℕ)) → SendsFirst s 0 [] [] [] told told there there
sends_none s told there = record { written = []; sent = (refl, refl); is_told = tells_none told; appended = Appends-nil there }

-- what a call wrote of a cell, or lost
pub kept_by : (mid then : Option (List ℕ)) (bytes : List ℕ) → Keeps mid then → Appends mid then (kept_of (record { bytes = bytes; is_lost = true }))
kept_by mid then bytes kept = Appends-kept mid mid then [] (Appends-nil mid) kept

module _ (s : Sending) (n : ℕ) (calls : List Call) (told told_mid : Option (List Call)) (there mid then : Option (List ℕ))
    (sends : SendsFirst s n calls [] [] told told_mid there mid) where
  module _ (told' : Option (List Call)) where
    told_more : (more : List Call) → Tells told_mid told' more → Tells told told' (calls ++ more)
    told_more more one = subst (Tells told told') (ap (λ xs. xs ++ more) (append-nil calls)) (tells_then told told_mid told' (calls ++ []) more sends.is_told one)

    -- one cell more is begun
    pub sends_more : (call : Call) → IsSentCell s n call.bytes → Tells told_mid told' (call ∷ []) → Appends mid then (kept_of call)
        → SendsFirst s (n + 1) (calls ++ (call ∷ [])) [] [] told told' there then
    sends_more call cell one more =
        let next : suc n ≡ n + 1 = omega arith in
        let bytes = kept_of call in
        let all = sends.written ++ bytes in
        let called = calls ++ (call ∷ []) in
        record {
          written = all;
          sent = subst (λ m. AreSent s m all called) next (sends.written, calls, call, sends.sent, cell, refl, refl);
          is_told = subst (Tells told told') (sym (append-nil called)) (told_more (call ∷ []) one);
          appended = subst (Appends there then) (ap (λ xs. xs ++ bytes) (append-nil sends.written) ∙ sym (append-nil all))
              (Appends-trans there mid then (sends.written ++ []) bytes sends.appended more);
        }

    -- a beginning of one is written
    pub sends_begun : (bytes : List ℕ) (more : List Call) → Tells told_mid told' more → Appends mid then bytes
        → SendsFirst s n calls bytes more told told' there then
    sends_begun bytes more one begun = record {
      written = sends.written;
      sent = sends.sent;
      is_told = told_more more one;
      appended = subst (Appends there then) (ap (λ xs. xs ++ bytes) (append-nil sends.written))
          (Appends-trans there mid then (sends.written ++ []) bytes sends.appended begun);
    }

    -- a failed call leaves a beginning of a cell
    pub stops_within : (k : ℕ) (bytes : List ℕ) → n < cell_count s → IsSentCell s n bytes → Tells told_mid told' (one_call bytes false)
        → Appends mid then (take k bytes) → StopsSending s calls told told' there then Fault
    stops_within k bytes below cell one begun = record {
      number = n;
      within = omega (arith, below);
      behind = take k bytes;
      more = one_call bytes false;
      sends = sends_begun (take k bytes) (one_call bytes false) one begun;
      stopped = inr (record { within = below; cell = bytes; sent = cell; taken = k; begun = refl; by = refl });
    }

  -- nothing more is written
  pub sends_kept : Keeps mid then → SendsFirst s n calls [] [] told told_mid there then
  sends_kept kept = record {
    written = sends.written;
    sent = sends.sent;
    is_told = sends.is_told;
    appended = Appends-kept there mid then (sends.written ++ []) sends.appended kept;
  }

  -- a failed flush leaves none
  pub stops_behind : n ≤ cell_count s → Keeps mid then → StopsSending s calls told told_mid there then Fault
  stops_behind within kept = record {
    number = n;
    within = within;
    behind = [];
    more = [];
    sends = sends_kept kept;
    stopped = inl (refl, refl);
  }

-- memory is wanting before any cell
pub stops_wanting : (s : Sending) (told : Option (List Call)) (there then : Option (List ℕ)) (e : Error) → e ≡ OutOfMemory → Keeps there then
    → StopsSending s [] told told there then (Refused e)
stops_wanting s told there then e memory kept = record {
  number = 0;
  within = omega arith;
  behind = [];
  more = [];
  sends = sends_kept s 0 [] told told there there then (sends_none s told there) kept;
  stopped = (memory, refl, refl, refl);
}

-- ---- one cell over another

-- there is room behind a head
pub room_behind : (key : Key) (h : Head) (head bytes : List ℕ) (size : ℕ) → head ≡ head_bytes key h → length h.stream ≡ 8 → length h.name ≡ 16
    → size ≡ cell_size h.configuration.symbol_size → bytes ≡ take size head ++ replicate (size - length head) 0 → IsRoom key h bytes
room_behind key h head bytes size written streamed named long grown =
    let short : length head ≡ 52 = ap length written ∙ length-head_bytes key h ∙ omega (arith, streamed, named) in
    let is : bytes ≡ head ++ replicate (size - length head) 0 = grown ∙ ap (λ xs. xs ++ replicate (size - length head) 0) (take_all size head (omega (arith, short, long))) in
    record {
      long = omega (arith, ap length is, length-append head (replicate (size - length head) 0), length-replicate {A = ℕ} (size - length head) 0, short, long);
      headed = ap (λ n. take n bytes) (sym short) ∙ ap (take (length head)) is ∙ take-append_seam head (replicate (size - length head) 0) ∙ written;
    }

-- a packet and a check are written behind the head
module _ (s : Sending) (i : ℕ) (old packet rest digest new : List ℕ) (room : IsRoom s.key s.head old) (same : s.head.configuration ≡ s.encoded.configuration)
    (frame : IsFrameIn s.encoded (sent_id s i).block (sent_id s i).esi packet) (last : length rest ≡ 8) (hashed : digest ≡ digest_of (drop 4 packet)) where
  abbrev cell : Cell
  cell = record { head = s.head; packet = frame.packet }

  abbrev id : List ℕ
  id = id_bytes frame.packet.id

  -- the cell before its check is written
  abbrev unchecked : List ℕ
  unchecked = take 52 old ++ (packet ++ rest)

  abbrev checked : List ℕ
  checked = take 52 old ++ packet

  headed : length (take 52 old) ≡ 52
  headed = length-take-le 52 old (omega (arith, room.long))

  size : length checked ≡ 52 + frame_size s.encoded.configuration
  size = length-append (take 52 old) packet ∙ omega (arith, headed, frame.long)

  front : take (length unchecked - 8) unchecked ≡ checked
  front =
      let whole : unchecked ≡ checked ++ rest = sym (append_assoc (take 52 old) packet rest) in
      let end : length (checked ++ rest) - 8 ≡ length checked = omega (arith, length-append checked rest, last) in
      ap (λ xs. take (length xs - 8) xs) whole ∙ ap (λ n. take n (checked ++ rest)) end ∙ take-append_seam checked rest

  -- what the check is over
  fields : take 56 unchecked ++ digest ≡ cell_fields s.key cell
  fields =
      let payload = frame.packet.payload in
      let four : length id ≡ 4 = refl in
      let parted : unchecked ≡ (take 52 old ++ id) ++ (payload ++ rest) =
      ap (λ xs. take 52 old ++ xs) (ap (λ xs. xs ++ rest) frame.spelled ∙ append_assoc id payload rest) ∙ sym (append_assoc (take 52 old) id (payload ++ rest)) in
      let long : length (take 52 old ++ id) ≡ 56 = length-append (take 52 old) id ∙ omega (arith, headed, four) in
      let first : take 56 unchecked ≡ take 52 old ++ id = ap (take 56) parted ∙ take_at (take 52 old ++ id) (payload ++ rest) 56 long in
      let symbol : digest ≡ digest_of payload = hashed ∙ ap digest_of (payload_of s.encoded (sent_id s i).block (sent_id s i).esi packet frame) in
      ap (λ xs. xs ++ digest) first ∙ (λ j. (room.headed j ++ id) ++ symbol j)

  module _ (written : new ≡ take (length unchecked - 8) unchecked ++ check_of s.key (take 56 unchecked ++ digest)) where
    is : new ≡ checked ++ check_of s.key (cell_fields s.key cell)
    is = written ∙ (λ j. front j ++ check_of s.key (fields j))

    pub cell_over : IsSentCell s i new
    cell_over = record {
      packet = frame.packet;
      id = frame.id;
      of_object = frame.of_object;
      spelled = is ∙ (λ j. (room.headed j ++ frame.spelled j) ++ check_of s.key (cell_fields s.key cell));
    }
