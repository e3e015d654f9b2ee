-- The packets in a buffer, frame by frame.
use Rattle.raptorq_c.proofs.Names.{◌≡◌, ◌≢◌, ℕ, Bool, true, false, List, Result, Ok, Err, refl, sym, ap, ◌∙◌, arith, inl, inr, cond, [], ◌∷◌, ◌++◌, append_assoc, append-nil, map, IfOk, and_then, Error, PacketTooShort, Packet, packet_of_bytes, read_packet, packets_of-push, packets_of, AddsEach, AddsFrames, StopsAtFrame, IsListed}
use Rattle.raptorq_c.proofs.Names.{refusal_number, IsNumber, frames_refusal}
use Rattle.rq_block.specs.declared.encoder.TheConstants.{SPARSE_MATRIX_THRESHOLD}
use Rattle.raptorq_c.proofs.Ending.{code_positive}

abbrev Steps : Type 0
Steps = List (ℕ × Packet)

abbrev short_or : Bool → Packet → Result Packet Error
short_or short p = cond short (Err PacketTooShort) (Ok p)

read_by : (short : Bool) (q p : Packet) → short_or short q ≡ Ok p → p ≡ q
read_by true q p h = absurd (cc h)
read_by false q p h = cc h

-- what is refused of a frame and of those behind it
abbrev behind : Result Packet Error → List (List ℕ) → Result (Unit {0}) Error
behind read frames = and_then {Y = Unit {0}} (and_then {Y = Unit {0}} read (λ _. Ok tt)) (λ _. frames_refusal frames)

-- a frame that isn't refused spells the packet that is listed
listed_by : (old new : Steps) (read : Result Packet Error) → IsNumber 0 read → IfOk read (λ p. new ≡ old ++ (SPARSE_MATRIX_THRESHOLD, p) ∷ []) → (p : Packet) × (read ≡ Ok p) × (new ≡ old ++ (SPARSE_MATRIX_THRESHOLD, p) ∷ [])
listed_by old new (Ok p) number listed = (p, refl, listed)
listed_by old new (Err e) (inl zero) listed = absurd (omega (arith, zero, code_positive e))
listed_by old new (Err e) (inr memory) listed = absurd (cc memory)

-- those that are listed are the packets of their frames
pub each_listed : (old : Steps) (frames : List (List ℕ)) (new : Steps) → AddsEach IsListed old frames new → (packets_of new ≡ packets_of old ++ map packet_of_bytes frames) × (frames_refusal frames ≡ Ok tt)
each_listed old [] new same = (ap packets_of same ∙ sym (append-nil (packets_of old)), refl)
each_listed old (frame ∷ frames) new added =
    let one = listed_by old added.0 (read_packet frame) added.1.number (added.1.listed refl) in
    let more = each_listed added.0 frames new added.2 in
    let rest = map packet_of_bytes frames in
    let next : packets_of added.0 ≡ packets_of old ++ packet_of_bytes frame ∷ [] =
    ap packets_of one.2 ∙ packets_of-push old (SPARSE_MATRIX_THRESHOLD, one.0) ∙ ap (λ p. packets_of old ++ p ∷ []) (read_by _ (packet_of_bytes frame) one.0 one.1) in
    (more.0 ∙ ap (λ ps. ps ++ rest) next ∙ append_assoc (packets_of old) (packet_of_bytes frame ∷ []) rest, ap (λ r. behind r frames) one.1 ∙ more.1)

passed_over : (old : Steps) (first : List (List ℕ)) (between : Steps) (rest : List (List ℕ)) → AddsEach IsListed old first between → frames_refusal (first ++ rest) ≡ frames_refusal rest
passed_over old [] between rest same = refl
passed_over old (frame ∷ first) between rest added =
    ap (λ r. behind r (first ++ rest)) (listed_by old added.0 (read_packet frame) added.1.number (added.1.listed refl)).1 ∙ passed_over added.0 first between rest added.2

-- where one is refused, it is the first that is
pub first_refused : (frames : List (List ℕ)) (answer : ℕ) (old new : Steps) → answer ≢ 0 → AddsFrames IsListed frames answer old new → IsNumber answer (frames_refusal frames)
first_refused frames answer old new other so = by_read (read_packet s.refused) refl s.stops.number where
  s : StopsAtFrame IsListed frames answer old new
  s = so.some other

  by_read : (read : Result Packet Error) → read_packet s.refused ≡ read → IsNumber answer read → IsNumber answer (frames_refusal frames)
  by_read (Ok p) read (inl zero) = absurd (other zero)
  by_read (Ok p) read (inr memory) = inr memory
  by_read (Err e) read (inl is) =
      let refused : frames_refusal frames ≡ Err e = ap frames_refusal s.cut ∙ passed_over old s.first s.between (s.refused ∷ s.later) s.added ∙ ap (λ r. behind r s.later) read in
      inl (is ∙ sym (ap refusal_number refused))
  by_read (Err e) read (inr memory) = inr memory
