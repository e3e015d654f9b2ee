-- Packets of a block, written one behind another.
use Rattle.std.proofs.Common.{◌≡◌, ℕ, suc, ◌+◌, ◌-◌, ◌*◌, ◌<◌, ◌≤◌, ◌^◌, List, [], ◌∷◌, ◌++◌, length, take, drop, refl, sym, ap, ◌∙◌, arith, append_assoc}
use Rattle.std.proofs.Math.Seq.{take-append_seam}
use Rattle.std.proofs.lemmas.List.{length-take-le, length-append}
use Rattle.rq_bytes.specs.Ranges.{with_range}
use Rattle.rq_standard.specs.Packet.{Packet}
use Rattle.rq_standard.specs.Streams.{frames_of}
use Rattle.rq_standard.proofs.FrameLaws.{frames_of-push}
use Rattle.rq_block.specs.SourceBlockEncoder.{BlockEncoded}
use Rattle.rq_block.specs.WrittenPackets.{AreStretchBytes, WritesFrame}
use Rattle.rq_block.proofs.Encodes.{block_packets-more}

-- what stands before a place, and what was written there
pub front_written : (i : ℕ) (xs ys : List ℕ) → i ≤ length xs → take (i + length ys) (with_range xs i ys) ≡ take i xs ++ ys
front_written i xs ys within =
    let rest = drop (i + length ys) xs in
    let many : length (take i xs ++ ys) ≡ i + length ys = length-append (take i xs) ys ∙ ap (λ n. n + length ys) (length-take-le i xs within) in
    ap (λ n. take n (with_range xs i ys)) (sym many) ∙ ap (take (length (take i xs ++ ys))) (sym (append_assoc (take i xs) ys rest)) ∙ take-append_seam (take i xs ++ ys) rest

-- one packet more
pub written_more : (b : BlockEncoded) (start esi len : ℕ) (before after : List ℕ) → len ≡ 4 + b.size → start ≤ esi → esi < 2 ^ 24 → (esi - start) * len ≤ length before
    → AreStretchBytes b start (esi - start) (take ((esi - start) * len) before) → WritesFrame b esi ((esi - start) * len) before after → AreStretchBytes b start (esi + 1 - start) (take ((esi + 1 - start) * len) after)
written_more b start esi len before after is from small within so written =
    let n = esi - start in
    let frame = written.frame in
    let p : Packet = record { id = record { block = b.number; esi = esi }; payload = frame.payload } in
    let packets = so.packets ++ p ∷ [] in
    let next : esi + 1 - start ≡ suc n = omega (arith, from) in
    let end : (esi + 1 - start) * len ≡ n * len + length written.bytes = ap (λ k. k * len) next ∙ omega (arith, frame.long, is) in
    record {
      packets = packets;
      are = block_packets-more b start esi so.packets packets p from so.are refl (record { number = refl; esi = small; symbol = frame.symbol }) refl;
      spelled = ap (λ k. take k after) end ∙ ap (take (n * len + length written.bytes)) written.written ∙ front_written (n * len) before written.bytes within
          ∙ ap (λ xs. xs ++ written.bytes) so.spelled ∙ ap (λ xs. frames_of so.packets ++ xs) frame.spelled ∙ sym (frames_of-push so.packets p);
    }
