-- Which frames of a mixed stream are skipped: those that hold no packet.
use Rattle.std.proofs.Common.{◌≡◌, ℕ, ◌+◌, ◌<◌, ◌≤◌, Bool, true, false, cond, ltb, List, [], ◌∷◌, ◌++◌, length, map, Some, None, refl, ap, ◌∙◌, arith, eq-eqb, Ok}
use Rattle.std.specs.Prelude.{not, ◌||◌, slice_index, flat_map}
use Rattle.std.specs.List.{AllByRecursion, cons_option}
use Rattle.std.proofs.lemmas.Bool.{lt-ltb, le-ltb, ltb-false}
use Rattle.std.proofs.lemmas.List.{length-drop}
use Rattle.std.proofs.lemmas.List.Sums.{sum_by-cons}
use Rattle.rq_standard.specs.Packet.{Packet, IsSymbolId, packet_bytes, packet_of_bytes, id_of_bytes}
use Rattle.rq_standard.specs.Configuration.{Configuration}
use Rattle.rq_standard.specs.declared.row.TableRow.{TableRow}
use Rattle.rq_standard.specs.TableRows.{IsChecked}
use Rattle.rq_standard.specs.Headline.{block_row, IsPacketOf}
use Rattle.rq_standard.proofs.PacketBytes.{id_of_bytes-id_bytes, packet_of_bytes-packet_bytes}
use Rattle.raptorq.specs.Refused.{packet_refusal}
use Rattle.raptorq.proofs.Lists.{length-packet_bytes}
use Rattle.rq_standard.specs.Streams.{frame_size, frames_in}
use Rattle.rq_streams.specs.Frames.{is_skipped, kept_packet, kept_packets, skipped_count, packets_in_bytes, skipped_in_bytes}
use Rattle.rq_streams.specs.MixedStreams.{Frame, Holds, Other, frame_bytes, packets_among, others_among, IsOtherFrame, rest_count, other_count}
use Rattle.rq_streams.proofs.FrameCuts.{rest_frames, frames_in-mixed}

-- a packet of the object whose id fits its bytes, and whose block has a checked row, so that it fills a frame
pub record FillsFrame (table : List TableRow) (c : Configuration) (object : List ℕ) (p : Packet) : Type 0 where
  pub source : IsPacketOf table c object p
  pub id : IsSymbolId p.id
  pub row : IsChecked (block_row table c p.id.block)

read_back : (table : List TableRow) (c : Configuration) (object : List ℕ) (p : Packet) → FillsFrame table c object p → packet_of_bytes (packet_bytes p) ≡ p
read_back table c object p h = packet_of_bytes-packet_bytes p (id_of_bytes-id_bytes p.id h.id)

-- a packet's frame isn't skipped
is_skipped-packet : (table : List TableRow) (c : Configuration) (object : List ℕ) (p : Packet) → FillsFrame table c object p → is_skipped c (packet_bytes p) ≡ false
is_skipped-packet table c object p h =
    let whole : ltb (length (packet_bytes p)) (frame_size c) ≡ false = le-ltb (length (packet_bytes p)) (frame_size c) (omega (arith, length-packet_bytes table c object p h.row h.source)) in
    let known : ltb (packet_of_bytes (packet_bytes p)).id.block c.source_blocks ≡ true = ap (λ (q : Packet). ltb q.id.block c.source_blocks) (read_back table c object p h) ∙ lt-ltb p.id.block c.source_blocks h.source.block in
    ap (λ b. b || not (ltb (packet_of_bytes (packet_bytes p)).id.block c.source_blocks)) whole ∙ ap (λ b. false || not b) known

-- the block that a first byte names is no less than it
block-first : (n : ℕ) (frame : List ℕ) → n ≤ slice_index frame 0 → n ≤ (packet_of_bytes frame).id.block
unfolding packet_of_bytes id_of_bytes
block-first n [] h = omega arith
block-first n (b ∷ frame) h = omega arith

-- a frame that holds no packet is
is_skipped-other : (c : Configuration) (bytes : List ℕ) → IsOtherFrame c bytes → is_skipped c bytes ≡ true
is_skipped-other c bytes h =
    let whole : ltb (length bytes) (frame_size c) ≡ false = le-ltb (length bytes) (frame_size c) (omega (arith, h.long)) in
    let unknown : ltb (packet_of_bytes bytes).id.block c.source_blocks ≡ false = le-ltb (packet_of_bytes bytes).id.block c.source_blocks (block-first c.source_blocks bytes h.unknown) in
    ap (λ b. b || not (ltb (packet_of_bytes bytes).id.block c.source_blocks)) whole ∙ ap (λ b. false || not b) unknown

-- and so is one that isn't whole
is_skipped-short : (c : Configuration) (bytes : List ℕ) → length bytes < frame_size c → is_skipped c bytes ≡ true
is_skipped-short c bytes h = ap (λ b. b || not (ltb (packet_of_bytes bytes).id.block c.source_blocks)) (lt-ltb (length bytes) (frame_size c) h)

-- one frame more
pub skipped_count-cons : (c : Configuration) (frame : List ℕ) (frames : List (List ℕ)) → skipped_count c (frame ∷ frames) ≡ cond (is_skipped c frame) 1 0 + skipped_count c frames
skipped_count-cons c frame frames = sum_by-cons (λ x. cond (is_skipped c x) 1 0) frame frames

-- what is kept is known and whole
kept_by : (short known : Bool) (q p : Packet) → Some p ≡ cond (short || not known) None (Some q) → (short ≡ false) × (known ≡ true) × (p ≡ q)
kept_by true known q p h = absurd (cc h)
kept_by false false q p h = absurd (cc h)
kept_by false true q p h = (refl, refl, cc)

-- a packet that is kept isn't refused
pub packet_refusal-kept : (c : Configuration) (frame : List ℕ) (p : Packet) → length frame ≤ frame_size c → Some p ≡ kept_packet c frame → packet_refusal c p ≡ Ok tt
unfolding packet_of_bytes
packet_refusal-kept c frame p long kept =
    let q = packet_of_bytes frame in
    let known = kept_by (ltb (length frame) (frame_size c)) (ltb q.id.block c.source_blocks) q p kept in
    let payload : length q.payload ≡ c.symbol_size = length-drop 4 frame ∙ omega (arith, long, ltb-false (length frame) (frame_size c) known.0) in
    let fits = eq-eqb (length q.payload) c.symbol_size payload in
    ap (packet_refusal c) known.2 ∙ rw (known.1, fits) refl

-- ---- the frames of a mixed stream

module _ (table : List TableRow) (c : Configuration) (object : List ℕ) where
  -- each frame is as long as a frame
  all_long : (frames : List Frame) → AllByRecursion (FillsFrame table c object) (packets_among frames) → AllByRecursion (IsOtherFrame c) (others_among frames) → AllByRecursion (λ f. length (frame_bytes f) ≡ frame_size c) frames
  all_long [] fill others = tt
  all_long (Holds p ∷ frames) fill others = (length-packet_bytes table c object p fill.0.row fill.0.source, all_long frames fill.1 others)
  all_long (Other bytes ∷ frames) fill others = (others.0.long, all_long frames fill others.1)

  -- a rest is skipped
  rest_skipped : (rest : List ℕ) → length rest < frame_size c → (kept_packets c (rest_frames rest) ≡ []) × (skipped_count c (rest_frames rest) ≡ rest_count rest)
  rest_skipped [] short = (refl, refl)
  rest_skipped (b ∷ rest) short =
      let skipped = is_skipped-short c (b ∷ rest) short in
      (ap (λ s. cons_option (cond s None (Some (packet_of_bytes (b ∷ rest)))) []) skipped, skipped_count-cons c (b ∷ rest) [] ∙ ap (λ s. cond s 1 0 + skipped_count c []) skipped)

  -- so are the frames that hold no packet, and the packets of the others are kept
  kept_and_skipped : (frames : List Frame) (rest : List ℕ) → AllByRecursion (FillsFrame table c object) (packets_among frames) → AllByRecursion (IsOtherFrame c) (others_among frames) → length rest < frame_size c
      → (kept_packets c (map frame_bytes frames ++ rest_frames rest) ≡ packets_among frames) × (skipped_count c (map frame_bytes frames ++ rest_frames rest) ≡ other_count frames rest)
  kept_and_skipped [] rest fill others short = let both = rest_skipped rest short in (both.0, both.1 ∙ omega arith)
  kept_and_skipped (Holds p ∷ frames) rest fill others short =
      let left = map frame_bytes frames ++ rest_frames rest in
      let both = kept_and_skipped frames rest fill.1 others short in
      let taken = is_skipped-packet table c object p fill.0 in (
        ap (λ s. cons_option (cond s None (Some (packet_of_bytes (packet_bytes p)))) (kept_packets c left)) taken
            ∙ ap (λ q. q ∷ kept_packets c left) (read_back table c object p fill.0) ∙ ap (λ ps. p ∷ ps) both.0,
        skipped_count-cons c (packet_bytes p) left ∙ ap (λ s. cond s 1 0 + skipped_count c left) taken ∙ omega (arith, both.1),
      )
  kept_and_skipped (Other bytes ∷ frames) rest fill others short =
      let left = map frame_bytes frames ++ rest_frames rest in
      let both = kept_and_skipped frames rest fill others.1 short in
      let skipped = is_skipped-other c bytes others.0 in (
        ap (λ s. cons_option (cond s None (Some (packet_of_bytes bytes))) (kept_packets c left)) skipped ∙ both.0,
        skipped_count-cons c bytes left ∙ ap (λ s. cond s 1 0 + skipped_count c left) skipped ∙ omega (arith, both.1),
      )

  module _ (frames : List Frame) (rest : List ℕ) (fill : AllByRecursion (FillsFrame table c object) (packets_among frames)) (others : AllByRecursion (IsOtherFrame c) (others_among frames)) (short : length rest < frame_size c) where
    are_cut : frames_in (frame_size c) (flat_map frame_bytes frames ++ rest) ≡ map frame_bytes frames ++ rest_frames rest
    are_cut = frames_in-mixed (frame_size c) frames rest (omega arith) (all_long frames fill others) short

    -- the packets that are kept of a mixed stream are those among its frames
    pub kept_packets-mixed : packets_in_bytes c (flat_map frame_bytes frames ++ rest) ≡ packets_among frames
    kept_packets-mixed = ap (kept_packets c) are_cut ∙ (kept_and_skipped frames rest fill others short).0

    -- and what is skipped are the others and the rest
    pub skipped_count-mixed : skipped_in_bytes c (flat_map frame_bytes frames ++ rest) ≡ other_count frames rest
    skipped_count-mixed = ap (skipped_count c) are_cut ∙ (kept_and_skipped frames rest fill others short).1
