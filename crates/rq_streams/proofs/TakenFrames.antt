-- Packets of an object, taken frame by frame.
use Rattle.std.proofs.Common.{◌≡◌, ◌⊎◌, ℕ, ◌+◌, ◌<◌, ◌≤◌, min, length, length-append, true, false, cond, Bool, Option, List, [], ◌∷◌, ◌++◌, Some, None, Ok, Err, refl, sym, ap, ◌∙◌, subst, arith, append_assoc, append-nil, inl, inr}
use Rattle.std.specs.List.{cons_option}
use Rattle.rq_standard.specs.Packet.{Packet, packet_of_bytes}
use Rattle.rq_standard.specs.Configuration.{Configuration}
use Rattle.rq_standard.specs.declared.row.TableRow.{TableRow}
use Rattle.rq_standard.specs.Headline.{IsHonestRun}
use Rattle.rq_standard.specs.DecoderState.{State}
use Rattle.rq_standard.specs.DecoderSteps.{Adds}
use Rattle.rq_standard.specs.Standing.{IsHonestPacket}
use Rattle.rq_bytes.specs.declared.error.Error.{Error}
use Rattle.rq_bytes.specs.declared.error.Error.TheVariants.{OutOfMemory}
use Rattle.rq_standard.specs.Following.{FollowsRun}
use Rattle.raptorq.specs.Runs.{IsNextRefusal, IsRefusalBehind}
use Rattle.raptorq.specs.Refused.{packet_refusal}
use Rattle.raptorq.specs.TakesPacket.{StopsBy}
use Rattle.rq_standard.proofs.FollowingSteps.{taken_is_followed}
use Rattle.raptorq.proofs.FollowedRuns.{passes_below, taken_is_next, refused_is_next, one_passes, one_stops}
use Rattle.raptorq.proofs.Lists.{next_honest}
use Rattle.rq_standard.specs.Streams.{frame_size, frames_in}
use Rattle.rq_streams.specs.Frames.{is_skipped, kept_packet, kept_packets, skipped_count, packets_in_bytes, skipped_in_bytes}
use Rattle.rq_streams.specs.ReceivedStreams.{FollowsFrames, IsFramesRefusal}
use Rattle.rq_standard.proofs.FrameLaws.{frames_in-next, frames_in-none}
use Rattle.rq_streams.proofs.Skipping.{skipped_count-cons}

-- The frames so far are taken or skipped: the packets of these and of those that are left are the packets of all, and few enough are skipped.
pub record AreFramesTaken (c : Configuration) (bytes left : List ℕ) (skipped : ℕ) (old now : State) : Type 0 where
  pub done : List Packet
  pub whole : packets_in_bytes c bytes ≡ done ++ packets_in_bytes c left
  pub counted : skipped_in_bytes c bytes ≡ skipped + skipped_in_bytes c left
  pub few : skipped + length left ≤ length bytes
  pub passed : (table : List TableRow) → FollowsRun table [] old → IsRefusalBehind table c [] done (Ok tt)
  pub follows : (table : List TableRow) → FollowsRun table [] old → FollowsRun table done now

unskipped_by : (skipped : Bool) (q p : Packet) → Some p ≡ cond skipped None (Some q) → skipped ≡ false
unskipped_by true q p h = absurd (cc h)
unskipped_by false q p h = refl

skipped_by : (skipped : Bool) (q : Packet) → None ≡ cond skipped None (Some q) → skipped ≡ true
skipped_by true q h = refl
skipped_by false q h = absurd (cc h)

-- a frame is cut off: it is as long as it can be
abbrev pub IsFrameCut : ℕ → List ℕ → List ℕ → List ℕ → Type 0
IsFrameCut size before frame after = (before ≡ frame ++ after) × (length frame ≡ min size (length before)) × (0 < length before)

module _ (c : Configuration) (bytes before after frame : List ℕ) (size skipped : ℕ) (old now : State) (wide : size ≡ frame_size c) (is : IsFrameCut size before frame after) (t : AreFramesTaken c bytes before skipped old now) where
  cut : frames_in (frame_size c) before ≡ frame ∷ frames_in (frame_size c) after
  cut = frames_in-next (frame_size c) before frame after (omega arith) is.0 (is.1 ∙ ap (λ n. min n (length before)) wide) is.2

  longer : length before ≡ length frame + length after
  longer = ap length is.0 ∙ length-append frame after

  counted_next : (b : Bool) → is_skipped c frame ≡ b → skipped_in_bytes c bytes ≡ skipped + (cond b 1 0 + skipped_in_bytes c after)
  counted_next b h = t.counted ∙ ap (λ fs. skipped + skipped_count c fs) cut ∙ ap (λ n. skipped + n) (skipped_count-cons c frame (frames_in (frame_size c) after)) ∙ ap (λ d. skipped + (cond d 1 0 + skipped_in_bytes c after)) h

  whole_next : (o : Option Packet) → o ≡ kept_packet c frame → packets_in_bytes c bytes ≡ t.done ++ cons_option o (packets_in_bytes c after)
  whole_next o kept = t.whole ∙ ap (λ fs. t.done ++ kept_packets c fs) cut ∙ ap (λ d. t.done ++ cons_option d (packets_in_bytes c after)) (sym kept)

  -- the frame's packet is the object's, where all are
  pub honest_packet : (p : Packet) → now.configuration ≡ c → Some p ≡ kept_packet c frame → (table : List TableRow) (object : List ℕ) → FollowsRun table [] old → IsHonestRun table c object (packets_in_bytes c bytes) → IsHonestPacket now p
  honest_packet p same kept table object none run =
      next_honest table c t.done now same (t.follows table none) object (packets_in_bytes c after) p (subst (IsHonestRun table c object) (whole_next (Some p) kept) run)

  -- a packet that is refused, memory aside, is the first of them
  pub stopped_frames : (p : Packet) (new : State) (e : Error) → now.configuration ≡ c → Some p ≡ kept_packet c frame → StopsBy now p e new → (e ≡ OutOfMemory) ⊎ IsFramesRefusal c old bytes (Err e)
  stopped_frames p new e same kept stops = by_cause stops where
    first : (table : List TableRow) → FollowsRun table [] old → IsNextRefusal table now.configuration t.done p (Err e) → IsRefusalBehind table c [] (packets_in_bytes c bytes) (Err e)
    first table none next =
        subst (λ ps. IsRefusalBehind table c [] ps (Err e)) (sym (whole_next (Some p) kept))
        (one_stops table c t.done (packets_in_bytes c after) p e (t.passed table none) (subst (λ k. IsNextRefusal table k t.done p (Err e)) same next))

    by_cause : StopsBy now p e new → (e ≡ OutOfMemory) ⊎ IsFramesRefusal c old bytes (Err e)
    by_cause (inl tested) = inr (λ table none. first table none (inl tested.0))
    by_cause (inr (inl memory)) = inl memory.1
    by_cause (inr (inr x)) = inr (λ table none. elim (refused_is_next table t.done p now new e (t.follows table none) (inr (inr x))) [
      | inl memory ↦ absurd (cc (memory, x.1))
      | inr next ↦ first table none next
    ])

  -- one packet more
  pub taken_packet : (p : Packet) (new : State) → now.configuration ≡ c → Some p ≡ kept_packet c frame → packet_refusal now.configuration p ≡ Ok tt → Adds now p new → AreFramesTaken c bytes after skipped old new
  taken_packet p new same kept passes adds =
      let more = packets_in_bytes c after in
      record {
        done = t.done ++ p ∷ [];
        whole = whole_next (Some p) kept ∙ sym (append_assoc t.done (p ∷ []) more);
        counted = counted_next false (unskipped_by (is_skipped c frame) (packet_of_bytes frame) p kept) ∙ omega arith;
        few = omega (arith, t.few, longer);
        passed = λ table none. one_passes table c t.done p (t.passed table none) (subst (λ k. IsNextRefusal table k t.done p (Ok tt)) same (taken_is_next table t.done p now new (t.follows table none) passes adds));
        follows = λ table none. taken_is_followed table t.done p now new (t.follows table none) (passes_below now.configuration p passes) adds;
      }

  -- one frame skipped
  pub taken_skipped : None ≡ kept_packet c frame → AreFramesTaken c bytes after (skipped + 1) old now
  taken_skipped none = record {
    done = t.done;
    whole = whole_next None none;
    counted = counted_next true (skipped_by (is_skipped c frame) (packet_of_bytes frame) none) ∙ omega arith;
    few = omega (arith, t.few, is.1, is.2, wide, longer);
    passed = t.passed;
    follows = t.follows;
  }

-- behind the last frame
module _ (c : Configuration) (bytes left : List ℕ) (skipped : ℕ) (old now : State) (none : length left ≡ 0) (t : AreFramesTaken c bytes left skipped old now) where
  no_frames : frames_in (frame_size c) left ≡ []
  no_frames = frames_in-none (frame_size c) left none

  pub taken_count : skipped ≡ skipped_in_bytes c bytes
  taken_count = sym (t.counted ∙ ap (λ fs. skipped + skipped_count c fs) no_frames ∙ omega arith)

  all_done : packets_in_bytes c bytes ≡ t.done
  all_done = t.whole ∙ ap (λ fs. t.done ++ kept_packets c fs) no_frames ∙ append-nil t.done

  pub taken_follows : FollowsFrames c old bytes now
  taken_follows table none = subst (λ ps. FollowsRun table ps now) (sym all_done) (t.follows table none)

  -- nothing was refused
  pub taken_passed : IsFramesRefusal c old bytes (Ok tt)
  taken_passed table none = subst (λ ps. IsRefusalBehind table c [] ps (Ok tt)) (sym all_done) (t.passed table none)
