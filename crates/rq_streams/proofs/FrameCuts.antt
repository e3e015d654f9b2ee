-- How the bytes of a mixed stream are cut into frames.
use Rattle.std.proofs.Common.{◌≡◌, ℕ, ◌+◌, ◌<◌, List, [], ◌∷◌, ◌++◌, length, map, arith, refl, sym, ap, ◌∙◌, append-nil, append_assoc, length-append}
use Rattle.std.specs.Prelude.{flat_map}
use Rattle.std.specs.List.{AllByRecursion}
use Rattle.rq_standard.specs.Streams.{frames_in}
use Rattle.rq_standard.proofs.FrameLaws.{frames_in-next, frames_in-none}
use Rattle.rq_streams.specs.MixedStreams.{Frame, frame_bytes}

-- a rest is a frame by itself, where it isn't empty
abbrev pub rest_frames : List ℕ → List (List ℕ)
rest_frames [] = []
rest_frames (b ∷ rest) = (b ∷ rest) ∷ []

-- the frames of a mixed stream
pub frames_in-mixed : (size : ℕ) (frames : List Frame) (rest : List ℕ) → 0 < size → AllByRecursion (λ f. length (frame_bytes f) ≡ size) frames → length rest < size → frames_in size (flat_map frame_bytes frames ++ rest) ≡ map frame_bytes frames ++ rest_frames rest
frames_in-mixed size [] [] positive long short = frames_in-none size [] refl
frames_in-mixed size [] (b ∷ rest) positive long short =
    let whole = b ∷ rest in
    frames_in-next size whole whole [] positive (sym (append-nil whole)) (omega arith) (omega arith)
    ∙ ap (λ fs. whole ∷ fs) (frames_in-none size [] refl)
frames_in-mixed size (f ∷ frames) rest positive long short =
    let behind = flat_map frame_bytes frames ++ rest in
    let all = flat_map frame_bytes (f ∷ frames) ++ rest in
    let is : all ≡ frame_bytes f ++ behind = append_assoc (frame_bytes f) (flat_map frame_bytes frames) rest in
    let size_is : length all ≡ length (frame_bytes f) + length behind = ap length is ∙ length-append (frame_bytes f) behind in
    frames_in-next size all (frame_bytes f) behind positive is (omega (arith, size_is, long.0)) (omega (arith, size_is, long.0))
    ∙ ap (λ fs. frame_bytes f ∷ fs) (frames_in-mixed size frames rest positive long.1 short)
