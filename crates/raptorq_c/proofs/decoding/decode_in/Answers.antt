use Rattle.raptorq_c.proofs.Names.{◌≡◌, ◌≢◌, ℕ, List, Option, Ok, Err, refl, sym, ap, ◌∙◌, subst, arith, inr, ◌++◌, map, err_from_is_err_and, code_of, result_of, IsAnswerAfter, FollowsRun, AnswersExactly, AnswersWhereAnyCan, packet_of_bytes, frame_size, frames_in, answers_exactly, answers_where_any_can, state_of, IsRunRefusal, AnswersRun}
use Rattle.raptorq_c.proofs.Names.{packets_of, IsListed, number_of, IsNumber, Answered, frames_refusal, packets_in}
use Rattle.raptorq_c.proofs.Ending.{code_positive}
use Rattle.raptorq_c.proofs.FrameSteps.{frames_seen}
use Rattle.raptorq_c.proofs.PacketFrames.{each_listed, first_refused}
use Rattle.raptorq_c.proofs.Answering.{answered_result, refused_with, refused_frames, refused_run, filled_run}
use Rattle.raptorq_c.proofs.decoding.decode_in.Goals as goal
use Rattle.raptorq_c.proofs.decoding.decode_in.Goals.{In_ok-add_frames}

-- the packets that were listed are those that the buffer holds, and none is refused
module _ (c : In_ok-add_frames) where
  abbrev bytes : List ℕ
  bytes = c.args.packets.now

  listed : (packets_of c.add_frames.new.receiver.items ≡ packets_of c.new-steps.result.items ++ map packet_of_bytes (frames_in c.frame_size.result bytes)) × (frames_refusal (frames_in c.frame_size.result bytes) ≡ Ok tt)
  listed = each_listed _ (frames_in c.frame_size.result bytes) _ ((frames_seen (λ v. v.items) IsListed (frames_in c.frame_size.result bytes) 0 _ _ c.in_ok-add_frames.ensures).all refl)

  came : packets_of c.add_frames.new.receiver.items ≡ packets_in c.args.config bytes
  came = listed.0 ∙ ap (λ xs. packets_of xs ++ map packet_of_bytes (frames_in c.frame_size.result bytes)) c.new-steps.ensures.items ∙ ap (λ n. map packet_of_bytes (frames_in n bytes)) c.frame_size.ensures

  spelled : frames_refusal (frames_in (frame_size c.args.config) bytes) ≡ Ok tt
  spelled = ap (λ n. frames_refusal (frames_in n bytes)) (sym c.frame_size.ensures) ∙ listed.1

pub returns-in_err-add_frames : goal.returns-in_err-add_frames
returns-in_err-add_frames c =
    let e = c.in_err-add_frames.field-0.0 in
    let bytes = c.args.packets.now in
    let frames = frames_in c.frame_size.result bytes in
    let stopped : code_of e ≢ 0 = λ zero. omega (arith, zero, code_positive e) in
    let first = first_refused frames (code_of e) _ _ stopped (frames_seen (λ v. v.items) IsListed frames (code_of e) _ _ c.in_err-add_frames.ensures) in
    let refused = refused_frames c.args.table.now c.args.config bytes (code_of e) _ stopped refl (subst (λ n. IsNumber (code_of e) (frames_refusal (frames_in n bytes))) c.frame_size.ensures first) in
    let p = err_from_is_err_and c.from_residual.result c.from_residual.ensures.1 in
    rw (p.1, p.2) (refused_with c.args.table.now c.args.config bytes c.args.object.now e refused)

pub returns-in_err-decoder : goal.returns-in_err-decoder
returns-in_err-decoder c =
    let read = (goal.at.returns-in_err-decoder c).In_ok-add_frames in
    let e = c.in_err-decoder.field-0.0 in
    let run = subst (λ ps. AnswersRun {X = Unit {0}} c.args.table.now c.args.config ps (Err e)) (came read) c.in_err-decoder.ensures.in_order in
    let p = err_from_is_err_and c.from_residual-in_err-decoder.result c.from_residual-in_err-decoder.ensures.1 in
    rw (p.1, p.2) (refused_with c.args.table.now c.args.config c.args.packets.now c.args.object.now e (refused_run c.args.table.now c.args.config c.args.packets.now (spelled read) e run))

pub returns : goal.returns
returns c =
    let read = (goal.at.returns c).In_ok-add_frames in
    let t = c.args.table.now in
    let k = c.args.config in
    let all = packets_in k c.args.packets.now in
    let d = c.in_ok-decoder.decoder in
    let number = number_of c.write_all.result in
    let same = c.in_ok-decoder.ensures.configuration in
    let follows : FollowsRun t all (state_of d) = subst (λ ps. FollowsRun t ps (state_of d)) (came read) c.in_ok-decoder.ensures.follows in
    let filled : (P : Option (List ℕ) → Type 0) → P (result_of (state_of d)) → Answered number c.args.object.now c.write_all.new.object P =
    λ P holds. answered_result P d number c.args.object.now c.write_all.new.object holds c.write_all.ensures in
    record {
      refused = filled_run t k c.args.packets.now (spelled read) number (subst (λ ps. IsRunRefusal t k ps (Ok tt)) (came read) c.in_ok-decoder.ensures.in_order) (inr c.write_all.ensures.number);
      answered = filled (IsAnswerAfter t k all) (record { state = state_of d; configuration = same; follows = follows; value = refl });
      headline = filled (AnswersExactly t k all) (answers_exactly t k all (state_of d) same follows);
      only_object = filled (AnswersWhereAnyCan t k all) (answers_where_any_can t k all (state_of d) same follows);
      kept = c.write_all.ensures.kept;
    }
