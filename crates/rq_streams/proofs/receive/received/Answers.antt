use Rattle.std.proofs.Common.{◌≡◌, ◌-◌, take, drop, length, sym, ap, ◌∙◌, subst, refl, ℕ, List, Result, Ok, Err, inl, inr}
use Rattle.std.specs.Prelude.{IsOkAnd}
use Rattle.std.proofs.lemmas.List.{take_rest}
use Rattle.std.proofs.lemmas.Result.{err_from_is_err_and}
use Rattle.rq_bytes.specs.Refusals.{IsRefusal}
use Rattle.rq_standard.specs.Headline.{IsHonestRun, IsObjectAnswer}
use Rattle.rq_standard.specs.DecoderState.{result_of}
use Rattle.raptorq.proofs.Lists.{answers_exactly}
use Rattle.rq_standard.specs.TableRows.{greatest_size}
use Rattle.rq_base.specs.RefusedInput.{checked_configuration}
use Rattle.raptorq.specs.Decoder.{state_of}
use Rattle.rq_streams.specs.Frames.{packets_in_bytes}
use Rattle.rq_standard.specs.Configuration.{Configuration}
use Rattle.rq_standard.specs.Packet.{Packet}
use Rattle.rq_bytes.specs.declared.error.Error.{Error}
use Rattle.rq_standard.specs.Following.{FollowsRun, IsAnswerAfter}
use Rattle.raptorq.specs.Runs.{IsRunRefusal}
use Rattle.raptorq.proofs.FollowedRuns.{run_behind, run_unmade}
use Rattle.rq_streams.specs.MixedStreams.{Frame, IsMixedStream, packets_among}
use Rattle.rq_streams.specs.ReceivedStreams.{RefusesStream, AnswersStream, IsStreamRefusal, IsStreamAnswer, IsFramesRefusal}
use Rattle.rq_streams.proofs.Refusing.{refused_run, refused_header}
use Rattle.rq_streams.proofs.Streaming.{accepted_unrefused, stream_header, stream_packets, same_header}
use Rattle.rq_streams.proofs.receive.received.Goals as goal
use Rattle.rq_streams.proofs.receive.received.Goals.{In_ok-decoder}

pub returns-in_err-config-clause-memory : goal.returns-in_err-config-clause-memory
returns-in_err-config-clause-memory c =
    let bytes = c.as_slice-stream.result.now in
    let p = err_from_is_err_and c.from_residual.result c.from_residual.ensures.1 in
    rw (p.1, p.2) (subst (λ read. RefusesStream c.args.table.now read c.in_err-config.field-0.0) c.as_slice-stream.ensures.value (λ k object frames rest s. absurd (cc (c.in_err-config.ensures.value ∙ stream_header c.args.table.now k object frames rest bytes s))))

pub returns-in_err-decoder-clause-memory : goal.returns-in_err-decoder-clause-memory
returns-in_err-decoder-clause-memory c =
    let table = c.args.table.now in
    let bytes = c.as_slice-stream.result.now in
    let e = c.in_err-decoder.field-0.0 in
    let p = err_from_is_err_and c.from_residual-in_err-decoder.result c.from_residual-in_err-decoder.ensures.1 in
    rw (p.1, p.2) (subst (λ read. RefusesStream table read e) c.as_slice-stream.ensures.value (λ k object frames rest s.
    let accepted = ap (checked_configuration (greatest_size table)) (same_header table k object frames rest bytes s c.in_ok-config.config c.in_ok-config.ensures.value) ∙ accepted_unrefused (greatest_size table) k s.stream_run.accepted in
    subst (IsRefusal {Y = Unit {0}} e) accepted c.in_err-decoder.ensures.refused))

-- a decoder of what the header says
module _ (c : In_ok-decoder) where
  abbrev bytes : List ℕ
  bytes = c.as_slice-stream.result.now

  abbrev config : Configuration
  config = c.in_ok-config.config

  -- the bytes behind it
  abbrev behind : List ℕ
  behind = take (length bytes - 12) (drop 12 bytes)

  -- the packets of the frames
  abbrev packets : List Packet
  packets = packets_in_bytes config behind

  -- what is refused of the run is refused of the stream
  of_stream : (r : Result (Unit {0}) Error) → IsRunRefusal c.args.table.now config packets r → IsStreamRefusal c.args.table.now bytes r
  of_stream r run = refused_run c.args.table.now config bytes r c.in_ok-config.ensures.value (subst (λ xs. IsRunRefusal c.args.table.now config (packets_in_bytes config xs) r) (take_rest bytes 12) run)

  -- and so is what is refused of the frames
  of_frames : (r : Result (Unit {0}) Error) → IsFramesRefusal config (state_of c.in_ok-decoder.decoder) behind r → IsStreamRefusal c.args.table.now bytes r
  of_frames r refused = of_stream r (run_behind c.args.table.now config packets c.in_ok-decoder.ensures.refused r (refused c.args.table.now c.in_ok-decoder.ensures.follows))

  -- the packets that are kept of a mixed stream are the object's
  module _ (k : Configuration) (object : List ℕ) (frames : List Frame) (rest : List ℕ) (s : IsMixedStream c.args.table.now k object frames rest bytes) where
    same : config ≡ k
    same = same_header c.args.table.now k object frames rest bytes s config c.in_ok-config.ensures.value

    are : packets ≡ packets_among frames
    are = ap (λ d. packets_in_bytes d behind) same ∙ ap (λ xs. packets_in_bytes k xs) (take_rest bytes 12) ∙ stream_packets c.args.table.now k object frames rest bytes s

    run : IsHonestRun c.args.table.now config object packets
    run = subst (IsHonestRun c.args.table.now config object) (sym are) (subst (λ d. IsHonestRun c.args.table.now d object (packets_among frames)) (sym same) s.stream_run.run)

pub returns-in_err-skipped-clause-memory : goal.returns-in_err-skipped-clause-memory
returns-in_err-skipped-clause-memory c =
    let at = (goal.at.returns-in_err-skipped-clause-memory c).In_ok-decoder in
    let p = err_from_is_err_and c.from_residual-in_err-skipped.result c.from_residual-in_err-skipped.ensures.1 in
    rw (p.1, p.2) (subst (λ read. RefusesStream c.args.table.now read c.in_err-skipped.field-0.0) c.as_slice-stream.ensures.value (λ k object frames rest s.
    c.in_err-skipped.ensures.honest c.args.table.now object c.in_ok-decoder.ensures.follows (run at k object frames rest s)))

pub returns-in_err-config-clause-refused : goal.returns-in_err-config-clause-refused
returns-in_err-config-clause-refused c =
    let e = c.in_err-config.field-0.0 in
    let p = err_from_is_err_and c.from_residual.result c.from_residual.ensures.1 in
    rw (p.1, p.2) (inr (subst (λ read. IsStreamRefusal c.args.table.now read (Err e)) c.as_slice-stream.ensures.value (refused_header c.args.table.now e c.as_slice-stream.result.now c.in_err-config.ensures.value)))

pub returns-in_err-decoder-clause-refused : goal.returns-in_err-decoder-clause-refused
returns-in_err-decoder-clause-refused c =
    let table = c.args.table.now in
    let config = c.in_ok-config.config in
    let bytes = c.as_slice-stream.result.now in
    let e = c.in_err-decoder.field-0.0 in
    let p = err_from_is_err_and c.from_residual-in_err-decoder.result c.from_residual-in_err-decoder.ensures.1 in
    rw (p.1, p.2) (elim (run_unmade (Unit {0}) table config (packets_in_bytes config (drop 12 bytes)) e c.in_err-decoder.ensures.refused) [
      | inl memory ↦ inl memory
      | inr first ↦ inr (subst (λ read. IsStreamRefusal table read (Err e)) c.as_slice-stream.ensures.value (refused_run table config bytes (Err e) c.in_ok-config.ensures.value first))
    ])

pub returns-in_err-skipped-clause-refused : goal.returns-in_err-skipped-clause-refused
returns-in_err-skipped-clause-refused c =
    let at = (goal.at.returns-in_err-skipped-clause-refused c).In_ok-decoder in
    let e = c.in_err-skipped.field-0.0 in
    let p = err_from_is_err_and c.from_residual-in_err-skipped.result c.from_residual-in_err-skipped.ensures.1 in
    rw (p.1, p.2) (elim c.in_err-skipped.ensures.refused [
      | inl memory ↦ inl memory
      | inr first ↦ inr (subst (λ read. IsStreamRefusal c.args.table.now read (Err e)) c.as_slice-stream.ensures.value (of_frames at (Err e) first))
    ])

pub returns-clause-refused : goal.returns-clause-refused
returns-clause-refused c =
    subst (λ read. IsStreamRefusal c.args.table.now read (Ok tt)) c.as_slice-stream.ensures.value (of_frames (goal.at.returns-clause-refused c).In_ok-decoder (Ok tt) c.in_ok-skipped.ensures.refused)

pub returns-clause-follows : goal.returns-clause-follows
returns-clause-follows c =
    let at = (goal.at.returns-clause-follows c).In_ok-decoder in
    let table = c.args.table.now in
    let state = state_of c.add_frames.new.decoder in
    let here = bytes at in
    let of : List ℕ → List Packet = packets_in_bytes (config at) in
    subst (λ read. IsStreamAnswer table read (result_of state)) c.as_slice-stream.ensures.value
    (subst (λ header. IsOkAnd header (λ k. IsAnswerAfter table k (packets_in_bytes k (drop 12 here)) (result_of state))) c.in_ok-config.ensures.value (record {
      state = state;
      configuration = c.in_ok-skipped.ensures.configuration ∙ c.in_ok-decoder.ensures.state.configuration;
      follows = subst (λ xs. FollowsRun table (of xs) state) (take_rest here 12) (c.in_ok-skipped.ensures.follows table c.in_ok-decoder.ensures.follows);
      value = refl;
    }))

pub returns-clause-answer : goal.returns-clause-answer
returns-clause-answer c =
    let at = (goal.at.returns-clause-answer c).In_ok-decoder in
    let table = c.args.table.now in
    let decoder = c.add_frames.new.decoder in
    let answer = result_of (state_of decoder) in
    subst (λ read. AnswersStream table read answer) c.as_slice-stream.ensures.value (λ k object frames rest s.
    let now : (state_of decoder).configuration ≡ config at = c.in_ok-skipped.ensures.configuration ∙ c.in_ok-decoder.ensures.state.configuration in
    subst (λ ps. IsObjectAnswer table k object ps answer) (are at k object frames rest s)
    (subst (λ d. IsObjectAnswer table d object (packets at) answer) (same at k object frames rest s)
    (answers_exactly table (config at) (packets at) (state_of decoder) now (c.in_ok-skipped.ensures.follows table c.in_ok-decoder.ensures.follows) object (run at k object frames rest s))))
