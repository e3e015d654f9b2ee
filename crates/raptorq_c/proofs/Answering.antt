-- What calls answer, by what the coders say.
use Rattle.raptorq_c.proofs.Names.{◌≡◌, ◌≢◌, ◌<◌, ℕ, List, Option, Some, None, Result, Ok, Err, refl, sym, ap, ◌∙◌, subst, arith, inl, inr, length, OnErr, MatchResult, IfSome, code_of, Error, Configuration, State, result_of, IsAnswerAfter, AnswersExactly, AnswersWhereAnyCan, frame_size, frames_in, TableRow, long_answers, result_long}
use Rattle.raptorq_c.proofs.Names.{state_of, IsRunRefusal, AnswersRun, Decoder, IsPartOf, FillsWithBlock, FillsWithResult, number_of, IsNumber, Answered, IsDecoded, frames_refusal, packets_in, FillsWithObject, IsFilled, IsRefused, IsDecodingRefusal, CallEnd}
use Rattle.raptorq_c.proofs.Ending.{code_positive, code_no_call, is_stopped}

-- a buffer is filled with an answer, of which P
pub answered_by : (P : Option (List ℕ) → Type 0) (answer : Option (List ℕ)) (number : ℕ) (before after : List ℕ) → P answer → Answered number before after (λ r. r ≡ answer) → Answered number before after P
answered_by P answer number before after holds a = record {
  written = λ zero. subst P (sym (a.written zero)) holds;
  other_length = λ other. let found = a.other_length other in (found.0, subst P (sym found.1) holds, found.2);
  incomplete = λ none. subst P (sym (a.incomplete none)) holds;
}

-- so is a buffer that is filled with a decoder's object
there_of : (P : Option (List ℕ) → Type 0) (answer : Option (List ℕ)) (room n : ℕ) → P answer → IfSome answer (λ object. length object ≡ n) → room ≢ n → (answer ≡ None → ⊥) → (object : List ℕ) × P (Some object) × (length object ≢ room)
there_of P None room n holds long other some = absurd (some refl)
there_of P (Some object) room n holds long other some = (object, holds, λ same. other (sym same ∙ long))

pub answered_result : (P : Option (List ℕ) → Type 0) (d : Decoder) (number : ℕ) (before after : List ℕ) → P (result_of (state_of d)) → FillsWithResult (state_of d) number before after → Answered number before after P
answered_result P d number before after holds filled =
    let s = state_of d in
    record {
      written = λ zero. subst P (sym (filled.written zero)) holds;
      other_length = λ other. there_of P (result_of s) (length before) s.configuration.transfer_length holds (result_long s (long_answers d) d.some d.positive) (filled.other_length other)
          (λ none. omega (arith, other, filled.incomplete.1 none));
      incomplete = λ none. subst P (filled.incomplete.0 none) holds;
    }

-- a refusal answers nothing
pub unanswered : (e : Error) (before after : List ℕ) (P : Option (List ℕ) → Type 0) → Answered (code_of e) before after P
unanswered e before after P = record {
  written = λ is. absurd (omega (arith, is, code_positive e));
  other_length = λ is. absurd (code_no_call e (omega (arith, is), omega (arith, is)));
  incomplete = λ is. absurd (code_no_call e (omega (arith, is), omega (arith, is)));
}

-- a call that fills a buffer with an answer doesn't end with the number of a block that isn't there
no_block : (number : ℕ) → IsFilled number → number ≢ 14
no_block number (inl done) is = omega (arith, done, is)
no_block number (inr (inl other_length)) is = omega (arith, other_length, is)
no_block number (inr (inr incomplete)) is = omega (arith, incomplete, is)

-- an object's block is there, or isn't yet
pub fills_block : (s : State) (block : ℕ) (part : Option (List ℕ)) (ended : Result (Unit {0}) CallEnd) (before after : List ℕ) → block < s.configuration.source_blocks → IsPartOf s block part
    → IsFilled (number_of ended) → Answered (number_of ended) before after (λ r. r ≡ part) → OnErr ended (after ≡ before) → FillsWithBlock s block (number_of ended) before after
fills_block s block part ended before after known is number answered kept = record {
  number = inr number;
  unknown = (λ other. absurd (no_block (number_of ended) number other), λ over. absurd (omega (arith, known, over)));
  answered = answered_by (IsPartOf s block) part (number_of ended) before after is answered;
  kept = is_stopped ended (after ≡ before) kept;
}

-- ---- packets in a buffer

-- what is refused of the frames, or of the run of the packets that they spell
module _ (table : List TableRow) (c : Configuration) (bytes : List ℕ) where
  packets_refused : (r t : Result (Unit {0}) Error) → frames_refusal (frames_in (frame_size c) bytes) ≡ t → MatchResult t (λ _. IsRunRefusal table c (packets_in c bytes) r) (λ e. r ≡ Err e) → IsDecodingRefusal table c bytes r
  packets_refused r t is = subst (λ f. MatchResult f (λ _. IsRunRefusal table c (packets_in c bytes) r) (λ e. r ≡ Err e)) (sym is)

  -- a frame that is refused
  pub refused_frames : (number : ℕ) (r : Result (Unit {0}) Error) → number ≢ 0 → frames_refusal (frames_in (frame_size c) bytes) ≡ r → IsNumber number r → IsDecoded number table c bytes
  refused_frames number (Ok x) other is (inl zero) = absurd (other zero)
  refused_frames number (Err e) other is (inl same) = inr (Err e, packets_refused (Err e) (Err e) is refl, inr same)
  refused_frames number r other is (inr memory) = inl memory

  module _ (spelled : frames_refusal (frames_in (frame_size c) bytes) ≡ Ok tt) where
    -- what is refused of the run
    pub refused_run : (e : Error) → AnswersRun {X = Unit {0}} table c (packets_in c bytes) (Err e) → IsDecoded (code_of e) table c bytes
    refused_run e (inl memory) = inl (ap code_of memory)
    refused_run e (inr first) = inr (Err e, packets_refused (Err e) (Ok tt) spelled first, inr refl)

    -- nothing is refused
    pub filled_run : (number : ℕ) → IsRunRefusal table c (packets_in c bytes) (Ok tt) → IsRefused number (Ok tt) → IsDecoded number table c bytes
    filled_run number passed filled = inr (Ok tt, packets_refused (Ok tt) (Ok tt) spelled passed, filled)

  -- the buffer stays where something is refused
  pub refused_with : (buffer : List ℕ) (e : Error) → IsDecoded (code_of e) table c bytes → FillsWithObject table c bytes (code_of e) buffer buffer
  refused_with buffer e refused = record {
    refused = refused;
    answered = unanswered e buffer buffer (IsAnswerAfter table c (packets_in c bytes));
    headline = unanswered e buffer buffer (AnswersExactly table c (packets_in c bytes));
    only_object = unanswered e buffer buffer (AnswersWhereAnyCan table c (packets_in c bytes));
    kept = λ _. refl;
  }
