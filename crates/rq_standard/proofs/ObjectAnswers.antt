-- What a decoder that stands for a list of packets answers.
use Rattle.std.proofs.Common.{◌≡◌, ◌≢◌, ℕ, zero, suc, ◌<◌, Bool, true, false, List, take, Option, Some, None, refl, sym, ap, ◌∙◌, subst, arith, inl, inr}
use Rattle.std.specs.Prelude.{option_map, is_some, IsSome, IsNone, IfSome}
use Rattle.std.proofs.lemmas.Bool.{cases_lt, true_from_ne_false}
use Rattle.std.proofs.lemmas.Option.{same_Some}
use Rattle.rq_standard.specs.declared.row.TableRow.{TableRow}
use Rattle.rq_standard.specs.Packet.{Packet}
use Rattle.rq_standard.specs.Configuration.{Configuration}
use Rattle.rq_standard.specs.Cutting.{block_bytes}
use Rattle.rq_standard.specs.Headline.{IsObjectAnswer}
use Rattle.rq_standard.specs.ReceivedBlock.{ReceivedBlock, ReceivedDetermine}
use Rattle.rq_standard.specs.DecoderState.{State, append_both, first_blocks, result_of}
use Rattle.rq_standard.specs.Following.{Lateness, Late, FollowsBlock}
use Rattle.rq_standard.specs.Standing.{StandsForButLate, AnswersObject, AnswersNothingElse}
use Rattle.rq_standard.specs.StepLaws.{ContradictoryIsNone, DifferenceTellsAnswer}
use Rattle.rq_standard.proofs.BlockCuts.{pieces, whole_object}
use Rattle.rq_standard.proofs.HonestBlocks.{Determined, BlockStandsFor, stands_block}
use Rattle.rq_standard.proofs.OptionValues.{is_some-mapped, none_is}

-- blocks are joined where each has an answer
pub joined_some : (f : ℕ → List ℕ) (answer : ℕ → Option (List ℕ)) (n : ℕ) → ((b : ℕ) → b < n → answer b ≡ Some (f b)) → first_blocks n answer ≡ Some (pieces f n)
joined_some f answer zero each = refl
joined_some f answer (suc n) each = rw (joined_some f answer n (λ b below. each b (omega arith)), each n (omega arith)) refl

both_some : (x y : Option (List ℕ)) → IsSome (append_both x y) → IsSome x × IsSome y
both_some None y h = absurd (cc h)
both_some (Some xs) None h = absurd (cc h)
both_some (Some xs) (Some ys) h = (refl, refl)

pub joined_each : (answer : ℕ → Option (List ℕ)) (n : ℕ) → IsSome (first_blocks n answer) → (b : ℕ) → b < n → IsSome (answer b)
joined_each answer zero h b below = absurd (omega arith)
joined_each answer (suc n) h b below =
    let q = both_some (first_blocks n answer) (answer n) h in
    elim (cases_lt b n) [
      | inl lt ↦ joined_each answer n q.0 b lt
      | inr past ↦ let here : n ≡ b = omega arith in subst (λ m. IsSome (answer m)) here q.1
    ]

-- where one has none there is none
pub not_complete : (s : State) (b : ℕ) → b < s.configuration.source_blocks → s.answer b ≡ None → is_some (result_of s) ≡ false
not_complete s b below none = by_cases (is_some (result_of s)) refl where
  by_cases : (t : Bool) → t ≡ is_some (result_of s) → is_some (result_of s) ≡ false
  by_cases false e = sym e
  by_cases true e = absurd (cc (joined_each s.answer s.configuration.source_blocks (sym (is_some-mapped (take s.configuration.transfer_length) (first_blocks s.configuration.source_blocks s.answer)) ∙ sym e) b below, none))

pub contradictory_is_none : ContradictoryIsNone
contradictory_is_none s b c = none_is (result_of s) (not_complete s b c.below c.unanswered)

-- a block with an answer
pub answered : (l : Lateness) (table : List TableRow) (c : Configuration) (object : List ℕ) (packets : List Packet) (b : ℕ) (h : ReceivedBlock) (a : Option (List ℕ)) → BlockStandsFor l table c object b packets h a → IsSome a
    → (a ≡ Some (block_bytes c object b)) × Determined table c b packets
answered l table c object packets b h None st some = absurd (cc some)
answered l table c object packets b h (Some bytes) st some = (ap (λ xs. Some xs) st.0, st.1)

-- a block that is determined has one, unless it is late
pub has_answer : (l : Lateness) (table : List TableRow) (c : Configuration) (object : List ℕ) (packets : List Packet) (b : ℕ) (h : ReceivedBlock) (a : Option (List ℕ)) → BlockStandsFor l table c object b packets h a → l ≢ Late → Determined table c b packets → IsSome a
has_answer l table c object packets b h None st now d = absurd (st.1 now d)
has_answer l table c object packets b h (Some bytes) st now d = refl

module _ (late : ℕ → Lateness) (table : List TableRow) (object : List ℕ) (packets : List Packet) (s : State) (st : StandsForButLate late table object packets s) where
  block_answered : (b : ℕ) → b < s.configuration.source_blocks → IsSome (s.answer b) → (s.answer b ≡ Some (block_bytes s.configuration object b)) × Determined table s.configuration b packets
  block_answered b below = answered (late b) table s.configuration object packets b (s.received b) (s.answer b) (stands_block late table object packets s st b below)

  -- the object, where each block has an answer
  from_all : ((b : ℕ) → b < s.configuration.source_blocks → IsSome (s.answer b)) → result_of s ≡ Some object
  from_all each =
      ap (λ o. option_map (take s.configuration.transfer_length) o) (joined_some (block_bytes s.configuration object) s.answer s.configuration.source_blocks (λ b below. (block_answered b below (each b below)).0))
      ∙ ap (λ xs. Some xs) (whole_object s.configuration object st.follows.accepted.blocks_positive st.follows.accepted.size_positive st.run.long)

  each_of : IsSome (result_of s) → (b : ℕ) → b < s.configuration.source_blocks → IsSome (s.answer b)
  each_of h = joined_each s.answer s.configuration.source_blocks (sym (is_some-mapped (take s.configuration.transfer_length) (first_blocks s.configuration.source_blocks s.answer)) ∙ h)

  the_object : (r : Option (List ℕ)) → r ≡ result_of s → IfSome r (λ bytes. bytes ≡ object)
  the_object None is = tt
  the_object (Some bytes) is = same_Some bytes object (is ∙ from_all (each_of (subst IsSome is refl)))

  exactly : ((b : ℕ) → late b ≢ Late) → IsObjectAnswer table s.configuration object packets (result_of s)
  exactly now = record {
    whole = λ all. from_all (λ b below. has_answer (late b) table s.configuration object packets b (s.received b) (s.answer b) (stands_block late table object packets s st b below) (now b) (all b below));
    only = λ h b below. (block_answered b below (each_of h b below)).1;
  }

-- ---- its difference

-- a block without an answer isn't determined, unless it is late
not_determined : (l : Lateness) (table : List TableRow) (c : Configuration) (packets : List Packet) (b : ℕ) (h : ReceivedBlock) (a : Option (List ℕ)) → FollowsBlock l table c b packets h a → l ≢ Late → a ≡ None → ReceivedDetermine h → ⊥
not_determined l table c packets b h None f now none d = f.1 now (inr d)
not_determined l table c packets b h (Some bytes) f now none d = absurd (cc none)

pub difference_tells_answer : DifferenceTellsAnswer
difference_tells_answer s difference exactly table object packets late st now = (
  λ none. subst IsSome (sym (from_all late table object packets s st (λ b below. true_from_ne_false (is_some (s.answer b)) (λ unanswered.
      not_determined (late b) table s.configuration packets b (s.received b) (s.answer b) (st.follows.block b below) (now b) (none_is (s.answer b) unanswered) (exactly.0 (none_is difference none) b below (none_is (s.answer b) unanswered)))))) refl,
  λ answered. subst IsNone (sym (exactly.1 (λ b below unanswered. absurd (cc (ap is_some unanswered, each_of late table object packets s st answered b below))))) refl,
)

pub answers_object : (s : State) → AnswersObject s (result_of s)
answers_object s table object packets late st none = exactly late table object packets s st none

pub answers_nothing_else : (s : State) → AnswersNothingElse s (result_of s)
answers_nothing_else s table object packets late st = the_object late table object packets s st (result_of s) refl
