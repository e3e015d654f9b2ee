-- What is answered of any packets is one thing.
use Rattle.std.proofs.Common.{◌≡◌, ℕ, zero, suc, ◌<◌, true, List, take, Option, Some, None, refl, sym, ap, ◌∙◌, subst, arith, inl, inr}
use Rattle.std.specs.Prelude.{option_map, is_some, IfSome}
use Rattle.std.proofs.lemmas.Bool.{cases_lt}
use Rattle.rq_standard.specs.declared.row.TableRow.{TableRow}
use Rattle.rq_standard.specs.Configuration.{Configuration, IsAligned}
use Rattle.rq_standard.specs.Cutting.{symbol_of_block}
use Rattle.rq_standard.specs.Packet.{Packet}
use Rattle.rq_standard.specs.ReceivedBlock.{ReceivedBlock, IsBlockAnswer}
use Rattle.rq_standard.specs.DecoderState.{State, append_both, first_blocks, result_of}
use Rattle.rq_standard.specs.DecoderSteps.{received_after}
use Rattle.rq_standard.proofs.Interleaved.{same_symbols}
use Rattle.rq_standard.specs.Following.{InTime, FollowsRun, IsFirstAnswer}
use Rattle.rq_standard.specs.PacketLaws.{AnswerIsOne}
use Rattle.rq_standard.proofs.FirstAnswers.{IsAnsweredBy, answered_by}

-- ---- a block

-- a payload is one thing
same_payload : (o : Option (List ℕ)) (s t : List ℕ) → is_some o ≡ true → IfSome o (λ payload. payload ≡ s) → IfSome o (λ payload. payload ≡ t) → s ≡ t
same_payload None s t came one other = absurd (cc came)
same_payload (Some payload) s t came one other = sym one ∙ other

-- what is answered of what was received is one block
one_block : (h : ReceivedBlock) (x y : List ℕ) → IsAligned h.configuration → IsBlockAnswer h (Some x) → IsBlockAnswer h (Some y) → x ≡ y
one_block h x y aligned one other = same_symbols h.configuration h.source_symbols x y aligned one.block.long other.block.long each where
  each : (e : ℕ) → e < h.source_symbols → symbol_of_block h.configuration h.source_symbols x e ≡ symbol_of_block h.configuration h.source_symbols y e
  each e below = elim (one.some refl) [
    | inl all ↦ same_payload (h.received e) _ _ (all.each e below) (one.block.each e below) (other.block.each e below)
    | inr d ↦ let z = one.solved refl d in one.block.solved d z.column z.solves e below ∙ sym (other.block.solved d z.column z.solves e below)
  ]

module _ (table : List TableRow) (c : Configuration) (b : ℕ) (packets : List Packet) (aligned : IsAligned c) where
  -- the first packets that can answer it are as many
  same_count : (x y : List ℕ) (f : IsFirstAnswer InTime table c b packets (Some x)) (g : IsFirstAnswer InTime table c b packets (Some y)) → g.count ≡ f.count
  same_count x y f g = elim (cases_lt f.count g.count) [
    | inl less ↦ absurd (g.needed refl f.count less (f.answers.some refl))
    | inr from ↦ elim (cases_lt g.count f.count) [
      | inl less ↦ absurd (f.needed refl g.count less (g.answers.some refl))
      | inr back ↦ omega arith
    ]
  ]

  one_first : (x y : List ℕ) → IsFirstAnswer InTime table c b packets (Some x) → IsFirstAnswer InTime table c b packets (Some y) → x ≡ y
  one_first x y f g = one_block (received_after table c b (take f.count packets)) x y aligned f.answers
      (subst (λ n. IsBlockAnswer (received_after table c b (take n packets)) (Some y)) (same_count x y f g) g.answers)

  one_by : (o p : Option (List ℕ)) → IsAnsweredBy table c b packets o → IsAnsweredBy table c b packets p → o ≡ p
  one_by None None one other = refl
  one_by None (Some y) one other = absurd (cc (one.0.1 (other.0.0 refl)))
  one_by (Some x) None one other = absurd (cc (other.0.1 (one.0.0 refl)))
  one_by (Some x) (Some y) one other = ap (λ xs. Some xs) (one_first x y (one.1 refl) (other.1 refl))

-- ---- all blocks

same_blocks : (one other : ℕ → Option (List ℕ)) (n : ℕ) → ((b : ℕ) → b < n → one b ≡ other b) → first_blocks n one ≡ first_blocks n other
same_blocks one other zero each = refl
same_blocks one other (suc n) each =
    ap (λ o. append_both o (one n)) (same_blocks one other n (λ b below. each b (omega arith))) ∙ ap (append_both (first_blocks n other)) (each n (omega arith))

-- how a decoder that follows the packets has answered a block
answered_block : (table : List TableRow) (c : Configuration) (packets : List Packet) (s : State) → s.configuration ≡ c → FollowsRun table packets s → (b : ℕ) → b < c.source_blocks → IsAnsweredBy table c b packets (s.answer b)
answered_block table c packets s is follows b below =
    let within : b < s.configuration.source_blocks = subst (λ (k : Configuration). b < k.source_blocks) (sym is) below in
    subst (λ k. IsAnsweredBy table k b packets (s.answer b)) is (answered_by table s.configuration b packets (s.received b) (s.answer b) (follows.block b within))

result_in : (c : Configuration) (s : State) → s.configuration ≡ c → result_of s ≡ option_map (take c.transfer_length) (first_blocks c.source_blocks s.answer)
result_in c s is = ap (λ (k : Configuration). option_map (take k.transfer_length) (first_blocks k.source_blocks s.answer)) is

pub one_answer : AnswerIsOne
one_answer table c packets one other aligned a o =
    let same : first_blocks c.source_blocks a.state.answer ≡ first_blocks c.source_blocks o.state.answer = same_blocks a.state.answer o.state.answer c.source_blocks
    (λ b below. one_by table c b packets aligned _ _ (answered_block table c packets a.state a.configuration a.follows b below) (answered_block table c packets o.state o.configuration o.follows b below)) in
    a.value ∙ result_in c a.state a.configuration ∙ ap (option_map (take c.transfer_length)) same ∙ sym (o.value ∙ result_in c o.state o.configuration)
