-- An attempt at a part takes its packets.
use Rattle.std.proofs.Common.{◌≡◌, ◌≢◌, ℕ, zero, suc, ◌<◌, ◌≤◌, List, [], ◌∷◌, ◌++◌, Bool, true, false, if◌then◌else◌, Option, Some, None, refl, sym, ap, subst, ◌∙◌, arith, take, inl, inr}
use Rattle.std.specs.Prelude.{IfSome, IsSome, option_map, is_some, ◌==◌}
use Rattle.std.proofs.Math.Seq.{take-nil}
use Rattle.std.proofs.lemmas.Bool.{cases_eq}
use Rattle.rq_bytes.specs.declared.error.Error.{Error}
use Rattle.rq_bytes.specs.declared.error.Error.TheVariants.{OutOfMemory}
use Rattle.rq_standard.specs.declared.row.TableRow.{TableRow}
use Rattle.rq_standard.specs.Configuration.{Configuration}
use Rattle.rq_standard.specs.Cutting.{block_symbols}
use Rattle.rq_standard.specs.Packet.{Packet}
use Rattle.rq_standard.specs.Headline.{IsHonestRun}
use Rattle.rq_standard.specs.ReceivedBlock.{ReceivedBlock}
use Rattle.rq_standard.specs.DecoderState.{State, append_both, first_blocks, new_received, new_answer, IsNewState, result_of}
use Rattle.rq_standard.specs.DecoderSteps.{Adds, AddsToBlock}
use Rattle.rq_standard.specs.Following.{FollowsRun}
use Rattle.rq_standard.proofs.ObjectAnswers.{joined_each}
use Rattle.rq_standard.proofs.OptionValues.{is_some-mapped}
use Rattle.raptorq.specs.TakesPacket.{StopsBy}
use Rattle.raptorq.proofs.Lists.{next_honest}
use Rattle.raptorq.proofs.Stops.{honest_is_taken}
use Rattle.rq_cells.specs.declared.head.Head.{Head}
use Rattle.rq_cast.specs.declared.digests.KnownDigests.{KnownDigests}
use Rattle.rq_cast.specs.Digests.{known, KnowsNone, KnowsSymbol, KnowsAll, KnowsDigests}
use Rattle.rq_cast.specs.Taken.{is_known, known_packets, IsNotNamed, IsNamedIn}

-- ---- before any packet

abbrev IsEmpty : Option (List ℕ) → Type 0
IsEmpty o = IfSome o (λ xs. xs ≡ [])

both_empty : (x y : Option (List ℕ)) → IsEmpty x → IsEmpty y → IsEmpty (append_both x y)
both_empty None y p q = tt
both_empty (Some xs) None p q = tt
both_empty (Some xs) (Some ys) p q = λ i. p i ++ q i

mapped_empty : (n : ℕ) (o : Option (List ℕ)) → IsEmpty o → IsEmpty (option_map (take n) o)
mapped_empty n None p = tt
mapped_empty n (Some xs) p = ap (take n) p ∙ take-nil n

no_symbols_empty : (b : Bool) → IsEmpty (if b then Some [] else None)
no_symbols_empty true = refl
no_symbols_empty false = tt

module _ (table : List TableRow) (c : Configuration) (s : State) (new : IsNewState table c s) where
  blocks_empty : (n : ℕ) → n ≤ c.source_blocks → IsEmpty (first_blocks n s.answer)
  blocks_empty zero within = refl
  blocks_empty (suc n) within =
      both_empty (first_blocks n s.answer) (s.answer n) (blocks_empty n (omega (arith, within)))
      (subst IsEmpty (sym (new.answer n (omega (arith, within)))) (no_symbols_empty (block_symbols c n == 0)))

  result_empty : IsEmpty (result_of s)
  result_empty =
      mapped_empty s.configuration.transfer_length (first_blocks s.configuration.source_blocks s.answer)
      (subst (λ (k : Configuration). IsEmpty (first_blocks k.source_blocks s.answer)) (sym new.configuration) (blocks_empty c.source_blocks (omega arith)))

  -- what is answered then is no part's object, since it has no bytes
  pub not_named_yet : (h : Head) → IsNotNamed h (result_of s)
  not_named_yet h object is named = absurd (named.some (subst IsEmpty is result_empty))

  -- and no digest is known
  module _ (k : KnownDigests) (none : KnowsNone k) where
    none_of_new : (b e : ℕ) (empty : Bool) → KnowsSymbol c b e (new_received table c b) (if empty then Some [] else None) None
    none_of_new b e true = tt
    none_of_new b e false = refl

    pub knows_none : KnowsDigests s k
    knows_none = subst (λ (i : Configuration). KnowsAll i s k) (sym new.configuration) (λ b e below few.
        subst (λ (h : ReceivedBlock). KnowsSymbol c b e h (s.answer b) (known k b e)) (sym (new.received b below))
        (subst (λ a. KnowsSymbol c b e (new_received table c b) a (known k b e)) (sym (new.answer b below))
        (subst (KnowsSymbol c b e (new_received table c b) (new_answer c b)) (sym (none b e)) (none_of_new b e (block_symbols c b == 0)))))

-- ---- a packet more

same_blocks : (one other : ℕ → Option (List ℕ)) (n : ℕ) → ((b : ℕ) → b < n → other b ≡ one b) → first_blocks n other ≡ first_blocks n one
same_blocks one other zero each = refl
same_blocks one other (suc n) each =
    (λ i. append_both (same_blocks one other n (λ b below. each b (omega (arith, below))) i) (each n (omega arith) i))

module _ (old new : State) (p : Packet) (adds : Adds old p new) where
  same_configuration : new.configuration ≡ old.configuration
  same_configuration = adds.elsewhere.configuration

  -- a block that was answered stays so
  answer_stays : (b : ℕ) → b < old.configuration.source_blocks → IsSome (old.answer b) → new.answer b ≡ old.answer b
  answer_stays b below some = elim (cases_eq b p.id.block) [
    | inl here ↦ subst (λ n. IsSome (old.answer n) → new.answer n ≡ old.answer n) (sym here)
        (at_block (old.answer p.id.block) refl adds.here) some
    | inr apart ↦ (adds.elsewhere.other b below apart).1
  ]
    where
      at_block : (before : Option (List ℕ)) → old.answer p.id.block ≡ before
          → AddsToBlock (old.received p.id.block) (old.answer p.id.block) p (new.received p.id.block) (new.answer p.id.block)
          → IsSome (old.answer p.id.block) → new.answer p.id.block ≡ old.answer p.id.block
      at_block None is adds is_some = absurd (cc (is, is_some))
      at_block (Some block) is adds is_some =
          let stays = subst (λ a. AddsToBlock (old.received p.id.block) a p (new.received p.id.block) (new.answer p.id.block)) is adds in
          stays.1 ∙ sym is

  -- so what was answered stays
  pub result_stays : IsSome (result_of old) → result_of new ≡ result_of old
  result_stays some =
      let c = old.configuration in
      let each = joined_each old.answer c.source_blocks
      (sym (is_some-mapped (take c.transfer_length) (first_blocks c.source_blocks old.answer)) ∙ some) in
      ap (λ (k : Configuration). option_map (take k.transfer_length) (first_blocks k.source_blocks new.answer)) same_configuration
      ∙ ap (option_map (take c.transfer_length))
      (same_blocks old.answer new.answer c.source_blocks (λ b below. answer_stays b below (each b below)))

  -- and the object that is named
  pub object_stays : (h : Head) (object : Option (List ℕ)) → IsNamedIn h (result_of old) object
      → IfSome object (λ xs. IsNamedIn h (result_of new) (Some xs))
  object_stays h None is = tt
  object_stays h (Some xs) (answer, is) = (result_stays (ap is_some answer) ∙ answer, is)

-- the packet of a block that a part has, or of another one
pub known_one : (c : Configuration) (p : Packet) → is_known c p ≡ true → known_packets c (p ∷ []) ≡ p ∷ []
known_one c p is = ap (λ (b : Bool). if b then p ∷ [] else []) is

pub unknown_one : (c : Configuration) (p : Packet) → is_known c p ≡ false → known_packets c (p ∷ []) ≡ []
unknown_one c p is = ap (λ (b : Bool). if b then p ∷ [] else []) is

-- A packet that is refused but for want of memory isn't an object's with those before it.
pub refused_is_foreign : (table : List TableRow) (c : Configuration) (packets : List Packet) (old new : State) (p : Packet) (e : Error)
    → old.configuration ≡ c → FollowsRun table packets old → StopsBy old p e new → e ≢ OutOfMemory → (object : List ℕ)
    → IsHonestRun table c object (packets ++ p ∷ []) → ⊥
refused_is_foreign table c packets old new p e same follows stops not_memory object run =
    not_memory (honest_is_taken old p new e (next_honest table c packets old same follows object [] p run) stops)
