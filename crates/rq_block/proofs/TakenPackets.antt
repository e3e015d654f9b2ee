-- Packets that a block's decoder takes one after another.
use Rattle.std.proofs.Common.{◌≡◌, ℕ, Bool, true, false, eqb, cond, List, [], ◌∷◌, ◌++◌, length, Option, Some, Result, Ok, Err, refl, sym, ap, ◌∙◌, subst, inl}
use Rattle.std.specs.Prelude.{not}
use Rattle.std.specs.Iterator.{Yields}
use Rattle.std.proofs.lemmas.Bool.{eqb-true}
use Rattle.rq_bytes.specs.declared.error.Error.{Error}
use Rattle.rq_bytes.specs.declared.error.Error.TheVariants.{UnknownBlock, WrongPayloadSize, Contradiction}
use Rattle.rq_bytes.specs.Refusals.{IsRefusal}
use Rattle.rq_standard.specs.Packet.{Packet, SymbolId}
use Rattle.rq_standard.specs.ReceivedBlock.{ReceivedBlock, with_received}
use Rattle.rq_standard.proofs.StandingSteps.{AllByRecursion-append}
use Rattle.rq_block.specs.Payloads.{AddsUnlessThere}
use Rattle.rq_block.specs.RefusedBlocks.{block_refusal}
use Rattle.rq_block.specs.declared.decoder.block.SourceBlockDecoder.{SourceBlockDecoder}
use Rattle.rq_block.specs.SourceBlockDecoder.{Solving, received_of, solving_of, solving_after}
use Rattle.rq_block.specs.Decoding.{all_recorded, all_found, Recorded, StopsAtLast, RecordsThenAnswers, Decodes}

-- what is refused of a packet by a test of its block, and then by one of its payload's size
abbrev pub packet_tests : Bool → Bool → Result (Unit {0}) Error
packet_tests b s = cond (not b) (Err UnknownBlock) (cond (not s) (Err WrongPayloadSize) (Ok tt))

number_kept : (h : ReceivedBlock) (packets : List Packet) → (all_recorded h packets).number ≡ h.number
number_kept h [] = refl
number_kept h (p ∷ packets) = number_kept (with_received h p.id.esi p.payload) packets

configuration_kept : (h : ReceivedBlock) (packets : List Packet) → (all_recorded h packets).configuration ≡ h.configuration
configuration_kept h [] = refl
configuration_kept h (p ∷ packets) = configuration_kept (with_received h p.id.esi p.payload) packets

size_is_tested : (b s : Bool) → packet_tests b s ≡ Ok tt → s ≡ true
size_is_tested true true passed = refl
size_is_tested true false passed = cc
size_is_tested false s passed = cc

-- a packet that is taken carries a symbol of the size
pub taken_size : (h : ReceivedBlock) (p : Packet) → block_refusal h p ≡ Ok tt → length p.payload ≡ h.configuration.symbol_size
taken_size h p passed = eqb-true (length p.payload) h.configuration.symbol_size (size_is_tested (eqb p.id.block h.number) (eqb (length p.payload) h.configuration.symbol_size) passed)

pub tests_find_no_contradiction : (b s : Bool) (e : Error) → IsRefusal e (packet_tests b s) → e ≡ Contradiction → ⊥
tests_find_no_contradiction true true e refused is = cc (refused, is)
tests_find_no_contradiction true false e refused is = cc (refused, is)
tests_find_no_contradiction false s e refused is = cc (refused, is)

-- no packet is refused as a contradiction before solving
pub refused_otherwise : (h : ReceivedBlock) (p : Packet) (e : Error) → IsRefusal e (block_refusal h p) → e ≡ Contradiction → ⊥
refused_otherwise h p e refused is = tests_find_no_contradiction (eqb p.id.block h.number) (eqb (length p.payload) h.configuration.symbol_size) e refused is

-- the payload of an id that is recorded is a packet's
pub recorded_packet : (h : ReceivedBlock) (p : Packet) (received : ℕ → Option (List ℕ)) (id : SymbolId) (esi : ℕ) (payload : List ℕ) → id ≡ p.id → esi ≡ id.esi → payload ≡ p.payload
    → AddsUnlessThere esi payload h.received received → record h { received = received } ≡ with_received h p.id.esi p.payload
recorded_packet h p received id esi payload same is carries kept =
    (λ i. record h { received = λ e. kept e i })
    ∙ ap (λ e. with_received h e payload) (is ∙ ap (λ (k : SymbolId). k.esi) same) ∙ ap (λ x. with_received h p.id.esi x) carries

-- what is refused stays the same
pub refusal_kept : (h g : ReceivedBlock) (packets : List Packet) (p : Packet) → g ≡ all_recorded h packets → block_refusal g p ≡ block_refusal h p
refusal_kept h g packets p is =
    ap (λ k. block_refusal k p) is ∙ ap (λ n. packet_tests (eqb p.id.block n) (eqb (length p.payload) (all_recorded h packets).configuration.symbol_size)) (number_kept h packets)
    ∙ ap (λ c. packet_tests (eqb p.id.block h.number) (eqb (length p.payload) c.symbol_size)) (configuration_kept h packets)

all_recorded-push : (h : ReceivedBlock) (packets : List Packet) (p : Packet) → all_recorded h (packets ++ p ∷ []) ≡ with_received (all_recorded h packets) p.id.esi p.payload
all_recorded-push h [] p = refl
all_recorded-push h (x ∷ packets) p = all_recorded-push (with_received h x.id.esi x.payload) packets p

all_found-push : (h : ReceivedBlock) (s : Solving) (packets : List Packet) (p : Packet) → all_found h s (packets ++ p ∷ []) ≡ solving_after (all_recorded h packets) p.id.esi (all_found h s packets)
all_found-push h s [] p = refl
all_found-push h s (x ∷ packets) p = all_found-push (with_received h x.id.esi x.payload) (solving_after h x.id.esi s) packets p

module _ (old now new : SourceBlockDecoder) (packets : List Packet) (p : Packet) (so : Recorded old packets now) where
  -- one packet more
  pub recorded_more : block_refusal (received_of now) p ≡ Ok tt → received_of new ≡ with_received (received_of now) p.id.esi p.payload
      → solving_of new ≡ solving_after (received_of now) p.id.esi (solving_of now) → Recorded old (packets ++ p ∷ []) new
  recorded_more passed received solving =
      let h = received_of old in
      record {
        taken = AllByRecursion-append (λ q. block_refusal h q ≡ Ok tt) packets (p ∷ []) so.taken (sym (refusal_kept h (received_of now) packets p so.received) ∙ passed, tt);
        received = received ∙ ap (λ k. with_received k p.id.esi p.payload) so.received ∙ sym (all_recorded-push h packets p);
        solving = solving ∙ ap (λ k. solving_after k p.id.esi (solving_of now)) so.received ∙ ap (solving_after (all_recorded h packets) p.id.esi) so.solving
            ∙ sym (all_found-push h (solving_of old) packets p);
      }

  -- the packet that stops the call
  pub stopped : {T : Type 0} (steps : T → Option Packet → T → Type 0) (iterator after : T) (e : Error) → Yields steps iterator (packets ++ p ∷ []) after
      → received_of new ≡ received_of now → solving_of new ≡ solving_of now → IsRefusal e (block_refusal (received_of now) p) → StopsAtLast steps iterator old (packets ++ p ∷ []) e new
  stopped steps iterator after e gave received solving refused = record {
    after = after;
    gave = gave;
    front = packets;
    last = p;
    whole = refl;
    recorded = record { taken = so.taken; received = received ∙ so.received; solving = solving ∙ so.solving };
    stopped = subst (IsRefusal e) (refusal_kept (received_of old) (received_of now) packets p so.received) refused;
  }

-- all packets are recorded, and what was received is answered then, or isn't
pub decodes_by : {T V : Type 0} (steps : T → Option Packet → T → Type 0) (iterator : T) (view : V → List ℕ) (old : SourceBlockDecoder) (packets : List Packet)
    (result : Result (Option V) Error) (new : SourceBlockDecoder) → RecordsThenAnswers steps iterator view old packets result new → Decodes steps iterator view old packets result new
decodes_by steps iterator view old packets (Ok answer) new so = so
decodes_by steps iterator view old packets (Err e) new so = inl so

-- an iterator's next item, after those that it gave
pub Yields-push : {S : Type 0} (steps : S → Option Packet → S → Type 0) (s : S) (packets : List Packet) (t : S) (p : Packet) (u : S) → Yields steps s packets t → steps t (Some p) u → Yields steps s (packets ++ p ∷ []) u
Yields-push steps s [] t p u gave next = (u, subst (λ k. steps k (Some p) u) (sym gave) next, refl)
Yields-push steps s (x ∷ packets) t p u gave next = (gave.0, gave.1, Yields-push steps gave.0 packets t p u gave.2 next)
