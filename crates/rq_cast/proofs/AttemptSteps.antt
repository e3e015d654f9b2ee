-- What an attempt at a part makes of one packet more.
use Rattle.std.proofs.Common.{◌≡◌, ◌≢◌, ℕ, ◌^◌, ◌<◌, List, [], ◌∷◌, ◌++◌, Bool, true, false, Some, Ok, Err, sym, ap, subst, ◌∙◌, arith, append-nil}
use Rattle.std.specs.Prelude.{option_map, vec_items, is_some}
use Rattle.std.proofs.lemmas.Bool.{ltb-true}
use Rattle.rq_bytes.specs.declared.error.Error.{Error}
use Rattle.rq_bytes.specs.declared.error.Error.TheVariants.{OutOfMemory}
use Rattle.rq_standard.specs.declared.row.TableRow.{TableRow}
use Rattle.rq_standard.specs.Configuration.{Configuration, largest_block}
use Rattle.rq_standard.specs.Cutting.{block_symbols}
use Rattle.rq_standard.specs.Packet.{Packet}
use Rattle.rq_standard.specs.Headline.{IsHonestRun}
use Rattle.rq_standard.specs.DecoderState.{result_of}
use Rattle.rq_standard.specs.DecoderSteps.{Adds}
use Rattle.rq_standard.specs.Following.{FollowsRun}
use Rattle.rq_standard.proofs.BlockCuts.{block_symbols_few}
use Rattle.rq_standard.proofs.FollowingSteps.{taken_is_followed}
use Rattle.raptorq.specs.declared.decoder.object.Decoder.{Decoder}
use Rattle.raptorq.specs.Decoder.{state_of}
use Rattle.raptorq.specs.InTurn.{TakesInTurn}
use Rattle.raptorq.proofs.InTurn.{turns_take}
use Rattle.raptorq.proofs.Lists.{answers_exactly}
use Rattle.rq_cells.specs.declared.head.Head.{Head}
use Rattle.rq_cells.specs.Cells.{digest_of}
use Rattle.rq_cast.specs.declared.attempt.Attempt.{Attempt}
use Rattle.rq_cast.specs.declared.digests.KnownDigests.{KnownDigests}
use Rattle.rq_cast.specs.Digests.{Notes}
use Rattle.rq_cast.specs.Taken.{is_known, known_packets, IsNotNamed}
use Rattle.rq_cast.specs.PartReceiving.{IsAttempt, IsUnlooked, LooksAt, GoesOn, IsForeign, TakesOrFails}
use Rattle.rq_cast.proofs.Attempts.{known_one, unknown_one, object_stays, refused_is_foreign}
use Rattle.rq_cast.proofs.KnownSymbols.{knows_more}
use Rattle.rq_cast.proofs.Shaped.{shaped}

module _ (h : Head) (old : Attempt) (is : IsAttempt h old) (p : Packet) where
  abbrev c : Configuration
  c = h.configuration

  -- a packet of no block of the part
  pub passed_over : is_known c p ≡ false → GoesOn h old p old
  passed_over unknown = record {
    is = is;
    follows = λ table packets follows.
        subst (λ ps. FollowsRun table ps (state_of old.decoder))
        (sym (ap (λ ps. packets ++ ps) (unknown_one c p unknown) ∙ append-nil packets)) follows;
  }

  module _ (known : is_known c p ≡ true) where
    same_packets : (packets : List Packet) → packets ++ known_packets c (p ∷ []) ≡ packets ++ p ∷ []
    same_packets packets = ap (λ ps. packets ++ ps) (known_one c p known)

    below : p.id.block < (state_of old.decoder).configuration.source_blocks
    below = subst (λ (k : Configuration). p.id.block < k.source_blocks) (sym is.configuration) (ltb-true p.id.block c.source_blocks known)

    -- one that is refused, but for want of memory
    pub refused : (new : Decoder) (e : Error) → TakesInTurn old.decoder p (Err e) new → e ≢ OutOfMemory → IsForeign h old p
    refused new e takes not_memory table object packets follows named run =
        refused_is_foreign table c packets (state_of old.decoder) (state_of new) p e is.configuration follows
        (turns_take old.decoder new p (Err e) takes) not_memory object (subst (IsHonestRun table c object) (same_packets packets) run)

    -- one that is taken
    module _ (k : KnownDigests) (notes : Notes (state_of old.decoder) p.id (digest_of p.payload) old.known k) (new : Decoder)
        (takes : TakesInTurn old.decoder p (Ok tt) new) where
      abbrev pub mid : Attempt
      mid = record old { decoder = new; known = k }

      adds : Adds (state_of old.decoder) p (state_of new)
      adds = (turns_take old.decoder new p (Ok tt) takes).1

      few_ids : (b : ℕ) → b < (state_of old.decoder).configuration.source_blocks → block_symbols (state_of old.decoder).configuration b < 2 ^ 24
      few_ids b within =
          let few = subst (λ (i : Configuration). largest_block i < 65536) (sym is.configuration) is.few in
          omega (arith, block_symbols_few (state_of old.decoder).configuration b within, few)

      pub unlooked : IsUnlooked h mid
      unlooked =
          let shape = shaped old.decoder p.id.block below in
          record {
            few = is.few;
            configuration = adds.elsewhere.configuration ∙ is.configuration;
            knows = knows_more (state_of old.decoder) (state_of new) p adds old.known k notes few_ids shape.0 shape.1 is.knows;
            object = object_stays (state_of old.decoder) (state_of new) p adds h (option_map vec_items old.object) is.object;
          }

      follows_more : (table : List TableRow) (packets : List Packet) → FollowsRun table packets (state_of old.decoder)
          → FollowsRun table (packets ++ known_packets c (p ∷ [])) (state_of new)
      follows_more table packets follows =
          subst (λ ps. FollowsRun table ps (state_of new)) (sym (same_packets packets))
          (taken_is_followed table packets p (state_of old.decoder) (state_of new) follows below adds)

      on : (last : Attempt) → IsAttempt h last → last.decoder ≡ new → GoesOn h old p last
      on last attempt same = record {
        is = attempt;
        follows = λ table packets follows.
            subst (λ (d : Decoder). FollowsRun table (packets ++ known_packets c (p ∷ [])) (state_of d)) (sym same) (follows_more table packets follows);
      }

      -- what they determine isn't named as the head says
      foreign : (answer : List ℕ) → result_of (state_of new) ≡ Some answer → IsNotNamed h (Some answer) → IsForeign h old p
      foreign answer answered none table object packets follows named run =
          let configured : (state_of new).configuration ≡ c = adds.elsewhere.configuration ∙ is.configuration in
          let exact = answers_exactly table c (packets ++ known_packets c (p ∷ [])) (state_of new) configured (follows_more table packets follows) object run in
          none object (sym answered ∙ exact.whole (exact.only (ap is_some answered))) named

      pub looked : (last : Attempt) (b : Bool) → LooksAt h mid last b → TakesOrFails h old p last b
      looked last true (attempt, same) = on last attempt same
      looked last false (answer, answered, none) = foreign answer answered none
