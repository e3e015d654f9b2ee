-- Of a mixed stream nothing is refused, and its packets are what is kept.
use Rattle.std.proofs.Common.{◌≡◌, ℕ, ◌%◌, ◌<◌, false, cond, ltb, eqb, List, [], ◌∷◌, length, take, drop, Result, Ok, Err, Option, Some, None, refl, sym, ap, ◌∙◌, subst, arith, ◌⊎◌, inl, inr, eq-eqb}
use Rattle.std.specs.Prelude.{IfSome, IfOk, is_some}
use Rattle.std.specs.List.{AllByRecursion}
use Rattle.std.proofs.lemmas.Bool.{le-ltb, ne_eqb, false_from_ne_true}
use Rattle.std.proofs.lemmas.Option.{IfSome_then}
use Rattle.std.proofs.KnownBytes.{Keeps-refl}
use Rattle.rq_bytes.specs.declared.error.Error.{Error}
use Rattle.rq_bytes.specs.declared.error.Error.TheVariants.{HeaderTooShort, OutOfMemory}
use Rattle.rq_standard.specs.Packet.{Packet}
use Rattle.rq_standard.specs.Configuration.{Configuration, IsConfiguration, IsAccepted, largest_block, configuration_of_bytes}
use Rattle.rq_standard.specs.declared.row.TableRow.{TableRow}
use Rattle.rq_standard.specs.TableRows.{IsTable, greatest_size}
use Rattle.rq_standard.specs.Headline.{IsAnswerable, IsObjectAnswer, IsOnlyObject, IsPacketOf}
use Rattle.rq_standard.proofs.BlockRows.{block_has_row, answerable_only}
use Rattle.rq_standard.proofs.OptionValues.{none_is, by_option}
use Rattle.rq_base.specs.RefusedInput.{checked_configuration}
use Rattle.rq_base.proofs.Accepted.{ok_of, same_ok}
use Rattle.rq_streams.specs.declared.run.Outcome.{Outcome}
use Rattle.rq_streams.specs.declared.run.Stop.{Stop}
use Rattle.rq_streams.specs.Frames.{skipped_in, packets_in_bytes, skipped_in_bytes}
use Rattle.rq_streams.specs.MixedStreams.{Frame, packets_among, other_count, IsMixedStream}
use Rattle.rq_streams.specs.declared.run.Stop.TheVariants.{Fault, Refused}
use Rattle.rq_streams.specs.ReceivedStreams.{header_configuration, WantsWhere, IsWantedOf, IsWantedAnswer, IsStreamAnswer, AnswersStream, RefusesStream, Receives, ReceivesExactly, ReceivesWhereAnyCan}
use Rattle.rq_streams.specs.Ends.{Wanted, Ends, EndsAs, outcome_of}
use Rattle.rq_streams.proofs.Refusing.{stopped_as, stopped_ends, ends_wanted}
use Rattle.rq_streams.proofs.Skipping.{FillsFrame, kept_packets-mixed, skipped_count-mixed}

positive_eqb : (n : ℕ) → 0 < n → eqb n 0 ≡ false
positive_eqb n h = ne_eqb n 0 (λ e. absurd (omega arith))

-- what is accepted isn't refused
pub accepted_unrefused : (greatest : ℕ) (c : Configuration) → IsAccepted greatest c → checked_configuration greatest c ≡ Ok tt
accepted_unrefused greatest c h =
    rw (positive_eqb c.symbol_size h.size_positive, positive_eqb c.alignment h.alignment_positive, eq-eqb (c.symbol_size % c.alignment) 0 h.aligned, positive_eqb c.source_blocks h.blocks_positive, le-ltb greatest (largest_block c) h.in_table) refl

-- the row of each of its blocks is checked
fills : (table : List TableRow) (c : Configuration) (object : List ℕ) (p : Packet) → IsTable table → IsAccepted (greatest_size table) c → IsConfiguration c → IsPacketOf table c object p → FillsFrame table c object p
fills table c object p checked accepted fits source = record {
  source = source;
  id = record { block_fits = omega (arith, source.block, fits.blocks_fit); esi_fits = source.esi };
  row = (block_has_row table c checked accepted p.id.block source.block).checked;
}

all_fills : (table : List TableRow) (c : Configuration) (object : List ℕ) (packets : List Packet) → IsTable table → IsAccepted (greatest_size table) c → IsConfiguration c → AllByRecursion (IsPacketOf table c object) packets → AllByRecursion (FillsFrame table c object) packets
all_fills table c object [] checked accepted fits honest = tt
all_fills table c object (p ∷ packets) checked accepted fits honest = (fills table c object p checked accepted fits honest.0, all_fills table c object packets checked accepted fits honest.1)

module _ (table : List TableRow) (c : Configuration) (object : List ℕ) (frames : List Frame) (rest bytes : List ℕ) (s : IsMixedStream table c object frames rest bytes) where
  pub stream_header : header_configuration bytes ≡ Ok c
  stream_header =
      let enough : ltb (length bytes) 12 ≡ false = le-ltb (length bytes) 12 s.long in
      ap (λ b. cond b (Err HeaderTooShort) (ok_of (configuration_of_bytes (take 12 bytes)))) enough
      ∙ ap ok_of s.header

  -- a stream has one configuration
  pub same_header : (d : Configuration) → Ok d ≡ header_configuration bytes → d ≡ c
  same_header d read = same_ok d c (read ∙ stream_header)

  -- each packet fills its frame
  stream_fills : AllByRecursion (FillsFrame table c object) (packets_among frames)
  stream_fills = all_fills table c object (packets_among frames) s.stream_run.checked s.stream_run.accepted s.stream_run.fits s.stream_run.run.honest

  -- the packets that are kept are those among the frames
  pub stream_packets : packets_in_bytes c (drop 12 bytes) ≡ packets_among frames
  stream_packets = ap (packets_in_bytes c) s.spelled ∙ kept_packets-mixed table c object frames rest stream_fills s.others s.short

  -- and what is skipped are the other frames
  stream_skipped : skipped_in bytes ≡ other_count frames rest
  stream_skipped =
      ap (λ d. skipped_in_bytes d (drop 12 bytes)) s.header
      ∙ ap (skipped_in_bytes c) s.spelled
      ∙ skipped_count-mixed table c object frames rest stream_fills s.others s.short

  -- what is answered is what is wanted
  wants_by : (answer : Option (List ℕ)) (result : Result Outcome Stop) (old new : Option (List ℕ)) → IsObjectAnswer table c object (packets_among frames) answer → Ends result old new (Ok answer) → WantsWhere (IsAnswerable table c (packets_among frames)) object (Ends result old new)
  wants_by answer result old new a ends = record {
    holds = λ d. subst (λ x. Ends result old new (Ok x)) (a.whole d) ends;
    fails = λ u. subst (λ x. Ends result old new (Ok x)) (none_is answer (false_from_ne_true (is_some answer) (λ some. u (a.only some)))) ends;
  }

  -- an object is determined exactly where no other one fits
  wants_where_any_can : (P : Wanted → Type 0) → WantsWhere (IsAnswerable table c (packets_among frames)) object P → WantsWhere (IsOnlyObject table c (packets_among frames) object) object P
  wants_where_any_can P w =
      let same = answerable_only table c object (packets_among frames) s.stream_run.checked s.stream_run.accepted s.stream_run.run in
      record { holds = λ o. w.holds (same.1 o); fails = λ no. w.fails (λ d. no (same.0 d)) }

-- ---- a run that reads this input, and behind whose writer this stood before and after

-- no receiver can do better
receives_where_any_can : (table : List TableRow) (result : Result (Outcome × ℕ) Stop) (input old new : Option (List ℕ)) → ReceivesExactly table result input old new → ReceivesWhereAnyCan table result input old new
receives_where_any_can table result input old new wants =
    IfSome_then input wants (λ bytes w c object frames rest s. wants_where_any_can table c object frames rest bytes s (Ends (outcome_of result) old new) (w c object frames rest s))

-- what a run did that stopped before it wrote
module _ (table : List TableRow) (stop : Stop) (input old : Option (List ℕ)) (err : (stop ≡ Fault) ⊎ (stop ≡ Refused OutOfMemory)) where
  stopped_exactly : ReceivesExactly table (Err stop) input old old
  stopped_exactly = by_option input _ (λ bytes _ c object frames rest s. record {
    holds = λ d. stopped_ends (Ok (Some object)) stop old err;
    fails = λ u. stopped_ends (Ok None) stop old err;
  })

  pub receives_stopped : Receives table (Err stop) input old old
  receives_stopped = record {
    refused = by_option input _ (λ bytes _. stopped_as (IsWantedOf table bytes) stop old err);
    answer = by_option input _ (λ bytes _. stopped_as (IsWantedAnswer table bytes) stop old err);
    skipped = by_option input _ (λ bytes _. tt);
    ends = stopped_exactly;
    where_any_can = receives_where_any_can table (Err stop) input old old stopped_exactly;
    others = by_option input _ (λ bytes _ c object frames rest s. tt);
  }

-- where these bytes were read
module _ (table : List TableRow) (input : Option (List ℕ)) (read : List ℕ) (all : IfSome input (λ xs. read ≡ xs)) where
  mixed_before : (c : Configuration) (object : List ℕ) (frames : List Frame) (rest xs : List ℕ) → read ≡ xs → IsMixedStream table c object frames rest xs → IsMixedStream table c object frames rest read
  mixed_before c object frames rest xs is s = subst (IsMixedStream table c object frames rest) (sym is) s

  -- what a run did, by what is wanted of these bytes
  receives_by : (result : Result (Outcome × ℕ) Stop) (old new : Option (List ℕ)) → EndsAs (outcome_of result) old new (IsWantedOf table read) → EndsAs (outcome_of result) old new (IsWantedAnswer table read)
      → IfOk result (λ ended. ended.1 ≡ skipped_in read) → ReceivesExactly table result input old new → Receives table result input old new
  receives_by result old new refused answer skipped ends = record {
    refused = IfSome_then input all (λ xs is. subst (λ ys. EndsAs (outcome_of result) old new (IsWantedOf table ys)) is refused);
    answer = IfSome_then input all (λ xs is. subst (λ ys. EndsAs (outcome_of result) old new (IsWantedAnswer table ys)) is answer);
    skipped = IfSome_then input all (λ xs is. subst (λ ys. IfOk result (λ ended. ended.1 ≡ skipped_in ys)) is skipped);
    ends = ends;
    where_any_can = receives_where_any_can table result input old new ends;
    others = IfSome_then input all (λ xs is c object frames rest s. counts_others result c object frames rest (mixed_before c object frames rest xs is s) skipped);
  } where
    -- the frames that are skipped are the others
    counts_others : (r : Result (Outcome × ℕ) Stop) (c : Configuration) (object : List ℕ) (frames : List Frame) (rest : List ℕ) → IsMixedStream table c object frames rest read
        → IfOk r (λ ended. ended.1 ≡ skipped_in read) → IfOk r (λ ended. ended.1 ≡ other_count frames rest)
    counts_others (Ok ended) c object frames rest s counted = counted ∙ stream_skipped table c object frames rest read s
    counts_others (Err stop) c object frames rest s counted = tt

  -- one that ended with an answer of theirs
  pub receives_answer : (result : Result (Outcome × ℕ) Stop) (old new answer : Option (List ℕ)) → IsWantedOf table read (Ok answer) → IsStreamAnswer table read answer → AnswersStream table read answer
      → IfOk result (λ ended. ended.1 ≡ skipped_in read) → Ends (outcome_of result) old new (Ok answer) → Receives table result input old new
  receives_answer result old new answer wanted follows answers skipped ends = receives_by result old new
      (ends_wanted (outcome_of result) old new (Ok answer) (IsWantedOf table read) wanted ends)
      (ends_wanted (outcome_of result) old new (Ok answer) (IsWantedAnswer table read) follows ends)
      skipped
      (IfSome_then input all (λ xs is c object frames rest s.
      wants_by table c object frames rest xs s answer (outcome_of result) old new (answers c object frames rest (mixed_before c object frames rest xs is s)) ends))

  -- and one that refused them
  pub receives_refusal : (e : Error) (old : Option (List ℕ)) → (e ≡ OutOfMemory) ⊎ IsWantedOf table read (Err e) → RefusesStream table read e → Receives table (Err (Refused e)) input old old
  receives_refusal e old refused refuses = receives_by (Err (Refused e)) old old (refused, Keeps-refl old) (inr tt, Keeps-refl old) tt
      (IfSome_then input all (λ xs is c object frames rest s.
      let memory = refuses c object frames rest (mixed_before c object frames rest xs is s) in
      record { holds = λ d. (inl memory, Keeps-refl old); fails = λ u. (inl memory, Keeps-refl old) }))
