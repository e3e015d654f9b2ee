-- A sender's stream is one that a receiver takes.
use Rattle.std.proofs.Common.{◌≡◌, ℕ, zero, suc, ◌+◌, ◌-◌, ◌%◌, ◌*◌, ◌/◌, ◌<◌, ◌≤◌, ◌^◌, Bool, true, false, cond, eqb, ltb, leb, List, [], ◌∷◌, length, Option, Some, Result, Ok, Err, refl, sym, ap, ◌∙◌, subst, arith, inl, inr}
use Rattle.std.specs.Prelude.{Contains, MatchResult}
use Rattle.std.specs.Int.{div_ceil}
use Rattle.std.specs.List.{AllByRecursion}
use Rattle.std.proofs.lemmas.Bool.{ltb-false, leb-false}
use Rattle.std.proofs.lemmas.List.Elements.{All-contains, All-from_recursion}
use Rattle.rq_bytes.specs.declared.error.Error.{Error}
use Rattle.rq_bytes.specs.declared.error.Error.TheVariants.{PacketSizeZero, TransferLengthZero, TransferTooLong, MemoryRequirementTooSmall, TooManyBlocks}
use Rattle.rq_standard.specs.declared.row.TableRow.{TableRow}
use Rattle.rq_standard.specs.Packet.{Packet}
use Rattle.rq_standard.specs.Configuration.{Configuration, IsConfiguration}
use Rattle.rq_standard.specs.Parameters.{alignment_for, symbol_size_for, fitting_block, most_sub_blocks, symbols_for, blocks_for, is_fitting, first_from, sub_blocks_for, parameters_for}
use Rattle.rq_standard.specs.Headline.{IsPacketOf, HasNonsingularRows}
use Rattle.rq_standard.specs.Streams.{stream_of}
use Rattle.rq_standard.specs.TableRows.{greatest_size, IsTable}
use Rattle.rq_base.specs.RefusedInput.{checked_configuration}
use Rattle.rq_base.proofs.Accepted.{both_ok, ok_of, same_ok, passed, accepted_by}
use Rattle.raptorq.specs.Building.{default_settings}
use Rattle.raptorq.specs.Refused.{new_encoder}
use Rattle.raptorq.specs.Encoder.{packets_refusal}
use Rattle.rq_streams.specs.Sent.{default_parameters, sent_configuration, IsStreamSent, Sends}
use Rattle.rq_streams.specs.SentStreams.{IsSentStream, SentStreamsAreTaken}

small_alignment : (b : Bool) → cond b 8 1 < 2 ^ 8
small_alignment true = omega arith
small_alignment false = omega arith

-- there are few sub-blocks
either_below : (b : Bool) (x y n : ℕ) → x ≤ n → y ≤ n → cond b x y ≤ n
either_below true x y n h k = h
either_below false x y n h k = k

first_from-end : (test : ℕ → Bool) (start more : ℕ) → first_from test start more ≤ start + more
unfolding first_from
first_from-end test start zero = omega arith
first_from-end test start (suc more) = either_below (test start) start (first_from test (start + 1) more) (start + suc more) (omega arith) (omega (arith, first_from-end test (start + 1) more))

most_few : (large : Bool) (s : ℕ) → (large ≡ false → s < 64) → s < 2 ^ 16 → (s - s % cond large 8 1) / (cond large 8 1 * cond large 8 1) + 1 < 2 ^ 16
most_few true s h small = omega arith
most_few false s h small = omega (arith, h refl)

few_sub_blocks : (table : List TableRow) (n s memory : ℕ) → s < 2 ^ 16 → sub_blocks_for table n s memory < 2 ^ 16
unfolding sub_blocks_for
few_sub_blocks table n s memory small =
    let end = first_from-end (is_fitting table s memory (div_ceil (symbols_for n s) (blocks_for table n s memory))) 1 (most_sub_blocks s) in
    omega (arith, end, most_few (leb 64 s) s (λ e. leb-false 64 s e) small)

-- default parameters fit their bytes
fits_by : (table : List TableRow) (n s : ℕ) (c : Configuration) → s < 2 ^ 16 → default_parameters table n s ≡ Ok c → IsConfiguration c × (c.transfer_length ≡ n)
fits_by table n s c small h =
    let m : ℕ = default_settings.decoder_memory in
    let size = passed (eqb s 0) PacketSizeZero _ c h in
    let length_positive = passed (eqb n 0) TransferLengthZero _ c size.1 in
    let short = passed (ltb 942574504275 n) TransferTooLong _ c length_positive.1 in
    let memory = passed (eqb (fitting_block table s m (most_sub_blocks s)) 0) MemoryRequirementTooSmall _ c short.1 in
    let few = passed (ltb 255 (blocks_for table n s m)) TooManyBlocks _ c memory.1 in
    let same = same_ok (parameters_for table n s m) c few.1 in
    let long : n ≤ 942574504275 = ltb-false 942574504275 n short.0 in
    let length_is : c.transfer_length ≡ n = sym (ap (λ k. k.transfer_length) same) in
    let size_is : c.symbol_size ≡ symbol_size_for s = sym (ap (λ k. k.symbol_size) same) in
    let alignment_is : c.alignment ≡ alignment_for s = sym (ap (λ k. k.alignment) same) in (
      record {
        length_fits = omega arith;
        size_fits = omega arith;
        blocks_fit = omega (arith, ap (λ (k : Configuration). k.source_blocks) same, ltb-false 255 (blocks_for table n s m) few.0);
        sub_blocks_fit = omega (arith, ap (λ (k : Configuration). k.sub_blocks) same, few_sub_blocks table n s m small);
        alignment_fits = subst (λ a. a < 2 ^ 8) (sym alignment_is) (small_alignment (leb 64 s));
      },
      length_is,
    )

abbrev written : List ℕ → Result (Option (List ℕ)) Error
written xs = Ok (Some xs)

among : (table : List TableRow) (c : Configuration) (object : List ℕ) (all some : List Packet) → AllByRecursion (IsPacketOf table c object) all → AllByRecursion (Contains all) some → AllByRecursion (IsPacketOf table c object) some
among table c object all [] honest h = tt
among table c object all (p ∷ some) honest h = (All-contains (IsPacketOf table c object) all p (All-from_recursion (IsPacketOf table c object) all honest) h.0, among table c object all some honest h.1)

-- the steps of a configuration that is sent
sent_steps : (table : List TableRow) (s : ℕ) (object : List ℕ) (c : Configuration) → sent_configuration table s object ≡ Ok c → (default_parameters table (length object) s ≡ Ok c) × (new_encoder (greatest_size table) c (length object) ≡ Ok tt)
sent_steps table s object c h =
    let p = both_ok (default_parameters table (length object) s) _ c h in
    let e = both_ok (new_encoder (greatest_size table) p.0 (length object)) _ c p.2 in
    let same : p.0 ≡ c = same_ok p.0 c e.2 in (
      p.1 ∙ ap ok_of same,
      subst (λ k. new_encoder (greatest_size table) k (length object) ≡ Ok tt) same e.1,
    )

same_stream : (xs ys : List ℕ) → written xs ≡ written ys → xs ≡ ys
same_stream xs ys h = cc

module _ (table : List TableRow) (s repair : ℕ) (object stream : List ℕ) (checked : IsTable table) (small : s < 2 ^ 16) where
  sent_by : (c : Configuration) → sent_configuration table s object ≡ Ok c → HasNonsingularRows table c → IsStreamSent table c repair object (Ok (Some stream)) → IsSentStream table repair object stream
  sent_by c configured_by nonsingular sent =
      let steps = sent_steps table s object c configured_by in
      let taken = both_ok (checked_configuration (greatest_size table) c) _ tt steps.1 in
      let fits = fits_by table (length object) s c small steps.0 in
      record {
        configuration = c;
        packets = sent.packets;
        encoded = sent.encoded;
        whole = same_stream stream (stream_of c sent.packets) sent.spelled;
        taken = λ some of_it. record {
          stream_run = record {
            checked = checked;
            fits = fits.0;
            accepted = accepted_by (greatest_size table) c taken.1;
            run = record { long = sym fits.1; nonsingular = nonsingular; honest = among table c object sent.packets some sent.encoded.each of_it };
          };
          spelled = refl;
        };
      }

  encoded_by : (c : Configuration) (r : Result (Unit {0}) Error) → MatchResult r (λ _. IsStreamSent table c repair object (Ok (Some stream))) (λ e. written stream ≡ Err e) → IsStreamSent table c repair object (Ok (Some stream))
  encoded_by c (Ok x) h = h
  encoded_by c (Err e) h = absurd (cc h)

  by_configuration : (r : Result Configuration Error) → sent_configuration table s object ≡ r → MatchResult r (λ c. Sends table c repair object (Ok (Some stream))) (λ e. written stream ≡ Err e) → IsSentStream table repair object stream
  by_configuration (Ok c) is (inl singular) = absurd (cc singular.0)
  by_configuration (Ok c) is (inr sends) = sent_by c is sends.0 (encoded_by c (packets_refusal c repair) sends.1)
  by_configuration (Err e) is h = absurd (cc h)

pub sent_stream : SentStreamsAreTaken
sent_stream table s repair object stream checked small h = by_configuration table s repair object stream checked small (sent_configuration table s object) refl h
