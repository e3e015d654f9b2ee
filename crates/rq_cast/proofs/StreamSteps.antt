-- A stream as far as it is sent, and where that stops.
use Rattle.std.proofs.Common.{◌≡◌, inl, inr, ℕ, ◌+◌, ◌*◌, ◌<◌, ◌≤◌, zero-mul, Bool, true, false, None, List, [], ◌++◌, length, map, Option, Err, refl, sym, ap, subst, ◌∙◌, arith, append-nil, length-append}
use Rattle.std.specs.Prelude.{nat_lt, ◌==◌}
use Rattle.std.specs.List.{range_with_len, sum_by}
use Rattle.std.specs.Io.KnownBytes.{Consumes, Appends}
use Rattle.std.proofs.KnownBytes.{Consumes-nil, Consumes-trans, Appends-nil, Appends-trans, Appends-kept}
use Rattle.std.proofs.lemmas.List.{length_push}
use Rattle.rq_bytes.specs.declared.error.Error.{Error}
use Rattle.rq_bytes.specs.declared.error.Error.TheVariants.{TransferTooLong}
use Rattle.rq_standard.specs.Configuration.{Configuration}
use Rattle.raptorq.specs.Encoder.{no_block}
use Rattle.rq_streams.specs.declared.run.Stop.{Stop}
use Rattle.rq_streams.specs.declared.run.Stop.TheVariants.{Fault, Refused}
use Rattle.rq_streams.specs.Ends.{failed_calls}
use Rattle.rq_cells.specs.Cells.{Key}
use Rattle.rq_cast.specs.declared.halt.Halt.{Halt}
use Rattle.rq_cast.specs.declared.halt.Halt.TheVariants.{By}
use Rattle.rq_cast.specs.declared.known.Known.{Known}
use Rattle.rq_cast.specs.declared.order.Order.{Order}
use Rattle.rq_cast.specs.declared.stream_sending.Sent.{Sent}
use Rattle.rq_cast.specs.declared.stream_sending.StreamSender.{StreamSender}
use Rattle.rq_cast.specs.Calls.{Call, lost_in, Tells}
use Rattle.rq_cast.specs.Names.{AreNames}
use Rattle.rq_cast.specs.Parts.{greatest_count, object_of}
use Rattle.rq_cast.specs.PartReading.{ReadsPart, ReadsWithin}
use Rattle.rq_cast.specs.PartSending.{RefusesPart, RefusesNext, SendsPart, StopsPart}
use Rattle.rq_cast.specs.Preparing.{IsPrepared, RefusesObject}
use Rattle.rq_cast.specs.Reading.{IsStopOfReads}
use Rattle.rq_cast.specs.Rounds.{IsAsKnown, KeepsNames, KnowsAll, next_stage}
use Rattle.rq_cast.specs.Sent.{Sending, cell_count}
use Rattle.rq_cast.specs.SentParts.{last_index, names_of, IsPreparedPart, IsAsKnownIn, SendsParts, SendsStream, StopsUnsent, StopsStream}
use Rattle.rq_cast.proofs.KnownNames.{keeps_none, keeps_more, known_before, known_now, knows_all}
use Rattle.rq_cast.proofs.PartsInOrder.{ReadsNext, reads_next, with_next, names_all, sum_next, part_same}
use Rattle.rq_cast.proofs.SentStreams.{sends_longer, sends_next}
use Rattle.rq_cast.proofs.ToldCalls.{tells_none, tells_then, lost_in-append}

-- how many calls failed where a run of any kind is stopped
pub same_failed : (X Y : Type 0) (stop : Stop) → failed_calls {X = X} (Err stop) ≡ failed_calls {X = Y} (Err stop)
same_failed X Y Fault = refl
same_failed X Y (Refused e) = refl

-- Of what was read the parts are sent that these names are of.
pub record HasSent (order : Order) (key : Key) (known : Known) (before after there then : Option (List ℕ)) (told told' : Option (List Call))
    (input : List ℕ) (s : StreamSender) : Type 0 where
  pub ordered : s.order ≡ order
  pub keyed : s.key.now ≡ key
  pub taken : Consumes before after input
  pub of : ℕ → Sending
  pub named : AreNames (names_of of s.names.count) s.names
  pub written : List ℕ
  pub appended : Appends there then written
  pub calls : List Call
  pub is_told : Tells told told' calls
  pub lost : s.lost ≡ lost_in calls
  pub sends : SendsParts order key known input of s.names.count written calls
  pub cells : s.cells ≡ sum_by cell_count (map of (range_with_len 0 s.names.count))
  pub kept : KeepsNames known (names_of of s.names.count) s.known

-- all that was read, in whole parts
pub record HasSentWhole (order : Order) (key : Key) (known : Known) (before after there then : Option (List ℕ)) (told told' : Option (List Call))
    (s : StreamSender) : Type 0 where
  pub input : List ℕ
  pub whole : length input ≡ s.names.count * order.part
  pub has : HasSent order key known before after there then told told' input s

-- what sends nothing
no_configuration : Configuration
no_configuration = record { transfer_length = 0; symbol_size = 0; source_blocks = 0; sub_blocks = 0; alignment = 0 }

pub no_sending : Sending
no_sending = record {
  key = None;
  encoded = record { configuration = no_configuration; block = λ b. no_block b 0 };
  head = record { stream = []; number = 0; name = []; configuration = no_configuration };
  series = record { first = 0; step = 0; count = 0; few = omega arith; ids = λ k below. absurd (omega (arith, below)) };
}

no_parts : ℕ → Sending
no_parts i = no_sending

pub has_sent_none : (order : Order) (key : Key) (known : Known) (before there : Option (List ℕ)) (told : Option (List Call)) (s : StreamSender) → s.order ≡ order
    → s.key.now ≡ key → AreNames [] s.names → s.cells ≡ 0 → s.lost ≡ 0 → s.known ≡ known → HasSentWhole order key known before before there there told told s
has_sent_none order key known before there told s ordered keyed named none_sent none_lost same =
    let none : 0 ≡ s.names.count = sym named.count in
    record {
      input = [];
      whole = subst (λ n. 0 ≡ n * order.part) none (sym (zero-mul order.part));
      has = record {
        ordered = ordered;
        keyed = keyed;
        taken = Consumes-nil before;
        of = no_parts;
        named = subst (λ n. AreNames (names_of no_parts n) s.names) none named;
        written = [];
        appended = Appends-nil there;
        calls = [];
        is_told = tells_none told;
        lost = none_lost;
        sends = subst (λ n. SendsParts order key known [] no_parts n [] []) none (record {
          prepared = λ i below. absurd (omega (arith, below));
          same = λ i below. absurd (omega (arith, below));
          sent = (refl, refl);
        });
        cells = none_sent ∙ ap (λ n. sum_by cell_count (map no_parts (range_with_len 0 n))) none;
        kept = subst (λ n. KeepsNames known (names_of no_parts n) s.known) none (subst (KeepsNames known []) (sym same) (keeps_none known));
      };
    }

-- ---- a part more

module _ (order : Order) (key : Key) (known : Known) (some : 0 < order.part) (before mid after there between : Option (List ℕ))
    (told told_mid : Option (List Call)) (old : StreamSender) (sent : HasSentWhole order key known before mid there between told told_mid old) (bytes : List ℕ) (is_last : Bool) (short : is_last ≡ nat_lt (length bytes) order.part)
    (reads : ReadsPart mid after order.part bytes) where
  abbrev n : ℕ
  n = old.names.count

  abbrev of : ℕ → Sending
  of = sent.has.of

  abbrev input : List ℕ
  input = sent.input ++ bytes

  long : n * order.part ≤ length sent.input
  long = omega (arith, sent.whole)

  reading : ReadsNext order.part before after sent.input bytes n is_last
  reading = reads_next order.part some before mid after sent.input bytes n is_last sent.has.taken sent.whole short reads

  ready : (s : Sending) → IsPrepared old.order old.key.now is_last (names_of of n) bytes s → IsPreparedPart order key input of n s
  ready s prepared =
      part_same (IsPrepared order key) reading.last refl reading.are refl
      (subst (λ k. IsPrepared order k is_last (names_of of n) bytes s) sent.has.keyed
      (subst (λ o. IsPrepared o old.key.now is_last (names_of of n) bytes s) sent.has.ordered prepared))

  abbrev calls : List Call
  calls = sent.has.calls

  sends_so_far : SendsParts order key known input of n sent.has.written calls
  sends_so_far = sends_longer order key known some sent.input bytes of n sent.has.written calls long sent.has.sends

  -- it is what it was, as far as that is known
  as_before : (s : Sending) → IsAsKnown old.known old.names.count is_last s.head.name → IsAsKnownIn order known input n s
  as_before s is =
      subst (λ b. IsAsKnown known n b s.head.name) reading.last (known_before known old.known (names_of of n) sent.has.kept n is_last s.head.name is)

  as_now : (s : Sending) → IsAsKnownIn order known input n s → IsAsKnown old.known old.names.count is_last s.head.name
  as_now s is =
      known_now known old.known (names_of of n) sent.has.kept n is_last s.head.name
      (subst (λ b. IsAsKnown known n b s.head.name) (sym reading.last) is)

  module _ (new : StreamSender) (then : Option (List ℕ)) (told' : Option (List Call))
      (more : SendsPart is_last (names_of of n) bytes old new told_mid told' between then) (same_order : new.order ≡ old.order) (same_key : new.key.now ≡ old.key.now) where
    abbrev all : ℕ → Sending
    all = with_next of n more.sending

    pub one_more : new.names.count ≡ n + 1
    one_more = more.named.count ∙ length_push (names_of of n) more.sending.head.name ∙ ap (λ k. k + 1) (sym sent.has.named.count)

    told_more : Tells told told' (calls ++ more.calls)
    told_more =
        tells_then told told_mid told' calls more.calls sent.has.is_told
        (subst (Tells told_mid told') (append-nil more.calls) more.sends.is_told)

    pub has_sent_more : HasSent order key known before after there then told told' input new
    has_sent_more =
        let cells = more.sends.written in
        let named : AreNames (names_of all (n + 1)) new.names =
        subst (λ names. AreNames names new.names) (sym (names_all of n more.sending (λ s. s))) more.named in
        let sum = lost_in-append calls more.calls in
        let sends : SendsParts order key known input all (n + 1) (sent.has.written ++ cells) (calls ++ more.calls) =
        sends_next order key known input of n more.sending sent.has.written cells calls more.calls sends_so_far (ready more.sending more.prepared)
        (as_before more.sending more.same) more.sends.sent in
        record {
          ordered = same_order ∙ sent.has.ordered;
          keyed = same_key ∙ sent.has.keyed;
          taken = reading.taken;
          of = all;
          named = subst (λ k. AreNames (names_of all k) new.names) (sym one_more) named;
          written = sent.has.written ++ cells;
          appended = subst (λ xs. Appends there then (sent.has.written ++ xs)) (append-nil cells)
              (Appends-trans there between then sent.has.written (cells ++ []) sent.has.appended more.sends.appended);
          calls = calls ++ more.calls;
          is_told = told_more;
          lost = omega (arith, more.lost_more, sent.has.lost, sum);
          sends = subst (λ k. SendsParts order key known input all k (sent.has.written ++ cells) (calls ++ more.calls)) (sym one_more) sends;
          cells = more.cells ∙ ap (λ k. k + cell_count more.sending) sent.has.cells
              ∙ sym (sum_next of n more.sending cell_count)
              ∙ ap (λ k. sum_by cell_count (map all (range_with_len 0 k))) (sym one_more);
          kept = subst (λ k. KeepsNames known (names_of all k) new.known) (sym one_more)
              (subst (λ names. KeepsNames known names new.known) (sym (names_all of n more.sending (λ s. s)))
              (keeps_more known old.known (names_of of n) sent.has.kept new.known more.sending.head.name more.kept));
        }

    pub has_sent_whole : is_last ≡ false → HasSentWhole order key known before after there then told told' new
    has_sent_whole more_to_come =
        record { input = input; whole = subst (λ k. length input ≡ k * order.part) (sym one_more) (reading.whole more_to_come); has = has_sent_more }

    pub sends_stream : is_last ≡ true → (answer : Sent) (behind : Known) → answer.parts ≡ new.names.count → answer.cells ≡ new.cells → answer.lost ≡ new.lost
        → behind.stage ≡ next_stage new.known.stage → behind.names.items ≡ new.known.names.items
        → SendsStream order key known before after there then told told' answer behind
    sends_stream ended answer behind parts cells lost stage same =
        let has = has_sent_more in
        record {
          input = input;
          taken = reading.taken;
          at_end = (reading.ends ended).0;
          of = has.of;
          written = has.written;
          appended = has.appended;
          parts = parts ∙ one_more ∙ ap (λ k. k + 1) (sym (reading.ends ended).1);
          calls = has.calls;
          is_told = has.is_told;
          sends = subst (λ k. SendsParts order key known input has.of k has.written has.calls) (sym parts) has.sends;
          lost = lost ∙ has.lost;
          cells = cells ∙ has.cells ∙ ap (λ k. sum_by cell_count (map has.of (range_with_len 0 k))) (sym parts);
          names = subst (λ k. KnowsAll known (names_of has.of k) behind) (sym parts)
              (knows_all known new.known (names_of has.of new.names.count) has.kept behind stage same);
        }

  -- it stops as the part is made ready or sent
  module _ (more : List Call) (then : Option (List ℕ)) (told' : Option (List Call)) (halt : Halt) where
    unsent : (e : Error) → RefusesPart old is_last (names_of of n) bytes e → StopsUnsent order key known input of n after (By (Refused e))
    unsent e refuses = elim refuses [
      | inl memory ↦ inl memory
      | inr object ↦
          inr (inl (
            reading.read,
            subst (λ xs. RefusesObject order (object_of (n == last_index order.part input) (names_of of n) xs) e) reading.are
                (subst (λ b. RefusesObject order (object_of b (names_of of n) bytes) e) reading.last
                (subst (λ o. RefusesObject o (object_of is_last (names_of of n) bytes) e) sent.has.ordered object)),
          ))
    ]

    refused : RefusesNext is_last (names_of of n) bytes old halt → StopsUnsent order key known input of n after halt
    refused refuses = elim refuses [
      | inl (e, is, part) ↦ subst (StopsUnsent order key known input of n after) (sym is) (unsent e part)
      | inr (is, (s, prepared, other)) ↦
          subst (StopsUnsent order key known input of n after) (sym is)
          (refl, reading.read, (s, ready s prepared, λ same. other (as_now s same)))
    ]

    pub stops_at_part : StopsPart is_last (names_of of n) bytes old more told_mid told' between then halt
        → StopsStream order key known before after there then told told' halt (old.lost + lost_in more)
    stops_at_part stops = elim stops [
      | inl (refuses, none, silent, kept) ↦ record {
        input = input;
        taken = reading.taken;
        of = of;
        index = n;
        whole = omega (arith, reading.long);
        no_further = reading.no_further;
        front = sent.has.written;
        calls_before = calls;
        sends = sends_so_far;
        next = [];
        calls_next = [];
        more = [];
        stopped = inl (refused refuses, refl, refl, refl);
        appended = subst (Appends there then) (sym (append-nil sent.has.written)) (Appends-kept there between then sent.has.written sent.has.appended kept);
        is_told = tells_then told told_mid told' calls [] sent.has.is_told silent;
        lost_in_all = omega (arith, ap lost_in none, sent.has.lost);
      }
      | inr within ↦ record {
        input = input;
        taken = reading.taken;
        of = of;
        index = n;
        whole = omega (arith, reading.long);
        no_further = reading.no_further;
        front = sent.has.written;
        calls_before = calls;
        sends = sends_so_far;
        next = within.stopped.sends.written ++ within.stopped.behind;
        calls_next = more;
        more = within.stopped.more;
        stopped = inr (record {
          stop = within.stop;
          by = within.by;
          read = reading.read;
          sending = within.sending;
          prepared = ready within.sending within.prepared;
          same = as_before within.sending within.same;
          number = within.stopped.number;
          within = within.stopped.within;
          cells = within.stopped.sends.written;
          sent = within.stopped.sends.sent;
          behind = within.stopped.behind;
          stopped = within.stopped.stopped;
          is = refl;
        });
        appended = Appends-trans there between then sent.has.written (within.stopped.sends.written ++ within.stopped.behind) sent.has.appended
            within.stopped.sends.appended;
        is_told = tells_then told told_mid told' calls (more ++ within.stopped.more) sent.has.is_told within.stopped.sends.is_told;
        lost_in_all = omega (arith, sent.has.lost);
      }
    ]

-- ---- it stops before the next part is read

module _ (order : Order) (key : Key) (known : Known) (some : 0 < order.part) (before mid there then : Option (List ℕ)) (told told' : Option (List Call))
    (s : StreamSender) (sent : HasSentWhole order key known before mid there then told told' s) where
  told_so_far : Tells told told' (sent.has.calls ++ [])
  told_so_far = subst (Tells told told') (sym (append-nil sent.has.calls)) sent.has.is_told

  pub stops_reading : (after : Option (List ℕ)) (stop : Stop) → ReadsWithin mid after order.part → IsStopOfReads stop
      → StopsStream order key known before after there then told told' (By stop) s.lost
  stops_reading after stop reads is =
      let n = s.names.count in
      let input = sent.input ++ reads.piece in
      let next : (n + 1) * order.part ≡ n * order.part + order.part = omega arith in
      record {
        input = input;
        taken = Consumes-trans before mid after sent.input reads.piece sent.has.taken reads.taken;
        of = sent.has.of;
        index = n;
        whole = omega (arith, length-append sent.input reads.piece, sent.whole);
        no_further = omega (arith, length-append sent.input reads.piece, sent.whole, reads.few, next);
        front = sent.has.written;
        calls_before = sent.has.calls;
        sends = sends_longer order key known some sent.input reads.piece sent.has.of n sent.has.written sent.has.calls (omega (arith, sent.whole)) sent.has.sends;
        next = [];
        calls_next = [];
        more = [];
        stopped = inl (stops_unsent input n after stop is, refl, refl, refl);
        appended = subst (Appends there then) (sym (append-nil sent.has.written)) sent.has.appended;
        is_told = told_so_far;
        lost_in_all = omega (arith, sent.has.lost);
      }
    where
      stops_unsent : (input : List ℕ) (n : ℕ) (after : Option (List ℕ)) (stop : Stop) → IsStopOfReads stop
          → StopsUnsent order key known input sent.has.of n after (By stop)
      stops_unsent input n after Fault is = tt
      stops_unsent input n after (Refused e) (inl is) = absurd (cc is)
      stops_unsent input n after (Refused e) (inr is) = inl (cc is)

  -- there is no number for it
  pub stops_unnumbered : s.names.count ≡ greatest_count → StopsStream order key known before mid there then told told' (By (Refused TransferTooLong)) s.lost
  stops_unnumbered all =
      let n = s.names.count in
      let next : (n + 1) * order.part ≡ n * order.part + order.part = omega arith in
      record {
        input = sent.input;
        taken = sent.has.taken;
        of = sent.has.of;
        index = n;
        whole = omega (arith, sent.whole);
        no_further = omega (arith, sent.whole, next);
        front = sent.has.written;
        calls_before = sent.has.calls;
        sends = sent.has.sends;
        next = [];
        calls_next = [];
        more = [];
        stopped = inl (inr (inr (refl, all, sent.whole)), refl, refl, refl);
        appended = subst (Appends there then) (sym (append-nil sent.has.written)) sent.has.appended;
        is_told = told_so_far;
        lost_in_all = omega (arith, sent.has.lost);
      }
