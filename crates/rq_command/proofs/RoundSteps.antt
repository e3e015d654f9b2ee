-- Rounds of a stream, one after another.
use Rattle.std.proofs.Common.{◌≡◌, inl, inr, ℕ, suc, ◌+◌, ◌<◌, Option, Err, refl, ap, subst, ◌∙◌, arith}
use Rattle.rq_streams.specs.declared.run.Stop.{Stop}
use Rattle.rq_streams.specs.Ends.{failed_calls}
use Rattle.rq_cast.specs.declared.halt.Halt.{Halt}
use Rattle.rq_cast.specs.declared.halt.Halt.TheVariants.{By}
use Rattle.rq_cast.specs.declared.order.Order.{Order}
use Rattle.rq_cast.specs.declared.stream_sending.Sent.{Sent}
use Rattle.rq_cast.specs.Rounds.{in_round}
use Rattle.rq_cast.specs.Searching.{counted}
use Rattle.rq_cast.specs.SentParts.{SendsStream, StopsStream, halted_calls}
use Rattle.rq_cells.specs.Cells.{Key}
use Rattle.rq_command.specs.declared.rounds.Rounds.{Rounds}
use Rattle.rq_devices.specs.Failed.{Fails, StopsReading}
use Rattle.rq_command.specs.Outside.{KnownCalls}
use Rattle.rq_devices.specs.Placed.{Contents}
use Rattle.rq_command.specs.Rounds.{AreAll, SendRounds, SendsRounds, StopsRounds, CountsSent, CountsHalt}
use Rattle.rq_command.specs.RoundsSent.{IsUnsent, SameStream, SendsRound, StopsRound}
use Rattle.rq_devices.proofs.Counting.{failed_then, none_fails}

-- a sum of which some was cut is cut so too
pub most_sum : (n m : ℕ) → counted (counted n + m) ≡ counted (n + m)
most_sum n m = omega arith

module _ {W : Type 0} (contents : W → Contents) (first : Rounds W) (input : Contents) where
  -- so many are sent, and so many calls failed
  pub record HasSentRounds (now : Rounds W) (n : ℕ) (told told' : KnownCalls) (a b : Option ℕ) : Type 0 where
    pub same : SameStream first now
    pub number : now.number ≡ n
    pub sends : SendRounds first.order first.key first.known input n told told' (contents first.writer) (contents now.writer) now.sent now.known
    pub counts : CountsSent a b now.sent

  pub none_so_far : (told : KnownCalls) (a : Option ℕ) → IsUnsent first → HasSentRounds first 0 told told a a
  none_so_far told a unsent = record {
    same = record { order = refl; key = refl; files = refl; all = refl };
    number = unsent.number;
    sends = (refl, refl, unsent.none, refl);
    counts = (0, none_fails a, ap (λ (s : Sent). s.lost) unsent.none);
  }

  module _ (now : Rounds W) (n : ℕ) (told between : KnownCalls) (a b c : Option ℕ) (has : HasSentRounds now n told between a b) where
    -- the order and the key of the next one are those of the first
    of_first : (P : Order → Key → Type 0) → P (in_round now.order now.number) now.key → P (in_round first.order n) first.key
    of_first P holds =
        subst (λ (k : Key). P (in_round first.order n) k) has.same.key
        (subst (λ (i : ℕ). P (in_round first.order i) now.key) has.number (subst (λ (o : Order). P (in_round o now.number) now.key) has.same.order holds))

    -- no more calls failed since
    pub still : Fails b c 0 → HasSentRounds now n told between a c
    still none = record {
      same = has.same;
      number = has.number;
      sends = has.sends;
      counts = (has.counts.0, failed_then a b c has.counts.0 0 has.counts.0 has.counts.1 none (omega arith), has.counts.2);
    }

    pub one_more : (next : Rounds W) (told' : KnownCalls) → SendsRound contents input now next between told' b c → HasSentRounds next (n + 1) told told' a c
    one_more next told' more = record {
      same = record {
        order = more.same.order ∙ has.same.order;
        key = more.same.key ∙ has.same.key;
        files = more.same.files ∙ has.same.files;
        all = more.same.all ∙ has.same.all;
      };
      number = more.number ∙ ap (λ k. k + 1) has.number;
      sends =
          let next_is : suc n ≡ n + 1 = omega arith in
          subst (λ k. SendRounds first.order first.key first.known input k told told' (contents first.writer) (contents next.writer) next.sent next.known) next_is (
            between,
            contents now.writer,
            now.sent,
            now.known,
            more.more,
            more.left,
            has.sends,
            of_first (λ o k. SendsStream o k now.known input more.left (contents now.writer) (contents next.writer) between told' more.more next.known) more.sends,
            more.sum,
          );
      counts = (
        has.counts.0 + more.more.lost,
        failed_then a b c has.counts.0 more.more.lost (has.counts.0 + more.more.lost) has.counts.1 more.counts refl,
        ap (λ (s : Sent). s.lost) more.sum ∙ ap (λ k. counted (k + more.more.lost)) has.counts.2 ∙ most_sum has.counts.0 more.more.lost,
      );
    }

    -- the next one stops
    pub stops_in : IsUnsent first → n < first.all → (left : W) (halt : Halt) (told' : KnownCalls) → StopsRound contents input now left halt between told' b c
        → (lost : ℕ) × CountsHalt a c halt lost
        × StopsRounds first.order first.key first.all input told told' (contents first.writer) (contents left) halt lost
    stops_in unsent fewer left halt told' stops = (
      has.counts.0 + stops.lost,
      failed_then a b c has.counts.0 (stops.lost + halted_calls halt) (has.counts.0 + stops.lost + halted_calls halt) has.counts.1 stops.counts (omega arith),
      record {
        first = first.known;
        fresh = unsent.fresh;
        number = n;
        fewer = fewer;
        between = between;
        mid = contents now.writer;
        sent = now.sent;
        known = now.known;
        sends = has.sends;
        before = has.counts.0;
        lost_before = has.counts.2;
        next = inr (
          stops.left,
          stops.lost,
          of_first (λ o k. StopsStream o k now.known input stops.left (contents now.writer) (contents left) between told' halt stops.lost) stops.stops,
          refl,
        );
      },
    )

    -- or isn't begun
    pub stops_before : IsUnsent first → n < first.all → 0 < n → (stop : Stop) → StopsReading stop → Fails b c (failed_calls {X = ℕ} (Err stop))
        → (lost : ℕ) × CountsHalt a c (By stop) lost
        × StopsRounds first.order first.key first.all input told between (contents first.writer) (contents now.writer) (By stop) lost
    stops_before unsent fewer some stop is fails = (
      has.counts.0,
      failed_then a b c has.counts.0 (failed_calls {X = ℕ} (Err stop)) (has.counts.0 + failed_calls {X = ℕ} (Err stop)) has.counts.1 fails refl,
      record {
        first = first.known;
        fresh = unsent.fresh;
        number = n;
        fewer = fewer;
        between = between;
        mid = contents now.writer;
        sent = now.sent;
        known = now.known;
        sends = has.sends;
        before = has.counts.0;
        lost_before = has.counts.2;
        next = inl (refl, refl, refl, (some, (stop, refl, is)));
      },
    )

  -- all are sent, or there is no cell
  pub all_sent : IsUnsent first → (now : Rounds W) (n : ℕ) (told told' : KnownCalls) (a b : Option ℕ) → HasSentRounds now n told told' a b → AreAll first.all n now.sent
      → SendsRounds first.order first.key first.all input told told' (contents first.writer) (contents now.writer) now.sent
  all_sent unsent now n told told' a b has all = record {
    first = first.known;
    fresh = unsent.fresh;
    known = now.known;
    number = n;
    all = all;
    sends = has.sends;
  }
