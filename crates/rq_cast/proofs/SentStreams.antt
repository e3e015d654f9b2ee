-- Parts that are sent one behind another.
use Rattle.std.proofs.Common.{◌≡◌, ℕ, zero, suc, ◌+◌, ◌*◌, ◌<◌, ◌≤◌, List, ◌++◌, length, refl, sym, subst, arith}
use Rattle.rq_cells.specs.Cells.{Key}
use Rattle.rq_cast.specs.declared.known.Known.{Known}
use Rattle.rq_cast.specs.declared.order.Order.{Order}
use Rattle.rq_cast.specs.Preparing.{IsPrepared}
use Rattle.rq_cast.specs.Calls.{Call}
use Rattle.rq_cast.specs.Sent.{Sending, cell_count, AreSent}
use Rattle.rq_cast.specs.Rounds.{IsAsKnown}
use Rattle.rq_cast.specs.SentParts.{IsPreparedPart, IsAsKnownIn, AreSentParts, SendsParts}
use Rattle.rq_cast.proofs.PartsInOrder.{with_next, with_next_below, with_next_at, each_next, still_first, ready_longer, ready_next}

-- what is sent of the first n is so by what is the same there
sent_same : (f g : ℕ → Sending) (n : ℕ) (written : List ℕ) (calls : List Call) → ((i : ℕ) → i < n → f i ≡ g i) → AreSentParts f n written calls
    → AreSentParts g n written calls
sent_same f g zero written calls same sent = sent
sent_same f g (suc n) written calls same (front, bytes, before, more, first, next, is, count) = (
  front,
  bytes,
  before,
  more,
  sent_same f g n front before (λ i below. same i (omega (arith, below))) first,
  subst (λ (s : Sending). AreSent s (cell_count s) bytes more) (same n (omega arith)) next,
  is,
  count,
)

module _ (order : Order) (key : Key) (known : Known) where
  -- whole parts stay when more is read
  pub sends_longer : 0 < order.part → (input more : List ℕ) (of : ℕ → Sending) (n : ℕ) (written : List ℕ) (calls : List Call) → n * order.part ≤ length input
      → SendsParts order key known input of n written calls → SendsParts order key known (input ++ more) of n written calls
  sends_longer some input more of n written calls whole sends = record {
    prepared = ready_longer (IsPrepared order key) (λ s. s) order.part input more some of n whole sends.prepared;
    same = λ i below. subst (λ b. IsAsKnown known i b (of i).head.name) (still_first order.part input more some n whole i below) (sends.same i below);
    sent = sends.sent;
  }

  -- one part more
  pub sends_next : (input : List ℕ) (of : ℕ → Sending) (n : ℕ) (next : Sending) (front bytes : List ℕ) (calls more : List Call)
      → SendsParts order key known input of n front calls → IsPreparedPart order key input of n next → IsAsKnownIn order known input n next
      → AreSent next (cell_count next) bytes more → SendsParts order key known input (with_next of n next) (n + 1) (front ++ bytes) (calls ++ more)
  sends_next input of n next front bytes calls more sends ready here sent =
      let all = with_next of n next in
      let same : suc n ≡ n + 1 = omega arith in
      record {
        prepared = ready_next (IsPrepared order key) (λ s. s) order.part input of n next sends.prepared ready;
        same = each_next of n next (IsAsKnownIn order known input) sends.same here;
        sent = subst (λ m. AreSentParts all m (front ++ bytes) (calls ++ more)) same (
          front,
          bytes,
          calls,
          more,
          sent_same of all n front calls (λ k few. sym (with_next_below of n next k few)) sends.sent,
          subst (λ (s : Sending). AreSent s (cell_count s) bytes more) (sym (with_next_at of n next)) sent,
          refl,
          refl,
        );
      }
