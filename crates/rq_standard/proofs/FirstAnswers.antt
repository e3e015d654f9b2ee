-- What a block answers of packets stays that of the first of them that could answer it.
use Rattle.std.proofs.Common.{◌≡◌, ◌↔◌, ℕ, ◌+◌, ◌≤◌, List, [], ◌∷◌, ◌++◌, take, drop, length, Option, Some, None, refl, sym, ap, ◌∙◌, subst, arith, inl, inr, append_assoc, append-nil, length-append, take-append-drop}
use Rattle.std.specs.Prelude.{IsSome}
use Rattle.std.proofs.lemmas.List.{take_all, take-append-le}
use Rattle.rq_algebra.specs.Systems.{dot, at}
use Rattle.rq_algebra.specs.Symbols.{slice_at}
use Rattle.rq_algebra.proofs.Placewise.{at-zeros}
use Rattle.rq_algebra.proofs.Sums.{mul_zero, dot_zero}
use Rattle.rq_algebra.proofs.SymbolSums.{zeros_are_symbol, same_symbol}
use Rattle.rq_standard.specs.declared.row.TableRow.{TableRow}
use Rattle.rq_standard.specs.OctetField.{octets}
use Rattle.rq_standard.specs.TableRows.{IsChecked, intermediate_symbols}
use Rattle.rq_standard.specs.Equations.{precode_equations, symbol_coefficient, tuple_sum, zero_symbol}
use Rattle.rq_standard.specs.Configuration.{Configuration}
use Rattle.rq_standard.specs.Cutting.{block_symbols}
use Rattle.rq_standard.specs.Headline.{block_row}
use Rattle.rq_standard.specs.Packet.{Packet}
use Rattle.rq_standard.specs.ReceivedBlock.{ReceivedBlock, has_received, CanAnswer, SolvesReceived, IsBlockAnswer}
use Rattle.rq_standard.specs.DecoderSteps.{received_after}
use Rattle.rq_standard.proofs.KnownIds.{block_more}
use Rattle.rq_standard.proofs.Firsts.{has_id-push}
use Rattle.rq_standard.proofs.Columns.{sum_at, sum_symbol}
use Rattle.rq_standard.specs.Following.{Lateness, InTime, IsFirstAnswer, FollowsBlock}

-- ---- more packets

-- a block has an answer exactly where packets can answer it, and then that of the first of them
abbrev pub IsAnsweredBy : List TableRow → Configuration → ℕ → List Packet → Option (List ℕ) → Type 0
IsAnsweredBy table c b packets answer = (IsSome answer ↔ CanAnswer (received_after table c b packets)) × (IsSome answer → IsFirstAnswer InTime table c b packets answer)

module _ (table : List TableRow) (c : Configuration) (b : ℕ) where
  -- what can be answered still can be one packet later,
  pub can_more : (earlier : List Packet) (p : Packet) → CanAnswer (received_after table c b earlier) → CanAnswer (received_after table c b (earlier ++ p ∷ []))
  can_more earlier p (inl all) = inl (record { each = λ e below. has_id-push b earlier p e (all.each e below) })
  can_more earlier p (inr d) =
      let now = received_after table c b earlier in
      let later = received_after table c b (earlier ++ p ∷ []) in
      inr (block_more now.row now.source_symbols (has_received now) (has_received later) (has_id-push b earlier p) d)

  -- and any number of them later
  can_later : (earlier later : List Packet) → CanAnswer (received_after table c b earlier) → CanAnswer (received_after table c b (earlier ++ later))
  can_later earlier [] can = subst (λ ps. CanAnswer (received_after table c b ps)) (sym (append-nil earlier)) can
  can_later earlier (p ∷ later) can = subst (λ ps. CanAnswer (received_after table c b ps)) (append_assoc earlier (p ∷ []) later) (can_later (earlier ++ p ∷ []) later (can_more earlier p can))

  -- so the first of them can't, where all can't
  pub fewer_can : (packets : List Packet) (n : ℕ) → CanAnswer (received_after table c b (take n packets)) → CanAnswer (received_after table c b packets)
  fewer_can packets n can = subst (λ ps. CanAnswer (received_after table c b ps)) (take-append-drop n packets) (can_later (take n packets) (drop n packets) can)

  module _ (earlier : List Packet) (p : Packet) where
    first_of : (n : ℕ) → n ≤ length earlier → take n earlier ≡ take n (earlier ++ p ∷ [])
    first_of n within = sym (take-append-le n earlier (p ∷ []) within)

    one_longer : length (earlier ++ p ∷ []) ≡ length earlier + 1
    one_longer = length-append earlier (p ∷ [])

    -- the answer that there was stays that of the same packets
    pub first_stays : (l after : Lateness) → (after ≡ InTime → l ≡ InTime) → (answer : Option (List ℕ)) → IsFirstAnswer l table c b earlier answer → IsFirstAnswer after table c b (earlier ++ p ∷ []) answer
    first_stays l after timely answer f = record {
      count = f.count;
      among = omega (arith, f.among, one_longer);
      needed = λ now fewer less. subst (λ ps. CanAnswer (received_after table c b ps) → ⊥) (first_of fewer (omega (arith, less, f.among))) (f.needed (timely now) fewer less);
      answers = subst (λ ps. IsBlockAnswer (received_after table c b ps) answer) (first_of f.count f.among) f.answers;
    }

    -- and one that there was not is that of all
    pub first_now : (l : Lateness) (answer : Option (List ℕ)) → (l ≡ InTime → CanAnswer (received_after table c b earlier) → ⊥) → IsBlockAnswer (received_after table c b (earlier ++ p ∷ [])) answer → IsFirstAnswer l table c b (earlier ++ p ∷ []) answer
    first_now l answer none answers = record {
      count = length earlier + 1;
      among = omega (arith, one_longer);
      needed = λ now fewer less can. none now (fewer_can earlier fewer (subst (λ ps. CanAnswer (received_after table c b ps)) (sym (first_of fewer (omega (arith, less)))) can));
      answers = subst (λ ps. IsBlockAnswer (received_after table c b ps) answer) (sym (take_all (length earlier + 1) (earlier ++ p ∷ []) (omega (arith, one_longer)))) answers;
    }

-- a block that a decoder follows
pub answered_by : (table : List TableRow) (c : Configuration) (b : ℕ) (packets : List Packet) (h : ReceivedBlock) (answer : Option (List ℕ)) → FollowsBlock InTime table c b packets h answer → IsAnsweredBy table c b packets answer
answered_by table c b packets h None f = ((λ some. absurd (cc some), λ can. absurd (f.1 (λ late. cc late) (subst CanAnswer (sym f.0) can))), λ some. absurd (cc some))
answered_by table c b packets h (Some bytes) f = ((λ _. fewer_can table c b packets f.count (f.answers.some refl), λ _. refl), λ _. f)

-- ---- before any packet

-- zero symbols solve what was received, where that is nothing
zeros_solve_nothing : (table : List TableRow) (c : Configuration) (b : ℕ) → IsChecked (block_row table c b) → SolvesReceived (received_after table c b []) (λ _. zero_symbol c.symbol_size)
zeros_solve_nothing table c b checked = record {
  symbols = λ k l. zeros_are_symbol octets c.symbol_size;
  precode = record { at_place = λ p. record { at = λ i l. zero_at (precode_equations row i) p } };
  padding = λ x from below. same_symbol octets c.symbol_size (tuple_sum row zeros x) (zero_symbol c.symbol_size) (sum_symbol row c.symbol_size x zeros checked (λ k l. zeros_are_symbol octets c.symbol_size)) (zeros_are_symbol octets c.symbol_size)
      (λ p. sum_at row c.symbol_size x zeros checked (λ k l. zeros_are_symbol octets c.symbol_size) p ∙ zero_at (symbol_coefficient row x) p);
  received = λ e. tt;
} where
  row : TableRow
  row = block_row table c b

  zeros : ℕ → List ℕ
  zeros k = zero_symbol c.symbol_size

  zero_at : (r : ℕ → ℕ) (p : ℕ) → dot octets (intermediate_symbols row) r (slice_at p zeros) ≡ at (zero_symbol c.symbol_size) p
  zero_at r p = dot_zero octets (intermediate_symbols row) r (slice_at p zeros) (λ k l. ap (octets.mul (r k)) (at-zeros c.symbol_size p) ∙ mul_zero octets (r k)) ∙ sym (at-zeros c.symbol_size p)

-- a block of no symbols is answered by none
pub first_none : (l : Lateness) (table : List TableRow) (c : Configuration) (b : ℕ) → IsChecked (block_row table c b) → block_symbols c b ≡ 0 → IsFirstAnswer l table c b [] (Some [])
first_none l table c b checked none = record {
  count = 0;
  among = omega arith;
  needed = λ now fewer less. absurd (omega arith);
  answers = record {
    some = λ _. inl (record { each = λ e below. absurd (omega (arith, none)) });
    none = λ _. refl;
    block = record {
      long = rw none (omega arith);
      each = λ e below. absurd (omega (arith, none));
      solved = λ d column solves e below. absurd (omega (arith, none));
    };
    solved = λ _ _. record { column = λ _. zero_symbol c.symbol_size; solves = zeros_solve_nothing table c b checked };
  };
}
