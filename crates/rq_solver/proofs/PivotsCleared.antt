-- The pivots' columns of a system's rows, once the rows of bits and then those of octets have been cleared.
use Rattle.std.proofs.Common.{◌≡◌, ◌≢◌, ℕ, ◌+◌, ◌<◌, ◌⊎◌, List, [], ◌++◌, Contains, length, sym, ap, ◌∙◌, subst, arith, inl, inr}
use Rattle.std.proofs.lemmas.List.{get_or_default}
use Rattle.std.proofs.lemmas.List.Elements.{Contains-append_left, Contains-append_right, Contains-get_or}
use Rattle.rq_algebra.specs.Operations.{Operation}
use Rattle.rq_algebra.specs.Systems.{at}
use Rattle.rq_standard.specs.OctetField.{octets}
use Rattle.rq_parts.specs.DenseOctetMatrix.{OctetTable, HasOctets, entry_of}
use Rattle.rq_peeling.specs.SystemRows.{AreRowsOfBits, AreOctetRows, one_in, system_rows}
use Rattle.rq_peeling.specs.declared.system.System.{System}
use Rattle.rq_solver.specs.FirstPhase.{HasPeeledPivots, TakesPivotsAlone}
use Rattle.rq_solver.specs.HdpcOctets.{ClearsOctets}
use Rattle.rq_elimination.specs.LeadingRows.{HasLeading}
use Rattle.rq_solver.specs.LeftRows.{ListsRows}
use Rattle.rq_solver.specs.PivotAdditions.{IsCleared, IsUncleared, ClearsRows}
use Rattle.rq_peeling.specs.Peeling.{IsPeeled}
use Rattle.rq_peeling.specs.RowOnes.{ones_of}
use Rattle.rq_elimination.specs.RecordedRows.{Performs}
use Rattle.rq_elimination.specs.declared.recorded.RecordedRows.{RecordedRows}
use Rattle.rq_elimination.specs.RowSteps.{rows_after}
use Rattle.rq_solver.proofs.StepsToRows.{stays}
use Rattle.rq_solver.proofs.OctetRows.{octet_row, bit_row, octet_row_or_bit_row}
use Rattle.rq_algebra.proofs.Choices.{if_apart}
use Rattle.rq_elimination.proofs.StepColumns.{rows_after-next}
use Rattle.rq_elimination.proofs.Performing.{performs_more, shows_after}

-- in the pivots' columns their rows have their own 1 alone, and the other rows nothing
pub record AreCleared (rows order left : List ℕ) (m : ℕ → ℕ → ℕ) : Type 0 where
  pub pivots : (p : ℕ) → p < length rows → IsCleared rows order m (at rows p)
  pub others : (r : ℕ) → Contains left r → (p : ℕ) → p < length rows → m r (at order p) ≡ 0

-- ---- the rows that are left

module _ (height : ℕ) (rows left : List ℕ) (listing : ListsRows height rows left) where
  pub left_below : (r : ℕ) → Contains left r → r < height
  left_below r c = rw (← get_or_default left c.0 0 r c.1 ∙ c.2) (listing.are.below c.0 c.1)

  pub left_apart : (r p : ℕ) → Contains left r → p < length rows → at rows p ≢ r
  left_apart r p c l e = listing.apart p c.0 l c.1 (e ∙ sym (get_or_default left c.0 0 r c.1 ∙ c.2))

  -- a row is a pivot's, or is left
  pub pivot_or_left : (r : ℕ) → r < height → ((p : ℕ) × (p < length rows) × (at rows p ≡ r)) ⊎ Contains left r
  pivot_or_left r l = elim (listing.every r l) [
    | inl c ↦ inl (c.0, c.1, get_or_default rows c.0 0 r c.1 ∙ c.2)
    | inr c ↦ inr c
  ]

-- ---- the rows of a system

module _ (lists : List (List ℕ)) (first : ℕ) (hdpc : OctetTable) where
  cases : (r : ℕ) → ((i : ℕ) × (i < length hdpc.rows) × (first + i ≡ r)) ⊎ ((i : ℕ) → i < length hdpc.rows → first + i ≢ r)
  cases r = octet_row_or_bit_row first (length hdpc.rows) (entry_of hdpc) r

  octets_at : (i k : ℕ) → i < length hdpc.rows → system_rows lists first hdpc (first + i) k ≡ entry_of hdpc i k
  octets_at i k l = octet_row first (length hdpc.rows) (entry_of hdpc) (one_in lists) i k l

  bits_at : (r k : ℕ) → ((i : ℕ) → i < length hdpc.rows → first + i ≢ r) → system_rows lists first hdpc r k ≡ one_in lists r k
  bits_at r k out = bit_row first (length hdpc.rows) (entry_of hdpc) (one_in lists) r k out

  module _ (width : ℕ) (bits : AreRowsOfBits width lists) (are : AreOctetRows lists first width hdpc) where
    module _ (rows order places : List ℕ) (peeled : IsPeeled width lists (record { rows = rows; order = order; places = places })) where
      -- a pivot's row is one of bits
      pub pivot_of_bits : (p i : ℕ) → p < length rows → i < length hdpc.rows → first + i ≢ at rows p
      pivot_of_bits p i l n e =
          let none : ones_of lists (at rows p) ≡ [] = ap (ones_of lists) (sym e) ∙ are.empty i n in
          let own : Contains [] (at order p) = subst (λ (xs : List ℕ). Contains xs (at order p)) none (peeled.own p l) in
          omega (arith, own.1)

      uncleared : (r : ℕ) → ((i : ℕ) → i < length hdpc.rows → first + i ≢ r) → IsUncleared lists rows order (system_rows lists first hdpc) r
      uncleared r out = record { entries = λ i l. bits_at r (at order i) out }

      module _ (left : List ℕ) (listing : ListsRows (length lists) rows left) where
        abbrev all : List ℕ
        all = rows ++ left

        module _ (zero one two : RecordedRows) (clears : ClearsRows lists rows order all (length all) zero one) (wipes : ClearsOctets rows order (entry_of hdpc) first (length hdpc.rows) one two) where
          abbrev system : ℕ → ℕ → ℕ
          system = system_rows lists first hdpc

          abbrev now : ℕ → ℕ → ℕ
          now = rows_after octets clears.steps system

          cleared_at : (r : ℕ) → Contains all r → ((i : ℕ) → i < length hdpc.rows → first + i ≢ r) → IsCleared rows order now r
          cleared_at r c out =
              let is : at all c.0 ≡ r = get_or_default all c.0 0 r c.1 ∙ c.2 in
              rw is at ((clears.effect system).cleared (λ p l. uncleared (at rows p) (λ i n. pivot_of_bits p i l n)) c.0 c.1 (rw is (uncleared r out)))

          pivot_now : (p : ℕ) → p < length rows → IsCleared rows order now (at rows p)
          pivot_now p l = cleared_at (at rows p) (Contains-append_left rows left (at rows p) (Contains-get_or rows p 0 l)) (λ i n. pivot_of_bits p i l n)

          in_end : (r k : ℕ) → rows_after octets (clears.steps ++ wipes.steps) system r k ≡ rows_after octets wipes.steps now r k
          in_end r k = rows_after-next octets clears.steps wipes.steps system r k

          left_cleared : (r : ℕ) → Contains left r → (p : ℕ) → p < length rows → rows_after octets wipes.steps now r (at order p) ≡ 0
          left_cleared r c p l = elim (cases r) [
            | inl q ↦
                let had = λ (i j : ℕ) (n : i < length hdpc.rows) (o : j < length rows).
                (clears.effect system).idle (first + i) (at order j) (are.empty i n) ∙ octets_at i (at order j) n in
                rw (← q.2) ((wipes.effect now).shown pivot_now had q.0 p q.1 l)
            | inr out ↦
                stays wipes now r (at order p) (λ c. out c.0 c.1 c.2) ∙ (cleared_at r (Contains-append_right rows left r c) out).entries p l
                ∙ if_apart (at rows p) r 1 0 (left_apart (length lists) rows left listing r p c l)
          ]

          pub cleared_both : AreCleared rows order left (rows_after octets (clears.steps ++ wipes.steps) (system_rows lists first hdpc))
          cleared_both = record {
            pivots = λ p l.
                record { entries = λ i n. in_end _ _ ∙ stays wipes now (at rows p) _ (λ c. pivot_of_bits p c.0 l c.1 c.2) ∙ (pivot_now p l).entries i n };
            others = λ r c p l. in_end r (at order p) ∙ left_cleared r c p l;
          }

          -- the tables that were filled with the inactive columns show them
          pub peeled_pivots : HasOctets hdpc → (inactive : ℕ) → length rows + inactive ≡ width → zero.operations ≡ [] → HasLeading (length lists) inactive (length lists) (λ r f. system_rows lists first hdpc r (at order (length rows + f))) zero.table
              → HasPeeledPivots (length lists) width (system_rows lists first hdpc) (record { rows = rows; order = order; places = places }) left two
          peeled_pivots octets_are inactive wide empty holds =
              let done : List Operation = clears.steps ++ wipes.steps in
              let performs : Performs done zero two = performs_more clears.steps wipes.steps zero one two clears.done wipes.done in
              let recorded : two.operations ≡ done = performs.recorded ∙ ap (λ (l : List Operation). l ++ done) empty in
              let both : AreCleared rows order left (rows_after octets done (system_rows lists first hdpc)) = cleared_both in
              record {
                elements = λ i k l m. elim (cases i) [
                  | inl q ↦ rw (← q.2, octets_at q.0 k q.1) (octets_are.elements q.0 k q.1 (rw are.width_is m))
                  | inr out ↦ rw (bits_at i k out) (omega (arith, bits.once i k l m))
                ];
                among = rw recorded (rw holds.height_is at performs.among);
                height_is = performs.height ∙ holds.height_is;
                wide = omega (arith, performs.width, holds.wide, wide);
                shows = λ r f l n. rw recorded (shows_after done zero two (system_rows lists first hdpc) (λ g. at order (length rows + g)) inactive holds.wide performs
                    (λ i g o u. holds.written i g (rw holds.height_is at o) u) r f (rw holds.height_is l) (omega arith));
                pivots = λ p l. rw recorded (both.pivots p l);
                others = λ r p c l. rw recorded (both.others r c p l);
              }

-- ---- what rows of bits take

pub takes_alone : (system : System) (rows order listed : List ℕ) (zero one two : RecordedRows) → ClearsRows system.ones rows order listed (length listed) zero one
    → ClearsOctets rows order (entry_of system.hdpc) system.first_hdpc (length system.hdpc.rows) one two → zero.operations ≡ [] → TakesPivotsAlone system rows two.operations
takes_alone system rows order listed zero one two clears wipes empty =
    let done : List Operation = clears.steps ++ wipes.steps in
    let performs : Performs done zero two = performs_more clears.steps wipes.steps zero one two clears.done wipes.done in
    let recorded : two.operations ≡ done = performs.recorded ∙ ap (λ (l : List Operation). l ++ done) empty in
    let after_wipes : (m : ℕ → ℕ → ℕ) (r k : ℕ) → rows_after octets two.operations m r k ≡ rows_after octets wipes.steps (rows_after octets clears.steps m) r k = (λ m r k.
    ap (λ (l : List Operation). rows_after octets l m r k) recorded ∙ rows_after-next octets clears.steps wipes.steps m r k) in
    record {
      bits = λ m k none r out. after_wipes m r k ∙ stays wipes (rows_after octets clears.steps m) r k (λ c. out c.0 c.1 c.2) ∙ (clears.effect m).kept k none r;
      hdpc = λ m k none zeros i n. after_wipes m (system.first_hdpc + i) k
          ∙ (wipes.effect (rows_after octets clears.steps m)).kept k (λ p l. (clears.effect m).kept k none (at rows p) ∙ none p l) (λ j o. (clears.effect m).kept k none (system.first_hdpc + j) ∙ zeros j o) i n;
    }
