-- What is determined, by known ids and by a list of them.
use Rattle.std.proofs.Common.{◌≡◌, ◌↔◌, ℕ, ◌+◌, ◌-◌, ◌<◌, ◌≤◌, Bool, true, false, cond, ltb, eqb, ◌%◌, List, length, refl, sym, ap, ◌∙◌, arith, inl, inr}
use Rattle.std.specs.Prelude.{◌||◌}
use Rattle.std.specs.List.{range_with_len}
use Rattle.std.proofs.lemmas.Bool.{cases_lt, lt-ltb, le-ltb, ltb-true}
use Rattle.std.proofs.lemmas.List.FromFn.{length-range_with_len, get_or-range_with_len}
use Rattle.rq_algebra.specs.Systems.{dot, Solves, at, stacked, rows_of}
use Rattle.rq_algebra.specs.Parities.{parity}
use Rattle.rq_algebra.proofs.Stacks.{stacked_all, solves_stacked}
use Rattle.rq_algebra.proofs.Solutions.{solves_same}
use Rattle.rq_algebra.proofs.FewEquations.{few_rows}
use Rattle.rq_algebra.proofs.Solutions.{homogeneous_not_determined}
use Rattle.rq_standard.specs.declared.row.TableRow.{TableRow}
use Rattle.rq_standard.specs.OctetField.{octets}
use Rattle.rq_standard.specs.TableRows.{intermediate_symbols, b_of, pi_symbols}
use Rattle.rq_standard.specs.Equations.{precode_equations, symbol_coefficient, equations, equation_count, ldpc_coefficient, hdpc_coefficient, is_ldpc_row, row_indices, one_if, extended_ids}
use Rattle.rq_standard.specs.IdLists.{IsListOf, HasDeterminedRows}
use Rattle.rq_standard.specs.Headline.{IsNonsingular, SolvesZeros, AreDetermined, known_ids, DetermineBlock}
use Rattle.rq_standard.specs.Received.{HasSourceSymbols}
use Rattle.rq_standard.specs.OctetProducts.{cond-lt}
use Rattle.rq_standard.proofs.HdpcLaws.{one_if-lt, hdpc-lt}

module _ (row : TableRow) (known : ℕ → Bool) (ids : List ℕ) (column : ℕ → ℕ) where
  both : Solves octets (equation_count row ids) (intermediate_symbols row) (equations row ids) column (stacked (row.ldpc_symbols + row.hdpc_symbols) (λ _. 0) (λ _. 0))
      ↔ (Solves octets (row.ldpc_symbols + row.hdpc_symbols) (intermediate_symbols row) (precode_equations row) column (λ _. 0) × Solves octets (length ids) (intermediate_symbols row) (rows_of (symbol_coefficient row) ids) column (λ _. 0))
  both = solves_stacked octets (row.ldpc_symbols + row.hdpc_symbols) (length ids) (intermediate_symbols row) (precode_equations row) (rows_of (symbol_coefficient row) ids) column (λ _. 0) (λ _. 0)

  zeros : (i : ℕ) → stacked {X = ℕ} (row.ldpc_symbols + row.hdpc_symbols) (λ _. 0) (λ _. 0) i ≡ 0
  zeros i = stacked_all (row.ldpc_symbols + row.hdpc_symbols) (λ _. 0) (λ _. 0) (λ (n : ℕ). n ≡ 0) (λ k l. refl) (λ k. refl) i

  -- a column that solves what is known solves the equations of known ids
  pub to_list : ((j : ℕ) → j < length ids → known (at ids j) ≡ true) → SolvesZeros row known column → Solves octets (equation_count row ids) (intermediate_symbols row) (equations row ids) column (λ _. 0)
  to_list listed z =
      solves_same octets (equation_count row ids) (intermediate_symbols row) (equations row ids) (equations row ids) column _ (λ _. 0) (λ i k l m. refl) (λ i l. zeros i)
      (both.1 (z.precode, record { at = λ j below. z.each (at ids j) (listed j below) }))

  -- and a column that solves the equations of all known ids solves what is known
  pub from_list : IsListOf known ids → Solves octets (equation_count row ids) (intermediate_symbols row) (equations row ids) column (λ _. 0) → SolvesZeros row known column
  from_list list s =
      let parts = both.0 (solves_same octets (equation_count row ids) (intermediate_symbols row) (equations row ids) (equations row ids) column (λ _. 0) _ (λ i k l m. refl) (λ i l. sym (zeros i)) s) in
      record {
        precode = parts.0;
        each = λ x is.
            let q = list.place x is in
            ap (λ (r : ℕ → ℕ). dot octets (intermediate_symbols row) r column) (ap (symbol_coefficient row) (sym q.2)) ∙ parts.1.at q.0 q.1;
      }

-- ids that are known and determine
pub determined_by : (row : TableRow) (known : ℕ → Bool) (ids : List ℕ) → ((j : ℕ) → j < length ids → known (at ids j) ≡ true) → HasDeterminedRows row ids → AreDetermined row known
determined_by row known ids listed d column is z = d column is (to_list row known ids column listed z)

-- a list of all known ids determines where they do
pub determined_list : (row : TableRow) (known : ℕ → Bool) (ids : List ℕ) → IsListOf known ids → AreDetermined row known → HasDeterminedRows row ids
determined_list row known ids list d column is s = d column is (from_list row known ids column list s)

-- more known ids determine too
pub determined_more : (row : TableRow) (known more : ℕ → Bool) → ((x : ℕ) → known x ≡ true → more x ≡ true) → AreDetermined row known → AreDetermined row more
determined_more row known more within d column is z = d column is (record { precode = z.precode; each = λ x k. z.each x (within x k) })

-- ---- the ids of a block

by_cases : (row : TableRow) (k x : ℕ) (has : ℕ → Bool) (b : Bool) → (x < k → has x ≡ b) → (k ≤ x → x < row.extended_symbols → true ≡ b) → (k ≤ x → row.extended_symbols ≤ x → has (x + k - row.extended_symbols) ≡ b) → known_ids row k has x ≡ b
by_cases row k x has b source padding repair = elim (cases_lt x k) [
  | inl lt ↦ ap (λ c. cond c (has x) (cond (ltb x row.extended_symbols) true (has (x + k - row.extended_symbols)))) (lt-ltb x k lt) ∙ source lt
  | inr ge ↦ ap (λ c. cond c (has x) (cond (ltb x row.extended_symbols) true (has (x + k - row.extended_symbols)))) (le-ltb x k ge)
      ∙ elim (cases_lt x row.extended_symbols) [
        | inl lt ↦ ap (λ c. cond c true (has (x + k - row.extended_symbols))) (lt-ltb x row.extended_symbols lt) ∙ padding ge lt
        | inr past ↦ ap (λ c. cond c true (has (x + k - row.extended_symbols))) (le-ltb x row.extended_symbols past) ∙ repair ge past
      ]
]

pub known_source : (row : TableRow) (k x : ℕ) (has : ℕ → Bool) → x < k → known_ids row k has x ≡ has x
known_source row k x has lt = by_cases row k x has (has x) (λ _. refl) (λ ge _. absurd (omega arith)) (λ ge _. absurd (omega arith))

pub known_padding : (row : TableRow) (k x : ℕ) (has : ℕ → Bool) → k ≤ x → x < row.extended_symbols → known_ids row k has x ≡ true
known_padding row k x has ge lt = by_cases row k x has true (λ l. absurd (omega arith)) (λ _ _. refl) (λ _ past. absurd (omega arith))

pub known_repair : (row : TableRow) (k x : ℕ) (has : ℕ → Bool) → k ≤ x → row.extended_symbols ≤ x → known_ids row k has x ≡ has (x + k - row.extended_symbols)
known_repair row k x has ge past = by_cases row k x has _ (λ l. absurd (omega arith)) (λ _ l. absurd (omega arith)) (λ _ _. refl)

known_within : (row : TableRow) (k : ℕ) (f g : ℕ → Bool) → ((e : ℕ) → f e ≡ true → g e ≡ true) → (x : ℕ) → known_ids row k f x ≡ true → known_ids row k g x ≡ true
known_within row k f g within x h = elim (cases_lt x k) [
  | inl lt ↦ known_source row k x g lt ∙ within x (sym (known_source row k x f lt) ∙ h)
  | inr ge ↦ elim (cases_lt x row.extended_symbols) [
    | inl lt ↦ known_padding row k x g ge lt
    | inr past ↦ known_repair row k x g ge past ∙ within (x + k - row.extended_symbols) (sym (known_repair row k x f ge past) ∙ h)
  ]
]

-- a block that is determined stays so when more ids come
pub block_more : (row : TableRow) (k : ℕ) (f g : ℕ → Bool) → ((e : ℕ) → f e ≡ true → g e ≡ true) → DetermineBlock row k f → DetermineBlock row k g
block_more row k f g within = determined_more row (known_ids row k f) (known_ids row k g) (known_within row k f g within)

-- the ids alone matter
pub block_same : (row : TableRow) (k : ℕ) (f g : ℕ → Bool) → ((e : ℕ) → f e ≡ g e) → DetermineBlock row k f → DetermineBlock row k g
block_same row k f g same = block_more row k f g (λ e h. sym (same e) ∙ h)

-- the ids of source and padding symbols, as a list
source_list : (row : TableRow) → IsListOf (λ x. ltb x row.extended_symbols) (extended_ids row)
source_list row = record {
  listed = λ j below.
      let lt : j < row.extended_symbols = omega (arith, length-range_with_len 0 row.extended_symbols) in
      let is : at (extended_ids row) j ≡ j = get_or-range_with_len 0 row.extended_symbols j 0 lt ∙ omega arith in
      ap (λ x. ltb x row.extended_symbols) is ∙ lt-ltb j row.extended_symbols lt;
  place = λ x known.
      let lt : x < row.extended_symbols = ltb-true x row.extended_symbols known in
      (x, omega (arith, length-range_with_len 0 row.extended_symbols), get_or-range_with_len 0 row.extended_symbols x 0 lt ∙ omega arith);
}

-- a row is nonsingular where the equations of these ids are determined
pub nonsingular_rows : (row : TableRow) → IsNonsingular row → HasDeterminedRows row (extended_ids row)
nonsingular_rows row = determined_list row (λ x. ltb x row.extended_symbols) (extended_ids row) (source_list row)

pub rows_nonsingular : (row : TableRow) → HasDeterminedRows row (extended_ids row) → IsNonsingular row
rows_nonsingular row = determined_by row (λ x. ltb x row.extended_symbols) (extended_ids row) (source_list row).listed

-- over a row that isn't singular the source symbols determine a block
pub block_of_source : (row : TableRow) (k : ℕ) (has : ℕ → Bool) → IsNonsingular row → HasSourceSymbols k has → DetermineBlock row k has
block_of_source row k has nonsingular all =
    determined_more row (λ x. ltb x row.extended_symbols) (known_ids row k has) (λ x below.
    let lt : x < row.extended_symbols = ltb-true x row.extended_symbols below in
    elim (cases_lt x k) [
      | inl l ↦ known_source row k x has l ∙ all.each x l
      | inr ge ↦ known_padding row k x has ge lt
    ]) nonsingular

-- ---- few ids

ldpc_below : (row : TableRow) (m k : ℕ) → ldpc_coefficient row m k < 256
unfolding ldpc_coefficient
ldpc_below row m k =
    let ldpc_1 = is_ldpc_row row m k in
    let own = eqb k (b_of row + m) in
    let two = eqb k (row.lt_symbols + m % pi_symbols row) || eqb k (row.lt_symbols + (m + 1) % pi_symbols row) in
    cond-lt (ltb k (b_of row)) (one_if ldpc_1) (cond (ltb k row.lt_symbols) (one_if own) (one_if two)) (one_if-lt ldpc_1) (cond-lt (ltb k row.lt_symbols) (one_if own) (one_if two) (one_if-lt own) (one_if-lt two))

parity_below : (places : List ℕ) (k : ℕ) → parity places k < 256
unfolding parity
parity_below places k = omega arith

equations_below : (row : TableRow) (ids : List ℕ) (i k : ℕ) → equations row ids i k < 256
equations_below row ids i k =
    let small : (ℕ → ℕ) → Type 0 = λ r. r k < 256 in
    stacked_all (row.ldpc_symbols + row.hdpc_symbols) (precode_equations row) (rows_of (symbol_coefficient row) ids) small
    (λ m _. stacked_all row.ldpc_symbols (ldpc_coefficient row) (hdpc_coefficient row) small (λ n _. ldpc_below row n k) (λ n. hdpc-lt row n k) m)
    (λ j. parity_below (row_indices row (at ids j)) k) i

-- fewer equations than intermediate symbols determine nothing
pub few_not_determining : (row : TableRow) (ids : List ℕ) → equation_count row ids < intermediate_symbols row → HasDeterminedRows row ids → ⊥
few_not_determining row ids few d =
    homogeneous_not_determined octets (equation_count row ids) (intermediate_symbols row) (equations row ids)
    (few_rows octets (intermediate_symbols row) (equation_count row ids) (equations row ids) few (λ i k _ _. equations_below row ids i k)) d

-- before any symbol was received
padding_list : (row : TableRow) (k : ℕ) → k ≤ row.extended_symbols → IsListOf (known_ids row k (λ _. false)) (range_with_len k (row.extended_symbols - k))
padding_list row k fits =
    let n : ℕ = row.extended_symbols - k in
    let ids : List ℕ = range_with_len k n in
    record {
      listed = λ j below.
          let lt : j < n = omega (arith, length-range_with_len k n) in
          ap (known_ids row k (λ _. false)) (get_or-range_with_len k n j 0 lt) ∙ known_padding row k (k + j) (λ _. false) (omega arith) (omega arith);
      place = λ x known. elim (cases_lt x k) [
        | inl lt ↦ absurd (cc (sym (known_source row k x (λ _. false) lt) ∙ known))
        | inr ge ↦ elim (cases_lt x row.extended_symbols) [
          | inl lt ↦ (x - k, (omega (arith, length-range_with_len k n)), get_or-range_with_len k n (x - k) 0 (omega arith) ∙ omega arith)
          | inr past ↦ absurd (cc (sym (known_repair row k x (λ _. false) ge past) ∙ known))
        ]
      ];
    }

pub none_determined : (row : TableRow) (k : ℕ) → 0 < k → k ≤ row.extended_symbols → DetermineBlock row k (λ _. false) → ⊥
none_determined row k some fits d =
    let ids : List ℕ = range_with_len k (row.extended_symbols - k) in
    few_not_determining row ids (omega (arith, length-range_with_len k (row.extended_symbols - k))) (determined_list row (known_ids row k (λ _. false)) ids (padding_list row k fits) d)
