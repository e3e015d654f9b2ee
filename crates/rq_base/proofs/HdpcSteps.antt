-- The HDPC rows column by column.
use Rattle.std.proofs.Common.{◌≡◌, ◌≢◌, ℕ, ◌+◌, ◌-◌, ◌%◌, ◌≤◌, ◌<◌, eqb, ◌||◌, List, length, get_or, set, sym, ap, ◌∙◌, refl, arith, inl, inr}
use Rattle.std.specs.Int.Bits.{bit_xor, xor_zero_r}
use Rattle.std.proofs.lemmas.Bool.{cases_eq, cases_lt, eq-eqb, ne_eqb}
use Rattle.std.proofs.lemmas.List.{get_or-set_same, get_or-set_other, get_or-map, length-set, length-map}
use Rattle.std.proofs.Math.Nat.{mod-eq_of_lt, mod-eq-sub-mod}
use Rattle.rq_parts.specs.DenseOctetMatrix.{OctetTable, row_at, with_row, entry_of}
use Rattle.rq_standard.specs.declared.row.TableRow.{TableRow}
use Rattle.rq_standard.specs.Rand.{rand}
use Rattle.rq_standard.specs.Octets.{octet_mul, octet_power}
use Rattle.rq_standard.specs.Rows.{row_multiple}
use Rattle.rq_standard.specs.TableRows.{intermediate_symbols}
use Rattle.rq_standard.specs.Equations.{one_if, before_hdpc, mt, hdpc_coefficient}
use Rattle.rq_standard.proofs.HdpcLaws.{hdpc-last, hdpc-own, hdpc-step}
use Rattle.rq_base.specs.HdpcPart.{HasShape, IsHdpcColumn, IsFilledFrom}
use Rattle.rq_base.proofs.OctetEntries.{sets}

-- a column before the last one of MT has ones in two rows
pub mt-is : (row : TableRow) (i j first second : ℕ) → j + 1 < before_hdpc row → first ≡ rand (j + 1) 6 row.hdpc_symbols → second ≡ (first + rand (j + 1) 7 (row.hdpc_symbols - 1) + 1) % row.hdpc_symbols → mt row i j ≡ one_if (eqb i first || eqb i second)
unfolding mt
mt-is row i j first second lt e f = rw (ne_eqb j (before_hdpc row - 1) (λ e. omega arith), f, e) refl

-- these are two rows
pub two_rows : (first step height : ℕ) → first < height → step + 1 < height → first ≢ (first + step + 1) % height
two_rows first step height below few same = elim (cases_lt (first + step + 1) height) [
  | inl within ↦ let is : (first + step + 1) % height ≡ first + step + 1 = mod-eq_of_lt within in omega arith
  | inr past ↦
      let rest : (first + step + 1) % height ≡ (first + step + 1 - height) % height = mod-eq-sub-mod past in
      let is : (first + step + 1 - height) % height ≡ first + step + 1 - height = mod-eq_of_lt (omega arith) in
      omega arith
]

-- ---- the octets of a column from those of the next one

abbrev flipped : List ℕ → ℕ → List ℕ
flipped xs i = set xs i (bit_xor (get_or xs i 0) 1)

flipped-at : (xs : List ℕ) (i j : ℕ) → i < length xs → get_or (flipped xs i) j 0 ≡ bit_xor (get_or xs j 0) (one_if (eqb j i))
flipped-at xs i j lt = elim (cases_eq j i) [
  | inl e ↦ rw (eq-eqb j i e, e) (get_or-set_same xs i _ 0 lt)
  | inr d ↦ rw (ne_eqb j i d) (get_or-set_other xs i j _ 0 d ∙ sym (xor_zero_r (get_or xs j 0)))
]

-- at two places, of which no octet is both
flipped_twice-at :
    (xs : List ℕ) (i i' j : ℕ) → i < length xs → i' < length xs → i ≢ i'
    → get_or (flipped (flipped xs i) i') j 0 ≡ bit_xor (get_or xs j 0) (one_if (eqb j i || eqb j i'))
flipped_twice-at xs i i' j lt lt' apart =
    flipped-at (flipped xs i) i' j (omega (arith, length-set {A = ℕ}))
    ∙ ap (λ x. bit_xor x (one_if (eqb j i'))) (flipped-at xs i j lt)
    ∙ elim (cases_eq j i) [
      | inl e ↦ rw (eq-eqb j i e, ne_eqb j i' (λ e'. apart (sym e ∙ e'))) (xor_zero_r (bit_xor (get_or xs j 0) 1))
      | inr d ↦ rw (ne_eqb j i d) (ap (λ x. bit_xor x (one_if (eqb j i'))) (xor_zero_r (get_or xs j 0)))
    ]

pub column_before :
    (row : TableRow) (column first second : ℕ) (next doubled : List ℕ) → IsHdpcColumn row (column + 1) next → column + 1 < before_hdpc row
    → doubled ≡ row_multiple 2 next → first < row.hdpc_symbols → second < row.hdpc_symbols → first ≢ second
    → ((i : ℕ) → mt row i column ≡ one_if (eqb i first || eqb i second)) → IsHdpcColumn row column (flipped (flipped doubled first) second)
column_before row column first second next doubled is lt e few few' apart ones =
    let same : length doubled ≡ length next = ap length e ∙ length-map next (octet_mul 2) in
    let long : row.hdpc_symbols ≤ length doubled = omega (arith, is.long) in
    record {
      long = omega (arith, length-set {A = ℕ});
      each = λ i below.
          flipped_twice-at doubled first second i (omega arith) (omega arith) apart
          ∙ ap (bit_xor (get_or doubled i 0)) (sym (ones i))
          ∙ ap (λ x. bit_xor x (mt row i column)) (ap (λ l. get_or l i 0) e ∙ get_or-map (octet_mul 2) next i 0 0 (omega (arith, is.long)) ∙ ap (octet_mul 2) (is.each i below))
          ∙ sym (hdpc-step row i column lt);
    }

-- ---- a column written row by row

-- the column down to row i, and the columns after it
pub record IsPartlyFilled (row : TableRow) (column height : ℕ) (table : OctetTable) : Type 0 where
  pub next : IsFilledFrom row (column + 1) table
  pub done : (i : ℕ) → i < height → entry_of table i column ≡ hdpc_coefficient row i column

pub filled_more :
    (row : TableRow) (old new : OctetTable) (column i value : ℕ) → IsPartlyFilled row column i old → i < row.hdpc_symbols → column + 1 < before_hdpc row
    → new ≡ with_row old i (set (row_at old i) column value) → value ≡ hdpc_coefficient row i column → IsPartlyFilled row column (i + 1) new
filled_more row old new column i value filled lt below e is =
    let wide : column < intermediate_symbols row = omega arith in
    let s = sets filled.next.shape i column value lt wide new e in
    record {
      next = record {
        shape = s.shape;
        columns = λ i' k hi hk hl. s.other_column i' k (λ same. omega arith) ∙ filled.next.columns i' k hi hk hl;
      };
      done = λ i' hi. elim (cases_eq i' i) [
        | inl same ↦ ap (λ n. entry_of new n column) same ∙ s.here ∙ is ∙ ap (λ n. hdpc_coefficient row n column) (sym same)
        | inr other ↦ s.other_row i' column other ∙ filled.done i' (omega arith)
      ];
    }

-- ---- the columns from K' + S - 1 on, row by row

pub record AreRowsFilled (row : TableRow) (height : ℕ) (table : OctetTable) : Type 0 where
  pub shape : HasShape row.hdpc_symbols (intermediate_symbols row) table
  pub done : (i k : ℕ) → i < height → before_hdpc row - 1 ≤ k → k < intermediate_symbols row → entry_of table i k ≡ hdpc_coefficient row i k
  pub rest : (i k : ℕ) → height ≤ i → entry_of table i k ≡ 0

-- a row is filled by two octets
pub rows_more :
    (row : TableRow) (old middle new : OctetTable) (i : ℕ) → AreRowsFilled row i old → i < row.hdpc_symbols → 0 < before_hdpc row
    → middle ≡ with_row old i (set (row_at old i) (before_hdpc row - 1) (octet_power i))
    → new ≡ with_row middle i (set (row_at middle i) (before_hdpc row + i) 1) → AreRowsFilled row (i + 1) new
rows_more row old middle new i filled lt some e f =
    let n = before_hdpc row in
    let wide : n - 1 < intermediate_symbols row = omega arith in
    let one = sets filled.shape i (n - 1) (octet_power i) lt wide middle e in
    let two = sets one.shape i (n + i) 1 lt (omega arith) new f in
    let here : (k : ℕ) → n - 1 ≤ k → entry_of new i k ≡ hdpc_coefficient row i k = λ k le.
    elim (cases_eq k (n - 1)) [
      | inl same ↦ two.other_column i k (λ other. omega arith) ∙ ap (entry_of middle i) same ∙ one.here ∙ sym (hdpc-last row i some) ∙ ap (hdpc_coefficient row i) (sym same)
      | inr after ↦ elim (cases_eq k (n + i)) [
        | inl same ↦ ap (entry_of new i) same ∙ two.here ∙ ap one_if (sym (eq-eqb k (n + i) same)) ∙ sym (hdpc-own row i k (omega arith))
        | inr other ↦
            two.other_column i k other ∙ one.other_column i k after ∙ filled.rest i k (omega arith) ∙ ap one_if (sym (ne_eqb k (n + i) other)) ∙ sym (hdpc-own row i k (omega arith))
      ]
    ] in
    record {
      shape = two.shape;
      done = λ i' k hi hk hl. elim (cases_eq i' i) [
        | inl same ↦ ap (λ m. entry_of new m k) same ∙ here k hk ∙ ap (λ m. hdpc_coefficient row m k) (sym same)
        | inr other ↦ two.other_row i' k other ∙ one.other_row i' k other ∙ filled.done i' k (omega arith) hk hl
      ];
      rest = λ i' k hi. two.other_row i' k (λ same. omega arith) ∙ one.other_row i' k (λ same. omega arith) ∙ filled.rest i' k (omega arith);
    }
