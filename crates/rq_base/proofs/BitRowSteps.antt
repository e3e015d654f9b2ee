-- The rows of bits as single bits are set.
use Rattle.std.proofs.Common.{◌≡◌, ◌≢◌, ℕ, ◌+◌, ◌*◌, ◌%◌, ◌<◌, ◌≤◌, Bool, true, false, cond, eqb, ◌&&◌, ◌||◌, refl, sym, ap, subst, ◌∙◌, arith, inl, inr}
use Rattle.std.proofs.Math.Bool.{and-true, and-false}
use Rattle.std.proofs.Math.Nat.{mod-add-mod}
use Rattle.std.proofs.lemmas.Bool.{cases_eq, cases_lt, eq-eqb, ne_eqb, lt-ltb, le-ltb}
use Rattle.rq_standard.specs.declared.row.TableRow.{TableRow}
use Rattle.rq_standard.specs.BitTable.{BitTable}
use Rattle.rq_standard.specs.BitTableSteps.{HasSameShape, SetsBit, bit_of}
use Rattle.rq_standard.specs.ConstraintMatrix.{HasRows}
use Rattle.rq_standard.specs.TableRows.{IsChecked, intermediate_symbols, b_of, pi_symbols}
use Rattle.rq_standard.specs.Equations.{one_if, ldpc_step, is_ldpc_row, ldpc_coefficient}
use Rattle.rq_base.specs.BinaryRows.{HasLdpc1Columns, HasLdpcRows}

-- ---- shapes

pub same_shape : {a b c : BitTable} → HasSameShape a b → HasSameShape b c → HasSameShape a c
same_shape s t = record { height = t.height ∙ s.height; width = t.width ∙ s.width; boundary = t.boundary ∙ s.boundary; indexed = t.indexed ∙ s.indexed }

rows_stay : {row : TableRow} {rows : ℕ} {old new : BitTable} → HasRows row rows old → HasSameShape old new → HasRows row rows new
rows_stay r s = record { height = s.height ∙ r.height; width = s.width ∙ r.width; boundary = s.boundary ∙ r.boundary; indexed = s.indexed ∙ r.indexed }

-- ---- three bits that are set to one

-- the bits of a matrix are those of another, but for a one in row i and column j
record SetsOne (old new : BitTable) (i j : ℕ) : Type 0 where
  shape : HasSameShape old new
  bits : (a k : ℕ) → a < old.height → k < old.width → new.bit a k ≡ cond (eqb a i && eqb k j) 1 (old.bit a k)

one_set : {old new : BitTable} {i j octet : ℕ} → SetsBit old i j octet new → octet ≡ 1 → SetsOne old new i j
one_set {old} {new} {i} {j} {octet} s one = record {
  shape = s.shape;
  bits = λ a k ha hk. elim (cases_eq a i) [
    | inl row ↦ elim (cases_eq k j) [
      | inl column ↦
          ap (λ n. new.bit n k) row ∙ ap (new.bit i) column ∙ s.here ∙ ap bit_of one ∙ sym (ap (λ b. cond (b && eqb k j) 1 (old.bit a k)) (eq-eqb a i row) ∙ ap (λ b. cond b 1 (old.bit a k)) (eq-eqb k j column))
      | inr other ↦
          ap (λ n. new.bit n k) row ∙ s.other_columns k hk other ∙ ap (λ n. old.bit n k) (sym row) ∙ sym (ap (λ b. cond (b && eqb k j) 1 (old.bit a k)) (eq-eqb a i row) ∙ ap (λ b. cond b 1 (old.bit a k)) (ne_eqb k j other))
    ]
    | inr other ↦ s.other_rows a k ha hk other ∙ sym (ap (λ b. cond (b && eqb k j) 1 (old.bit a k)) (ne_eqb a i other))
  ];
}

pub record SetsThree (old new : BitTable) (i i' i'' j j' j'' : ℕ) : Type 0 where
  pub shape : HasSameShape old new
  pub bits : (a k : ℕ) → a < old.height → k < old.width → new.bit a k ≡ cond (eqb a i'' && eqb k j'') 1 (cond (eqb a i' && eqb k j') 1 (cond (eqb a i && eqb k j) 1 (old.bit a k)))

pub three_set :
    {m m' m'' m''' : BitTable} {i i' i'' j j' j'' o o' o'' : ℕ} → SetsBit m i j o m' → SetsBit m' i' j' o' m'' → SetsBit m'' i'' j'' o'' m''' → o ≡ 1 → o' ≡ 1 → o'' ≡ 1 → SetsThree m m''' i i' i'' j j' j''
three_set {m} {m'} {m''} {m'''} {i} {i'} {i''} {j} {j'} {j''} a b d e e' e'' =
    let x = one_set a e in
    let y = one_set b e' in
    let z = one_set d e'' in
    let two = same_shape x.shape y.shape in
    record {
      shape = same_shape two z.shape;
      bits = λ r k hr hk.
          z.bits r k (omega (arith, two.height)) (omega (arith, two.width))
          ∙ ap (cond (eqb r i'' && eqb k j'') 1) (y.bits r k (omega (arith, x.shape.height)) (omega (arith, x.shape.width))
          ∙ ap (cond (eqb r i' && eqb k j') 1) (x.bits r k hr hk));
    }

-- in one row
three_in_row : (a b d : Bool) (x : ℕ) → x ≡ 0 → cond d 1 (cond b 1 (cond a 1 x)) ≡ one_if (a || b || d)
three_in_row true true true x e = refl
three_in_row true true false x e = refl
three_in_row true false true x e = refl
three_in_row true false false x e = refl
three_in_row false true true x e = refl
three_in_row false true false x e = refl
three_in_row false false true x e = refl
three_in_row false false false x e = e

-- in a column where all three are, and in another
three_here : (a b d : Bool) (x : ℕ) → x ≡ 0 → cond (d && true) 1 (cond (b && true) 1 (cond (a && true) 1 x)) ≡ one_if (a || b || d)
three_here a b d x e = rw (and-true d, and-true b, and-true a) (three_in_row a b d x e)

three_there : (a b d : Bool) (x : ℕ) → cond (d && false) 1 (cond (b && false) 1 (cond (a && false) 1 x)) ≡ x
three_there a b d x = rw (and-false d, and-false b, and-false a) refl

-- ---- the columns of the first B symbols

ldpc_1_more :
    {row : TableRow} {rows column : ℕ} {old new : BitTable} → IsChecked row → row.ldpc_symbols ≤ rows → column < b_of row → HasLdpc1Columns row rows column old
    → SetsThree old new (column % row.ldpc_symbols) ((column + ldpc_step row column) % row.ldpc_symbols) ((column + 2 * ldpc_step row column) % row.ldpc_symbols) column column column
    → HasLdpc1Columns row rows (column + 1) new
ldpc_1_more {row} {rows} {column} {old} {new} checked room lt before three =
    let s = row.ldpc_symbols in
    let some : 0 < s = omega (arith, checked.odd) in
    let x = column % s in
    let y = (column + ldpc_step row column) % s in
    let z = (column + 2 * ldpc_step row column) % s in
    let wide : column < intermediate_symbols row = omega (arith, checked.three_pi) in
    let bits : (i k : ℕ) (is : Bool) → i < rows → k < intermediate_symbols row → eqb k column ≡ is → new.bit i k ≡ cond (eqb i z && is) 1 (cond (eqb i y && is) 1 (cond (eqb i x && is) 1 (old.bit i k))) = λ i k is hi hk told.
    (three.bits i k (omega (arith, before.shape.height)) (omega (arith, before.shape.width)) ∙ ap (λ e. cond (eqb i z && e) 1 (cond (eqb i y && e) 1 (cond (eqb i x && e) 1 (old.bit i k)))) told) in
    let elsewhere : (i k : ℕ) → i < rows → k < intermediate_symbols row → k ≢ column → new.bit i k ≡ old.bit i k = λ i k hi hk other.
    (bits i k false hi hk (ne_eqb k column other) ∙ three_there (eqb i x) (eqb i y) (eqb i z) (old.bit i k)) in
    let under : (i k : ℕ) → s ≤ i → i < rows → k < intermediate_symbols row → new.bit i k ≡ old.bit i k = λ i k low hi hk.
    (let not_x : eqb i x ≡ false = ne_eqb i x (λ e. omega arith) in
    let not_y : eqb i y ≡ false = ne_eqb i y (λ e. omega arith) in
    let not_z : eqb i z ≡ false = ne_eqb i z (λ e. omega arith) in
    three.bits i k (omega (arith, before.shape.height)) (omega (arith, before.shape.width))
    ∙ ap (λ e. cond (e && eqb k column) 1 (cond (eqb i y && eqb k column) 1 (cond (eqb i x && eqb k column) 1 (old.bit i k)))) not_z
    ∙ ap (λ e. cond (e && eqb k column) 1 (cond (eqb i x && eqb k column) 1 (old.bit i k))) not_y
    ∙ ap (λ e. cond (e && eqb k column) 1 (old.bit i k)) not_x) in
    record {
      shape = rows_stay before.shape three.shape;
      done = λ i k hi hk. elim (cases_eq k column) [
        | inl here ↦
            bits i k true (omega arith) (omega arith) (eq-eqb k column here)
            ∙ three_here (eqb i x) (eqb i y) (eqb i z) (old.bit i k) (before.right i k hi (omega arith) (omega arith))
            ∙ ap (λ n. one_if (is_ldpc_row row i n)) (sym here)
        | inr other ↦ elsewhere i k (omega arith) (omega arith) other ∙ before.done i k hi (omega arith)
      ];
      right = λ i k hi low hk. elsewhere i k (omega arith) hk (λ e. omega arith) ∙ before.right i k hi (omega arith) hk;
      below = λ i k low hi hk. under i k low (omega (arith, before.shape.height, three.shape.height)) hk ∙ before.below i k low (omega (arith, three.shape.height)) hk;
    }

-- one column more, with ones in three rows: `second` is a step behind the first one, and `third` a step behind `second`
pub ldpc_1_stepped :
    {row : TableRow} {rows column second third : ℕ} {old new : BitTable} → IsChecked row → row.ldpc_symbols ≤ rows → column < b_of row → HasLdpc1Columns row rows column old
    → second ≡ (column % row.ldpc_symbols + ldpc_step row column) % row.ldpc_symbols → third ≡ (second + ldpc_step row column) % row.ldpc_symbols
    → SetsThree old new (column % row.ldpc_symbols) second third column column column → HasLdpc1Columns row rows (column + 1) new
ldpc_1_stepped {row} {rows} {column} {second} {third} {old} {new} checked room lt before is_second is_third three =
    let s = row.ldpc_symbols in
    let step = ldpc_step row column in
    let one_on : second ≡ (column + step) % s = is_second ∙ mod-add-mod column s step in
    let two_on : third ≡ (column + 2 * step) % s =
    is_third ∙ ap (λ n. (n + step) % s) one_on ∙ mod-add-mod (column + step) s step ∙ ap (λ n. n % s) {x = column + step + step} {y = column + 2 * step} (omega arith) in
    ldpc_1_more checked room lt before
    (subst (λ n. SetsThree old new (column % s) n ((column + 2 * step) % s) column column column) one_on
    (subst (λ n. SetsThree old new (column % s) second n column column column) two_on three))

-- ---- the LDPC rows

or_false : (b : Bool) → one_if (b || false || false) ≡ one_if b
or_false true = refl
or_false false = refl

coefficient-left : (row : TableRow) (i k : ℕ) → k < b_of row → ldpc_coefficient row i k ≡ one_if (is_ldpc_row row i k)
unfolding ldpc_coefficient
coefficient-left row i k lt = rw (lt-ltb k (b_of row) lt) refl

-- the last columns of an LDPC row
coefficient-right :
    (row : TableRow) → IsChecked row → (i : ℕ) → i < row.ldpc_symbols → (k : ℕ) → b_of row ≤ k
    → one_if (eqb k (b_of row + i) || eqb k (row.lt_symbols + i % pi_symbols row) || eqb k (row.lt_symbols + (i + 1) % pi_symbols row)) ≡ ldpc_coefficient row i k
unfolding ldpc_coefficient
coefficient-right row checked i ldpc k low =
    let w = row.lt_symbols in
    rw (le-ltb k (b_of row) low) (elim (cases_lt k w) [
      | inl lt ↦ rw (lt-ltb k w lt, ne_eqb k (w + i % pi_symbols row) (λ e. omega arith), ne_eqb k (w + (i + 1) % pi_symbols row) (λ e. omega arith)) (or_false (eqb k (b_of row + i)))
      | inr le ↦ rw (le-ltb k w le, ne_eqb k (b_of row + i) (λ e. omega (arith, checked.some_b))) refl
    ])

pub ldpc_more :
    {row : TableRow} {rows i : ℕ} {old new : BitTable} → IsChecked row → row.ldpc_symbols ≤ rows → i < row.ldpc_symbols → HasLdpcRows row rows i old
    → SetsThree old new i i i (b_of row + i) (row.lt_symbols + i % pi_symbols row) (row.lt_symbols + (i + 1) % pi_symbols row)
    → HasLdpcRows row rows (i + 1) new
ldpc_more {row} {rows} {i} {old} {new} checked room lt before three =
    let own = b_of row + i in
    let first = row.lt_symbols + i % pi_symbols row in
    let second = row.lt_symbols + (i + 1) % pi_symbols row in
    let bits : (a k : ℕ) (is : Bool) → a < rows → k < intermediate_symbols row → eqb a i ≡ is → new.bit a k ≡ cond (is && eqb k second) 1 (cond (is && eqb k first) 1 (cond (is && eqb k own) 1 (old.bit a k))) = λ a k is ha hk told.
    (three.bits a k (omega (arith, before.shape.height)) (omega (arith, before.shape.width)) ∙ ap (λ e. cond (e && eqb k second) 1 (cond (e && eqb k first) 1 (cond (e && eqb k own) 1 (old.bit a k)))) told) in
    let there : (a k : ℕ) → a < rows → k < intermediate_symbols row → a ≢ i → new.bit a k ≡ old.bit a k = λ a k ha hk other. bits a k false ha hk (ne_eqb a i other) in
    let here : (k : ℕ) → k < intermediate_symbols row → new.bit i k ≡ cond (eqb k second) 1 (cond (eqb k first) 1 (cond (eqb k own) 1 (old.bit i k))) = λ k hk. bits i k true (omega arith) hk (eq-eqb i i refl) in
    let left_of : (k : ℕ) → k < b_of row → cond (eqb k second) 1 (cond (eqb k first) 1 (cond (eqb k own) 1 (old.bit i k))) ≡ old.bit i k = λ k hk.
    rw (ne_eqb k second (λ e. omega arith), ne_eqb k first (λ e. omega arith), ne_eqb k own (λ e. omega arith)) refl in
    record {
      shape = rows_stay before.shape three.shape;
      whole = λ a k ha hk. elim (cases_eq a i) [
        | inl same ↦
            ap (λ n. new.bit n k) same ∙ here k hk
            ∙ elim (cases_lt k (b_of row)) [
              | inl low ↦ left_of k low ∙ before.left i k (omega arith) lt low ∙ sym (coefficient-left row i k low)
              | inr high ↦ three_in_row (eqb k own) (eqb k first) (eqb k second) (old.bit i k) (before.right i k (omega arith) lt high hk) ∙ coefficient-right row checked i lt k high
            ]
            ∙ ap (λ n. ldpc_coefficient row n k) (sym same)
        | inr other ↦ there a k (omega arith) hk other ∙ before.whole a k (omega arith) hk
      ];
      left = λ a k low ha hk. there a k (omega arith) (omega (arith, checked.three_pi)) (λ e. omega arith) ∙ before.left a k (omega arith) ha hk;
      right = λ a k low ha from hk. there a k (omega arith) hk (λ e. omega arith) ∙ before.right a k (omega arith) ha from hk;
      below = λ a k low ha hk. there a k (omega (arith, before.shape.height, three.shape.height)) hk (λ e. omega arith) ∙ before.below a k low (omega (arith, three.shape.height)) hk;
    }
