-- Where the packets of an object don't determine it, another object makes them too.
use Rattle.std.proofs.Common.{◌≡◌, ◌≢◌, ℕ, zero, suc, ◌+◌, ◌-◌, ◌<◌, ◌≤◌, ◌⊎◌, cond, Bool, true, List, length, get_or, refl, sym, ap, ◌∙◌, arith, inl, inr}
use Rattle.std.proofs.lemmas.Bool.{cases_lt, cases_eq, lt-ltb, le-ltb, ltb-true}
use Rattle.std.proofs.lemmas.List.{ext_get_or, get_or_past, length-replicate}
use Rattle.std.proofs.lemmas.List.FromFn.{length-range_with_len, get_or-range_with_len}
use Rattle.std.proofs.lemmas.List.Elements.{All-from_get_or}
use Rattle.rq_algebra.specs.Systems.{dot, at, IsColumn, rows_of}
use Rattle.rq_algebra.specs.Symbols.{add_symbols, IsSymbol, IsSymbolColumn, slice_at}
use Rattle.rq_algebra.proofs.Placewise.{at-zeros, add_symbols_at}
use Rattle.rq_algebra.proofs.Stacks.{stacked_above, stacked_below}
use Rattle.rq_algebra.proofs.Sums.{mul_zero, dot_same, dot_zero, dot_add_column, dot_below_size}
use Rattle.rq_algebra.proofs.SymbolSums.{add_zeros, same_symbol, add_is_symbol}
use Rattle.rq_standard.specs.declared.row.TableRow.{TableRow}
use Rattle.rq_standard.specs.OctetField.{octets}
use Rattle.rq_standard.specs.TableRows.{IsChecked, intermediate_symbols}
use Rattle.rq_standard.specs.Equations.{precode_equations, symbol_coefficient, equations, equation_count, equation_values, zero_symbol, tuple_sum, internal_id, extended_ids}
use Rattle.rq_standard.specs.Headline.{IsNonsingular, IsIntermediateColumn, IsEncodingSymbol, SolvesZeros, known_ids}
use Rattle.rq_standard.specs.Differences.{plain_sum}
use Rattle.rq_standard.proofs.Columns.{sum_symbol, sum_at, only_column}
use Rattle.rq_standard.proofs.FirstOctets.{first_octet_symbol}
use Rattle.rq_standard.proofs.KnownIds.{known_source, known_padding, known_repair}

-- ---- symbols are added

pub length-zero : (size : ℕ) → length (zero_symbol size) ≡ size
length-zero size = length-replicate {A = ℕ} size 0

pub add_zero_symbols : (size : ℕ) → add_symbols octets (zero_symbol size) (zero_symbol size) ≡ zero_symbol size
add_zero_symbols size = add_zeros octets size (zero_symbol size) (length-zero size)

dot-added : (row : TableRow) (r : ℕ → ℕ) (x y : ℕ → List ℕ) (p : ℕ) → dot octets (intermediate_symbols row) r (slice_at p (λ k. add_symbols octets (x k) (y k))) ≡ octets.add (dot octets (intermediate_symbols row) r (slice_at p x)) (dot octets (intermediate_symbols row) r (slice_at p y))
dot-added row r x y p =
    dot_same octets (intermediate_symbols row) r r _ _ (λ k l. refl) (λ k l. add_symbols_at octets p (x k) (y k))
    ∙ dot_add_column octets (intermediate_symbols row) r (slice_at p x) (slice_at p y)

module _ (row : TableRow) (size : ℕ) (checked : IsChecked row) where
  -- a sum of sums
  tuple_sum-add : (x y : ℕ → List ℕ) (e : ℕ) → IsSymbolColumn octets size (intermediate_symbols row) x → IsSymbolColumn octets size (intermediate_symbols row) y
      → tuple_sum row (λ k. add_symbols octets (x k) (y k)) e ≡ add_symbols octets (tuple_sum row x e) (tuple_sum row y e)
  tuple_sum-add x y e are_x are_y =
      let n = intermediate_symbols row in
      let both : IsSymbolColumn octets size n (λ k. add_symbols octets (x k) (y k)) = λ k l. add_is_symbol octets size (x k) (y k) (are_x k l) (are_y k l) in
      same_symbol octets size (tuple_sum row (λ k. add_symbols octets (x k) (y k)) e) (add_symbols octets (tuple_sum row x e) (tuple_sum row y e))
      (sum_symbol row size e (λ k. add_symbols octets (x k) (y k)) checked both) (add_is_symbol octets size (tuple_sum row x e) (tuple_sum row y e) (sum_symbol row size e x checked are_x) (sum_symbol row size e y checked are_y))
      (λ p. sum_at row size e (λ k. add_symbols octets (x k) (y k)) checked both p
      ∙ dot-added row (symbol_coefficient row e) x y p
      ∙ cc (sum_at row size e x checked are_x p, sum_at row size e y checked are_y p, add_symbols_at octets p (tuple_sum row x e) (tuple_sum row y e)))

  module _ (xs ys zs : List (List ℕ)) (added : (i : ℕ) → get_or zs i (zero_symbol size) ≡ add_symbols octets (get_or xs i (zero_symbol size)) (get_or ys i (zero_symbol size))) where
    value-add : (i : ℕ) → equation_values row size zs i ≡ add_symbols octets (equation_values row size xs i) (equation_values row size ys i)
    value-add i =
        let f : ℕ = row.ldpc_symbols + row.hdpc_symbols in
        elim (cases_lt i f) [
          | inl lt ↦ rw (stacked_above f (λ _. zero_symbol size) (λ j. get_or zs j (zero_symbol size)) i lt, stacked_above f (λ _. zero_symbol size) (λ j. get_or xs j (zero_symbol size)) i lt, stacked_above f (λ _. zero_symbol size) (λ j. get_or ys j (zero_symbol size)) i lt) (sym (add_zero_symbols size))
          | inr past ↦
              let j : ℕ = i - f in
              let e : f + j ≡ i = omega arith in
              rw (← e) (rw (stacked_below f (λ _. zero_symbol size) (λ j. get_or zs j (zero_symbol size)) j, stacked_below f (λ _. zero_symbol size) (λ j. get_or xs j (zero_symbol size)) j, stacked_below f (λ _. zero_symbol size) (λ j. get_or ys j (zero_symbol size)) j) (added j))
        ]

    intermediate-add : (x y : ℕ → List ℕ) → IsIntermediateColumn row size xs x → IsIntermediateColumn row size ys y → IsIntermediateColumn row size zs (λ k. add_symbols octets (x k) (y k))
    intermediate-add x y is_x is_y =
        record {
          symbols = λ k l. add_is_symbol octets size (x k) (y k) (is_x.symbols k l) (is_y.symbols k l);
          solves = record {
            at_place = λ p. record {
              at = λ i l.
                  dot-added row (equations row (extended_ids row) i) x y p
                  ∙ cc ((is_x.solves.at_place p).at i l, (is_y.solves.at_place p).at i l, add_symbols_at octets p (equation_values row size xs i) (equation_values row size ys i))
                  ∙ ap (λ s. at s p) (sym (value-add i));
            };
          };
        }

    -- encoding symbols of one id, added, are that of the symbols added
    pub encoding-add : (e : ℕ) (p q : List ℕ) → IsNonsingular row → length xs ≡ length zs → length ys ≡ length zs → IsEncodingSymbol row size xs e p → IsEncodingSymbol row size ys e q → IsEncodingSymbol row size zs e (add_symbols octets p q)
    encoding-add e p q nonsingular long_x long_y sx sy = record {
      column = λ k. add_symbols octets (sx.column k) (sy.column k);
      is_only = only_column row size zs (λ k. add_symbols octets (sx.column k) (sy.column k)) nonsingular (intermediate-add sx.column sy.column sx.is_only.is sy.is_only.is);
      is_sum =
          let id : ℕ → ℕ = λ k. internal_id row k e in
          ap (λ s. add_symbols octets s q) (sx.is_sum ∙ ap (λ k. tuple_sum row sx.column (id k)) long_x) ∙ ap (add_symbols octets (tuple_sum row sx.column (id (length zs)))) (sy.is_sum ∙ ap (λ k. tuple_sum row sy.column (id k)) long_y)
          ∙ sym (tuple_sum-add sx.column sy.column (id (length zs)) sx.is_only.is.symbols sy.is_only.is.symbols);
    }

-- ---- a plain column as one of symbols

abbrev pub wide : ℕ → (ℕ → ℕ) → ℕ → List ℕ
wide size x k = first_octet_symbol size (x k)

module _ (size : ℕ) (pos : 0 < size) where
  octet_symbol : (v : ℕ) → v < 256 → IsSymbol octets size (first_octet_symbol size v)
  octet_symbol v small = record {
    size_is = omega (arith, length-zero (size - 1));
    elements = All-from_get_or (λ n. n < 256) (first_octet_symbol size v) 0 (λ p l. by_place p);
  } where
    by_place : (p : ℕ) → get_or (first_octet_symbol size v) p 0 < 256
    by_place zero = small
    by_place (suc p) = omega (arith, at-zeros (size - 1) p)

  pub zero_octet : first_octet_symbol size 0 ≡ zero_symbol size
  zero_octet = ext_get_or 0 (first_octet_symbol size 0) (zero_symbol size) (omega (arith, length-zero (size - 1), length-zero size)) (λ p l. by_place p) where
    by_place : (p : ℕ) → get_or (first_octet_symbol size 0) p 0 ≡ get_or (zero_symbol size) p 0
    by_place zero = sym (at-zeros size 0)
    by_place (suc p) = at-zeros (size - 1) p ∙ sym (at-zeros size (suc p))

  module _ (row : TableRow) (checked : IsChecked row) (x : ℕ → ℕ) (is : IsColumn octets (intermediate_symbols row) x) where
    pub wide_symbols : IsSymbolColumn octets size (intermediate_symbols row) (wide size x)
    wide_symbols k l = octet_symbol (x k) (is k l)

    -- past the first octet a row has zeros
    dot_later : (r : ℕ → ℕ) (p : ℕ) → dot octets (intermediate_symbols row) r (slice_at (suc p) (wide size x)) ≡ 0
    dot_later r p = dot_zero octets (intermediate_symbols row) r (slice_at (suc p) (wide size x)) (λ k l. ap (octets.mul (r k)) (at-zeros (size - 1) p) ∙ mul_zero octets (r k))

    pub wide_sum : (e : ℕ) → tuple_sum row (wide size x) e ≡ first_octet_symbol size (plain_sum row x e)
    wide_sum e =
        same_symbol octets size (tuple_sum row (wide size x) e) (first_octet_symbol size (plain_sum row x e)) (sum_symbol row size e (wide size x) checked wide_symbols)
        (octet_symbol (plain_sum row x e) (dot_below_size octets (intermediate_symbols row) (symbol_coefficient row e) x))
        (λ p. sum_at row size e (wide size x) checked wide_symbols p ∙ by_place p) where
          by_place : (p : ℕ) → dot octets (intermediate_symbols row) (symbol_coefficient row e) (slice_at p (wide size x)) ≡ at (first_octet_symbol size (plain_sum row x e)) p
          by_place zero = refl
          by_place (suc p) = dot_later (symbol_coefficient row e) p ∙ sym (at-zeros (size - 1) p)

    module _ (k : ℕ) (has : ℕ → Bool) (source : List (List ℕ)) (long : length source ≡ k) (solves : SolvesZeros row (known_ids row k has) x)
        (reads : (e : ℕ) → e < k → get_or source e (zero_symbol size) ≡ first_octet_symbol size (plain_sum row x e)) where
      -- the value of an equation, at the first octet and later
      value_at : (i : ℕ) → i < equation_count row (extended_ids row) → equation_values row size source i ≡ first_octet_symbol size (dot octets (intermediate_symbols row) (equations row (extended_ids row) i) x)
      value_at i below =
          let f : ℕ = row.ldpc_symbols + row.hdpc_symbols in
          let n = intermediate_symbols row in
          elim (cases_lt i f) [
            | inl lt ↦ stacked_above f (λ _. zero_symbol size) (λ j. get_or source j (zero_symbol size)) i lt ∙ sym zero_octet
                ∙ ap (first_octet_symbol size) (sym (ap (λ (r : ℕ → ℕ). dot octets n r x) (stacked_above f (precode_equations row) (rows_of (symbol_coefficient row) (extended_ids row)) i lt) ∙ solves.precode.at i lt))
            | inr past ↦
                let j : ℕ = i - f in
                let e : f + j ≡ i = omega arith in
                let in_ids : j < row.extended_symbols = omega (arith, length-range_with_len 0 row.extended_symbols) in
                let id : at (extended_ids row) j ≡ j = get_or-range_with_len 0 row.extended_symbols j 0 in_ids ∙ omega arith in
                rw (← e) (stacked_below f (λ _. zero_symbol size) (λ j. get_or source j (zero_symbol size)) j ∙ symbol_value j in_ids
                ∙ ap (first_octet_symbol size) (sym (ap (λ (r : ℕ → ℕ). dot octets n r x) (stacked_below f (precode_equations row) (rows_of (symbol_coefficient row) (extended_ids row)) j ∙ ap (symbol_coefficient row) id))))
          ] where
            symbol_value : (j : ℕ) → j < row.extended_symbols → get_or source j (zero_symbol size) ≡ first_octet_symbol size (plain_sum row x j)
            symbol_value j in_ids = elim (cases_lt j k) [
              | inl lt ↦ reads j lt
              | inr past ↦ get_or_past source j (zero_symbol size) (omega (arith, long)) ∙ sym zero_octet ∙ ap (first_octet_symbol size) (sym (solves.each j (known_padding row k j has past in_ids)))
            ]

      wide_column : IsIntermediateColumn row size source (wide size x)
      wide_column = record {
        symbols = wide_symbols;
        solves = record { at_place = λ p. record { at = λ i l. by_place p (equations row (extended_ids row) i) ∙ ap (λ s. at s p) (sym (value_at i l)) } };
      } where
        by_place : (p : ℕ) (r : ℕ → ℕ) → dot octets (intermediate_symbols row) r (slice_at p (wide size x)) ≡ at (first_octet_symbol size (dot octets (intermediate_symbols row) r x)) p
        by_place zero r = refl
        by_place (suc p) r = dot_later r p ∙ sym (at-zeros (size - 1) p)

      -- symbols that have such first octets are zero for all ids that are known
      pub known_are_zeros : IsNonsingular row → k ≤ row.extended_symbols → (e : ℕ) → has e ≡ true → IsEncodingSymbol row size source e (zero_symbol size)
      known_are_zeros nonsingular fits e came = record {
        column = wide size x;
        is_only = only_column row size source (wide size x) nonsingular wide_column;
        is_sum = sym (wide_sum (internal_id row (length source) e) ∙ ap (first_octet_symbol size) (ap (λ n. plain_sum row x (internal_id row n e)) long ∙ solves.each (internal_id row k e) known) ∙ zero_octet);
      } where
        known : known_ids row k has (internal_id row k e) ≡ true
        known = elim (cases_lt e k) [
          | inl lt ↦ ap (known_ids row k has) (ap (λ b. cond b e (e + row.extended_symbols - k)) (lt-ltb e k lt)) ∙ known_source row k e has lt ∙ came
          | inr past ↦ ap (known_ids row k has) (ap (λ b. cond b e (e + row.extended_symbols - k)) (le-ltb e k past))
              ∙ known_repair row k (e + row.extended_symbols - k) has (omega arith) (omega arith) ∙ ap has (omega arith) ∙ came
        ]

-- ---- a column of zeros

pub zero_dot : (row : TableRow) (r : ℕ → ℕ) → dot octets (intermediate_symbols row) r (λ _. 0) ≡ 0
zero_dot row r = dot_zero octets (intermediate_symbols row) r (λ _. 0) (λ k l. mul_zero octets (r k))

pub zeros_solve : (row : TableRow) (known : ℕ → Bool) → SolvesZeros row known (λ _. 0)
zeros_solve row known = record {
  precode = record { at = λ i l. zero_dot row (precode_equations row i) };
  each = λ e _. zero_dot row (symbol_coefficient row e);
}

pub zeros_are_octets : (row : TableRow) → IsColumn octets (intermediate_symbols row) (λ _. 0)
zeros_are_octets row k l = omega arith

-- symbols that are zero are zero for all ids
pub zeros_encode : (row : TableRow) (size k : ℕ) (source : List (List ℕ)) (e : ℕ) → 0 < size → IsChecked row → IsNonsingular row → k ≤ row.extended_symbols → length source ≡ k → ((i : ℕ) → i < k → get_or source i (zero_symbol size) ≡ zero_symbol size) → IsEncodingSymbol row size source e (zero_symbol size)
zeros_encode row size k source e pos checked nonsingular fits long zeros =
    known_are_zeros size pos row checked (λ _. 0) (zeros_are_octets row) k (λ _. true) source long (zeros_solve row (known_ids row k (λ _. true)))
    (λ i below. zeros i below ∙ sym (zero_octet size pos) ∙ ap (first_octet_symbol size) (sym (zero_dot row (symbol_coefficient row i)))) nonsingular fits e refl

-- ---- over a row that isn't singular, a column that isn't zero changes a source symbol

module _ (row : TableRow) (k : ℕ) (x : ℕ → ℕ) (has : ℕ → Bool) (nonsingular : IsNonsingular row) (is : IsColumn octets (intermediate_symbols row) x) (solves : SolvesZeros row (known_ids row k has) x) where
  pub no_change_is_zero : ((e : ℕ) → e < k → plain_sum row x e ≡ 0) → (j : ℕ) → j < intermediate_symbols row → x j ≡ 0
  no_change_is_zero none = nonsingular x is (record {
    precode = solves.precode;
    each = λ e l. elim (cases_lt e k) [
      | inl source ↦ none e source
      | inr padding ↦ solves.each e (known_padding row k e has padding (ltb-true e row.extended_symbols l))
    ];
  })

  pub some_change : (((j : ℕ) → j < intermediate_symbols row → x j ≡ 0) → ⊥) → (e : ℕ) × (e < k) × (plain_sum row x e ≢ 0)
  some_change nonzero = elim (search k) [ inr found ↦ found | inl none ↦ absurd (nonzero (no_change_is_zero none)) ] where
    search : (n : ℕ) → ((e : ℕ) → e < n → plain_sum row x e ≡ 0) ⊎ ((e : ℕ) × (e < n) × (plain_sum row x e ≢ 0))
    search zero = inl (λ e l. absurd (omega arith))
    search (suc n) = elim (cases_eq (plain_sum row x n) 0) [
      | inr d ↦ inr (n, omega arith, d)
      | inl z ↦ elim (search n) [
        | inr q ↦ inr (q.0, omega (arith, q.1), q.2)
        | inl all ↦ inl (λ e l. elim (cases_lt e n) [ inl lt ↦ all e lt | inr past ↦ let same : n ≡ e = omega arith in ap (plain_sum row x) (sym same) ∙ z ])
      ]
    ]
