-- What becomes of a sparse matrix's bits.
use Rattle.std.proofs.Common.{◌≡◌, ◌≢◌, ℕ, ◌+◌, ◌-◌, ◌<◌, ◌≤◌, List, [], length, set, get_or, cond, nat_lt, Bool, refl, sym, ap, subst, ◌∙◌, arith, inl, inr, get_or-set_same, get_or-set_other}
use Rattle.std.specs.Int.Bits.{bit_xor}
use Rattle.std.proofs.lemmas.Bool.{cases_lt, cases_eq}
use Rattle.rq_bytes.specs.BinaryOctetVec.{packed_bit}
use Rattle.rq_standard.specs.BitTable.{BitTable}
use Rattle.rq_standard.specs.BitTableSteps.{SwapsPlaces, SetsBit, SetsBoundary, AddsRowFrom, ArePlacesOfOnes, AreBitsOf, bit_of}
use Rattle.rq_parts.specs.SparseBinaryVec.{listed_bit, SetsListed, IsListedSum}
use Rattle.rq_matrix.specs.DenseTails.{Tail, tail_bit, SetsTailBit, AddsTailRow, PushesColumn, SetsTailOnes}
use Rattle.rq_matrix.specs.Orders.{Order, IsPlacedOrder}
use Rattle.rq_matrix.specs.SparseBinaryMatrix.{sparse_bit}
use Rattle.rq_matrix.specs.SparseTables.{bit-before, bit-from}
use Rattle.rq_matrix.proofs.OrderLaws.{order_apart, ExchangesPlaces}

-- what callers see of a sparse matrix
abbrev pub table : ℕ → ℕ → ℕ → Bool → List (List ℕ) → Order → Order → Tail → BitTable
table height width boundary indexed rows row_order columns tail = record { height = height; width = width; boundary = boundary; indexed = indexed; bit = sparse_bit width boundary rows row_order columns tail }

-- ---- columns exchanged

pub exchanged_columns : (width boundary : ℕ) (rows : List (List ℕ)) (row_order old new : Order) (tail : Tail) (i j a : ℕ) → i < boundary → j < boundary → ExchangesPlaces i j old new
    → SwapsPlaces width (sparse_bit width boundary rows row_order old tail a) i j (sparse_bit width boundary rows row_order new tail a)
exchanged_columns width boundary rows row_order old new tail i j a in_i in_j ex =
    let stored = get_or rows (get_or row_order.order a 0) [] in
    let before_old = bit-before width boundary rows row_order old tail a in
    let before_new = bit-before width boundary rows row_order new tail a in
    record {
      first = before_new i in_i ∙ ap (listed_bit stored) ex.first ∙ sym (before_old j in_j);
      second = before_new j in_j ∙ ap (listed_bit stored) ex.second ∙ sym (before_old i in_i);
      elsewhere = λ k _ not_i not_j.
          elim (cases_lt k boundary) [
            | inl before ↦ before_new k before ∙ ap (listed_bit stored) (ex.elsewhere k not_i not_j) ∙ sym (before_old k before)
            | inr from ↦ bit-from width boundary rows row_order new tail a k from ∙ sym (bit-from width boundary rows row_order old tail a k from)
          ];
    }

-- ---- a bit set anew

module _ (width boundary : ℕ) (rows : List (List ℕ)) (row_order columns : Order) (tail : Tail) (i j : ℕ) (is_rows : IsPlacedOrder row_order) (in_row : i < length row_order.order) where
  -- a stored row of another place
  other_row : (a : ℕ) → a < length row_order.order → a ≢ i → get_or row_order.order a 0 ≢ get_or row_order.order i 0
  other_row a in_a other = order_apart row_order a i is_rows in_a in_row other

  module _ (row : List ℕ) (octet : ℕ) (is_columns : IsPlacedOrder columns) (in_rows : get_or row_order.order i 0 < length rows) (before : j < boundary) (few : boundary ≤ length columns.order) (sets : SetsListed (get_or rows (get_or row_order.order i 0) []) (get_or columns.order j 0) octet row) where
    new_rows : List (List ℕ)
    new_rows = set rows (get_or row_order.order i 0) row

    abbrev stored_now : get_or (set rows (get_or row_order.order i 0) row) (get_or row_order.order i 0) [] ≡ row
    stored_now = get_or-set_same rows (get_or row_order.order i 0) row [] in_rows

    pub listed_here : sparse_bit width boundary (set rows (get_or row_order.order i 0) row) row_order columns tail i j ≡ bit_of octet
    listed_here =
        bit-before width boundary (set rows (get_or row_order.order i 0) row) row_order columns tail i j before ∙ ap (λ (l : List ℕ). listed_bit l (get_or columns.order j 0)) stored_now ∙ sets.here

    pub listed_columns : (k : ℕ) → k ≢ j → sparse_bit width boundary (set rows (get_or row_order.order i 0) row) row_order columns tail i k ≡ sparse_bit width boundary rows row_order columns tail i k
    listed_columns k other =
        elim (cases_lt k boundary) [
          | inl low ↦
              bit-before width boundary (set rows (get_or row_order.order i 0) row) row_order columns tail i k low
              ∙ ap (λ (l : List ℕ). listed_bit l (get_or columns.order k 0)) stored_now
              ∙ sets.elsewhere (get_or columns.order k 0) (order_apart columns k j is_columns (omega arith) (omega arith) other)
              ∙ sym (bit-before width boundary rows row_order columns tail i k low)
          | inr high ↦
              bit-from width boundary (set rows (get_or row_order.order i 0) row) row_order columns tail i k high
              ∙ sym (bit-from width boundary rows row_order columns tail i k high)
        ]

    pub listed_rows : (a k : ℕ) → a < length row_order.order → a ≢ i → sparse_bit width boundary (set rows (get_or row_order.order i 0) row) row_order columns tail a k ≡ sparse_bit width boundary rows row_order columns tail a k
    listed_rows a k in_a other =
        ap (λ (l : List ℕ). cond (nat_lt k boundary) (listed_bit l (get_or columns.order k 0)) (tail_bit tail (get_or row_order.order a 0) (width - 1 - k)))
        (get_or-set_other rows (get_or row_order.order i 0) (get_or row_order.order a 0) row [] (other_row a in_a other))

  module _ (new : Tail) (bit : ℕ) (from : boundary ≤ j) (below : j < width) (sets : SetsTailBit tail (get_or row_order.order i 0) (width - 1 - j) bit new) where
    pub tail_here : sparse_bit width boundary rows row_order columns new i j ≡ bit
    tail_here = bit-from width boundary rows row_order columns new i j from ∙ sets.here

    pub tail_columns : (k : ℕ) → k < width → k ≢ j → sparse_bit width boundary rows row_order columns new i k ≡ sparse_bit width boundary rows row_order columns tail i k
    tail_columns k in_k other =
        elim (cases_lt k boundary) [
          | inl low ↦ bit-before width boundary rows row_order columns new i k low ∙ sym (bit-before width boundary rows row_order columns tail i k low)
          | inr high ↦
              bit-from width boundary rows row_order columns new i k high
              ∙ sets.other_columns (get_or row_order.order i 0) (width - 1 - k) (λ same. other (omega arith))
              ∙ sym (bit-from width boundary rows row_order columns tail i k high)
        ]

    pub tail_rows : (a k : ℕ) → a < length row_order.order → a ≢ i → sparse_bit width boundary rows row_order columns new a k ≡ sparse_bit width boundary rows row_order columns tail a k
    tail_rows a k in_a other =
        ap (λ (b : ℕ). cond (nat_lt k boundary) (listed_bit (get_or rows (get_or row_order.order a 0) []) (get_or columns.order k 0)) b)
        (sets.other_rows (get_or row_order.order a 0) (width - 1 - k) (other_row a in_a other))

pub sets_listed : (height width boundary : ℕ) (indexed : Bool) (rows : List (List ℕ)) (row_order columns : Order) (tail : Tail) (i j r column octet : ℕ) (row : List ℕ) → IsPlacedOrder row_order → IsPlacedOrder columns → height ≤ length row_order.order → i < height
    → length row_order.order ≡ length rows → j < boundary → boundary ≤ length columns.order → r ≡ get_or row_order.order i 0 → column ≡ get_or columns.order j 0 → SetsListed (get_or rows r []) column octet row
    → SetsBit (table height width boundary indexed rows row_order columns tail) i j octet (table height width boundary indexed (set rows r row) row_order columns tail)
sets_listed height width boundary indexed rows row_order columns tail i j r column octet row is_rows is_columns tall in_i stored before few at_r at_column sets =
    let in_row : i < length row_order.order = omega arith in
    let in_rows : get_or row_order.order i 0 < length rows = omega (arith, (is_rows.ordered i in_row).0) in
    let moved : SetsListed (get_or rows (get_or row_order.order i 0) []) (get_or columns.order j 0) octet row = subst (λ n. SetsListed (get_or rows (get_or row_order.order i 0) []) n octet row) at_column (subst (λ n. SetsListed (get_or rows n []) column octet row) at_r sets) in
    subst (λ n. SetsBit (table height width boundary indexed rows row_order columns tail) i j octet (table height width boundary indexed (set rows n row) row_order columns tail)) (sym at_r) (record {
      shape = record { height = refl; width = refl; boundary = refl; indexed = refl };
      here = listed_here width boundary rows row_order columns tail i j is_rows in_row row octet is_columns in_rows before few moved;
      other_columns = λ k _ other. listed_columns width boundary rows row_order columns tail i j is_rows in_row row octet is_columns in_rows before few moved k other;
      other_rows = λ a k in_a _ other. listed_rows width boundary rows row_order columns tail i j is_rows in_row row octet is_columns in_rows before few moved a k (omega arith) other;
    })

pub sets_tail : (height width boundary : ℕ) (indexed : Bool) (rows : List (List ℕ)) (row_order columns : Order) (tail new : Tail) (i j r octet bit : ℕ) → IsPlacedOrder row_order → height ≤ length row_order.order → i < height
    → boundary ≤ j → j < width → r ≡ get_or row_order.order i 0 → bit ≡ bit_of octet → SetsTailBit tail r (width - 1 - j) bit new
    → SetsBit (table height width boundary indexed rows row_order columns tail) i j octet (table height width boundary indexed rows row_order columns new)
sets_tail height width boundary indexed rows row_order columns tail new i j r octet bit is_rows tall in_i from below at_r is_bit sets =
    let in_row : i < length row_order.order = omega arith in
    let moved : SetsTailBit tail (get_or row_order.order i 0) (width - 1 - j) bit new = subst (λ n. SetsTailBit tail n (width - 1 - j) bit new) at_r sets in
    record {
      shape = record { height = refl; width = refl; boundary = refl; indexed = refl };
      here = tail_here width boundary rows row_order columns tail i j is_rows in_row new bit from below moved ∙ is_bit;
      other_columns = λ k in_k other. tail_columns width boundary rows row_order columns tail i j is_rows in_row new bit from below moved k in_k other;
      other_rows = λ a k in_a _ other. tail_rows width boundary rows row_order columns tail i j is_rows in_row new bit from below moved a k (omega arith) other;
    }

-- ---- the dense columns

pub places-same : (f g : ℕ → ℕ) (start end : ℕ) (places : List ℕ) → ((k : ℕ) → start ≤ k → k < end → f k ≡ g k) → ArePlacesOfOnes f start end places → ArePlacesOfOnes g start end places
places-same f g start end places same are = record { within = are.within; once = λ k from below. are.once k from below ∙ same k from below }

pub octets-from : (bits : List ℕ) (f : ℕ → ℕ) (n start end : ℕ) (octets : List ℕ) → start + n ≡ end → ((k : ℕ) → k < n → packed_bit bits k ≡ f (start + k))
    → AreBitsOf (packed_bit bits) 0 n octets → AreBitsOf f start end octets
octets-from bits f n start end octets whole same are = record {
  len = omega (arith, are.len);
  octet = λ k from below.
      let first : k - start ≡ k - start - 0 = omega arith in
      let back : start + (k - start) ≡ k = omega arith in
      ap (λ j. get_or octets j 0) first ∙ are.octet (k - start) (omega arith) (omega arith) ∙ same (k - start) (omega arith) ∙ ap f back;
}

module _ (width boundary : ℕ) (rows : List (List ℕ)) (row_order columns : Order) (tail : Tail) (i r : ℕ) (at_r : r ≡ get_or row_order.order i 0) where
  pub dense_bit : (k : ℕ) → boundary ≤ k → tail_bit tail r (width - 1 - k) ≡ sparse_bit width boundary rows row_order columns tail i k
  dense_bit k from = ap (λ n. tail_bit tail n (width - 1 - k)) at_r ∙ sym (bit-from width boundary rows row_order columns tail i k from)

  pub dense_place : (k : ℕ) → tail.columns ≡ width - boundary → boundary ≤ width → k < tail.columns → tail_bit tail r (tail.columns - 1 - k) ≡ sparse_bit width boundary rows row_order columns tail i (boundary + k)
  dense_place k count within below =
      let place : tail.columns - 1 - k ≡ width - 1 - (boundary + k) = omega arith in
      ap (tail_bit tail r) place ∙ dense_bit (boundary + k) (omega arith)

-- ---- a row added to another one

module _ (height width boundary : ℕ) (indexed : Bool) (rows : List (List ℕ)) (row_order columns : Order) (tail new : Tail) (dest src d s : ℕ) (is_rows : IsPlacedOrder row_order) (tall : height ≤ length row_order.order) (in_dest : dest < height) (at_d : d ≡ get_or row_order.order dest 0)
    (at_s : s ≡ get_or row_order.order src 0) (wide : boundary ≤ width) (count : tail.columns ≡ width - boundary) (adds : AddsTailRow tail d s new)
  where
    dense_sum : (changed : List (List ℕ)) (k : ℕ) → boundary ≤ k → k < width
        → sparse_bit width boundary changed row_order columns new dest k ≡ bit_xor (sparse_bit width boundary rows row_order columns tail dest k) (sparse_bit width boundary rows row_order columns tail src k)
    dense_sum changed k from below =
        sym (dense_bit width boundary changed row_order columns new dest d at_d k from)
        ∙ adds.sum (width - 1 - k) (omega arith)
        ∙ ap (λ n. bit_xor n (tail_bit tail s (width - 1 - k))) (dense_bit width boundary rows row_order columns tail dest d at_d k from)
        ∙ ap (bit_xor (sparse_bit width boundary rows row_order columns tail dest k)) (dense_bit width boundary rows row_order columns tail src s at_s k from)

    apart : (a : ℕ) → a < height → a ≢ dest → get_or row_order.order a 0 ≢ d
    apart a in_a other same = order_apart row_order a dest is_rows (omega arith) (omega arith) other (same ∙ at_d)

    module _ (changed : List (List ℕ)) (row : List ℕ) (in_rows : d < length rows) (is : changed ≡ set rows d row) (sums : IsListedSum (get_or rows d []) (get_or rows s []) row) where
      now : get_or changed d [] ≡ row
      now = ap (λ (l : List (List ℕ)). get_or l d []) is ∙ get_or-set_same rows d row [] in_rows

      sparse_sum : (k : ℕ) → k < boundary → sparse_bit width boundary changed row_order columns new dest k ≡ bit_xor (sparse_bit width boundary rows row_order columns tail dest k) (sparse_bit width boundary rows row_order columns tail src k)
      sparse_sum k low =
          let column = get_or columns.order k 0 in
          bit-before width boundary changed row_order columns new dest k low
          ∙ ap (λ n. listed_bit (get_or changed n []) column) (sym at_d)
          ∙ ap (λ (l : List ℕ). listed_bit l column) now
          ∙ sums column
          ∙ ap (λ n. bit_xor (listed_bit (get_or rows n []) column) (listed_bit (get_or rows s []) column)) at_d
          ∙ ap (λ n. bit_xor (listed_bit (get_or rows (get_or row_order.order dest 0) []) column) (listed_bit (get_or rows n []) column)) at_s
          ∙ sym (ap (λ n. bit_xor n (sparse_bit width boundary rows row_order columns tail src k)) (bit-before width boundary rows row_order columns tail dest k low)
          ∙ ap (bit_xor (listed_bit (get_or rows (get_or row_order.order dest 0) []) column)) (bit-before width boundary rows row_order columns tail src k low))

      pub adds_whole : AddsRowFrom (table height width boundary indexed rows row_order columns tail) dest src 0 (table height width boundary indexed changed row_order columns new)
      adds_whole = record {
        shape = record { height = refl; width = refl; boundary = refl; indexed = refl };
        sum = λ k _ below. elim (cases_lt k boundary) [ inl low ↦ sparse_sum k low | inr high ↦ dense_sum changed k high below ];
        before = λ k low _. absurd (omega arith);
        other_rows = λ a k in_a _ other.
            let row_now = ap (λ (l : List (List ℕ)). get_or l (get_or row_order.order a 0) []) is ∙ get_or-set_other rows d (get_or row_order.order a 0) row [] (apart a in_a other) in
            ap (λ (l : List ℕ). cond (nat_lt k boundary) (listed_bit l (get_or columns.order k 0)) (tail_bit new (get_or row_order.order a 0) (width - 1 - k))) row_now
            ∙ ap (λ (b : ℕ). cond (nat_lt k boundary) (listed_bit (get_or rows (get_or row_order.order a 0) []) (get_or columns.order k 0)) b) (adds.other_rows (get_or row_order.order a 0) (width - 1 - k) (apart a in_a other));
      }

-- ---- the last sparse column becomes dense

pub made_dense : (height width boundary i column : ℕ) (indexed : Bool) (rows : List (List ℕ)) (row_order columns : Order) (tail mid new : Tail) (listed : List ℕ) → IsPlacedOrder row_order → height ≤ length row_order.order → length row_order.order ≡ length rows → tail.rows ≡ length rows
    → i + 1 ≡ boundary → boundary ≤ width → tail.columns ≡ width - boundary → column ≡ get_or columns.order i 0 → ((r : ℕ) → listed_bit (get_or rows r []) column < 2)
    → ArePlacesOfOnes (λ r. listed_bit (get_or rows r []) column) 0 (length rows) listed → PushesColumn tail mid → SetsTailOnes mid listed (width - 1 - i) new
    → SetsBoundary (table height width boundary indexed rows row_order columns tail) i (table height width i indexed rows row_order columns new)
made_dense height width boundary i column indexed rows row_order columns tail mid new listed is_rows tall stored tail_rows last within count at_column small places pushes marks = record {
  height = refl;
  width = refl;
  boundary = refl;
  indexed = refl;
  bits = λ a k in_a in_k.
      let r = get_or row_order.order a 0 in
      let in_r : r < length rows = omega (arith, (is_rows.ordered a (omega arith)).0) in
      elim (cases_lt k i) [
        | inl low ↦ bit-before width i rows row_order columns new a k low ∙ sym (bit-before width boundary rows row_order columns tail a k (omega arith))
        | inr from ↦
            bit-from width i rows row_order columns new a k from
            ∙ elim (cases_eq k i) [
              | inl e ↦
                  let old : sparse_bit width boundary rows row_order columns tail a k ≡ listed_bit (get_or rows r []) column = bit-before width boundary rows row_order columns tail a k (omega arith) ∙ ap (λ n. listed_bit (get_or rows r []) (get_or columns.order n 0)) e ∙ ap (listed_bit (get_or rows r [])) (sym at_column) in
                  let here : listed_bit listed r ≡ listed_bit (get_or rows r []) column = places.once r (omega arith) in_r in
                  let fresh : tail_bit mid r (width - 1 - i) ≡ 0 = ap (tail_bit mid r) {x = width - 1 - i} {y = tail.columns} (omega arith) ∙ pushes.zeros r (omega arith) in
                  ap (λ n. tail_bit new r (width - 1 - n)) e
                  ∙ elim (cases_eq (listed_bit (get_or rows r []) column) 0) [
                    | inl none ↦ marks.unmarked r (here ∙ none) ∙ fresh ∙ sym none
                    | inr some ↦ marks.marked r (omega (arith, here)) ∙ (let one : 1 ≡ listed_bit (get_or rows r []) column = omega (arith, small r) in one)
                  ]
                  ∙ sym old
              | inr d ↦
                  marks.other_columns r (width - 1 - k) (λ same. d (omega arith))
                  ∙ pushes.bits r (width - 1 - k)
                  ∙ sym (bit-from width boundary rows row_order columns tail a k (omega arith))
            ]
      ];
}
