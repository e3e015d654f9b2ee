-- The rows that have a one in a column, row after row, and the places of the rows in a list.
use Rattle.std.proofs.Common.{◌≡◌, ℕ, suc, ◌+◌, ◌<◌, ◌≤◌, ◌⊎◌, List, [], ◌∷◌, ◌++◌, length, map, filter, get_or, take, replicate, Bool, cond, refl, sym, ap, subst, ◌∙◌, arith, inl, inr, zero-add, append-nil, append_assoc, add-zero}
use Rattle.std.specs.Prelude.{◌==◌}
use Rattle.std.proofs.lemmas.Bool.{cases_eq}
use Rattle.std.proofs.lemmas.Bool.Decides.{eqb_tells}
use Rattle.std.proofs.lemmas.List.{map-append, take_more, length-append}
use Rattle.std.proofs.lemmas.List.Elements.{filter-append}
use Rattle.std.proofs.lemmas.List.FromFn.{get_or-map-range_with_len, length-map-range_with_len}
use Rattle.rq_standard.specs.BitTableSteps.{ArePlacesOfOnes}
use Rattle.rq_parts.specs.BitPairs.{in_range, sparse_pairs}
use Rattle.rq_parts.specs.ImmutableListMap.{Pairs, values_of, lists_of}
use Rattle.rq_parts.specs.SparseBinaryVec.{listed_bit}
use Rattle.rq_parts.specs.ListedLaws.{listed-self, listed-other}
use Rattle.rq_parts.proofs.SparsePairs.{in_range-true, in_range-false}
use Rattle.rq_matrix.specs.SparseRows.{IsColumnIndex, AddsRowPairs}
use Rattle.rq_matrix.proofs.FoundOnes.{places-skip, places-push}

-- ---- the values of a column

values-append : (pairs more : List (ℕ × ℕ)) (column : ℕ) → values_of (pairs ++ more) column ≡ values_of pairs column ++ values_of more column
values-append pairs more column =
    ap (map (λ (pair : ℕ × ℕ). pair.1)) (filter-append (λ (pair : ℕ × ℕ). pair.0 == column) pairs more)
    ∙ map-append (λ (pair : ℕ × ℕ). pair.1) (filter (λ (pair : ℕ × ℕ). pair.0 == column) pairs) (filter (λ (pair : ℕ × ℕ). pair.0 == column) more)

-- a row's pairs give the row where it has a one
values-ones : (row : ℕ) (ones : List ℕ) (column : ℕ) → values_of (map (λ one. (one, row)) ones) column ≡ replicate (listed_bit ones column) row
values-ones row [] column = refl
values-ones row (one ∷ ones) column =
    let rest = values-ones row ones column in
    let pairs = filter (λ (pair : ℕ × ℕ). pair.0 == column) (map (λ x. (x, row)) ones) in
    let among : Bool → List ℕ = λ b. map (λ (pair : ℕ × ℕ). pair.1) (cond b ((one, row) ∷ pairs) pairs) in
    elim (eqb_tells one column) [
      | inl e ↦ ap among e.0 ∙ ap (λ xs. row ∷ xs) rest ∙ ap (λ n. replicate n row) {x = suc (listed_bit ones column)} {y = listed_bit (one ∷ ones) column} (omega (arith, listed-self one ones column (sym e.1)))
      | inr e ↦ ap among e.0 ∙ rest ∙ ap (λ n. replicate n row) (sym (listed-other one ones column (λ same. e.1 (sym same))))
    ]

-- one more of a row's ones
pub adds_more : (old mid new : Pairs) (row i column : ℕ) (ones : List ℕ) → i < length ones → column ≡ get_or ones i 0 → AddsRowPairs old row (take i ones) mid → new ≡ record { keys = mid.keys; pairs = mid.pairs ++ (column, row) ∷ [] } → AddsRowPairs old row (take (i + 1) ones) new
adds_more old mid new row i column ones within is adds one =
    let entry : ℕ → ℕ × ℕ = λ k. (k, row) in
    let more = ap (map entry) (take_more ones i 0 within) ∙ map-append entry (take i ones) (get_or ones i 0 ∷ []) ∙ ap (λ (k : ℕ). map entry (take i ones) ++ (k, row) ∷ []) (sym is) in
    one
    ∙ ap (λ (p : Pairs). let q : Pairs = record { keys = p.keys; pairs = p.pairs ++ (column, row) ∷ [] } in q) adds
    ∙ ap (λ (l : List (ℕ × ℕ)). let q : Pairs = record { keys = old.keys; pairs = l } in q) (append_assoc old.pairs (map entry (take i ones)) ((column, row) ∷ []) ∙ ap (λ l. old.pairs ++ l) (sym more))

-- one more row has its ones added
pub places-add : (bit : ℕ → ℕ) (row column : ℕ) (old new : Pairs) (ones : List ℕ) → ArePlacesOfOnes bit 0 row (values_of old.pairs column) → AddsRowPairs old row ones new → bit row ≡ listed_bit ones column → bit row < 2
    → ArePlacesOfOnes bit 0 (row + 1) (values_of new.pairs column)
places-add bit row column old new ones places adds is small =
    let values = ap (λ (p : Pairs). values_of p.pairs column) adds ∙ values-append old.pairs (map (λ one. (one, row)) ones) column ∙ ap (λ xs. values_of old.pairs column ++ xs) (values-ones row ones column ∙ ap (λ n. replicate n row) (sym is)) in
    let after = λ (n : ℕ). ArePlacesOfOnes bit 0 (row + 1) (values_of old.pairs column ++ replicate n row) in
    subst (ArePlacesOfOnes bit 0 (row + 1)) (sym values)
    (elim (cases_eq (bit row) 0) [
      | inl none ↦ subst after (sym none) (subst (ArePlacesOfOnes bit 0 (row + 1)) (sym (append-nil (values_of old.pairs column))) (places-skip bit 0 row (values_of old.pairs column) places none))
      | inr some ↦ (let one : bit row ≡ 1 = omega arith in subst after (sym one) (places-push bit 0 row (values_of old.pairs column) (omega arith) places one))
    ])

-- ---- the map of them

pub index-built : (columns : ℕ) (rows : List (List ℕ)) (pairs : Pairs) (lists : List (List ℕ)) → pairs.keys ≡ columns → lists ≡ lists_of pairs
    → ((column : ℕ) → column < columns → ArePlacesOfOnes (λ row. listed_bit (get_or rows row []) column) 0 (length rows) (values_of pairs.pairs column)) → IsColumnIndex columns rows lists
index-built columns rows pairs lists keys is each = record {
  count = ap length is ∙ length-map-range_with_len (values_of pairs.pairs) 0 pairs.keys ∙ keys;
  each = λ column below.
      let list = ap (λ (l : List (List ℕ)). get_or l column []) is ∙ get_or-map-range_with_len (values_of pairs.pairs) 0 pairs.keys column column [] (omega (arith, keys)) (zero-add column) in
      subst (ArePlacesOfOnes (λ row. listed_bit (get_or rows row []) column) 0 (length rows)) (sym list) (each column below);
}

-- ---- the ones of a row that stand in a range

module _ (ones columns : List ℕ) (start end n column : ℕ) (within : n < length ones) (is : column ≡ get_or columns (get_or ones n 0) 0) where
  one_pair : ℕ → List (ℕ × ℕ)
  one_pair p = cond (in_range start end p) ((p, 1) ∷ []) []

  more_pairs : length (sparse_pairs (take (n + 1) ones) columns start end) ≡ length (sparse_pairs (take n ones) columns start end) + length (one_pair column)
  unfolding one_pair
  more_pairs =
      let test : ℕ × ℕ → Bool = λ p. in_range start end p.0 in
      let pair : ℕ → ℕ × ℕ = λ one. (get_or columns one 0, 1) in
      ap (λ xs. length (filter test (map pair xs))) (take_more ones n 0 within)
      ∙ ap (λ xs. length (filter test xs)) (map-append pair (take n ones) (get_or ones n 0 ∷ []))
      ∙ ap length (filter-append test (map pair (take n ones)) (pair (get_or ones n 0) ∷ []))
      ∙ length-append (filter test (map pair (take n ones))) (filter test (pair (get_or ones n 0) ∷ []))
      ∙ ap (λ (p : ℕ). length (sparse_pairs (take n ones) columns start end) + length (one_pair p)) (sym is)

  pub pairs-push : start ≤ column → column < end → length (sparse_pairs (take (n + 1) ones) columns start end) ≡ length (sparse_pairs (take n ones) columns start end) + 1
  unfolding one_pair
  pairs-push from below =
      more_pairs ∙ ap (λ (b : Bool). length (sparse_pairs (take n ones) columns start end) + length {A = ℕ × ℕ} (cond b ((column, 1) ∷ []) [])) (in_range-true start end column from below)

  pub pairs-skip : (column < start) ⊎ (end ≤ column) → length (sparse_pairs (take (n + 1) ones) columns start end) ≡ length (sparse_pairs (take n ones) columns start end)
  unfolding one_pair
  pairs-skip outside =
      more_pairs ∙ ap (λ (b : Bool). length (sparse_pairs (take n ones) columns start end) + length {A = ℕ × ℕ} (cond b ((column, 1) ∷ []) [])) (in_range-false start end column outside) ∙ add-zero (length (sparse_pairs (take n ones) columns start end))
