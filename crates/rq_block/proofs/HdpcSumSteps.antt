-- The sums of the HDPC equations over intermediate symbols, by Horner's rule.
use Rattle.std.proofs.Common.{◌≡◌, ◌≢◌, ◌↔◌, ℕ, suc, ◌+◌, ◌-◌, ◌<◌, ◌||◌, eqb, List, [], ◌∷◌, ◌++◌, length, map, get_or, set, None, refl, sym, ap, ◌∙◌, arith, subst, inl, inr}
use Rattle.std.proofs.lemmas.Bool.{cases_eq, cases_lt, eq-eqb, ne_eqb}
use Rattle.std.proofs.lemmas.Iterator.{YieldsList-from_range, items_from_drains}
use Rattle.std.proofs.lemmas.List.{length-append, length-map, length-set, map-id, get_or-map, get_or-set_same, get_or-set_other, get_or_append_left}
use Rattle.std.proofs.lemmas.List.FromFn.{get_or-range_with_len, length-range_with_len}
use Rattle.std.proofs.Math.Seq.{get_or-append_seam}
use Rattle.std.proofs.iter.Yields.{nat_range_steps}
use Rattle.std.specs.Iterator.{DrainsIf}
use Rattle.std.specs.List.{range_with_len}
use Rattle.rq_algebra.specs.Field.{Field}
use Rattle.rq_algebra.specs.FromLaws.{field_mul_is}
use Rattle.rq_algebra.specs.Operations.{AddAssign, Fma, IsAllowed, step, meant_at}
use Rattle.rq_algebra.specs.Symbols.{IsSymbolColumn, add_symbols, slice_at}
use Rattle.rq_algebra.specs.Systems.{sum_below, dot, at}
use Rattle.rq_algebra.proofs.Placewise.{at-zeros, add_symbols_at, scale_at}
use Rattle.rq_algebra.proofs.Sums.{add_mul, add_zero, zero_mul, dot-suc, dot_one, dot_split}
use Rattle.rq_algebra.proofs.SymbolSums.{symbol_elements}
use Rattle.rq_bytes.specs.SymbolSlab.{Slab, Allows, after, slab_of, symbol_in}
use Rattle.rq_standard.specs.declared.row.TableRow.{TableRow}
use Rattle.rq_standard.specs.OctetField.{octets, octet_laws}
use Rattle.rq_standard.specs.Octets.{octet_mul, octet_inverse, octet_power}
use Rattle.rq_standard.specs.Rows.{row_sum, row_multiple}
use Rattle.rq_standard.specs.TableRows.{intermediate_symbols}
use Rattle.rq_standard.specs.Equations.{before_hdpc, hdpc_coefficient, mt, one_if}
use Rattle.rq_standard.proofs.RowSymbols.{add_symbols-rows, scale-rows}
use Rattle.rq_standard.proofs.HdpcLaws.{hdpc-lt, hdpc-last, hdpc-own, hdpc-step}
use Rattle.rq_block.specs.BlockSolutions.{SolvesHdpc}
use Rattle.rq_block.specs.HdpcSums.{AreHdpcSums, AreZeroWithLast}

-- Where each coefficient is c times the next one and something of its own, a sum that lacks a coefficient's multiple of g takes its own part of it, and then lacks the next coefficient's multiple of c times g.
pub horner : (F : Field) (c coefficient next own sum g x total : ℕ) → coefficient ≡ F.add (F.mul c next) own → F.add sum (F.mul coefficient g) ≡ total
    → F.add (F.add sum (F.mul own g)) (F.mul next (F.add (F.mul c g) x)) ≡ F.add total (F.mul next x)
horner F c coefficient next own sum g x total parts lacks =
    let rest : F.mul next (F.mul c g) ≡ F.mul (F.mul c next) g = sym (F.mul_assoc next c g) ∙ ap (λ y. F.mul y g) (F.mul_comm next c) in
    let both : F.mul coefficient g ≡ F.add (F.mul (F.mul c next) g) (F.mul own g) = ap (λ y. F.mul y g) parts ∙ add_mul F (F.mul c next) own g in
    let a = F.mul own g in
    let b = F.mul (F.mul c next) g in
    let whole : F.add (F.add sum a) b ≡ total = F.add_assoc sum a b ∙ ap (F.add sum) (F.add_comm a b ∙ sym both) ∙ lacks in
    ap (F.add (F.add sum a)) (F.mul_add next (F.mul c g) x ∙ ap (λ y. F.add y (F.mul next x)) rest)
    ∙ sym (F.add_assoc (F.add sum a) b (F.mul next x)) ∙ ap (λ y. F.add y (F.mul next x)) whole

-- ---- symbols that are written

-- one symbol of a slab is another one
pub record WritesSymbol (old new : Slab) (place : ℕ) (symbol : List ℕ) : Type 0 where
  pub order : new.order ≡ None
  pub size_is : new.symbol_size ≡ old.symbol_size
  pub count : length new.values ≡ length old.values
  pub here : symbol_in new place ≡ symbol
  pub elsewhere : (k : ℕ) → k ≢ place → symbol_in new k ≡ symbol_in old k

-- that one and another one are added, or a multiple of another one
abbrev pub AddsSymbol : Slab → Slab → ℕ → ℕ → Type 0
AddsSymbol old new dest src = WritesSymbol old new dest (add_symbols octets (symbol_in old dest) (symbol_in old src))

abbrev pub AddsMultiple : Slab → Slab → ℕ → ℕ → ℕ → Type 0
AddsMultiple old new dest src scalar = WritesSymbol old new dest (add_symbols octets (symbol_in old dest) (map (octets.mul scalar) (symbol_in old src)))

pub written : (old new : Slab) (place : ℕ) (symbol : List ℕ) → old.order ≡ None → place < length old.values → new ≡ record old { values = set old.values (meant_at old.order place) symbol } → WritesSymbol old new place symbol
written old new place symbol plain below is =
    let values : new.values ≡ set old.values place symbol = ap (λ (s : Slab). s.values) is ∙ ap (λ o. set old.values (meant_at o place) symbol) plain in
    let order : new.order ≡ None = ap (λ (s : Slab). s.order) is ∙ plain in
    let reads : (k : ℕ) → symbol_in new k ≡ get_or (set old.values place symbol) k [] = λ k. ap (λ xs. get_or xs (meant_at new.order k) []) values ∙ ap (λ o. get_or (set old.values place symbol) (meant_at o k) []) order in
    record {
      order = order;
      size_is = ap (λ (s : Slab). s.symbol_size) is;
      count = ap length values ∙ length-set old.values place symbol;
      here = reads place ∙ get_or-set_same old.values place symbol [] below;
      elsewhere = λ k other. reads k ∙ get_or-set_other old.values place k symbol [] other ∙ ap (λ o. get_or old.values (meant_at o k) []) (sym plain);
    }

pub added : (old new : Slab) (dest src : ℕ) → old.order ≡ None → dest < length old.values → new ≡ after (AddAssign dest src) old → AddsSymbol old new dest src
unfolding step
added old new dest src plain below is = written old new dest _ plain below is

pub multiple_added : (old new : Slab) (dest src scalar : ℕ) → old.order ≡ None → dest < length old.values → new ≡ after (Fma dest src scalar) old → AddsMultiple old new dest src scalar
unfolding step
multiple_added old new dest src scalar plain below is = written old new dest _ plain below is

pub allowed : (slab : Slab) (dest src : ℕ) → slab.order ≡ None → dest < length slab.values → src < length slab.values → src ≢ dest → Allows slab (AddAssign dest src)
allowed slab dest src plain dest_below src_below apart = subst (λ o. IsAllowed (length slab.values) o (AddAssign dest src)) (sym plain) (dest_below, src_below, apart)

-- an octet of a symbol to which a multiple of another one was added, both as they were in a first slab
pub multiple_at : (first old new : Slab) (dest src scalar : ℕ) → AddsMultiple old new dest src scalar → symbol_in old dest ≡ symbol_in first dest → symbol_in old src ≡ symbol_in first src
    → (p : ℕ) → at (symbol_in new dest) p ≡ octets.add (at (symbol_in first dest) p) (octets.mul scalar (at (symbol_in first src) p))
multiple_at first old new dest src scalar write same_dest same_src p =
    ap (λ xs. at xs p) write.here ∙ add_symbols_at octets p (symbol_in old dest) (map (octets.mul scalar) (symbol_in old src))
    ∙ ap (octets.add (at (symbol_in old dest) p)) (scale_at octets p scalar (symbol_in old src))
    ∙ ap (λ xs. octets.add (at xs p) (octets.mul scalar (at (symbol_in old src) p))) same_dest
    ∙ ap (λ xs. octets.add (at (symbol_in first dest) p) (octets.mul scalar (at xs p))) same_src

-- an octet of a row that was doubled and to which another one was added
pub doubled_at : (old other new : List ℕ) → new ≡ row_sum (row_multiple 2 old) other → length other ≡ length old → (p : ℕ) → at new p ≡ octets.add (octets.mul 2 (at old p)) (at other p)
doubled_at old other new sum long p =
    let double = map (octets.mul 2) old in
    ap (λ xs. at xs p) (sum ∙ ap (λ xs. row_sum xs other) (sym (scale-rows 2 old (omega arith))) ∙ sym (add_symbols-rows double other (long ∙ sym (length-map old (octets.mul 2)))))
    ∙ add_symbols_at octets p double other
    ∙ ap (λ x. octets.add x (at other p)) (scale_at octets p 2 old)

-- the numbers that a range gives
pub range_numbers : (start count end : ℕ) (xs : List ℕ) → end ≡ start + count → DrainsIf nat_range_steps (Unit {0}) (record { start = start; end = end }) xs → xs ≡ range_with_len start count
range_numbers start count end xs ends drained = sym (map-id xs) ∙ items_from_drains xs drained (YieldsList-from_range start end count refl (omega arith))

-- the places of the HDPC symbols, and place 0, are among those of all symbols
pub sum_places_below : (row : TableRow) (numbers places : List ℕ) → numbers ≡ range_with_len (before_hdpc row) row.hdpc_symbols → places ≡ numbers ++ 0 ∷ [] → (k d : ℕ) → 0 < row.hdpc_symbols → k < length places → get_or places k d < intermediate_symbols row
sum_places_below row numbers places are is k d some lt =
    let few : length numbers ≡ row.hdpc_symbols = ap length are ∙ length-range_with_len (before_hdpc row) row.hdpc_symbols in
    let long : length places ≡ row.hdpc_symbols + 1 = ap length is ∙ length-append numbers (0 ∷ []) ∙ omega (arith, few) in
    elim (cases_lt k row.hdpc_symbols) [
      | inl within ↦
          let place : get_or places k d ≡ before_hdpc row + k = ap (λ xs. get_or xs k d) is ∙ get_or_append_left numbers (0 ∷ []) d k (omega (arith, few)) ∙ ap (λ xs. get_or xs k d) are ∙ get_or-range_with_len (before_hdpc row) row.hdpc_symbols k d within in
          omega (arith, place)
      | inr past ↦
          let last : k ≡ length numbers = omega (arith, few, long) in
          let place : get_or places k d ≡ 0 = ap (λ xs. get_or xs k d) is ∙ ap (λ n. get_or (numbers ++ 0 ∷ []) n d) last ∙ get_or-append_seam numbers 0 [] d in
          omega (arith, place)
    ]

-- what is answered, where it is
-- ---- the sums, column by column

module _ (row : TableRow) (column : ℕ → List ℕ) (size : ℕ) where
  -- with no column they are the HDPC symbols, and symbol 0 stands behind them
  pub first_sums : (sums : Slab) → sums.order ≡ None → sums.symbol_size ≡ size → length sums.values ≡ row.hdpc_symbols + 1
      → ((h : ℕ) → h < row.hdpc_symbols → symbol_in sums h ≡ column (before_hdpc row + h)) → symbol_in sums row.hdpc_symbols ≡ column 0 → ((p : ℕ) → at (column 0) p < octets.size)
      → AreHdpcSums row column size 0 sums
  unfolding dot sum_below
  first_sums sums plain sized count own zeroth below = record {
    order = plain;
    size_is = sized;
    count = count;
    elements = λ p. subst (λ xs. at xs p < octets.size) (sym zeroth) (below p);
    sum = λ h p lt.
        let coefficient = hdpc_coefficient row h in
        let one : dot octets 1 coefficient (slice_at p column) ≡ octets.mul (coefficient 0) (at (column 0) p) = octets.zero_add (octets.mul (coefficient 0) (at (column 0) p)) in
        ap (λ xs. octets.add (at xs p) (octets.mul (coefficient 0) (at (symbol_in sums row.hdpc_symbols) p))) (own h lt)
        ∙ ap (λ xs. octets.add (at (column (before_hdpc row + h)) p) (octets.mul (coefficient 0) (at xs p))) zeroth
        ∙ ap (octets.add (at (column (before_hdpc row + h)) p)) (sym one);
  }

  -- and so they are gathered
  pub gathered_sums : (slab gathered : Slab) (numbers : List ℕ) → symbol_in slab ≡ column → numbers ≡ range_with_len (before_hdpc row) row.hdpc_symbols → gathered ≡ slab_of size (map (symbol_in slab) (numbers ++ 0 ∷ []))
      → ((p : ℕ) → at (column 0) p < octets.size) → AreHdpcSums row column size 0 gathered
  gathered_sums slab gathered numbers reads are is below =
      let places = numbers ++ 0 ∷ [] in
      let few : length numbers ≡ row.hdpc_symbols = ap length are ∙ length-range_with_len (before_hdpc row) row.hdpc_symbols in
      let long : length places ≡ row.hdpc_symbols + 1 = length-append numbers (0 ∷ []) ∙ omega (arith, few) in
      let reading : (k i : ℕ) → k < row.hdpc_symbols + 1 → get_or places k 0 ≡ i → symbol_in gathered k ≡ column i =
      λ k i lt place. ap (λ (s : Slab). symbol_in s k) is ∙ get_or-map (symbol_in slab) places k 0 [] (omega (arith, long)) ∙ ap (symbol_in slab) place ∙ ap (λ (f : ℕ → List ℕ). f i) reads in
      first_sums gathered (ap (λ (s : Slab). s.order) is) (ap (λ (s : Slab). s.symbol_size) is) (ap (λ (s : Slab). length s.values) is ∙ length-map places (symbol_in slab) ∙ long)
      (λ h lt. reading h (before_hdpc row + h) (omega arith) (get_or_append_left numbers (0 ∷ []) 0 h (omega (arith, few)) ∙ ap (λ xs. get_or xs h 0) are ∙ get_or-range_with_len (before_hdpc row) row.hdpc_symbols h 0 lt))
      (reading row.hdpc_symbols 0 (omega arith) (ap (λ k. get_or places k 0) (sym few) ∙ get_or-append_seam numbers 0 [] 0)) below

  module _ (n first second : ℕ) (more : n + 1 < before_hdpc row) (first_below : first < row.hdpc_symbols) (second_below : second < row.hdpc_symbols) (apart : first ≢ second) (ones : (i : ℕ) → mt row i n ≡ one_if (eqb i first || eqb i second)) (s0 s1 s2 s3 : Slab) (new : List ℕ)
      (so : AreHdpcSums row column size n s0) (w1 : AddsSymbol s0 s1 first row.hdpc_symbols) (w2 : AddsSymbol s1 s2 second row.hdpc_symbols) (w3 : WritesSymbol s2 s3 row.hdpc_symbols new)
      (doubled : (p : ℕ) → at new p ≡ octets.add (octets.mul 2 (at (symbol_in s2 row.hdpc_symbols) p)) (at (column (n + 1)) p)) (below : (p : ℕ) → at (column (n + 1)) p < octets.size) where
    abbrev height : ℕ
    height = row.hdpc_symbols

    -- the last symbol before
    abbrev last_at : ℕ → ℕ
    last_at p = at (symbol_in s0 height) p

    same_last : symbol_in s2 height ≡ symbol_in s0 height
    same_last = w2.elsewhere height (λ e. omega arith) ∙ w1.elsewhere height (λ e. omega arith)

    taken : (xs : List ℕ) (p : ℕ) (own : ℕ) → own ≡ 1 → xs ≡ symbol_in s0 height → (ys : List ℕ) → at (add_symbols octets ys xs) p ≡ octets.add (at ys p) (octets.mul own (last_at p))
    taken xs p own one is ys =
        add_symbols_at octets p ys xs ∙ ap (λ zs. octets.add (at ys p) (at zs p)) is
        ∙ ap (octets.add (at ys p)) (sym (octets.one_mul (last_at p) (so.elements p)) ∙ ap (λ m. octets.mul m (last_at p)) (sym one))

    -- each sum takes the last symbol where its row of MT has a one
    takes : (h p : ℕ) → h < height → at (symbol_in s3 h) p ≡ octets.add (at (symbol_in s0 h) p) (octets.mul (mt row h n) (last_at p))
    takes h p lt =
        let kept : symbol_in s3 h ≡ symbol_in s2 h = w3.elsewhere h (λ e. omega arith) in
        elim (cases_eq h first) [
          | inl e ↦
              let one : mt row h n ≡ 1 = ones h ∙ rw (eq-eqb h first e) refl in
              let is : symbol_in s3 h ≡ add_symbols octets (symbol_in s0 h) (symbol_in s0 height) = kept ∙ w2.elsewhere h (λ f. apart (sym e ∙ f)) ∙ ap (symbol_in s1) e ∙ w1.here ∙ ap (λ k. add_symbols octets (symbol_in s0 k) (symbol_in s0 height)) (sym e) in
              ap (λ xs. at xs p) is ∙ taken (symbol_in s0 height) p (mt row h n) one refl (symbol_in s0 h)
          | inr d ↦ elim (cases_eq h second) [
            | inl f ↦
                let one : mt row h n ≡ 1 = ones h ∙ rw (ne_eqb h first d, eq-eqb h second f) refl in
                let is : symbol_in s3 h ≡ add_symbols octets (symbol_in s0 h) (symbol_in s1 height) = kept ∙ ap (symbol_in s2) f ∙ w2.here ∙ ap (λ k. add_symbols octets (symbol_in s1 k) (symbol_in s1 height)) (sym f) ∙ ap (λ xs. add_symbols octets xs (symbol_in s1 height)) (w1.elsewhere h d) in
                ap (λ xs. at xs p) is ∙ taken (symbol_in s1 height) p (mt row h n) one (w1.elsewhere height (λ e. omega arith)) (symbol_in s0 h)
            | inr g ↦
                let none : mt row h n ≡ 0 = ones h ∙ rw (ne_eqb h first d, ne_eqb h second g) refl in
                ap (λ xs. at xs p) (kept ∙ w2.elsewhere h g ∙ w1.elsewhere h d) ∙ sym (add_zero octets (at (symbol_in s0 h) p))
                ∙ ap (octets.add (at (symbol_in s0 h) p)) (sym (zero_mul octets (last_at p)) ∙ ap (λ m. octets.mul m (last_at p)) (sym none))
          ]
        ]

    -- the last symbol becomes its double and the next symbol
    becomes : (p : ℕ) → at (symbol_in s3 height) p ≡ octets.add (octets.mul 2 (last_at p)) (at (column (n + 1)) p)
    becomes p = ap (λ xs. at xs p) w3.here ∙ doubled p ∙ ap (λ xs. octets.add (octets.mul 2 (at xs p)) (at (column (n + 1)) p)) same_last

    parts : (h : ℕ) → hdpc_coefficient row h n ≡ octets.add (octets.mul 2 (hdpc_coefficient row h (n + 1))) (mt row h n)
    parts h = hdpc-step row h n more ∙ ap (λ x. octets.add x (mt row h n)) (sym (field_mul_is 8 octet_mul octet_inverse octet_laws 2 (hdpc_coefficient row h (n + 1)) (omega arith) (hdpc-lt row h (n + 1))))

    pub column_added : AreHdpcSums row column size (n + 1) s3
    column_added = record {
      order = w3.order;
      size_is = w3.size_is ∙ w2.size_is ∙ w1.size_is ∙ so.size_is;
      count = w3.count ∙ w2.count ∙ w1.count ∙ so.count;
      elements = λ p. subst (λ x. x < octets.size) (sym (becomes p)) (octets.add_below _ _ (octets.mul_below 2 (last_at p)) (below p));
      sum = λ h p lt.
          let coefficient = hdpc_coefficient row h in
          let x = at (column (n + 1)) p in
          let total = octets.add (at (column (before_hdpc row + h)) p) (dot octets (n + 1) coefficient (slice_at p column)) in
          let taken = octets.add (at (symbol_in s0 h) p) (octets.mul (mt row h n) (last_at p)) in
          let here : octets.add taken (octets.mul (coefficient (n + 1)) (octets.add (octets.mul 2 (last_at p)) x)) ≡ octets.add total (octets.mul (coefficient (n + 1)) x) =
          horner octets 2 (coefficient n) (coefficient (n + 1)) (mt row h n) (at (symbol_in s0 h) p) (last_at p) x total (parts h) (so.sum h p lt) in
          let next : suc (n + 1) ≡ n + 1 + 1 = omega arith in
          ap (λ y. octets.add y (octets.mul (coefficient (n + 1)) (at (symbol_in s3 height) p))) (takes h p lt)
          ∙ ap (λ y. octets.add taken (octets.mul (coefficient (n + 1)) y)) (becomes p)
          ∙ here ∙ octets.add_assoc (at (column (before_hdpc row + h)) p) (dot octets (n + 1) coefficient (slice_at p column)) (octets.mul (coefficient (n + 1)) x)
          ∙ ap (octets.add (at (column (before_hdpc row + h)) p)) (sym (dot-suc octets (n + 1) coefficient (slice_at p column)) ∙ ap (λ m. dot octets m coefficient (slice_at p column)) next);
    }

  -- the sum of a whole equation
  whole_sum : (h p : ℕ) → h < row.hdpc_symbols → at (column (before_hdpc row + h)) p < octets.size
      → dot octets (intermediate_symbols row) (hdpc_coefficient row h) (slice_at p column) ≡ octets.add (at (column (before_hdpc row + h)) p) (dot octets (before_hdpc row) (hdpc_coefficient row h) (slice_at p column))
  whole_sum h p lt below =
      let n = before_hdpc row in
      let coefficient = hdpc_coefficient row h in
      let own : coefficient (n + h) ≡ 1 = hdpc-own row h (n + h) (omega arith) ∙ ap one_if (eq-eqb (n + h) (n + h) refl) in
      let rest : dot octets row.hdpc_symbols (λ k. coefficient (n + k)) (λ k. at (column (n + k)) p) ≡ at (column (n + h)) p =
      dot_one octets row.hdpc_symbols (λ k. coefficient (n + k)) (λ k. at (column (n + k)) p) h lt (λ k l other. hdpc-own row h (n + k) (omega arith) ∙ ap one_if (ne_eqb (n + k) (n + h) (λ e. omega arith)))
      ∙ ap (λ m. octets.mul m (at (column (n + h)) p)) own ∙ octets.one_mul (at (column (n + h)) p) below in
      dot_split octets n row.hdpc_symbols coefficient (slice_at p column) ∙ ap (octets.add (dot octets n coefficient (slice_at p column))) rest
      ∙ octets.add_comm (dot octets n coefficient (slice_at p column)) (at (column (n + h)) p)

  -- with the last column the sums are those of the equations
  pub sums_tell : (sums : Slab) → 0 < before_hdpc row → IsSymbolColumn octets size (intermediate_symbols row) column → AreHdpcSums row column size (before_hdpc row - 1) sums
      → AreZeroWithLast row.hdpc_symbols sums ↔ SolvesHdpc row size column
  sums_tell sums some are so =
      let total : (h p : ℕ) → h < row.hdpc_symbols → octets.add (at (symbol_in sums h) p) (octets.mul (octet_power h) (at (symbol_in sums row.hdpc_symbols) p)) ≡ dot octets (intermediate_symbols row) (hdpc_coefficient row h) (slice_at p column) =
      λ h p lt.
      let all : before_hdpc row - 1 + 1 ≡ before_hdpc row = omega arith in
      ap (λ c. octets.add (at (symbol_in sums h) p) (octets.mul c (at (symbol_in sums row.hdpc_symbols) p))) (sym (hdpc-last row h some))
      ∙ so.sum h p lt ∙ ap (λ m. octets.add (at (column (before_hdpc row + h)) p) (dot octets m (hdpc_coefficient row h) (slice_at p column))) all
      ∙ sym (whole_sum h p lt (symbol_elements octets size (column (before_hdpc row + h)) (are (before_hdpc row + h) (omega arith)) p)) in (
        λ zeros. record { at_place = λ p. record { at = λ h lt. sym (total h p lt) ∙ zeros h lt p ∙ sym (at-zeros size p) } },
        λ solves h lt p. total h p lt ∙ (solves.at_place p).at h lt ∙ at-zeros size p,
      )
