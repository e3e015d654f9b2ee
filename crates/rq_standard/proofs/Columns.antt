-- The intermediate symbols of a block, and the sums at places of ids.
use Rattle.std.proofs.Common.{◌≡◌, ℕ, ◌+◌, ◌*◌, ◌%◌, ◌^◌, ◌<◌, ◌≤◌, List, [], ◌∷◌, All, length, get_or, refl, sym, ap, ◌∙◌, subst, arith}
use Rattle.std.specs.Prelude.{IfSome}
use Rattle.std.proofs.lemmas.List.{get_or_past, ext_get_or, length-append}
use Rattle.std.proofs.lemmas.List.Elements.{All-head, All-tail}
use Rattle.std.proofs.lemmas.List.FromFn.{length-range_with_len, get_or-range_with_len, length-map-range_with_len}
use Rattle.std.proofs.lemmas.Option.{IfSome_then}
use Rattle.rq_algebra.specs.Systems.{dot, at, rows_of}
use Rattle.rq_algebra.specs.Symbols.{symbols, IsSymbol, IsSymbolColumn, SolvesSymbols, slice_at}
use Rattle.rq_algebra.specs.Parities.{sum_listed}
use Rattle.rq_algebra.proofs.Stacks.{symbols_stacked}
use Rattle.rq_algebra.proofs.SymbolColumns.{symbols_unique}
use Rattle.rq_algebra.proofs.SymbolSums.{sum_symbols_is, sum_is_symbol}
use Rattle.rq_standard.specs.declared.row.TableRow.{TableRow}
use Rattle.rq_standard.specs.OctetField.{octets}
use Rattle.rq_standard.specs.TableRows.{intermediate_symbols, pi_symbols, IsChecked}
use Rattle.rq_standard.specs.Tuple.{Tuple, degree, seed_of, tuple_of, lt_indices, pi_indices, enc_indices}
use Rattle.rq_standard.specs.Rand.{rand}
use Rattle.rq_standard.specs.Equations.{precode_equations, symbol_coefficient, equations, equation_count, equation_values, zero_symbol, row_indices, tuple_sum, internal_id, extended_ids}
use Rattle.rq_standard.specs.ReceivedBlock.{ReceivedBlock, SolvesReceived}
use Rattle.rq_standard.proofs.PlaceLaws.{row_indices_below, enough_lt}
use Rattle.rq_standard.proofs.TupleLaws.{between}
use Rattle.rq_standard.proofs.KnownIds.{nonsingular_rows}
use Rattle.rq_standard.specs.Headline.{IsIntermediateColumn, IsEncodingSymbol}
use Rattle.rq_standard.specs.PacketLaws.{IntermediateSymbolsAreOnly}

-- ---- an id has a place at least

rand-lt : (y i m : ℕ) → 0 < m → rand y i m < m
unfolding rand
rand-lt y i m some = omega arith

some_of_long : {X : Type 0} → (xs : List X) → 1 ≤ length xs → (x : X) × (rest : List X) × (xs ≡ x ∷ rest)
some_of_long [] h = absurd (omega arith)
some_of_long (x ∷ xs) h = (x, xs, refl)

length-places : (w p p1 : ℕ) (t : Tuple) → 1 ≤ t.0 → 1 ≤ length (enc_indices w p p1 t)
unfolding enc_indices
length-places w p p1 t some = omega (arith, length-append (lt_indices w t) (pi_indices w p p1 t), length-map-range_with_len (λ j. (t.2 + t.1 * j) % w) 0 t.0)

tuple_some : (row : TableRow) (x : ℕ) → IsChecked row → 1 ≤ (tuple_of row.lt_symbols row.systematic_index row.p1 x).0
unfolding tuple_of degree
tuple_some row x checked =
    let v = rand (seed_of row.systematic_index x) 0 (2 ^ 20) in
    omega (arith, (between v (rand-lt (seed_of row.systematic_index x) 0 (2 ^ 20) (omega arith))).one, enough_lt row checked)

-- the sum at an id's places is a symbol
pub sum_symbol : (row : TableRow) (size x : ℕ) (column : ℕ → List ℕ) → IsChecked row → IsSymbolColumn octets size (intermediate_symbols row) column → IsSymbol octets size (tuple_sum row column x)
sum_symbol row size x column checked are =
    let q = some_of_long (row_indices row x) (length-places row.lt_symbols (pi_symbols row) row.p1 (tuple_of row.lt_symbols row.systematic_index row.p1 x) (tuple_some row x checked)) in
    let below : All (λ place. place < intermediate_symbols row) (q.0 ∷ q.1) = subst (λ ps. All (λ place. place < intermediate_symbols row) ps) q.2 (row_indices_below row x checked) in
    subst (λ ps. IsSymbol octets size (sum_listed (symbols octets) ps column)) (sym q.2) (sum_is_symbol octets size (intermediate_symbols row) q.0 q.1 column below are)

-- and at each place of a symbol the equation of the parities
pub sum_at : (row : TableRow) (size x : ℕ) (column : ℕ → List ℕ) → IsChecked row → IsSymbolColumn octets size (intermediate_symbols row) column → (p : ℕ) → at (tuple_sum row column x) p ≡ dot octets (intermediate_symbols row) (symbol_coefficient row x) (slice_at p column)
sum_at row size x column checked are p = sum_symbols_is octets size (intermediate_symbols row) (row_indices row x) column (row_indices_below row x checked) are p

-- columns that are the same below L have the same sums
listed_same : (width : ℕ) (places : List ℕ) (x y : ℕ → List ℕ) → All (λ k. k < width) places → ((k : ℕ) → k < width → x k ≡ y k) → sum_listed (symbols octets) places x ≡ sum_listed (symbols octets) places y
unfolding sum_listed
listed_same width [] x y below same = refl
listed_same width (k ∷ places) x y below same =
    ap (λ s. (symbols octets).add s (sum_listed (symbols octets) places x)) (same k (All-head (λ j. j < width) k places below))
    ∙ ap ((symbols octets).add (y k)) (listed_same width places x y (All-tail (λ j. j < width) k places below) same)

pub tuple_sum-same : (row : TableRow) (i : ℕ) (x y : ℕ → List ℕ) → IsChecked row → ((k : ℕ) → k < intermediate_symbols row → x k ≡ y k) → tuple_sum row x i ≡ tuple_sum row y i
tuple_sum-same row i x y checked same = listed_same (intermediate_symbols row) (row_indices row i) x y (row_indices_below row i checked) same

-- ---- the symbol equations of a list of ids

-- a column that solves the equations of ids has their values as sums
solved_sum : (row : TableRow) (size j : ℕ) (ids : List ℕ) (carried : List (List ℕ)) (column : ℕ → List ℕ) → IsChecked row → IsSymbolColumn octets size (intermediate_symbols row) column
    → SolvesSymbols octets (equation_count row ids) (intermediate_symbols row) (equations row ids) column (equation_values row size carried) → j < length ids → length (get_or carried j (zero_symbol size)) ≡ size
    → tuple_sum row column (at ids j) ≡ get_or carried j (zero_symbol size)
solved_sum row size j ids carried column checked are solves below long =
    let f : ℕ = row.ldpc_symbols + row.hdpc_symbols in
    let own = ((symbols_stacked octets f (length ids) (intermediate_symbols row) (precode_equations row) (rows_of (symbol_coefficient row) ids) column (λ _. zero_symbol size) (λ i. get_or carried i (zero_symbol size))).0 solves).1 in
    ext_get_or 0 (tuple_sum row column (at ids j)) (get_or carried j (zero_symbol size)) ((sum_symbol row size (at ids j) column checked are).size_is ∙ sym long)
    (λ p _. sum_at row size (at ids j) column checked are p ∙ (own.at_place p).at j below)

-- ---- the intermediate symbols

-- of each id below K' they sum to the source symbol, or to zeros
pub source_sum : (row : TableRow) (size x : ℕ) (source : List (List ℕ)) (column : ℕ → List ℕ) → IsChecked row → IsIntermediateColumn row size source column → ((e : ℕ) → length (get_or source e (zero_symbol size)) ≡ size) → x < row.extended_symbols
    → tuple_sum row column x ≡ get_or source x (zero_symbol size)
source_sum row size x source column checked is are below =
    let at_x : at (extended_ids row) x ≡ x = get_or-range_with_len 0 row.extended_symbols x 0 below ∙ omega arith in
    subst (λ n. tuple_sum row column n ≡ get_or source x (zero_symbol size)) at_x
    (solved_sum row size x (extended_ids row) source column checked is.symbols is.solves (omega (arith, length-range_with_len 0 row.extended_symbols)) (are x))

-- over a row that isn't singular they are the only ones
pub only_column : IntermediateSymbolsAreOnly
only_column row size source column nonsingular is = record {
  is = is;
  only = λ other also. symbols_unique octets size (equation_count row (extended_ids row)) (intermediate_symbols row) (equations row (extended_ids row)) other column (equation_values row size source) (nonsingular_rows row nonsingular) also.symbols is.symbols also.solves is.solves;
}

-- so each encoding symbol is a sum of any intermediate symbols of its block
encoding_sum : (row : TableRow) (size esi : ℕ) (source : List (List ℕ)) (column : ℕ → List ℕ) (payload : List ℕ) → IsChecked row → IsIntermediateColumn row size source column → IsEncodingSymbol row size source esi payload
    → payload ≡ tuple_sum row column (internal_id row (length source) esi)
encoding_sum row size esi source column payload checked is symbol =
    symbol.is_sum ∙ tuple_sum-same row (internal_id row (length source) esi) symbol.column column checked (λ k below. sym (symbol.is_only.only column is k below))

-- what was received of a block whose symbols are those of a source is solved by the source's intermediate symbols
pub solves_received : (h : ReceivedBlock) (source : List (List ℕ)) (column : ℕ → List ℕ) → IsChecked h.row → length source ≡ h.source_symbols → ((e : ℕ) → length (get_or source e (zero_symbol h.configuration.symbol_size)) ≡ h.configuration.symbol_size)
    → IsIntermediateColumn h.row h.configuration.symbol_size source column → ((e : ℕ) → IfSome (h.received e) (λ payload. IsEncodingSymbol h.row h.configuration.symbol_size source e payload)) → SolvesReceived h column
solves_received h source column checked long are is honest =
    let row = h.row in
    let size = h.configuration.symbol_size in
    let f : ℕ = row.ldpc_symbols + row.hdpc_symbols in
    record {
      symbols = is.symbols;
      precode = ((symbols_stacked octets f (length (extended_ids row)) (intermediate_symbols row) (precode_equations row) (rows_of (symbol_coefficient row) (extended_ids row)) column (λ _. zero_symbol size) (λ i. get_or source i (zero_symbol size))).0 is.solves).0;
      padding = λ x from below. source_sum row size x source column checked is are below ∙ get_or_past source x (zero_symbol size) (omega arith);
      received = λ e. IfSome_then (h.received e) (honest e) (λ payload symbol. encoding_sum row size e source column payload checked is symbol ∙ ap (λ k. tuple_sum row column (internal_id row k e)) long);
    }
