-- What a solver finds of what was received, and whether it solves all of it.
use Rattle.std.proofs.Common.{◌≡◌, ℕ, ◌+◌, ◌-◌, ◌<◌, ◌≤◌, List, length, refl, sym, ap, ◌∙◌, subst, arith, inl, inr}
use Rattle.std.specs.Option.{ForSome}
use Rattle.std.proofs.lemmas.Bool.{cases_lt}
use Rattle.std.proofs.lemmas.List.{ext_get_or, length-replicate}
use Rattle.rq_algebra.specs.Systems.{dot, at, rows_of, IsDetermined}
use Rattle.rq_algebra.specs.Symbols.{IsSymbol, IsSymbolColumn, symbol_at, slice_at}
use Rattle.rq_algebra.proofs.SquareSystems.{square_symbols}
use Rattle.rq_algebra.proofs.Stacks.{stacked_above, stacked_below}
use Rattle.rq_algebra.proofs.SymbolSums.{zeros_are_symbol}
use Rattle.rq_algebra.proofs.Sums.{dot_same, dot_mul_row, dot_below_size}
use Rattle.rq_standard.specs.OctetField.{octets}
use Rattle.rq_standard.specs.TableRows.{intermediate_symbols}
use Rattle.rq_standard.specs.Equations.{precode_equations, ldpc_coefficient, hdpc_coefficient, symbol_coefficient, equations, equation_count, zero_symbol, internal_id, tuple_sum}
use Rattle.rq_standard.specs.ReceivedBlock.{ReceivedBlock, SolvesReceived, HasReceivedSolution, IsContradictory, ReceivedDetermine}
use Rattle.rq_standard.proofs.Columns.{sum_at, sum_symbol}
use Rattle.rq_standard.proofs.OptionValues.{by_option}
use Rattle.rq_bytes.specs.SymbolSlab.{Slab, slab_of, symbol_in}
use Rattle.rq_block.specs.BlockSolutions.{IsBlockSolution, SolvesFirstEquations, SolvesHdpc, Fits}
use Rattle.rq_block.specs.Known.{IsReceivedSolution}
use Rattle.rq_block.specs.Payloads.{Payloads}
use Rattle.rq_block.proofs.ReceivedEquations.{IsHeldIn, received_ids, received_values, zero_at, padding_at, known_at, place_of, is_received, received_rows, values_solved}
use Rattle.rq_block.proofs.Listing.{known_values, length-known_list}

module _ (h : ReceivedBlock) (m : Payloads) (held : IsHeldIn h m) where
  abbrev size : ℕ
  size = h.configuration.symbol_size

  -- ---- a column that solves the equations

  module _ (precode_rows : ℕ) (ldpc : h.row.ldpc_symbols ≤ precode_rows) (few : precode_rows ≤ h.row.ldpc_symbols + h.row.hdpc_symbols) (column : ℕ → List ℕ) (are : IsSymbolColumn octets size (intermediate_symbols h.row) column) (first : SolvesFirstEquations h.row precode_rows (received_ids h m) column (received_values h m precode_rows)) where
    -- an id's sum is its value
    sum_is : (j x : ℕ) (value : List ℕ) → j < length (received_ids h m) → at (received_ids h m) j ≡ x → symbol_at (received_values h m precode_rows) (precode_rows + j) ≡ value → length value ≡ size → tuple_sum h.row column x ≡ value
    sum_is j x value below id is long =
        let n : ℕ = intermediate_symbols h.row in
        ext_get_or 0 (tuple_sum h.row column x) value ((sum_symbol h.row size x column held.checked are).size_is ∙ sym long) (λ p _.
        sum_at h.row size x column held.checked are p
        ∙ ap (λ y. dot octets n (symbol_coefficient h.row y) (slice_at p column)) (sym id)
        ∙ ap (λ (r : ℕ → ℕ). dot octets n r (slice_at p column)) (sym (stacked_below precode_rows (precode_equations h.row) (rows_of (symbol_coefficient h.row) (received_ids h m)) j))
        ∙ (first.at_place p).at (precode_rows + j) (omega arith) ∙ ap (λ xs. at xs p) is)

    -- an equation of LDPC or HDPC
    precode_is : (precode_rows < h.row.ldpc_symbols + h.row.hdpc_symbols → SolvesHdpc h.row size column) → (p i : ℕ) → i < h.row.ldpc_symbols + h.row.hdpc_symbols
        → dot octets (intermediate_symbols h.row) (precode_equations h.row i) (slice_at p column) ≡ at (zero_symbol size) p
    precode_is hdpc p i l = elim (cases_lt i precode_rows) [
      | inl above ↦
          ap (λ (r : ℕ → ℕ). dot octets (intermediate_symbols h.row) r (slice_at p column)) (sym (stacked_above precode_rows (precode_equations h.row) (rows_of (symbol_coefficient h.row) (received_ids h m)) i above))
          ∙ (first.at_place p).at i (omega arith) ∙ ap (λ xs. at xs p) (zero_at h.row h.source_symbols size m held.fits held.ordered precode_rows i (omega arith))
      | inr past ↦
          let j : ℕ = i - h.row.ldpc_symbols in
          let e : h.row.ldpc_symbols + j ≡ i = omega arith in
          ap (λ (r : ℕ → ℕ). dot octets (intermediate_symbols h.row) r (slice_at p column)) (ap (precode_equations h.row) (sym e) ∙ stacked_below h.row.ldpc_symbols (ldpc_coefficient h.row) (hdpc_coefficient h.row) j)
          ∙ ((hdpc (omega arith)).at_place p).at j (omega arith)
    ]

    -- solves all that was received, where it solves the HDPC equations that aren't among them
    pub first_solve : ((e : ℕ) → ForSome (h.received e) (λ x. length x ≡ size)) → (precode_rows < h.row.ldpc_symbols + h.row.hdpc_symbols → SolvesHdpc h.row size column) → SolvesReceived h column
    first_solve sized hdpc = record {
      symbols = are;
      precode = record { at_place = λ p. record { at = λ i l. precode_is hdpc p i l } };
      padding = λ x from below.
          let j : ℕ = x - h.source_symbols in
          let long = length-known_list h.row h.source_symbols m.entries in
          sum_is j x (zero_symbol size) (omega arith) (padding_at h.row h.source_symbols size m held.fits held.ordered j (omega arith) ∙ omega arith) (zero_at h.row h.source_symbols size m held.fits held.ordered precode_rows (precode_rows + j) (omega arith)) (length-replicate {A = ℕ} size 0);
      received = λ e. by_option (h.received e) (λ x. x ≡ tuple_sum h.row column (internal_id h.row h.source_symbols e)) (λ x is.
          let q = place_of h.row h.source_symbols size m held.fits held.ordered precode_rows e x (sym (held.same e) ∙ is) in
          sym (sum_is q.0 (internal_id h.row h.source_symbols e) x q.1 q.2 q.3 (sized e x is)));
    }

  -- ---- what is found

  module _ (sized : (e : ℕ) → ForSome (h.received e) (λ x. length x ≡ size)) (precode_rows : ℕ) (ldpc : h.row.ldpc_symbols ≤ precode_rows) (few : precode_rows ≤ h.row.ldpc_symbols + h.row.hdpc_symbols) (slab : Slab)
      (s : IsBlockSolution h.row precode_rows (received_ids h m) size (received_values h m precode_rows) slab) where
    -- it solves what was received where it fits
    fitting : Fits h.row precode_rows slab → SolvesReceived h (symbol_in slab)
    fitting fit = first_solve precode_rows ldpc few (symbol_in slab) s.symbols (s.solves fit.unread) sized (λ less. subst (λ n. SolvesHdpc h.row n (symbol_in slab)) s.size_is (fit.hdpc less))

    -- and fits where any column does
    fits_solution : HasReceivedSolution h → Fits h.row precode_rows slab
    fits_solution z = record {
      unread = s.leaves z.column z.solves.symbols (values_solved h m held precode_rows few z.column z.solves);
      hdpc = λ _. record {
        at_place = λ p. record {
          at = λ i l.
              let only = s.only z.column z.solves.symbols (values_solved h m held precode_rows few z.column z.solves) in
              dot_same octets (intermediate_symbols h.row) (hdpc_coefficient h.row i) (hdpc_coefficient h.row i) (slice_at p (symbol_in slab)) (slice_at p z.column) (λ k b. refl) (λ k b. ap (λ xs. at xs p) (sym (only k b)))
              ∙ ap (λ (r : ℕ → ℕ). dot octets (intermediate_symbols h.row) r (slice_at p z.column)) (sym (stacked_below h.row.ldpc_symbols (ldpc_coefficient h.row) (hdpc_coefficient h.row) i))
              ∙ (z.solves.precode.at_place p).at (h.row.ldpc_symbols + i) (omega arith)
              ∙ ap (λ n. at (zero_symbol n) p) (sym s.size_is);
        };
      };
    }

    pub received_solution : Fits h.row precode_rows slab → IsReceivedSolution h slab
    received_solution fit = record {
      determined = is_received h m held s.determined;
      enough = s.enough;
      size_is = s.size_is;
      symbols = s.symbols;
      solves = fitting fit;
      only = λ column z. s.only column z.symbols (values_solved h m held precode_rows few column z);
    }

    pub received_contradiction : (Fits h.row precode_rows slab → ⊥) → IsContradictory h
    received_contradiction none = record { determined = is_received h m held s.determined; unsolved = λ z. none (fits_solution z) }

  -- a solution that was found from values that are those of what was received
  pub solution_of_values : (precode_rows n : ℕ) (given slab : Slab) → n ≡ size → given ≡ slab_of n (known_values h.row h.source_symbols precode_rows n m.entries) → IsBlockSolution h.row precode_rows (received_ids h m) given.symbol_size given.values slab
      → IsBlockSolution h.row precode_rows (received_ids h m) size (received_values h m precode_rows) slab
  solution_of_values precode_rows n given slab is values found =
      subst (λ l. IsBlockSolution h.row precode_rows (received_ids h m) l (known_values h.row h.source_symbols precode_rows l m.entries) slab) is
      (subst (λ (g : Slab). IsBlockSolution h.row precode_rows (received_ids h m) g.symbol_size g.values slab) values found)

  -- ---- as many ids as source symbols

  module _ (payloads : (e : ℕ) → ForSome (h.received e) (IsSymbol octets size)) where
    value_is : (i : ℕ) → i < h.row.ldpc_symbols + h.row.hdpc_symbols + length (received_ids h m) → IsSymbol octets size (symbol_at (received_values h m (h.row.ldpc_symbols + h.row.hdpc_symbols)) i)
    value_is i below =
        let f : ℕ = h.row.ldpc_symbols + h.row.hdpc_symbols in
        elim (cases_lt i f) [
          | inl lt ↦ subst (IsSymbol octets size) (sym (zero_at h.row h.source_symbols size m held.fits held.ordered f i (omega arith))) (zeros_are_symbol octets size)
          | inr past ↦
              let j : ℕ = i - f in
              let e : f + j ≡ i = omega arith in
              subst (λ n. IsSymbol octets size (symbol_at (received_values h m f) n)) e
              (elim (known_at h.row h.source_symbols size m held.fits held.ordered f j (omega arith)) [
                | inl q ↦ subst (IsSymbol octets size) (sym q.is_zero) (zeros_are_symbol octets size)
                | inr q ↦ payloads q.esi _ (held.same q.esi ∙ q.came)
              ])
        ]

    -- the coefficients as elements: what is below 256 of them counts
    abbrev rows : ℕ → ℕ → ℕ
    rows i k = octets.mul 1 (equations h.row (received_ids h m) i k)

    same_dot : (i : ℕ) (x : ℕ → ℕ) → dot octets (intermediate_symbols h.row) (rows i) x ≡ dot octets (intermediate_symbols h.row) (equations h.row (received_ids h m) i) x
    same_dot i x =
        let r = equations h.row (received_ids h m) i in
        dot_mul_row octets (intermediate_symbols h.row) 1 r x ∙ octets.one_mul _ (dot_below_size octets (intermediate_symbols h.row) r x)

    -- where they are as many as the source symbols and determine the block, a column solves all that was received
    pub square_received : length m.entries ≡ h.source_symbols → ReceivedDetermine h → HasReceivedSolution h
    square_received count d =
        let f : ℕ = h.row.ldpc_symbols + h.row.hdpc_symbols in
        let n : ℕ = intermediate_symbols h.row in
        let list = received_ids h m in
        let square : equation_count h.row list ≡ n = omega (arith, length-known_list h.row h.source_symbols m.entries) in
        let determined : IsDetermined octets n n rows =
        λ column is z k l. received_rows h m held d column is (record { at = λ i below. sym (same_dot i column) ∙ z.at i (omega (arith, square)) }) k l in
        let z = square_symbols octets n rows size (symbol_at (received_values h m f)) (λ i k _ _. octets.mul_below 1 _) (λ i l. value_is i (omega (arith, square))) determined in
        record {
          column = z.column;
          solves = first_solve f (omega arith) (omega arith) z.column z.are_symbols
              (record { at_place = λ p. record { at = λ i l. sym (same_dot i (slice_at p z.column)) ∙ (z.solves.at_place p).at i (omega (arith, square)) } })
              (λ e x is. (payloads e x is).size_is) (λ less. absurd (omega arith));
        }
