-- As many equations as unknowns that determine have a solution, of elements and of symbols.
use Rattle.std.proofs.Common.{◌≡◌, ◌≢◌, ℕ, suc, ◌<◌, ◌≤◌, List, map, sym, ap, ◌∙◌, refl, arith, inl, inr}
use Rattle.std.specs.List.{range_with_len}
use Rattle.std.proofs.lemmas.Bool.{cases_eq, cases_lt}
use Rattle.std.proofs.lemmas.List.{get_or_past}
use Rattle.std.proofs.lemmas.List.Elements.{All-from_get_or}
use Rattle.std.proofs.lemmas.List.FromFn.{length-map-range_with_len, get_or-map-range_with_len}
use Rattle.rq_algebra.specs.Field.{Field}
use Rattle.rq_algebra.specs.Systems.{dot, IsColumn, IsDetermined, HasElements, HasHomogeneousColumn, HasSolution}
use Rattle.rq_algebra.specs.Symbols.{IsSymbolColumn, HasSymbolSolution, slice_at}
use Rattle.rq_algebra.proofs.Sums.{add_again, mul_zero, undo_mul, dot_same, dot_mul_column, dot_zero, dot-suc}
use Rattle.rq_algebra.specs.Changes.{with_at}
use Rattle.rq_algebra.proofs.ChangeLaws.{with_at_same, with_at_other}
use Rattle.rq_algebra.proofs.FewEquations.{few_rows}
use Rattle.rq_algebra.proofs.SymbolSums.{slice_elements}

module _ (F : Field) (n : ℕ) (rows : ℕ → ℕ → ℕ) where
  module _ (values : ℕ → ℕ) (elements : HasElements F n n rows) (are : IsColumn F n values) (determined : IsDetermined F n n rows) where
    -- the values as coefficients of one more unknown
    extended : ℕ → ℕ → ℕ
    extended i = with_at (rows i) n (values i)

    extended_elements : HasElements F n (suc n) extended
    unfolding extended
    extended_elements i k l m = elim (cases_eq k n) [
      | inl e ↦ rw (with_at_same (rows i) n (values i) k e) (are i l)
      | inr d ↦ rw (with_at_other (rows i) n (values i) k d) (elements i k l (omega arith))
    ]

    null : HasHomogeneousColumn F n (suc n) extended
    null = few_rows F (suc n) n extended (omega arith) extended_elements

    last : ℕ
    last = null.column n

    last_below : last < F.size
    unfolding last
    last_below = null.is_column n (omega arith)

    -- the other unknowns make the multiple of the values that the last one says
    scaled : (i : ℕ) → i < n → dot F n (rows i) null.column ≡ F.mul (values i) last
    unfolding extended last
    scaled i l =
        let x : ℕ → ℕ = null.column in
        let both : F.add (dot F n (rows i) x) (F.mul (values i) last) ≡ 0 = cc (
          dot-suc F n (extended i) x,
          dot_same F n (extended i) (rows i) x x (λ k m. with_at_other (rows i) n (values i) k (omega arith)) (λ k m. refl),
          with_at_same (rows i) n (values i) n refl,
          null.solves.at i l,
        ) in
        cc (add_again F (dot F n (rows i) x) (F.mul (values i) last), both, F.zero_add (F.mul (values i) last))

    -- it isn't zero: else the others were a homogeneous column
    last_nonzero : last ≢ 0
    unfolding last
    last_nonzero e =
        let zeros : (k : ℕ) → k < n → null.column k ≡ 0 =
        determined null.column (λ k l. null.is_column k (omega arith)) record { at = λ i l. cc (scaled i l, e, mul_zero F (values i)) } in
        elim (cases_eq null.index n) [
          | inl s ↦ null.nonzero (ap null.column s ∙ e)
          | inr d ↦ null.nonzero (zeros null.index (omega (arith, null.in_width)))
        ]

    pub square_solution : HasSolution F n n rows values
    square_solution = record {
      column = λ k. F.mul (F.inverse last) (null.column k);
      is_column = λ k l. F.mul_below _ _;
      solves = record {
        at = λ i l. cc (
          dot_mul_column F n (F.inverse last) (rows i) null.column,
          scaled i l,
          F.mul_comm (values i) last,
          undo_mul F last (values i) last_below last_nonzero (are i l),
        );
      };
    }

  -- a solution at each place, put together
  module _ (size : ℕ) (values : ℕ → List ℕ) (elements : HasElements F n n rows) (are : IsSymbolColumn F size n values) (determined : IsDetermined F n n rows) where
    solution_at : (p : ℕ) → HasSolution F n n rows (slice_at p values)
    solution_at p = square_solution (slice_at p values) elements (slice_elements F size n values are p) determined

    symbol : ℕ → List ℕ
    symbol k = map (λ p. (solution_at p).column k) (range_with_len 0 size)

    symbol_here : (p k : ℕ) → p < size → slice_at p symbol k ≡ (solution_at p).column k
    unfolding symbol
    symbol_here p k l = get_or-map-range_with_len (λ q. (solution_at q).column k) 0 size p p 0 l (omega arith)

    symbol_past : (p k : ℕ) → size ≤ p → slice_at p symbol k ≡ 0
    unfolding symbol
    symbol_past p k l = get_or_past (symbol k) p 0 (omega (arith, length-map-range_with_len (λ q. (solution_at q).column k) 0 size))

    pub square_symbols : HasSymbolSolution F size n n rows values
    unfolding symbol
    square_symbols = record {
      column = symbol;
      are_symbols = λ k l. record {
        size_is = length-map-range_with_len (λ q. (solution_at q).column k) 0 size;
        elements = All-from_get_or (λ x. x < F.size) (symbol k) 0 (λ p m.
            let inside : p < size = omega (arith, length-map-range_with_len (λ q. (solution_at q).column k) 0 size) in
            rw (symbol_here p k inside) ((solution_at p).is_column k l));
      };
      solves = record {
        at_place = λ p. record {
          at = λ i l. elim (cases_lt p size) [
            | inl here ↦ dot_same F n (rows i) (rows i) (slice_at p symbol) (solution_at p).column (λ k m. refl) (λ k m. symbol_here p k here) ∙ (solution_at p).solves.at i l
            | inr past ↦ dot_zero F n (rows i) (slice_at p symbol) (λ k m. cc (symbol_past p k past, mul_zero F (rows i k))) ∙ sym (get_or_past (values i) p 0 (omega (arith, (are i l).size_is)))
          ];
        };
      };
    }
