-- Before the first wanted cell stands no wanted one of its stream.
use Rattle.std.proofs.Common.{◌≡◌, ℕ, zero, suc, ◌+◌, ◌<◌, ◌≤◌, List, ◌∷◌, ◌++◌, length, drop, arith, refl, sym, ap, subst, ◌∙◌, Some, None, Option, Bool, true, false, not, ◌&&◌, nat_lt, if◌then◌else◌, ◌⊎◌, inl, inr}
use Rattle.std.specs.List.{cons_option}
use Rattle.std.specs.Prelude.{option_and_then, filter, is_some}
use Rattle.std.proofs.lemmas.List.{length-drop}
use Rattle.std.proofs.lemmas.Option.{none-some, same_Some}
use Rattle.std.proofs.lemmas.Bool.{le-leb, le-ltb, or_from, and_right, cases_lt}
use Rattle.rq_cells.specs.declared.head.Head.{Head}
use Rattle.rq_cells.specs.declared.cell.Cell.{Cell}
use Rattle.rq_cells.specs.Cells.{Key, head_size, cell_size, head_at, cell_at, cell_behind}
use Rattle.rq_cells.specs.Found.{Source, source_of, is_of, head_of, is_long, cell_of, cells_in}
use Rattle.rq_cells.specs.Scans.{is_open}
use Rattle.rq_cells.specs.Wanted.{Wish, is_wanted, wanted_at, IsFirstWanted}
use Rattle.rq_cells.specs.Laws.{wanted_in}
use Rattle.rq_cells.proofs.HeadBytes.{none_in_short, parts_in_long}
use Rattle.rq_cells.proofs.CellBytes.{behind-begins, none_behind_in_short}
use Rattle.rq_cells.proofs.Scanning.{stays, next_found}

-- a cell that is read is as long as its head says
whole : (key : Key) (bytes : List ℕ) (c : Cell) → cell_at key bytes ≡ Some c → cell_size c.head.configuration.symbol_size ≤ length bytes
whole key bytes c = by_head (head_at key bytes) refl
  where
    long_enough : (h : Head) → head_at key bytes ≡ Some h → (length bytes < head_size) ⊎ (head_size ≤ length bytes) → head_size ≤ length bytes
    long_enough h headed (inl short) = absurd (none-some h (sym (none_in_short key bytes short) ∙ headed))
    long_enough h headed (inr long) = long

    by_length : (h : Head) → head_at key bytes ≡ Some h → cell_behind key h bytes ≡ Some c
        → (length bytes < cell_size h.configuration.symbol_size) ⊎ (cell_size h.configuration.symbol_size ≤ length bytes)
        → cell_size h.configuration.symbol_size ≤ length bytes
    by_length h headed is (inl short) =
        let lengths = parts_in_long key bytes h (long_enough h headed (cases_lt (length bytes) head_size)) headed in
        absurd (none-some c (sym (none_behind_in_short key h bytes lengths.0 lengths.1 short) ∙ is))
    by_length h headed is (inr long) = long

    by_head : (o : Option Head) → head_at key bytes ≡ o → option_and_then (λ h. cell_behind key h bytes) o ≡ Some c → cell_size c.head.configuration.symbol_size ≤ length bytes
    by_head None headed is = absurd (none-some c is)
    by_head (Some h) headed is =
        subst (λ k. cell_size k.configuration.symbol_size ≤ length bytes) (sym (behind-begins key h bytes c is).1)
        (by_length h headed is (cases_lt (length bytes) (cell_size h.configuration.symbol_size)))

module _ (w : Wish) where
  abbrev taken : Cell → Option Head
  taken c = if is_wanted w c.head then Some c.head else None

  abbrev test : Cell → Bool
  test c = is_wanted w c.head

  -- a wanted cell is as long as its head says
  found_is_long : (bytes : List ℕ) (h : Head) → wanted_at w bytes ≡ Some h → cell_size h.configuration.symbol_size ≤ length bytes
  found_is_long bytes h = by_cell (cell_at w.key bytes) refl
    where
      by_test : (c : Cell) (b : Bool) → cell_at w.key bytes ≡ Some c → (if b then Some c.head else None) ≡ Some h → cell_size h.configuration.symbol_size ≤ length bytes
      by_test c true found is = subst (λ k. cell_size k.configuration.symbol_size ≤ length bytes) (same_Some c.head h is) (whole w.key bytes c found)
      by_test c false found is = absurd (none-some h is)

      by_cell : (o : Option Cell) → cell_at w.key bytes ≡ o → option_and_then taken o ≡ Some h → cell_size h.configuration.symbol_size ≤ length bytes
      by_cell None found is = absurd (none-some h is)
      by_cell (Some c) found is = by_test c (is_wanted w c.head) found is

  module _ (s : Source) (same_key : s.key ≡ w.key) where
    -- where no wanted cell begins, none of the stream that is wanted does
    skipped : (bytes : List ℕ) (later : List Cell) → wanted_at w bytes ≡ None → filter test (cons_option (cell_of s bytes) later) ≡ filter test later
    skipped bytes later none = by_cell (cell_at s.key bytes) refl
      where
        by_test : (c : Cell) (b : Bool) → cell_at s.key bytes ≡ Some c → test c ≡ b → filter test (c ∷ later) ≡ filter test later
        by_test c true found e =
            absurd (none-some c.head (sym none ∙ ap (option_and_then taken) (ap (λ k. cell_at k bytes) (sym same_key) ∙ found) ∙ ap (λ b. if b then Some c.head else None) e))
        by_test c false found e = ap (λ b. if b then c ∷ filter test later else filter test later) e

        by_source : (c : Cell) (b : Bool) → cell_at s.key bytes ≡ Some c → filter test (cons_option (if b then Some c else None) later) ≡ filter test later
        by_source c true found = by_test c (test c) found refl
        by_source c false found = refl

        by_cell : (o : Option Cell) → cell_at s.key bytes ≡ o → filter test (cons_option (option_and_then (λ c. if is_of s c.head then Some c else None) o) later) ≡ filter test later
        by_cell None found = refl
        by_cell (Some c) found = by_source c (is_of s c.head) found

  pub nothing_before_first : (h : Head) (bytes rest : List ℕ) (at : ℕ) → IsFirstWanted w bytes at h
      → wanted_in w (source_of w.key h) (bytes ++ rest) ≡ wanted_in w (source_of w.key h) (drop at bytes ++ rest)
  nothing_before_first h bytes rest at first = up_to at (omega arith)
    where
      long : cell_size h.configuration.symbol_size ≤ length (drop at bytes)
      long = found_is_long (drop at bytes) h first.found

      settled : (here : List ℕ) → cell_size h.configuration.symbol_size ≤ length here → is_open (source_of w.key h) here ≡ false
      settled here enough =
          or_from (nat_lt (length here) head_size) (is_some (head_of (source_of w.key h) here) && not (is_long (source_of w.key h) here))
          (le-ltb (length here) head_size (omega (arith, enough)))
          (and_right (is_some (head_of (source_of w.key h) here)) (not (is_long (source_of w.key h) here))
          (ap not (le-leb (cell_size h.configuration.symbol_size) (length here) enough)))

      up_to : (i : ℕ) → i ≤ at
          → wanted_in w (source_of w.key h) (bytes ++ rest) ≡ wanted_in w (source_of w.key h) (drop i bytes ++ rest)
      up_to zero below = refl
      up_to (suc i) below =
          let s = source_of w.key h in
          let here = drop i bytes in
          let longer : cell_size h.configuration.symbol_size ≤ length here = omega (arith, below, long, length-drop at bytes, length-drop i bytes) in
          let next : i + 1 ≡ suc i = omega arith in
          up_to i (omega (arith, below))
          ∙ ap (filter test) (next_found (cell_of s) bytes rest i (omega (arith, below, first.within)) (stays s here rest (settled here longer)).cell)
          ∙ skipped s refl here (cells_in s (drop (i + 1) bytes ++ rest)) (first.first i (omega (arith, below)))
          ∙ ap (λ n. wanted_in w s (drop n bytes ++ rest)) next
