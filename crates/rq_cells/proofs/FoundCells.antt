-- A cell that stands anywhere in bytes is found, and bytes that are shorter than a cell hold none.
use Rattle.std.proofs.Common.{◌≡◌, ℕ, zero, suc, ◌+◌, ◌<◌, ◌≤◌, List, [], ◌∷◌, ◌++◌, length, drop, map, length-append, append_assoc, arith, refl, sym, ap, ◌∙◌, subst, Some, None, Option, true, false, cond, ◌&&◌, nat_eq, if◌then◌else◌, inl, inr}
use Rattle.std.specs.List.{All, Contains, cons_option}
use Rattle.std.specs.Prelude.{option_and_then, filter_map, count_by, is_some, is_none}
use Rattle.std.proofs.lemmas.Bool.{lt-leb, eq-eqb}
use Rattle.std.proofs.lemmas.List.{length-drop}
use Rattle.std.proofs.lemmas.List.Elements.{All-append, All-cons, All-nil, Contains-append_right, filter_map-append}
use Rattle.std.proofs.lemmas.List.Sums.{sum_by-cons, sum_by-append}
use Rattle.rq_cells.specs.declared.head.Head.{Head}
use Rattle.rq_cells.specs.declared.cell.Cell.{Cell}
use Rattle.rq_cells.specs.declared.long_heads.LongHead.{LongHead}
use Rattle.rq_cells.specs.declared.long_heads.LongHeads.{LongHeads}
use Rattle.rq_cells.specs.declared.scanner.Scan.{Scan}
use Rattle.rq_cells.specs.Cells.{Key, cell_bytes, cell_size, cell_at, IsCell}
use Rattle.rq_cells.specs.Found.{places, all_cells_in, Source, source_of, is_of, head_of, long_head_of, cell_of, is_damaged, cells_in, damaged_in, others_in}
use Rattle.rq_cells.specs.LongHeads.{IsHeaded, cell_there, is_damaged_there}
use Rattle.rq_cells.specs.Scans.{is_open, IsUnsettled, HasDigest, AreLongHeads, Settles, long_heads_before}
use Rattle.rq_cells.proofs.Beginnings.{same_bytes}
use Rattle.rq_cells.proofs.HeadBytes.{was_read}
use Rattle.rq_cells.proofs.CellBytes.{length-cell_bytes, cell_at-cell_bytes}
use Rattle.rq_cells.proofs.Scanning.{has_long, of_source, cell_of-short, cell_of-headed, stays, next_found, next_counted, append_found, long_head_there, StandsBefore, open_is_short}

found_later : {A : Type 0} (first : Option A) (xs : List A) (x : A) → Contains xs x → Contains (cons_option first xs) x
found_later None xs x h = h
found_later (Some y) xs x h = Contains-append_right (y ∷ []) xs x h

-- what is found where bytes begin is found wherever they stand
found_anywhere : {A : Type 0} (f : List ℕ → Option A) (before bytes : List ℕ) (x : A) → 0 < length bytes → f bytes ≡ Some x → Contains (filter_map f (places (before ++ bytes))) x
found_anywhere f [] [] x some is = absurd (omega (arith, some))
found_anywhere f [] (b ∷ bytes) x some is = subst (λ y. Contains (cons_option y (filter_map f (places bytes))) x) (sym is) (0, omega arith, refl)
found_anywhere f (a ∷ before) bytes x some is =
    found_later (f (a ∷ before ++ bytes)) (filter_map f (places (before ++ bytes))) x (found_anywhere f before bytes x some is)

-- a head is one of its own source
own_source : (key : Key) (h : Head) → is_of (source_of key h) h ≡ true
own_source key h =
    (λ i. same_bytes h.stream i && nat_eq h.configuration.symbol_size h.configuration.symbol_size)
    ∙ eq-eqb h.configuration.symbol_size h.configuration.symbol_size refl

cell_of-cell_bytes : (key : Key) (c : Cell) (rest : List ℕ) → IsCell c → cell_of (source_of key c.head) (cell_bytes key c ++ rest) ≡ Some c
cell_of-cell_bytes key c rest fits =
    let s = source_of key c.head in
    ap (option_and_then (λ k. if is_of s k.head then Some k else None)) (cell_at-cell_bytes key c rest fits)
    ∙ ap (λ b. if b then Some c else None) (own_source key c.head)

-- ---- short bytes

-- bytes that are shorter than a cell have no head of one that is long enough
short_head : (s : Source) (bytes : List ℕ) → length bytes < cell_size s.symbol_size → long_head_of s bytes ≡ None
short_head s bytes short = ap (λ b. if b then head_of s bytes else None) (lt-leb (cell_size s.symbol_size) (length bytes) short)

pub none_in_short_bytes : (s : Source) (bytes : List ℕ) → length bytes < cell_size s.symbol_size → cells_in s bytes ≡ []
none_in_short_bytes s [] short = refl
none_in_short_bytes s (b ∷ bytes) short =
    ap (λ x. cons_option x (cells_in s bytes)) (cell_of-short s (b ∷ bytes) (short_head s (b ∷ bytes) short)) ∙ none_in_short_bytes s bytes (omega (arith, short))

pub none_damaged_in_short : (s : Source) (bytes : List ℕ) → length bytes < cell_size s.symbol_size → damaged_in s bytes ≡ 0
none_damaged_in_short s [] short = refl
none_damaged_in_short s (b ∷ bytes) short =
    let one : List ℕ → ℕ = λ xs. cond (is_damaged s xs) 1 0 in
    let here : one (b ∷ bytes) ≡ 0 = ap (λ o. cond (is_some o && is_none (cell_of s (b ∷ bytes))) 1 0) (short_head s (b ∷ bytes) short) in
    omega (arith, sum_by-cons one (b ∷ bytes) (places bytes), here, none_damaged_in_short s bytes (omega (arith, short)))

module _ (key : Key) (before : List ℕ) (c : Cell) (rest : List ℕ) (fits : IsCell c) where
  some : 0 < length (cell_bytes key c ++ rest)
  some = omega (arith, length-append (cell_bytes key c) rest, length-cell_bytes key c)

  pub cell_found : Contains (all_cells_in key (before ++ cell_bytes key c ++ rest)) c
  cell_found =
      subst (λ xs. Contains (all_cells_in key xs) c) (sym (append_assoc before (cell_bytes key c) rest))
      (found_anywhere (cell_at key) before (cell_bytes key c ++ rest) c some (cell_at-cell_bytes key c rest fits))

  pub found_of_stream : Contains (cells_in (source_of key c.head) (before ++ cell_bytes key c ++ rest)) c
  found_of_stream =
      subst (λ xs. Contains (cells_in (source_of key c.head) xs) c) (sym (append_assoc before (cell_bytes key c) rest))
      (found_anywhere (cell_of (source_of key c.head)) before (cell_bytes key c ++ rest) c some (cell_of-cell_bytes key c rest fits))

-- ---- the cells behind the heads before a place

module _ (s : Source) (bytes : List ℕ) where
  abbrev heads_to : ℕ → List LongHead
  heads_to n = long_heads_before s bytes n

  abbrev AreSettled : ℕ → Type 0
  AreSettled n = (i : ℕ) → i < n → is_open s (drop i bytes) ≡ false

  one_cell : (n : ℕ) (o : Option Head) → long_head_of s (drop n bytes) ≡ o
      → filter_map (cell_there s.key bytes) (long_head_there o n) ≡ cons_option (cell_of s (drop n bytes)) []
  one_cell n None is = ap (λ x. cons_option x []) (sym (cell_of-short s (drop n bytes) is))
  one_cell n (Some h) is =
      let has = has_long s (drop n bytes) h is in
      ap (λ x. cons_option x []) (sym (cell_of-headed s (drop n bytes) h has.headed has.of))

  pub cells_before : (n : ℕ) → n ≤ length bytes → AreSettled n → (rest : List ℕ)
      → cells_in s (bytes ++ rest) ≡ filter_map (cell_there s.key bytes) (heads_to n) ++ cells_in s (drop n bytes ++ rest)
  cells_before zero within settled rest = refl
  cells_before (suc n) within settled rest =
      let here = drop n bytes in
      let there = cell_there s.key bytes in
      let next : n + 1 ≡ suc n = omega arith in
      let behind = cells_in s (drop (n + 1) bytes ++ rest) in
      let same = stays s here rest (settled n (omega arith)) in
      cells_before n (omega (arith, within)) (λ i below. settled i (omega (arith, below))) rest
      ∙ ap (λ xs. filter_map there (heads_to n) ++ xs) (next_found (cell_of s) bytes rest n (omega (arith, within)) same.cell)
      ∙ append_found (filter_map there (heads_to n)) (cell_of s here) behind
      ∙ ap (λ xs. filter_map there (heads_to n) ++ xs ++ behind) (sym (one_cell n (long_head_of s here) refl))
      ∙ ap (λ xs. xs ++ behind) (sym (filter_map-append there (heads_to n) (long_head_there (long_head_of s here) n)))
      ∙ ap (λ k. filter_map there (heads_to (suc n)) ++ cells_in s (drop k bytes ++ rest)) next

  one_damaged : (n : ℕ) (o : Option Head) → long_head_of s (drop n bytes) ≡ o
      → count_by (is_damaged_there s.key bytes) (long_head_there o n) ≡ cond (is_damaged s (drop n bytes)) 1 0
  one_damaged n None is = ap (λ o. cond (is_some o && is_none (cell_of s (drop n bytes))) 1 0) (sym is)
  one_damaged n (Some h) is =
      let has = has_long s (drop n bytes) h is in
      let one : LongHead → ℕ = λ x. cond (is_damaged_there s.key bytes x) 1 0 in
      let alone = sum_by-cons one (record { at = n; head = h }) [] in
      let same : one (record { at = n; head = h }) ≡ cond (is_damaged s (drop n bytes)) 1 0 =
      (λ i. cond (is_some (sym is i) && is_none (sym (cell_of-headed s (drop n bytes) h has.headed has.of) i)) 1 0) in
      omega (arith, alone, same)

  pub damaged_before : (n : ℕ) → n ≤ length bytes → AreSettled n → (rest : List ℕ)
      → damaged_in s (bytes ++ rest) ≡ count_by (is_damaged_there s.key bytes) (heads_to n) + damaged_in s (drop n bytes ++ rest)
  damaged_before zero within settled rest = omega arith
  damaged_before (suc n) within settled rest =
      let here = drop n bytes in
      let one : LongHead → ℕ = λ x. cond (is_damaged_there s.key bytes x) 1 0 in
      let next : n + 1 ≡ suc n = omega arith in
      let same = stays s here rest (settled n (omega arith)) in
      let before = damaged_before n (omega (arith, within)) (λ i below. settled i (omega (arith, below))) rest in
      let further = next_counted (is_damaged s) bytes rest n (omega (arith, within)) same.damaged in
      let both = sum_by-append one (heads_to n) (long_head_there (long_head_of s here) n) in
      let last = one_damaged n (long_head_of s here) refl in
      let moved = ap (λ k. damaged_in s (drop k bytes ++ rest)) next in
      omega (arith, before, further, both, last, moved)

  one_headed : (n : ℕ) (o : Option Head) → long_head_of s (drop n bytes) ≡ o → All (IsHeaded s.key s.symbol_size bytes) (long_head_there o n)
  one_headed n None is = All-nil (IsHeaded s.key s.symbol_size bytes)
  one_headed n (Some h) is =
      let has = has_long s (drop n bytes) h is in
      All-cons (IsHeaded s.key s.symbol_size bytes) (record { at = n; head = h }) [] (record {
        long = omega (arith, has.long, length-drop n bytes);
        size = of_source s h has.of;
        starts = (was_read s.key (drop n bytes) h has.headed).starts;
      }) (All-nil (IsHeaded s.key s.symbol_size bytes))

  pub headed_before : (n : ℕ) → All (IsHeaded s.key s.symbol_size bytes) (heads_to n)
  headed_before zero = All-nil (IsHeaded s.key s.symbol_size bytes)
  headed_before (suc n) =
      All-append (IsHeaded s.key s.symbol_size bytes) (heads_to n) (long_head_there (long_head_of s (drop n bytes)) n) (headed_before n)
      (one_headed n (long_head_of s (drop n bytes)) refl)

-- where a scan stops
pub settles_there : (s : Source) (bytes : List ℕ) (found : LongHeads) (scan : Scan) → AreLongHeads s bytes found
    → scan.places ≡ found.places → scan.others ≡ found.others
    → map (λ k. k.cell) scan.cells.items ≡ filter_map (cell_there s.key bytes) found.heads.items
    → All HasDigest scan.cells.items
    → scan.damaged ≡ count_by (is_damaged_there s.key bytes) found.heads.items
    → Settles s bytes scan
settles_there s bytes found scan are same_places same_others cells digests damaged = record {
  within = subst (λ n. n ≤ length bytes) (sym same_places) are.within;
  few = omega (arith, few are.stopped, length-drop found.places bytes, same_places);
  stopped = subst (λ n. IsUnsettled s (drop n bytes)) (sym same_places) are.stopped;
  none = subst (λ n. cells_in s (drop n bytes) ≡ []) (sym same_places) (none_in_short_bytes s (drop found.places bytes) (few are.stopped));
  no_damaged = subst (λ n. damaged_in s (drop n bytes) ≡ 0) (sym same_places) (none_damaged_in_short s (drop found.places bytes) (few are.stopped));
  cells = λ rest.
      cells_before s bytes found.places are.within are.settled rest
      ∙ (λ i. filter_map (cell_there s.key bytes) (sym are.heads i) ++ cells_in s (drop (sym same_places i) bytes ++ rest))
      ∙ ap (λ xs. xs ++ cells_in s (drop scan.places bytes ++ rest)) (sym cells);
  digests = digests;
  damaged = λ rest.
      let counted = ap (count_by (is_damaged_there s.key bytes)) are.heads in
      let moved = ap (λ n. damaged_in s (drop n bytes ++ rest)) same_places in
      omega (arith, damaged_before s bytes found.places are.within are.settled rest, damaged, counted, moved);
  others = λ rest.
      let moved = ap (λ n. others_in s (drop n bytes ++ rest)) same_places in
      omega (arith, are.others rest, same_others, moved);
}
  where
    few : IsUnsettled s (drop found.places bytes) → length (drop found.places bytes) < cell_size s.symbol_size
    few (inl none) = let size = ap length none in omega (arith, size)
    few (inr open_there) = open_is_short s (drop found.places bytes) open_there

-- where the first pass stops
pub long_heads_there : (s : Source) (bytes : List ℕ) (found : LongHeads) → StandsBefore s bytes found.places found.heads.items found.others
    → IsUnsettled s (drop found.places bytes) → AreLongHeads s bytes found
long_heads_there s bytes found before stopped = record {
  within = before.within;
  settled = before.settled;
  stopped = stopped;
  heads = before.heads_are;
  others = before.others_are;
}
