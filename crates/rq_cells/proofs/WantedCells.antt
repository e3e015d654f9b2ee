-- The first wanted cell among any bytes.
use Rattle.std.proofs.Common.{◌≡◌, ℕ, zero, suc, ◌+◌, ◌<◌, ◌≤◌, List, [], ◌∷◌, ◌++◌, length, take, drop, arith, refl, sym, ap, subst, ◌∙◌, Some, None, Option, Bool, true, false, cond, not, ◌&&◌, ◌||◌, nat_le, nat_lt, get_or, length-append, append-nil, zero-add, if◌then◌else◌, drop-cons, ◌⊎◌, inl, inr}
use Rattle.std.specs.Prelude.{option_and_then, option_map, unwrap_or, is_none}
use Rattle.std.specs.Option.{option_or}
use Rattle.std.proofs.lemmas.List.{length-drop, drop-append-le}
use Rattle.std.proofs.lemmas.List.Sums.{sum_by-cons}
use Rattle.std.proofs.lemmas.Option.{none-some}
use Rattle.std.proofs.lemmas.Bool.{le-ltb, lt-ltb, le-leb, lt-leb, ltb-false, or_parts, or_left, and_left, and_right, cases_lt}
use Rattle.rq_cells.specs.declared.head.Head.{Head}
use Rattle.rq_cells.specs.declared.cell.Cell.{Cell}
use Rattle.rq_cells.specs.declared.wanted.Heads.{Heads}
use Rattle.rq_cells.specs.Cells.{Key, head_size, cell_size, head_at, cell_behind, cell_at}
use Rattle.rq_cells.specs.Found.{places}
use Rattle.rq_cells.specs.Wanted.{Wish, is_wanted, wanted_at, is_begun, is_undecided, is_long_enough, is_wanted_damaged, is_unwanted, HasNone, NoneBefore, count_before, AreHeads, HasNoWanted}
use Rattle.rq_cells.specs.Search.{SearchedTo}
use Rattle.rq_cells.proofs.HeadBytes.{parts_in_long, none_in_short}
use Rattle.rq_cells.proofs.CellBytes.{behind-begins, none_behind_in_short}
use Rattle.rq_cells.proofs.Scanning.{same_head_at, same_cell_behind, one_at_most}

-- ---- what a place is found to be

module _ (w : Wish) (bytes : List ℕ) where
  abbrev taken : Option Cell → Option Head
  taken o = option_and_then (λ c. if is_wanted w c.head then Some c.head else None) o

  -- nothing stands there but what a head says
  headless : (undecided : Bool) → is_undecided w bytes ≡ undecided → head_at w.key bytes ≡ None → HasNone w bytes undecided false false
  headless undecided e none = record {
    undecided_is = e;
    none = ap (λ o. taken (option_and_then (λ h. cell_behind w.key h bytes) o)) none;
    damaged = and_left (unwrap_or (option_map (is_long_enough w bytes) (head_at w.key bytes)) false) (is_none (cell_at w.key bytes)) (ap (λ o. unwrap_or (option_map (is_long_enough w bytes) o) false) none);
    other = ap (λ o. unwrap_or (option_map (λ h. not (is_wanted w h)) o) false) none;
  }

  pub open_where_short : length bytes < head_size → HasNone w bytes true false false
  open_where_short short =
      headless true
      (or_left (nat_lt (length bytes) head_size) (unwrap_or (option_map (is_begun w bytes) (head_at w.key bytes)) false) (lt-ltb (length bytes) head_size short))
      (none_in_short w.key bytes short)

  module _ (long : head_size ≤ length bytes) where
    decided_by : (b : Bool) → unwrap_or (option_map (is_begun w bytes) (head_at w.key bytes)) false ≡ b → is_undecided w bytes ≡ b
    decided_by b e = (λ i. le-ltb (length bytes) head_size long i || e i)

    pub nothing_without_head : head_at w.key bytes ≡ None → HasNone w bytes false false false
    nothing_without_head none = headless false (decided_by false (ap (λ o. unwrap_or (option_map (is_begun w bytes) o) false) none)) none

    module _ (h : Head) (headed : head_at w.key bytes ≡ Some h) where
      begun_by : (b : Bool) → is_begun w bytes h ≡ b → is_undecided w bytes ≡ b
      begun_by b e = decided_by b (ap (λ o. unwrap_or (option_map (is_begun w bytes) o) false) headed ∙ e)

      -- the wanted cell, by the one behind the head
      by_cell : (o : Option Cell) → cell_behind w.key h bytes ≡ o → wanted_at w bytes ≡ taken o
      by_cell o is = ap taken (ap (option_and_then (λ k. cell_behind w.key k bytes)) headed ∙ is)

      damaged_by : (b d : Bool) → is_long_enough w bytes h ≡ b → is_none (cell_behind w.key h bytes) ≡ d → is_wanted_damaged w bytes ≡ b && d
      damaged_by b d e none =
          (λ i. unwrap_or (option_map (is_long_enough w bytes) (headed i)) false && is_none (option_and_then (λ k. cell_behind w.key k bytes) (headed i)))
          ∙ (λ i. e i && none i)

      unwanted_by : (b : Bool) → is_wanted w h ≡ b → is_unwanted w bytes ≡ not b
      unwanted_by b e = ap (λ o. unwrap_or (option_map (λ k. not (is_wanted w k)) o) false) headed ∙ ap not e

      pub other_head : is_wanted w h ≡ false → HasNone w bytes false false true
      other_head e = record {
        undecided_is = begun_by false (and_left (is_wanted w h) (nat_lt (length bytes) (cell_size h.configuration.symbol_size)) e);
        none = by (cell_behind w.key h bytes) refl;
        damaged = damaged_by false (is_none (cell_behind w.key h bytes)) (and_left (is_wanted w h) (nat_le (cell_size h.configuration.symbol_size) (length bytes)) e) refl;
        other = unwanted_by false e;
      }
        where
          by : (o : Option Cell) → cell_behind w.key h bytes ≡ o → wanted_at w bytes ≡ None
          by None is = by_cell None is
          by (Some c) is =
              by_cell (Some c) is
              ∙ ap (λ b. if b then Some c.head else None) (ap (is_wanted w) (behind-begins w.key h bytes c is).1 ∙ e)

      module _ (wanted : is_wanted w h ≡ true) where
        lengths : (length h.stream ≡ 8) × (length h.name ≡ 16)
        lengths = parts_in_long w.key bytes h long headed

        pub open_begun : length bytes < cell_size h.configuration.symbol_size → HasNone w bytes true false false
        open_begun short = record {
          undecided_is = begun_by true (λ i. wanted i && lt-ltb (length bytes) (cell_size h.configuration.symbol_size) short i);
          none = by_cell None (none_behind_in_short w.key h bytes lengths.0 lengths.1 short);
          damaged =
              damaged_by false (is_none (cell_behind w.key h bytes))
              (and_right (is_wanted w h) (nat_le (cell_size h.configuration.symbol_size) (length bytes)) (lt-leb (cell_size h.configuration.symbol_size) (length bytes) short)) refl;
          other = unwanted_by true wanted;
        }

        module _ (whole : cell_size h.configuration.symbol_size ≤ length bytes) where
          decided_whole : is_undecided w bytes ≡ false
          decided_whole = begun_by false (and_right (is_wanted w h) (nat_lt (length bytes) (cell_size h.configuration.symbol_size)) (le-ltb (length bytes) (cell_size h.configuration.symbol_size) whole))

          long_whole : is_long_enough w bytes h ≡ true
          long_whole = λ i. wanted i && le-leb (cell_size h.configuration.symbol_size) (length bytes) whole i

          pub damaged_cell : cell_behind w.key h bytes ≡ None → HasNone w bytes false true false
          damaged_cell none = record {
            undecided_is = decided_whole;
            none = by_cell None none;
            damaged = damaged_by true true long_whole (ap is_none none);
            other = unwanted_by true wanted;
          }

        pub found_cell : (c : Cell) → cell_behind w.key h bytes ≡ Some c → wanted_at w bytes ≡ Some c.head
        found_cell c is =
            by_cell (Some c) is
            ∙ ap (λ b. if b then Some c.head else None) (ap (is_wanted w) (behind-begins w.key h bytes c is).1 ∙ wanted)

-- bytes that begin with a head hold one
pub headed_is_long : (key : Key) (bytes : List ℕ) (h : Head) → head_at key bytes ≡ Some h → head_size ≤ length bytes
headed_is_long key bytes h headed = by (cases_lt (length bytes) head_size)
  where
    by : (length bytes < head_size) ⊎ (head_size ≤ length bytes) → head_size ≤ length bytes
    by (inl short) = absurd (none-some h (sym (none_in_short key bytes short) ∙ headed))
    by (inr long) = long

-- ---- what stays, whatever comes behind the bytes

-- at a place that is decided
pub record StaysThere (w : Wish) (bytes rest : List ℕ) : Type 0 where
  pub wanted : wanted_at w (bytes ++ rest) ≡ wanted_at w bytes
  pub damaged : is_wanted_damaged w (bytes ++ rest) ≡ is_wanted_damaged w bytes
  pub other : is_unwanted w (bytes ++ rest) ≡ is_unwanted w bytes

module _ (w : Wish) (bytes rest : List ℕ) where
  -- two beginnings of which the same is said
  both_none : (d o : Bool) → HasNone w (bytes ++ rest) false d o → HasNone w bytes false d o → StaysThere w bytes rest
  both_none d o longer here = record { wanted = longer.none ∙ sym here.none; damaged = longer.damaged ∙ sym here.damaged; other = longer.other ∙ sym here.other }

  pub stays_there : is_undecided w bytes ≡ false → StaysThere w bytes rest
  stays_there decided = by_head (head_at w.key bytes) refl parts.1
    where
      parts : (nat_lt (length bytes) head_size ≡ false) × (unwrap_or (option_map (is_begun w bytes) (head_at w.key bytes)) false ≡ false)
      parts = or_parts (nat_lt (length bytes) head_size) (unwrap_or (option_map (is_begun w bytes) (head_at w.key bytes)) false) decided

      long : head_size ≤ length bytes
      long = ltb-false (length bytes) head_size parts.0

      longer : head_size ≤ length (bytes ++ rest)
      longer = omega (arith, long, length-append bytes rest)

      by_wanted : (h : Head) → head_at w.key bytes ≡ Some h → (b : Bool) → is_wanted w h ≡ b → is_begun w bytes h ≡ false → StaysThere w bytes rest
      by_wanted h is false e begun =
          both_none false true (other_head w (bytes ++ rest) longer h (same_head_at bytes rest long w.key ∙ is) e) (other_head w bytes long h is e)
      by_wanted h is true e begun =
          let whole : cell_size h.configuration.symbol_size ≤ length bytes =
          ltb-false (length bytes) (cell_size h.configuration.symbol_size) (sym (ap (λ b. b && nat_lt (length bytes) (cell_size h.configuration.symbol_size)) e) ∙ begun) in
          let all : cell_size h.configuration.symbol_size ≤ length (bytes ++ rest) = omega (arith, whole, length-append bytes rest) in
          let headed = same_head_at bytes rest long w.key ∙ is in
          let lengths = parts_in_long w.key bytes h long is in
          let same = same_cell_behind w.key h bytes rest lengths.0 lengths.1 whole in
          let none = ap is_none same in
          record {
            wanted = by_cell w (bytes ++ rest) longer h headed (cell_behind w.key h bytes) same ∙ sym (by_cell w bytes long h is (cell_behind w.key h bytes) refl);
            damaged =
                damaged_by w (bytes ++ rest) longer h headed true (is_none (cell_behind w.key h bytes)) (long_whole w (bytes ++ rest) longer h headed e all) none
                ∙ sym (damaged_by w bytes long h is true (is_none (cell_behind w.key h bytes)) (long_whole w bytes long h is e whole) refl);
            other = unwanted_by w (bytes ++ rest) longer h headed true e ∙ sym (unwanted_by w bytes long h is true e);
          }

      by_head : (o : Option Head) → head_at w.key bytes ≡ o → unwrap_or (option_map (is_begun w bytes) o) false ≡ false → StaysThere w bytes rest
      by_head None is e =
          both_none false false (nothing_without_head w (bytes ++ rest) longer (same_head_at bytes rest long w.key ∙ is)) (nothing_without_head w bytes long is)
      by_head (Some h) is e = by_wanted h is (is_wanted w h) refl e

-- ---- how many of the first places

none_of_nil : (p : List ℕ → Bool) (n : ℕ) → count_before p [] n ≡ 0
none_of_nil p zero = refl
none_of_nil p (suc n) = refl

-- those at the next n places are those at the first n behind the first m
pub count_further : (p : List ℕ → Bool) (bytes : List ℕ) (m n : ℕ) → count_before p bytes (m + n) ≡ count_before p bytes m + count_before p (drop m bytes) n
count_further p bytes zero n = ap (count_before p bytes) (zero-add n) ∙ sym (zero-add (count_before p bytes n))
count_further p [] (suc m) n = let all = none_of_nil p (suc m + n) in let rest = none_of_nil p n in omega (arith, all, rest)
count_further p (b ∷ bytes) (suc m) n =
    let one : List ℕ → ℕ = λ xs. cond (p xs) 1 0 in
    let all : count_before p (b ∷ bytes) (suc (m + n)) ≡ one (b ∷ bytes) + count_before p bytes (m + n) = sum_by-cons one (b ∷ bytes) (take (m + n) (places bytes)) in
    let front : count_before p (b ∷ bytes) (suc m) ≡ one (b ∷ bytes) + count_before p bytes m = sum_by-cons one (b ∷ bytes) (take m (places bytes)) in
    let sum : suc m + n ≡ suc (m + n) = omega arith in
    let same = ap (count_before p (b ∷ bytes)) sum in
    let rest = count_further p bytes m n in
    omega (arith, all, front, same, rest)

-- one place more
pub count_next : (p : List ℕ → Bool) (bytes rest : List ℕ) (i : ℕ) → i < length bytes → p (drop i bytes ++ rest) ≡ p (drop i bytes)
    → count_before p (bytes ++ rest) (i + 1) ≡ count_before p (bytes ++ rest) i + cond (p (drop i bytes)) 1 0
count_next p bytes rest i below same =
    let one : List ℕ → ℕ = λ xs. cond (p xs) 1 0 in
    let first = get_or bytes i 0 in
    let behind = drop (suc i) bytes in
    let is : drop i (bytes ++ rest) ≡ first ∷ (behind ++ rest) =
    drop-append-le i bytes rest (omega (arith, below)) ∙ ap (λ xs. xs ++ rest) (drop-cons bytes i 0 below) in
    let here : count_before p (first ∷ (behind ++ rest)) 1 ≡ one (first ∷ (behind ++ rest)) = sum_by-cons one (first ∷ (behind ++ rest)) [] ∙ omega arith in
    let value : one (first ∷ (behind ++ rest)) ≡ one (drop i bytes) =
    ap one (sym (ap (λ xs. xs ++ rest) (drop-cons bytes i 0 below))) ∙ ap (λ b. cond b 1 0) same in
    let last : count_before p (drop i (bytes ++ rest)) 1 ≡ one (drop i bytes) = ap (λ xs. count_before p xs 1) is ∙ here ∙ value in
    omega (arith, count_further p (bytes ++ rest) i 1, last)

-- ---- a search so far

none_more : (w : Wish) (bytes : List ℕ) (i : ℕ) → NoneBefore w bytes i → wanted_at w (drop i bytes) ≡ None → NoneBefore w bytes (i + 1)
none_more w bytes i before here j below = by (cases_lt j i)
  where
    by : (j < i) ⊎ (i ≤ j) → wanted_at w (drop j bytes) ≡ None
    by (inl less) = before j less
    by (inr more) = let same : i ≡ j = omega (arith, more, below) in subst (λ k. wanted_at w (drop k bytes) ≡ None) same here

-- the heads at one place more
heads_more : (w : Wish) (bytes rest : List ℕ) (i : ℕ) (heads heads' : Heads) (d o : Bool) → i < length bytes
    → is_wanted_damaged w (drop i bytes) ≡ d → is_wanted_damaged w (drop i bytes ++ rest) ≡ d
    → is_unwanted w (drop i bytes) ≡ o → is_unwanted w (drop i bytes ++ rest) ≡ o
    → heads'.damaged ≡ heads.damaged + cond d 1 0 → heads'.others ≡ heads.others + cond o 1 0
    → AreHeads w (bytes ++ rest) i heads → AreHeads w (bytes ++ rest) (i + 1) heads'
heads_more w bytes rest i heads heads' d o below damaged damaged_still other other_still more_damaged more_others before =
    let dp = is_wanted_damaged w in
    let op = is_unwanted w in
    let one : Bool → ℕ = λ b. cond b 1 0 in
    let one_d = ap one damaged in
    let one_o = ap one other in
    let next_d = count_next dp bytes rest i below (damaged_still ∙ sym damaged) in
    let next_o = count_next op bytes rest i below (other_still ∙ sym other) in
    record { damaged = omega (arith, more_damaged, before.damaged, one_d, next_d); others = omega (arith, more_others, before.others, one_o, next_o) }

flat_heads : (w : Wish) (bytes : List ℕ) (i : ℕ) (heads : Heads) → AreHeads w bytes i heads → AreHeads w (bytes ++ []) i heads
flat_heads w bytes i heads are = subst (λ xs. AreHeads w xs i heads) (sym (append-nil bytes)) are

module _ (w : Wish) (bytes : List ℕ) (i : ℕ) (heads heads' : Heads) (u d o : Bool) (here : HasNone w (drop i bytes) u d o) (below : i < length bytes)
    (more_damaged : heads'.damaged ≡ heads.damaged + cond d 1 0) (more_others : heads'.others ≡ heads.others + cond o 1 0) where
  all_more : AreHeads w bytes i heads → AreHeads w bytes (i + 1) heads'
  all_more before =
      let at_end : AreHeads w (bytes ++ []) (i + 1) heads' =
      heads_more w bytes [] i heads heads' d o below here.damaged (ap (is_wanted_damaged w) (append-nil (drop i bytes)) ∙ here.damaged)
      here.other (ap (is_unwanted w) (append-nil (drop i bytes)) ∙ here.other) more_damaged more_others (flat_heads w bytes i heads before) in
      subst (λ xs. AreHeads w xs (i + 1) heads') (append-nil bytes) at_end

  few_more : (heads.damaged ≤ i) × (heads.others ≤ i) → (heads'.damaged ≤ i + 1) × (heads'.others ≤ i + 1)
  few_more few = (omega (arith, few.0, more_damaged, one_at_most d), omega (arith, few.1, more_others, one_at_most o))

  -- behind a place that stays open nothing is told any more
  searched_still : (p : ℕ × Heads) → SearchedTo w bytes i heads (Some p) → SearchedTo w bytes (i + 1) heads' (Some p)
  searched_still p before = record {
    none = none_more w bytes i before.none here.none;
    all = all_more before.all;
    few = few_more before.few;
    never = before.never;
    before = before.before;
    opened = (omega (arith, before.opened.0), before.opened.1, before.opened.2);
    settled = before.settled;
  }

  pub searched_more : (pending : Option (ℕ × Heads)) → u ≡ false → SearchedTo w bytes i heads pending → SearchedTo w bytes (i + 1) heads' pending
  searched_more None decided before = record {
    none = none_more w bytes i before.none here.none;
    all = all_more before.all;
    few = few_more before.few;
    never = λ rest j less. never rest j (cases_lt j i) less;
    before = λ rest.
        let stay = stays_there w (drop i bytes) rest (here.undecided_is ∙ decided) in
        heads_more w bytes rest i heads heads' d o below here.damaged (stay.damaged ∙ here.damaged) here.other (stay.other ∙ here.other) more_damaged more_others (before.before rest);
    opened = tt;
    settled = λ j less. settled j (cases_lt j i) less;
  }
    where
      settled : (j : ℕ) → (j < i) ⊎ (i ≤ j) → j < i + 1 → is_undecided w (drop j bytes) ≡ false
      settled j (inl less) _ = before.settled j less
      settled j (inr more) less =
          let same : i ≡ j = omega (arith, more, less) in
          subst (λ k. is_undecided w (drop k bytes) ≡ false) same (here.undecided_is ∙ decided)

      never : (rest : List ℕ) (j : ℕ) → (j < i) ⊎ (i ≤ j) → j < i + 1 → wanted_at w (drop j bytes ++ rest) ≡ None
      never rest j (inl less) _ = before.never rest j less
      never rest j (inr more) less =
          let same : i ≡ j = omega (arith, more, less) in
          subst (λ k. wanted_at w (drop k bytes ++ rest) ≡ None) same ((stays_there w (drop i bytes) rest (here.undecided_is ∙ decided)).wanted ∙ here.none)
  searched_more (Some p) decided before = searched_still p before

  pub searched_open : (pending : Option (ℕ × Heads)) → u ≡ true → length (drop i bytes) < 65599
      → SearchedTo w bytes i heads pending → SearchedTo w bytes (i + 1) heads' (option_or pending (Some (i, heads)))
  searched_open None is_open short before = record {
    none = none_more w bytes i before.none here.none;
    all = all_more before.all;
    few = few_more before.few;
    never = before.never;
    before = before.before;
    opened = (omega arith, omega (arith, short, length-drop i bytes), here.undecided_is ∙ is_open);
    settled = before.settled;
  }
  searched_open (Some p) is_open short before = searched_still p before

-- all places were looked at
searched_all : (w : Wish) (bytes : List ℕ) (i : ℕ) (heads : Heads) (pending : Option (ℕ × Heads)) → i ≡ length bytes
    → SearchedTo w bytes i heads pending
    → HasNoWanted w bytes (unwrap_or pending (length bytes, heads)).0 (unwrap_or pending (length bytes, heads)).1 heads
searched_all w bytes i heads None is before = record {
  within = omega arith;
  few = omega arith;
  settled = λ j below. before.settled j (omega (arith, below, is));
  stopped =
      or_left (nat_lt (length (drop (length bytes) bytes)) head_size)
      (unwrap_or (option_map (is_begun w (drop (length bytes) bytes)) (head_at w.key (drop (length bytes) bytes))) false)
      (lt-ltb (length (drop (length bytes) bytes)) head_size (omega (arith, length-drop (length bytes) bytes)));
  none = λ j below. before.none j (omega (arith, below, is));
  never = λ rest j below. before.never rest j (omega (arith, below, is));
  before = λ rest. subst (λ n. AreHeads w (bytes ++ rest) n heads) is (before.before rest);
  all = subst (λ n. AreHeads w bytes n heads) is before.all;
}
searched_all w bytes i heads (Some p) is before = record {
  within = omega (arith, before.opened.0, is);
  few = before.opened.1;
  settled = before.settled;
  stopped = before.opened.2;
  none = λ j below. before.none j (omega (arith, below, is));
  never = before.never;
  before = before.before;
  all = subst (λ n. AreHeads w bytes n heads) is before.all;
}

-- an open place, or one that becomes the first open one
first_open : (w : Wish) (bytes : List ℕ) (i : ℕ) (heads : Heads) (p : Option (ℕ × Heads))
    → HasNoWanted w bytes (unwrap_or (option_or p (Some (i, heads))) (i + 1, heads)).0 (unwrap_or (option_or p (Some (i, heads))) (i + 1, heads)).1 heads
    → HasNoWanted w bytes (unwrap_or p (i, heads)).0 (unwrap_or p (i, heads)).1 heads
first_open w bytes i heads None none = none
first_open w bytes i heads (Some q) none = none

-- all places were looked at but those behind which too few bytes stand for a head
pub searched_long : (w : Wish) (bytes : List ℕ) (left i : ℕ) (heads : Heads) (pending : Option (ℕ × Heads)) → i + left ≡ length bytes → left < head_size
    → SearchedTo w bytes i heads pending
    → HasNoWanted w bytes (unwrap_or pending (i, heads)).0 (unwrap_or pending (i, heads)).1 heads
searched_long w bytes zero i heads pending all few before =
    let is : i ≡ length bytes = omega (arith, all) in
    subst (λ n. HasNoWanted w bytes (unwrap_or pending (n, heads)).0 (unwrap_or pending (n, heads)).1 heads) (sym is)
    (searched_all w bytes i heads pending is before)
searched_long w bytes (suc left) i heads pending all few before =
    let short : length (drop i bytes) < head_size = omega (arith, all, few, length-drop i bytes) in
    first_open w bytes i heads pending
    (searched_long w bytes left (i + 1) heads (option_or pending (Some (i, heads))) (omega (arith, all)) (omega (arith, few))
    (searched_open w bytes i heads heads true false false (open_where_short w (drop i bytes) short) (omega (arith, all)) (omega arith) (omega arith)
    pending refl (omega (arith, short)) before))
