-- What is known of heads, and the list of it.
use Rattle.std.proofs.Common.{◌≡◌, ℕ, zero, suc, ◌+◌, ◌<◌, ◌≤◌, List, [], ◌∷◌, ◌++◌, length, take, drop, arith, refl, sym, ap, subst, ◌∙◌, Some, None, Option, Bool, true, false, nat_lt, get_or, length-append, append-nil, if◌then◌else◌, ◌⊎◌, inl, inr}
use Rattle.std.specs.List.{cons_option}
use Rattle.std.specs.Prelude.{option_map}
use Rattle.std.proofs.lemmas.List.{take-append-le, take_all, get_or_append_left, get_or_push}
use Rattle.std.proofs.lemmas.Bool.{lt-ltb, le-ltb, ltb-false, cases_lt}
use Rattle.std.proofs.lemmas.Option.{none-some, same_Some}
use Rattle.rq_cells.specs.declared.head.Head.{Head}
use Rattle.rq_cells.specs.declared.cell.Cell.{Cell}
use Rattle.rq_cells.specs.declared.wanted.Note.{Note}
use Rattle.rq_cells.specs.declared.wanted.Note.TheVariants as N
use Rattle.rq_cells.specs.declared.search.Noted.{Noted}
use Rattle.rq_cells.specs.Cells.{head_size, cell_size, head_at, cell_behind}
use Rattle.rq_cells.specs.Wanted.{Wish, is_wanted, wanted_at, note_of, note_at, IsNoted, WasNoted}
use Rattle.rq_cells.specs.Search.{noted_before}
use Rattle.rq_cells.proofs.HeadBytes.{parts_in_long}
use Rattle.rq_cells.proofs.Scanning.{same_head_at, same_cell_behind}
use Rattle.rq_cells.proofs.WantedCells.{open_begun, other_head, damaged_cell, found_cell}

-- ---- what is known of one

module _ (w : Wish) (bytes : List ℕ) (long : head_size ≤ length bytes) (h : Head) (headed : head_at w.key bytes ≡ Some h) where
  abbrev note_by : Bool → Bool → Note
  note_by wanted short = if wanted then (if short then N.Begun h else N.Damaged) else N.Other

  noted_by : (b s : Bool) → is_wanted w h ≡ b → nat_lt (length bytes) (cell_size h.configuration.symbol_size) ≡ s → note_at w bytes ≡ Some (note_by b s)
  noted_by b s wanted short = ap (option_map (note_of w bytes)) headed ∙ (λ i. Some (note_by (wanted i) (short i)))

  pub other_noted : is_wanted w h ≡ false → IsNoted w bytes N.Other
  other_noted e = record {
    long = long;
    noted = noted_by false (nat_lt (length bytes) (cell_size h.configuration.symbol_size)) e refl;
    fits = other_head w bytes long h headed e;
  }

  pub begun_noted : is_wanted w h ≡ true → length bytes < cell_size h.configuration.symbol_size → length bytes < 65599 → IsNoted w bytes (N.Begun h)
  begun_noted e short few = record {
    long = long;
    noted = noted_by true true e (lt-ltb (length bytes) (cell_size h.configuration.symbol_size) short);
    fits = (open_begun w bytes long h headed e short, few);
  }

  pub damaged_noted : is_wanted w h ≡ true → cell_size h.configuration.symbol_size ≤ length bytes → cell_behind w.key h bytes ≡ None → IsNoted w bytes N.Damaged
  damaged_noted e whole none = record {
    long = long;
    noted = noted_by true false e (le-ltb (length bytes) (cell_size h.configuration.symbol_size) whole);
    fits = damaged_cell w bytes long h headed e whole none;
  }

-- and when more bytes stand there
module _ (w : Wish) (bytes rest : List ℕ) (note : Note) (long : head_size ≤ length bytes) (none : wanted_at w bytes ≡ None) (noted : note_at w bytes ≡ Some note) where
  longer : head_size ≤ length (bytes ++ rest)
  longer = omega (arith, long, length-append bytes rest)

  module _ (h : Head) (headed : head_at w.key bytes ≡ Some h) where
    still : head_at w.key (bytes ++ rest) ≡ Some h
    still = same_head_at bytes rest long w.key ∙ headed

    is_it : (n : Note) → note_at w bytes ≡ Some n → WasNoted w (bytes ++ rest) n → WasNoted w (bytes ++ rest) note
    is_it n e was = subst (WasNoted w (bytes ++ rest)) (same_Some n note (sym e ∙ noted)) was

    by_cell : is_wanted w h ≡ true → cell_size h.configuration.symbol_size ≤ length bytes → (o : Option Cell) → cell_behind w.key h bytes ≡ o
        → IsNoted w (bytes ++ rest) N.Damaged
    by_cell wanted whole (Some c) is = absurd (none-some c.head (sym none ∙ found_cell w bytes long h headed wanted c is))
    by_cell wanted whole None is =
        let lengths = parts_in_long w.key bytes h long headed in
        damaged_noted w (bytes ++ rest) longer h still wanted (omega (arith, whole, length-append bytes rest))
        (same_cell_behind w.key h bytes rest lengths.0 lengths.1 whole ∙ is)

    by_length : is_wanted w h ≡ true → (s : Bool) → nat_lt (length bytes) (cell_size h.configuration.symbol_size) ≡ s → WasNoted w (bytes ++ rest) note
    by_length wanted true short = is_it (N.Begun h) (noted_by w bytes long h headed true true wanted short) (still, wanted)
    by_length wanted false whole =
        is_it N.Damaged (noted_by w bytes long h headed true false wanted whole)
        (by_cell wanted (ltb-false (length bytes) (cell_size h.configuration.symbol_size) whole) (cell_behind w.key h bytes) refl)

    by_wanted : (b : Bool) → is_wanted w h ≡ b → WasNoted w (bytes ++ rest) note
    by_wanted true wanted = by_length wanted (nat_lt (length bytes) (cell_size h.configuration.symbol_size)) refl
    by_wanted false other =
        is_it N.Other (noted_by w bytes long h headed false (nat_lt (length bytes) (cell_size h.configuration.symbol_size)) other refl)
        (other_noted w (bytes ++ rest) longer h still other)

  by_head : (o : Option Head) → head_at w.key bytes ≡ o → WasNoted w (bytes ++ rest) note
  by_head None headed = absurd (none-some note (sym (ap (option_map (note_of w bytes)) headed) ∙ noted))
  by_head (Some h) headed = by_wanted h headed (is_wanted w h) refl

  pub was_noted : WasNoted w (bytes ++ rest) note
  was_noted = by_head (head_at w.key bytes) refl

-- ---- the list

module _ (w : Wish) (bytes : List ℕ) where
  abbrev there : ℕ → Option Note
  there i = note_at w (drop i bytes)

  abbrev listed : ℕ → Option Note → List Noted
  listed n o = cons_option (option_map (λ k. record { at = n; note = k }) o) []

  no_head_there : (o : Option Head) (xs : List ℕ) → option_map (note_of w xs) o ≡ None → o ≡ None
  no_head_there None xs e = refl
  no_head_there (Some h) xs e = absurd (none-some (note_of w xs h) (sym e))

  pub no_head : (i : ℕ) → there i ≡ None → head_at w.key (drop i bytes) ≡ None
  no_head i e = no_head_there (head_at w.key (drop i bytes)) (drop i bytes) e

  length-next : (n : ℕ) → length (noted_before w bytes (suc n)) ≡ length (noted_before w bytes n) + length (listed n (there n))
  length-next n = length-append (noted_before w bytes n) (listed n (there n))

  rises : (n i : ℕ) → i ≤ n → length (noted_before w bytes i) ≤ length (noted_before w bytes n)
  rises zero i few = let same : i ≡ zero = omega (arith, few) in subst (λ k. length (noted_before w bytes k) ≤ length (noted_before w bytes zero)) (sym same) (omega arith)
  rises (suc n) i few = elim (cases_lt n i) [
    | inl more ↦
        let same : i ≡ suc n = omega (arith, few, more) in
        subst (λ k. length (noted_before w bytes k) ≤ length (noted_before w bytes (suc n))) (sym same) (omega arith)
    | inr less ↦ omega (arith, rises n i less, length-next n)
  ]

  -- a head makes it longer
  grows : (i n : ℕ) (note : Note) → there i ≡ Some note → i < n → length (noted_before w bytes i) < length (noted_before w bytes n)
  grows i n note is less =
      let one : length (listed i (there i)) ≡ 1 = ap (λ o. length (listed i o)) is in
      omega (arith, rises n (suc i) (omega (arith, less)), length-next i, one)

  -- between places before which the same heads stand is none
  pub none_between : (i a j : ℕ) → noted_before w bytes i ≡ noted_before w bytes a → i ≤ j → j < a → there j ≡ None
  none_between i a j same from less = by (there j) refl
    where
      by : (o : Option Note) → there j ≡ o → there j ≡ None
      by None is = is
      by (Some note) is = absurd (omega (arith, grows j a note is less, rises j i from, ap length same))

  -- a head stands at the last of them
  pub last_of_same : (i a : ℕ) (note : Note) → noted_before w bytes i ≡ noted_before w bytes a → there a ≡ Some note → i ≤ a
  last_of_same i a note same is = by (cases_lt a i)
    where
      by : (a < i) ⊎ (i ≤ a) → i ≤ a
      by (inl less) = absurd (omega (arith, grows a i note is less, ap length same))
      by (inr more) = more

  -- what stands in the list at a place
  pub record IsEntry (n k : ℕ) (e : Noted) : Type 0 where
    pub below : e.at < n
    pub noted : there e.at ≡ Some e.note
    pub front : noted_before w bytes e.at ≡ take k (noted_before w bytes n)

  widens : (n k : ℕ) (e : Noted) → IsEntry n k e → take k (noted_before w bytes n) ≡ take k (noted_before w bytes (suc n)) → IsEntry (suc n) k e
  widens n k e is same = record { below = omega (arith, is.below); noted = is.noted; front = is.front ∙ same }

  pub entry : (n k : ℕ) (d : Noted) → k < length (noted_before w bytes n) → IsEntry n k (get_or (noted_before w bytes n) k d)
  entry zero k d below = absurd (omega (arith, below))
  entry (suc n) k d below = by (entry n k d) (there n) refl
    where
      there_at : (xs : List Noted) (e : Noted) → noted_before w bytes (suc n) ≡ xs → get_or xs k d ≡ e → IsEntry (suc n) k e
          → IsEntry (suc n) k (get_or (noted_before w bytes (suc n)) k d)
      there_at xs e same is at = subst (IsEntry (suc n) k) (sym (ap (λ ys. get_or ys k d) same ∙ is)) at

      by_place : ((k < length (noted_before w bytes n)) → IsEntry n k (get_or (noted_before w bytes n) k d)) → (note : Note) → there n ≡ Some note → (k < length (noted_before w bytes n)) ⊎ (length (noted_before w bytes n) ≤ k) → IsEntry (suc n) k (get_or (noted_before w bytes (suc n)) k d)
      by_place first note is at =
          let e : Noted = record { at = n; note = note } in
          let same : noted_before w bytes (suc n) ≡ noted_before w bytes n ++ (e ∷ []) = ap (λ o. noted_before w bytes n ++ listed n o) is in
          elim at [
            | inl less ↦
                there_at (noted_before w bytes n ++ (e ∷ [])) (get_or (noted_before w bytes n) k d) same (get_or_append_left (noted_before w bytes n) (e ∷ []) d k less)
                (widens n k (get_or (noted_before w bytes n) k d) (first less) (sym (take-append-le k (noted_before w bytes n) (e ∷ []) (omega (arith, less))) ∙ ap (take k) (sym same)))
            | inr more ↦
                let last : length (noted_before w bytes n) ≡ k = omega (arith, more, below, ap length same, length-append (noted_before w bytes n) (e ∷ [])) in
                let front : take k (noted_before w bytes n ++ (e ∷ [])) ≡ noted_before w bytes n = take-append-le k (noted_before w bytes n) (e ∷ []) (omega (arith, last)) ∙ take_all k (noted_before w bytes n) (omega (arith, last)) in
                there_at (noted_before w bytes n ++ (e ∷ [])) e same (get_or_push (noted_before w bytes n) e d k last)
                (record { below = omega arith; noted = is; front = sym (ap (take k) same ∙ front) })
          ]

      by : ((k < length (noted_before w bytes n)) → IsEntry n k (get_or (noted_before w bytes n) k d)) → (o : Option Note) → there n ≡ o → IsEntry (suc n) k (get_or (noted_before w bytes (suc n)) k d)
      by first None is =
          let same : noted_before w bytes (suc n) ≡ noted_before w bytes n = ap (λ o. noted_before w bytes n ++ listed n o) is ∙ append-nil (noted_before w bytes n) in
          there_at (noted_before w bytes n) (get_or (noted_before w bytes n) k d) same refl
          (widens n k (get_or (noted_before w bytes n) k d) (first (omega (arith, below, ap length same))) (ap (take k) (sym same)))
      by first (Some note) is = by_place first note is (cases_lt k (length (noted_before w bytes n)))
