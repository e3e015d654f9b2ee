-- A buffer of rows of words and the rows that callers see.
use Rattle.std.proofs.Common.{◌≡◌, ⊎_elim, ℕ, zero, suc, ◌+◌, ◌-◌, ◌*◌, ◌^◌, ◌<◌, ◌≤◌, List, [], ◌∷◌, ◌++◌, length, take, drop, map, min, refl, sym, ap, ◌∙◌, arith}
use Rattle.std.specs.Prelude.{◌==◌, ◌&&◌}
use Rattle.std.specs.Cmp.Lexicographic.{pointwise}
use Rattle.std.proofs.Math.Nat.{mul-le-mul_right}
use Rattle.std.proofs.lemmas.Bool.{cases_lt}
use Rattle.std.proofs.lemmas.List.{take_all, length-take, length-drop, length-take-le, drop-drop, take-take, map-append}
use Rattle.std.proofs.lemmas.List.Edits.{length-paste, take-paste, drop-paste}
use Rattle.std.specs.List.{copy_within}
use Rattle.rq_standard.proofs.PlainCut.{piece_within}
use Rattle.rq_bytes.specs.Ranges.{range_of, with_range, cut, joined_pieces}
use Rattle.rq_bytes.proofs.Cuts.{cut-append, cut-take, refilled}
use Rattle.rq_bytes.proofs.Pieces.{HoldsPieces, count_is, within, length-piece, piece_written, joined_is, written_is, refilled_is}
use Rattle.rq_parts.specs.BitRows.{same_rows}
use Rattle.rq_parts.specs.RowLends.{with_words, IsRowWrite}
use Rattle.rq_parts.specs.contracts.bit_rows.BitRows.{the_view, the_invariant}
use Rattle.rq_parts.specs.declared.bit_rows.BitRows.TheInside.{Inside}

pub holds_rows : (inside : Inside) (rows : List (List ℕ)) → the_view inside ≡ rows → the_invariant inside → HoldsPieces inside.words.items inside.count inside.row_len rows
holds_rows inside rows view invariant = record { view = view; long = sym inside.words.ok.0 ∙ invariant }

module _ {words : List ℕ} {count size : ℕ} {rows : List (List ℕ)} (is : HoldsPieces words count size rows) (i : ℕ) (below : i < length rows) where
  -- words that are cut as rows of one length are those that the lent row leaves
  as_lent : (ws : List ℕ) → cut (length rows) size (with_range (joined_pieces rows) (i * size) ws) ≡ with_words rows i ws
  as_lent ws = ap (λ s. cut (length rows) s (with_range (joined_pieces rows) (i * s) ws)) (sym (length-piece is i below))

  -- what callers see after a write of any words from one row on, in a buffer that keeps its length
  pub words_written : (all : ℕ) (ws : List ℕ) → all ≡ length words → cut count size (refilled all words (i * size) ws) ≡ with_words rows i ws
  words_written all ws whole = refilled_is is i all ws below whole ∙ as_lent ws

  pub is_row_write : IsRowWrite rows i
  is_row_write ws long = sym (written_is is i ws ∙ as_lent ws) ∙ (piece_written is i ws below (long ∙ length-piece is i below)).view

-- a row that callers see stands in the buffer
module _ (inside : Inside) (rows : List (List ℕ)) (view : the_view inside ≡ rows) (invariant : the_invariant inside) (i : ℕ) (below : i < length rows) where
  pub row_in : (words : List ℕ) → words ≡ inside.words.items → i * inside.row_len + inside.row_len ≤ length words
  row_in words is = omega (arith, within (holds_rows inside rows view invariant) i below, ap length is)

  pub row_starts : i * inside.row_len < 2 ^ 64
  row_starts = omega (arith, within (holds_rows inside rows view invariant) i below, inside.words.small, inside.words.ok)

  pub row_ends : i * inside.row_len + inside.row_len < 2 ^ 64
  row_ends = omega (arith, within (holds_rows inside rows view invariant) i below, inside.words.small, inside.words.ok)

-- what `==` compares
pub compared_rows : (a b : Inside) (left right : List (List ℕ)) → the_view a ≡ left → the_invariant a → the_view b ≡ right → the_invariant b
    → same_rows left right ≡ (a.count == b.count && pointwise ◌==◌ a.words.items b.words.items)
compared_rows a b left right av ai bv bi =
    let first = holds_rows a left av ai in
    let second = holds_rows b right bv bi in
    ap (λ n. n == length right && pointwise ◌==◌ (joined_pieces left) (joined_pieces right)) (sym (count_is first))
    ∙ ap (λ n. a.count == n && pointwise ◌==◌ (joined_pieces left) (joined_pieces right)) (sym (count_is second))
    ∙ ap (λ l. a.count == b.count && pointwise ◌==◌ l (joined_pieces right)) (joined_is first)
    ∙ ap (λ l. a.count == b.count && pointwise ◌==◌ a.words.items l) (joined_is second)

-- ---- fewer rows, and shorter ones

take-cut : (h n s : ℕ) (xs : List ℕ) → h ≤ n → take h (cut n s xs) ≡ cut h s xs
take-cut zero n s xs le = refl
take-cut (suc h) zero s xs le = absurd (omega arith)
take-cut (suc h) (suc n) s xs le = ap (λ l. take s xs ∷ l) (take-cut h n s (drop s xs) (omega arith))

cut-next : (n s : ℕ) (xs : List ℕ) → cut (suc n) s xs ≡ cut n s xs ++ range_of xs (n * s) s ∷ []
cut-next zero s xs = ap (λ k. range_of xs k s ∷ []) (let none : 0 ≡ 0 * s = omega arith in none)
cut-next (suc n) s xs =
    let next : s + n * s ≡ suc n * s = omega arith in
    ap (λ l. take s xs ∷ l) (cut-next n s (drop s xs))
    ∙ ap (λ l. take s xs ∷ (cut n s (drop s xs) ++ take s l ∷ [])) (drop-drop (n * s) s xs ∙ ap (λ k. drop k xs) next)

pub truncated : (words : List ℕ) (count size height : ℕ) (rows : List (List ℕ)) → HoldsPieces words count size rows → height ≤ length rows
    → HoldsPieces (take (height * size) words) height size (take height rows)
truncated words count size height rows is le =
    let few : height ≤ count = omega (arith, count_is is) in
    let fits : height * size ≤ length words = omega (arith, mul-le-mul_right size few, is.long) in
    record {
      view = cut-take height size words ∙ sym (take-cut height count size words few) ∙ ap (take height) is.view;
      long = length-take-le (height * size) words fits;
    }

take-take-any : (kept size : ℕ) (words : List ℕ) → take (min kept size) (take size words) ≡ take kept (take size words)
take-take-any kept size words =
    ⊎_elim
    (λ (less : kept < size). ap (λ n. take n (take size words)) {y = kept} (omega arith))
    (λ (le : size ≤ kept). ap (λ n. take n (take size words)) {y = size} (omega arith) ∙ take-take size size words (omega arith) ∙ sym (take_all kept (take size words) (omega (arith, length-take size words))))
    (cases_lt kept size)

-- a row of `size` words is cut where any row is
pub cut_short : (kept size count : ℕ) (words : List ℕ) → map (λ row. take (min kept size) row) (cut count size words) ≡ map (λ row. take kept row) (cut count size words)
cut_short kept size zero words = refl
cut_short kept size (suc count) words =
    ap (λ l. l ∷ map (λ row. take (min kept size) row) (cut count size (drop size words))) (take-take-any kept size words)
    ∙ ap (λ l. take kept (take size words) ∷ l) (cut_short kept size count (drop size words))

-- of n rows the first `kept` words are moved together, and the rows behind are as they were
pub record AreGathered (kept size n : ℕ) (old new : List ℕ) : Type 0 where
  pub long : length new ≡ length old
  pub moved : cut n kept new ≡ map (λ row. take kept row) (cut n size old)
  pub rest : drop (n * size) new ≡ drop (n * size) old

pub gathered_more : (kept size count n : ℕ) (old mid : List ℕ) → kept ≤ size → n < count → length old ≡ count * size → AreGathered kept size n old mid
    → AreGathered kept size (n + 1) old (copy_within mid (n * size) (n * size + kept) (n * kept))
gathered_more kept size count n old mid few below long is =
    let start = n * size in
    let to = n * kept in
    let source = drop start mid in
    let new = copy_within mid start (start + kept) to in
    let k : start + kept - start ≡ kept = omega arith in
    let next : n + 1 ≡ suc n = omega arith in
    let less : to + kept ≤ start + size = omega (arith, mul-le-mul_right n few) in
    let end : suc n * size ≡ start + size = omega arith in
    let new_end : suc n * kept ≡ to + kept = omega arith in
    let fits : start + size ≤ length mid = omega (arith, piece_within n count size below, is.long) in
    let enough : kept ≤ length source = omega (arith, length-drop start mid) in
    let whole : length new ≡ length mid = length-paste mid to source (start + kept - start) (omega arith) (omega arith) in
    let head : take (to + kept) new ≡ take to mid ++ take kept source =
    ap (λ m. take (to + m) new) (sym k) ∙ take-paste mid to source (start + kept - start) (omega arith) (omega arith) ∙ ap (λ m. take to mid ++ take m source) k
    in
    let tail : drop (to + kept) new ≡ drop (to + kept) mid =
    ap (λ m. drop (to + m) new) (sym k) ∙ drop-paste mid to source (start + kept - start) (omega arith) (omega arith) ∙ ap (λ m. drop (to + m) mid) k
    in
    let f : List ℕ → List ℕ = λ row. take kept row in
    let piece : take kept source ≡ f (range_of old start size) = ap (take kept) is.rest ∙ sym (take-take kept size (drop start old) few) in
    let left = start + size - (to + kept) in
    let on : to + kept + left ≡ suc n * size = omega arith in
    let moved : cut (suc n) kept new ≡ map f (cut (suc n) size old) =
    sym (cut-take (suc n) kept new)
    ∙ ap (cut (suc n) kept) (ap (λ m. take m new) new_end ∙ head)
    ∙ cut-append n kept (take to mid) (take kept source) (length-take-le to mid (omega arith)) (length-take-le kept source enough)
    ∙ ap (λ l. l ++ take kept source ∷ []) (cut-take n kept mid ∙ is.moved)
    ∙ ap (λ l. map f (cut n size old) ++ l ∷ []) piece
    ∙ sym (ap (map f) (cut-next n size old) ∙ map-append f (cut n size old) (range_of old start size ∷ []))
    in
    let rest : drop (suc n * size) new ≡ drop (suc n * size) old =
    ap (λ m. drop m new) (sym on)
    ∙ sym (drop-drop left (to + kept) new)
    ∙ ap (drop left) tail
    ∙ drop-drop left (to + kept) mid
    ∙ ap (λ m. drop m mid) (on ∙ end)
    ∙ sym (drop-drop size start mid)
    ∙ ap (drop size) is.rest
    ∙ drop-drop size start old
    ∙ ap (λ m. drop m old) (sym end)
    in
    record {
      long = whole ∙ is.long;
      moved = ap (λ m. cut m kept new) next ∙ moved ∙ ap (λ m. map f (cut m size old)) (sym next);
      rest = ap (λ m. drop (m * size) new) next ∙ rest ∙ ap (λ m. drop (m * size) old) (sym next);
    }
