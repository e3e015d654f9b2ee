-- A buffer of pieces of one size, and the pieces that callers see.
use Rattle.std.proofs.Common.{length-set, ◌≡◌, ℕ, ◌+◌, ◌*◌, ◌<◌, ◌≤◌, List, [], length, get_or, set, refl, sym, ap, ◌∙◌, arith}
use Rattle.std.specs.List.{swap}
use Rattle.std.proofs.lemmas.List.Edits.{swap_is}
use Rattle.rq_standard.proofs.PlainCut.{piece_within}
use Rattle.rq_bytes.specs.Ranges.{range_of, with_range, ranges_exchanged, cut, joined_pieces}
use Rattle.rq_bytes.proofs.Cuts.{length-cut, get_or-cut, cut-with_range, joined-cut, refilled, cut-refilled}
use Rattle.rq_bytes.proofs.RangeFacts.{length-range, length-with_range}

-- the buffer `items` of `count` pieces of `size` elements
pub record HoldsPieces (items : List ℕ) (count size : ℕ) (pieces : List (List ℕ)) : Type 0 where
  pub view : cut count size items ≡ pieces
  pub long : length items ≡ count * size

module _ {items : List ℕ} {count size : ℕ} {pieces : List (List ℕ)} (is : HoldsPieces items count size pieces) where
  pub count_is : count ≡ length pieces
  count_is = sym (length-cut count size items) ∙ ap length is.view

  -- the elements of one piece
  pub piece_at : (i : ℕ) → i < length pieces → range_of items (i * size) size ≡ get_or pieces i []
  piece_at i below = let count_is_there = count_is in sym (get_or-cut count size i items (omega arith) is.long) ∙ ap (λ l. get_or l i []) is.view

  pub within : (i : ℕ) → i < length pieces → i * size + size ≤ length items
  within i below = let count_is_there = count_is in omega (arith, piece_within i count size (omega arith), is.long)

  pub length-piece : (i : ℕ) → i < length pieces → length (get_or pieces i []) ≡ size
  length-piece i below = ap length (sym (piece_at i below)) ∙ length-range items (i * size) size (within i below)

  -- after a write of the elements of one of them
  pub piece_written : (i : ℕ) (ws : List ℕ) → i < length pieces → length ws ≡ size → HoldsPieces (with_range items (i * size) ws) count size (set pieces i ws)
  piece_written i ws below long =
      let count_is_there = count_is in
      record {
        view = cut-with_range count size i items ws (omega arith) long is.long ∙ ap (λ l. set l i ws) is.view;
        long = length-with_range items (i * size) ws (omega (arith, within i below)) ∙ is.long;
      }

  -- the buffer again, of what callers see
  pub joined_is : joined_pieces pieces ≡ items
  joined_is = ap joined_pieces (sym is.view) ∙ joined-cut count size items is.long

  -- what callers see after a write of any elements from one piece on
  pub written_is : (i : ℕ) (ws : List ℕ) → cut count size (with_range items (i * size) ws) ≡ cut (length pieces) size (with_range (joined_pieces pieces) (i * size) ws)
  written_is i ws = rw (joined_is, ← count_is) refl

  -- and in a buffer that keeps its length
  pub refilled_is : (i all : ℕ) (ws : List ℕ) → i < length pieces → all ≡ length items → cut count size (refilled all items (i * size) ws) ≡ cut (length pieces) size (with_range (joined_pieces pieces) (i * size) ws)
  refilled_is i all ws below whole =
      rw (whole ∙ is.long, cut-refilled count size (i * size) items ws (omega (arith, within i below)) is.long) (written_is i ws)

-- after an exchange of two
pub exchanged : {items : List ℕ} {count size : ℕ} {pieces : List (List ℕ)} (is : HoldsPieces items count size pieces) (i j : ℕ) → i < length pieces → j < length pieces
    → cut count size (ranges_exchanged items (i * size) (j * size) size) ≡ swap pieces i j
exchanged {items} {count} {size} {pieces} is i j first second =
    let one = range_of items (i * size) size in
    let other = range_of items (j * size) size in
    let one_is = piece_at is i first in
    let other_is = piece_at is j second in
    let written = piece_written is i other first (ap length other_is ∙ length-piece is j second) in
    (piece_written written j one (omega (arith, length-set pieces i other, second)) (ap length one_is ∙ length-piece is i first)).view
    ∙ rw (other_is, one_is) (swap_is pieces i j [] first second)
