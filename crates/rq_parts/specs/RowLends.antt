-- What a caller's writes through a lent row of words do to the rows.
use Rattle.std.specs.Prelude.{ℕ, List, [], length, slice_index_or, slice_set, ◌≡◌, ◌*◌}
use Rattle.std.specs.Borrow.{Lends, MutBor, Array, Fml, u64 as word}
use Rattle.rq_bytes.specs.Ranges.{with_range, cut, joined_pieces}
use Rattle.rq_parts.specs.contracts.bit_rows.BitRows.{the_row}

-- the rows with these words written from row i on
abbrev pub with_words : List (List ℕ) → ℕ → List ℕ → List (List ℕ)
with_words rows i words = let size = length (slice_index_or rows i []) in cut (length rows) size (with_range (joined_pieces rows) (i * size) words)

-- as many words as a row has are then row i, and no other row changes
abbrev pub IsRowWrite : List (List ℕ) → ℕ → Type 0
IsRowWrite rows i = (words : List ℕ) → length words ≡ length (slice_index_or rows i []) → with_words rows i words ≡ slice_set rows i words

-- the rows end with the last words behind r written as row i
abbrev pub LendsRow : MutBor (List (List ℕ)) → ℕ → MutBor (List ℕ) → Fml
LendsRow rows i r = Lends the_row (Array word 0) rows r (with_words rows.now i)
