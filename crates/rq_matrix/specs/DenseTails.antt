-- The last columns of a matrix of bits, the last of them first.
use Rattle.std.specs.Prelude.{◌≡◌, ◌≢◌, ℕ, ◌+◌, ◌*◌, ◌/◌, ◌%◌, ◌^◌, ◌<◌, ◌≤◌, List, [], All, length, slice_index, slice_index_or, slice_set}
use Rattle.std.specs.Int.Bits.{bit_xor}
use Rattle.rq_bytes.specs.BinaryOctetVec.{packed_bit}
use Rattle.rq_parts.specs.SparseBinaryVec.{listed_bit}

-- how many rows and columns there are, and blocks of 64 columns, each with a word for each row
pub record Tail : Type 0 where
  pub rows : ℕ
  pub columns : ℕ
  pub blocks : List (List ℕ)

-- words of which one has another one added
abbrev pub with_word_added : List ℕ → ℕ → ℕ → List ℕ
with_word_added words dest src = slice_set words dest (bit_xor (slice_index words dest) (slice_index words src))

-- the bit of a row in a column, that column 0 being the last one
abbrev pub tail_bit : Tail → ℕ → ℕ → ℕ
tail_bit tail row column = packed_bit (slice_index_or tail.blocks (column / 64) []) (64 * row + column % 64)

-- as many blocks as the columns need, each with a word for each row, and behind the columns no ones
pub record IsTail (tail : Tail) : Type 0 where
  pub fits : tail.rows < 2 ^ 31
  pub full : All (λ block. length block ≡ tail.rows) tail.blocks
  pub enough : tail.columns ≤ 64 * length tail.blocks
  pub few : 64 * length tail.blocks < tail.columns + 64
  pub spare : (row column : ℕ) → row < tail.rows → tail.columns ≤ column → tail_bit tail row column ≡ 0

-- `width` columns in `height` rows, without ones
pub record IsZeroTail (height width : ℕ) (tail : Tail) : Type 0 where
  pub rows : tail.rows ≡ height
  pub columns : tail.columns ≡ width
  pub zeros : (row column : ℕ) → tail_bit tail row column ≡ 0

-- one bit is set anew
pub record SetsTailBit (old : Tail) (row column bit : ℕ) (new : Tail) : Type 0 where
  pub rows : new.rows ≡ old.rows
  pub columns : new.columns ≡ old.columns
  pub here : tail_bit new row column ≡ bit
  pub other_columns : (r k : ℕ) → k ≢ column → tail_bit new r k ≡ tail_bit old r k
  pub other_rows : (r k : ℕ) → r ≢ row → tail_bit new r k ≡ tail_bit old r k

-- in a column the bits of the listed rows are ones, and the others are as they were
pub record SetsTailOnes (old : Tail) (listed : List ℕ) (column : ℕ) (new : Tail) : Type 0 where
  pub rows : new.rows ≡ old.rows
  pub columns : new.columns ≡ old.columns
  pub marked : (r : ℕ) → 0 < listed_bit listed r → tail_bit new r column ≡ 1
  pub unmarked : (r : ℕ) → listed_bit listed r ≡ 0 → tail_bit new r column ≡ tail_bit old r column
  pub other_columns : (r k : ℕ) → k ≢ column → tail_bit new r k ≡ tail_bit old r k

-- row `dest` is the sum of itself and row `src`
pub record AddsTailRow (old : Tail) (dest src : ℕ) (new : Tail) : Type 0 where
  pub rows : new.rows ≡ old.rows
  pub columns : new.columns ≡ old.columns
  pub sum : (k : ℕ) → k < old.columns → tail_bit new dest k ≡ bit_xor (tail_bit old dest k) (tail_bit old src k)
  pub other_rows : (r k : ℕ) → r ≢ dest → tail_bit new r k ≡ tail_bit old r k

-- one more column without ones
pub record PushesColumn (old new : Tail) : Type 0 where
  pub rows : new.rows ≡ old.rows
  pub columns : new.columns ≡ old.columns + 1
  pub zeros : (r : ℕ) → r < old.rows → tail_bit new r old.columns ≡ 0
  pub bits : (r k : ℕ) → tail_bit new r k ≡ tail_bit old r k
