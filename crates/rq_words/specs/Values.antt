-- What the values of options say.
use Rattle.std.specs.Prelude.{ℕ, Bool, true, false, ◌-◌, ◌^◌, ◌==◌, ◌&&◌, List, length, Option, Some, None, option_and_then, option_map, if◌then◌else◌, nat_lt, nat_le, codes}
use Rattle.std.specs.Result.{result_ok}
use Rattle.std.specs.Str.{bytes_eq}
use Rattle.hex.specs.Hex.{decode_of}
use Rattle.hex.specs.declared.error.FromHexError.{FromHexError}
use Rattle.hex.specs.declared.error.FromHexError.TheVariants.{OutOfMemory}
use Rattle.rq_base.specs.RefusedInput.{greatest_transfer_length}
use Rattle.rq_cells.specs.Cells.{greatest_cell_size}
use Rattle.rq_cast.specs.declared.loss.Loss.{Loss}
use Rattle.rq_cast.specs.declared.series.Repair.{Repair}
use Rattle.rq_cast.specs.declared.series.Repair.TheVariants.{Packets, Share, All}
use Rattle.rq_words.specs.declared.jobs.Rounds.{Rounds}
use Rattle.rq_words.specs.declared.jobs.Rounds.TheVariants.{Times, Endless}
use Rattle.rq_words.specs.Numbers.{fitting, scaled_of, count_of, last, without_last, has, before, behind}

-- a number from 1 to a greatest one
unfoldable pub up_to : ℕ → List ℕ → Option ℕ
up_to most text = option_and_then (λ n. if nat_lt 0 n && nat_le n most then Some n else None) (count_of text)

-- the bytes of a part: with the 32 of a seal it is no longer than an object may be
unfoldable pub part_of : List ℕ → Option ℕ
part_of text = up_to (greatest_transfer_length - 32) text

-- those of one that is guarded: with them it is no longer than one block may be
unfoldable pub guarded_part_of : List ℕ → Option ℕ
guarded_part_of text = up_to 1006632928 text

-- the parts of a window
unfoldable pub window_of : List ℕ → Option ℕ
window_of text = up_to 1024 text

-- shards, not fewer than so many, and 255 at most
unfoldable pub shards_of : ℕ → List ℕ → Option ℕ
shards_of least text = option_and_then (λ n. if nat_le least n then Some n else None) (up_to 255 text)

-- seconds of a day at most
unfoldable pub timeout_of : List ℕ → Option ℕ
timeout_of text = up_to 86400 text

-- the most bytes of a symbol, where a cell has as many as a text says: 64 of them are no symbol
unfoldable pub symbol_size_of : List ℕ → Option ℕ
symbol_size_of text = option_and_then (λ n. if nat_lt 64 n && nat_le n greatest_cell_size then Some (n - 64) else None) (count_of text)

-- ---- parts of all, in percent

-- so many percent, in hundred-thousandths
unfoldable pub percent_of : List ℕ → Option ℕ
percent_of text = option_and_then (fitting 32) (scaled_of 3 text)

-- a loss, which is half of all at most
unfoldable pub loss_of : List ℕ → Option Loss
loss_of text = option_and_then (λ n. if nat_le n 50000 then Some (record { parts = n }) else None) (percent_of text)

-- ---- repair packets

-- a number of 32 bits
unfoldable pub packets_of : List ℕ → Option ℕ
packets_of text = option_and_then (fitting 32) (count_of text)

-- a number, or one with a percent sign
abbrev pub numbered_repair_of : List ℕ → Option Repair
numbered_repair_of text =
    if last text == 37 then option_map Share (percent_of (without_last text)) else option_map Packets (packets_of text)

-- or all
unfoldable pub repair_of : List ℕ → Option Repair
repair_of text = if bytes_eq text (codes "all") then Some All else numbered_repair_of text

-- ---- rounds

-- a number from 1 on, of 32 bits, or endless
unfoldable pub rounds_of : List ℕ → Option Rounds
rounds_of text = if bytes_eq text (codes "endless") then Some Endless else option_map Times (up_to (2 ^ 32 - 1) text)

-- how many these are
abbrev pub times_of : Rounds → ℕ
times_of (Times n) = n
times_of Endless = 2 ^ 64 - 1

-- ---- other numbers

-- bits a second, not 0
unfoldable pub rate_of : List ℕ → Option ℕ
rate_of text = option_and_then (λ n. if nat_lt 0 n then Some n else None) (count_of text)

-- an encoding symbol id
unfoldable pub id_of : List ℕ → Option ℕ
id_of text = option_and_then (fitting 24) (count_of text)

-- number i of n senders, from 0
abbrev pub shared : Option ℕ → Option ℕ → Option (ℕ × ℕ)
shared number all = option_and_then (λ i. option_and_then (λ n. if nat_lt i n then Some (i, n) else None) all) number

-- a stroke stands between the two numbers
unfoldable pub share_of : List ℕ → Option (ℕ × ℕ)
share_of text = if has 47 text then shared (id_of (before 47 text)) (id_of (behind 47 text)) else None

-- ---- names

-- 1 to 8 bytes
abbrev pub sized : List ℕ → Option (List ℕ)
sized bytes = if nat_lt 0 (length bytes) && nat_le (length bytes) 8 then Some bytes else None

-- memory was refused for the bytes
abbrev pub is_refused : FromHexError → Bool
is_refused OutOfMemory = true
is_refused _ = false

-- in two hexadecimal digits each
unfoldable pub name_of : List ℕ → Option (List ℕ)
name_of text = option_and_then sized (result_ok (decode_of text))
