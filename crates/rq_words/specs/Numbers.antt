-- The numbers that texts say.
use Rattle.std.specs.Prelude.{ℕ, ◌+◌, ◌-◌, ◌*◌, ◌^◌, ◌==◌, ◌&&◌, ◌||◌, Bool, List, length, take, slice_index, Option, Some, None, option_and_then, if◌then◌else◌, nat_lt}
use Rattle.std.specs.List.{before_first, after_first, position_or_len}
use Rattle.std.specs.Str.{all_ascii_digits}
use Rattle.std.specs.Str.Parse.{digits_value}

-- a number that has so many bits
abbrev pub fitting : ℕ → ℕ → Option ℕ
fitting bits n = if nat_lt n (2 ^ bits) then Some n else None

-- decimal digits alone, of which there are some
abbrev pub is_digits : List ℕ → Bool
is_digits text = all_ascii_digits text && nat_lt 0 (length text)

-- the number of decimal digits, of 64 bits
unfoldable pub number_of : List ℕ → Option ℕ
number_of text = if is_digits text then fitting 64 (digits_value 10 text) else None

-- ---- numbers with a point

-- the text has this character, which is an ASCII one
abbrev pub has : ℕ → List ℕ → Bool
has c text = nat_lt (position_or_len (λ b. b == c) text) (length text)

-- what stands before and behind the first one
abbrev pub before : ℕ → List ℕ → List ℕ
before c text = before_first (λ b. b == c) text

abbrev pub behind : ℕ → List ℕ → List ℕ
behind c text = after_first (λ b. b == c) text

-- so many 10^zeros, of digits alone
unfoldable pub digits_times : ℕ → List ℕ → Option ℕ
digits_times zeros text = option_and_then (λ n. fitting 64 (n * 10 ^ zeros)) (number_of text)

-- both together
abbrev pub sum_of : Option ℕ → Option ℕ → Option ℕ
sum_of whole part = option_and_then (λ w. option_and_then (λ p. fitting 64 (w + p)) part) whole

-- a number times 10^places, where at most so many digits stand behind its point
unfoldable pub scaled_of : ℕ → List ℕ → Option ℕ
scaled_of places text =
    if has 46 text
    then (if nat_lt places (length (behind 46 text)) then None
    else sum_of (digits_times places (before 46 text)) (digits_times (places - length (behind 46 text)) (behind 46 text)))
    else digits_times places text

-- ---- numbers with a letter

-- the last character, which is an ASCII one
abbrev pub last : List ℕ → ℕ
last text = slice_index text (length text - 1)

abbrev pub without_last : List ℕ → List ℕ
without_last text = take (length text - 1) text

-- how many zeros k, M, G, m and g stand for
abbrev pub zeros_of : ℕ → ℕ
zeros_of c = if c == 107 then 3 else (if c == 77 || c == 109 then 6 else (if c == 71 || c == 103 then 9 else 0))

-- a text without such a letter
abbrev pub without_unit : List ℕ → List ℕ
without_unit text = if nat_lt 0 (zeros_of (last text)) then without_last text else text

-- a whole number, as 400, 400k or 0.5G
unfoldable pub count_of : List ℕ → Option ℕ
count_of text = scaled_of (zeros_of (last text)) (without_unit text)
