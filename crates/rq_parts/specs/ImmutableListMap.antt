-- What callers see of a map from keys to lists of values, and of the pairs that become one.
use Rattle.std.specs.Prelude.{ℕ, ◌≡◌, ◌+◌, ◌-◌, ◌<◌, ◌≤◌, ◌==◌, List, length, filter, map, slice_index, slice_index_or, slice_range}
use Rattle.std.specs.List.{range_with_len}

-- the number of keys, and pairs of a key and a value in the order in which they were added
pub record Pairs : Type 0 where
  pub keys : ℕ
  pub pairs : List (ℕ × ℕ)

-- the values that pairs have at a key, in their order
abbrev pub values_of : List (ℕ × ℕ) → ℕ → List ℕ
values_of pairs key = map (λ pair. pair.1) (filter (λ pair. pair.0 == key) pairs)

-- the values of each key below a number of them
abbrev pub lists_of : Pairs → List (List ℕ)
lists_of p = map (values_of p.pairs) (range_with_len 0 p.keys)

-- where the pairs of a key start, in pairs whose keys ascend: those before have lower keys
pub record IsStart (pairs : List (ℕ × ℕ)) (key start : ℕ) : Type 0 where
  pub within : start ≤ length pairs
  pub before : (k : ℕ) → k < start → (slice_index_or pairs k (0, 0)).0 < key
  pub after : (k : ℕ) → start ≤ k → k < length pairs → key ≤ (slice_index_or pairs k (0, 0)).0

-- where the pairs of each key below `count` start, and then where those of the last one end
pub record AreStartsOf (pairs : List (ℕ × ℕ)) (count : ℕ) (starts : List ℕ) : Type 0 where
  pub len : length starts ≡ count + 1
  pub each : (key : ℕ) → key ≤ count → IsStart pairs key (slice_index starts key)

-- starts of the lists that `count` values are cut into, which rise; behind the last list stands its end
pub record AreStarts (starts : List ℕ) (count : ℕ) : Type 0 where
  pub some : 0 < length starts
  pub rise : (key : ℕ) → key + 1 < length starts → slice_index starts key ≤ slice_index starts (key + 1)
  pub within : (key : ℕ) → key < length starts → slice_index starts key ≤ count

-- the values between starts that follow one another
abbrev pub lists_between : List ℕ → List ℕ → List (List ℕ)
lists_between starts values = map (λ key. slice_range values (slice_index starts key) (slice_index starts (key + 1))) (range_with_len 0 (length starts - 1))
