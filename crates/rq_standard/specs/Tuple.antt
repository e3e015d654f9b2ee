-- The degree, the tuple and the indices of an internal symbol id (RFC 6330, sections 5.3.5.2 to 5.3.5.4).
use Rattle.std.specs.Prelude.{ℕ, ◌+◌, ◌-◌, ◌*◌, ◌%◌, ◌^◌, ◌<◌, ◌≤◌, min, ◌++◌, if◌then◌else◌, ◌==◌, nat_lt, List, [], ◌∷◌, map, filter, take, slice_index}
use Rattle.std.specs.List.{range_with_len}
use Rattle.rq_standard.specs.declared.degrees.TheConstants.{DEGREE_STARTS}
use Rattle.rq_standard.specs.Rand.{rand}

-- the index of the first number of a list that is above v, or its length
abbrev pub first_above : ℕ → List ℕ → ℕ
first_above v [] = 0
first_above v (start ∷ starts) = if nat_lt v start then 0 else 1 + first_above v starts

-- Deg[v] for v below 2^20: the d for which v lies from entry d-1 of the list on and below entry d, and at most W-2
unfoldable pub degree : ℕ → ℕ → ℕ
degree v w = min (first_above v DEGREE_STARTS) (w - 2)

-- v lies from entry d-1 of the list on, and below entry d
pub record IsBetween (v d : ℕ) : Type 0 where
  pub one : 1 ≤ d
  pub last : d ≤ 30
  pub from : slice_index DEGREE_STARTS (d - 1) ≤ v
  pub below : v < slice_index DEGREE_STARTS d

-- (d, a, b, d1, a1, b1)
abbrev pub Tuple : Type 0
Tuple = ℕ × ℕ × ℕ × ℕ × ℕ × ℕ

-- A, which is odd, of the systematic index J
abbrev pub multiplier_of : ℕ → ℕ
multiplier_of j = 53591 + 997 * j + (if (53591 + 997 * j) % 2 == 0 then 1 else 0)

-- y of internal symbol id x
abbrev pub seed_of : ℕ → ℕ → ℕ
seed_of j x = (10267 * (j + 1) + x * multiplier_of j) % 2 ^ 32

-- Tuple[K', x], over a row with these W, J and P1
unfoldable pub tuple_of : (w j p1 x : ℕ) → Tuple
tuple_of w j p1 x =
    let y = seed_of j x in
    let d = degree (rand y 0 (2 ^ 20)) w in
    (d, 1 + rand y 1 (w - 1), rand y 2 w, 2 + (if nat_lt d 4 then rand x 3 2 else 0), 1 + rand x 4 (p1 - 1), rand x 5 p1)

-- the ranges of its numbers
pub record IsTuple (w p1 : ℕ) (t : Tuple) : Type 0 where
  pub some : 1 ≤ t.0
  pub few : t.0 ≤ 30
  pub step : 1 ≤ t.1
  pub step_below : t.1 < w
  pub start_below : t.2 < w
  pub two : 2 ≤ t.3
  pub three : t.3 ≤ 3
  pub pi_step : 1 ≤ t.4
  pub pi_step_below : t.4 < p1
  pub pi_start_below : t.5 < p1

-- a tuple over W LT and P PI symbols, where P1 isn't below P nor over twice as much
pub record IsTupleOver (w p p1 : ℕ) (t : Tuple) : Type 0 where
  pub ranges : IsTuple w p1 t
  pub some_pi : 3 ≤ p
  pub p1_above : p ≤ p1
  pub p1_near : p1 ≤ 2 * p

-- the indices of a tuple among the LT symbols: (b + a*j) mod W for j below d
abbrev pub lt_indices : ℕ → Tuple → List ℕ
lt_indices w t = map (λ j. (t.2 + t.1 * j) % w) (range_with_len 0 t.0)

-- the values (b1 + a1*j) mod P1 for j below n
abbrev pub pi_values : ℕ → ℕ → Tuple → List ℕ
pi_values n p1 t = map (λ j. (t.5 + t.4 * j) % p1) (range_with_len 0 n)

-- The indices of a tuple among the PI symbols: W plus the first d1 of the values that are below P. Of each P1 values that follow one another one is
-- below P, so that these are enough.
abbrev pub pi_indices : ℕ → ℕ → ℕ → Tuple → List ℕ
pi_indices w p p1 t = map (λ value. w + value) (take t.3 (filter (λ value. nat_lt value p) (pi_values (t.3 * p1) p1 t)))

-- the indices of a tuple in their order, each as often as it occurs
unfoldable pub enc_indices : ℕ → ℕ → ℕ → Tuple → List ℕ
enc_indices w p p1 t = lt_indices w t ++ pi_indices w p p1 t
