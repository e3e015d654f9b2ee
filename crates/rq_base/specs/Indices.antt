-- What is left of a walk over the indices of a tuple.
use Rattle.std.specs.Prelude.{ℕ, zero, suc, ◌+◌, ◌%◌, ◌<◌, ◌≤◌, ◌*◌, List, [], ◌∷◌, ◌++◌, map, if◌then◌else◌, nat_lt}
use Rattle.rq_base.specs.declared.indices.Indices.TheInside.{Inside}

-- x, x + step, .. modulo m, n of them
unfoldable pub walk : (m step x n : ℕ) → List ℕ
walk m step x zero = []
walk m step x (suc n) = x ∷ walk m step ((x + step) % m) n

-- the first value of that walk that is below p, within `more` steps
unfoldable pub next_below : (p m step more x : ℕ) → ℕ
next_below p m step zero x = x
next_below p m step (suc more) x = if nat_lt x p then x else next_below p m step more ((x + step) % m)

-- the first n values of that walk that are below p
unfoldable pub walk_below : (p m step x n : ℕ) → List ℕ
walk_below p m step x zero = []
walk_below p m step x (suc n) = next_below p m step m x ∷ walk_below p m step ((next_below p m step m x + step) % m) n

-- the indices that are left: those of LT symbols, and then those of PI symbols
abbrev pub indices_left : Inside → List ℕ
indices_left s =
    walk s.lt_symbols s.lt_step s.lt_value s.lt_left
    ++ map (λ value. s.lt_symbols + value) (walk_below s.pi_symbols s.p1 s.pi_step s.pi_value s.pi_left)

-- steps and values are below their moduli, and P1 is at most twice P
pub record IsWalk (s : Inside) : Type 0 where
  pub lt_step_below : s.lt_step < s.lt_symbols
  pub lt_below : s.lt_value < s.lt_symbols
  pub some_pi : 3 ≤ s.pi_symbols
  pub p1_above : s.pi_symbols ≤ s.p1
  pub p1_near : s.p1 ≤ 2 * s.pi_symbols
  pub some_step : 1 ≤ s.pi_step
  pub pi_step_below : s.pi_step < s.p1
  pub pi_below : s.pi_value < s.p1
