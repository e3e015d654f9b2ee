-- Functions of a place, changed at one place.
use Rattle.std.specs.Prelude.{ℕ, ◌==◌, if◌then◌else◌}

-- f, but x at n
unfoldable pub with_at : {X : Type 0} → (ℕ → X) → ℕ → X → ℕ → X
with_at f n x k = if k == n then x else f k
