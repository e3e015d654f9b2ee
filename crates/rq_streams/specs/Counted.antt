-- What a clause reads of a counted reader or writer, and what a call does to its count.
use Rattle.std.specs.Prelude.{◌≡◌, ℕ, zero, suc, ◌+◌, ◌-◌, ◌^◌, min, List, [], ◌∷◌, Result, Ok, Err}
use Rattle.rq_streams.specs.declared.counted.Counted.{Counted}

-- how many calls failed
abbrev pub failed_count : {T : Type 0} → Counted T → ℕ
failed_count c = c.failed

-- what it wraps
abbrev pub inner : {T : Type 0} → Counted T → T
inner c = c.inner

-- one more, up to the greatest u64
abbrev pub one_more : ℕ → ℕ
one_more n = min (n + 1) (2 ^ 64 - 1)

-- a write counts where it failed, and where it took none of some bytes
abbrev pub CountsWrite : {E : Type 0} → ℕ → ℕ → Result ℕ E → List ℕ → Type 0
CountsWrite old new (Err e) bytes = new ≡ one_more old
CountsWrite old new (Ok (suc n)) bytes = new ≡ old
CountsWrite old new (Ok zero) [] = new ≡ old
CountsWrite old new (Ok zero) (b ∷ bytes) = new ≡ one_more old
