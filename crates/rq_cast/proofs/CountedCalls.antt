-- Counts of failed calls.
use Rattle.std.proofs.Common.{◌≡◌, ℕ, zero, suc, ◌+◌, ◌-◌, ◌^◌, ◌<◌, ◌≤◌, true, List, [], ◌∷◌, Result, Ok, Err, sym, subst, arith}
use Rattle.std.specs.declared.io.Error.{Error}
use Rattle.std.proofs.Math.Nat.{le-min}
use Rattle.rq_streams.specs.Counted.{one_more, CountsWrite}
use Rattle.rq_cast.specs.Losing.{is_lost}

one_more_grows : (old : ℕ) → old ≤ 2 ^ 64 - 1 → old ≤ one_more old
one_more_grows old fits = le-min (omega arith) fits

-- A write makes the count no less.
pub write_grows : {E : Type 0} (old new : ℕ) (r : Result ℕ E) (bytes : List ℕ) → old ≤ 2 ^ 64 - 1 → CountsWrite old new r bytes → old ≤ new
write_grows old new (Err e) bytes fits more = subst (λ n. old ≤ n) (sym more) (one_more_grows old fits)
write_grows old new (Ok (suc n)) bytes fits same = omega (arith, same)
write_grows old new (Ok zero) [] fits same = omega (arith, same)
write_grows old new (Ok zero) (b ∷ bytes) fits more = subst (λ n. old ≤ n) (sym more) (one_more_grows old fits)

-- One that loses its cell makes it greater.
pub lost_counts : (old new : ℕ) (r : Result ℕ Error) (bytes : List ℕ) → old < 2 ^ 64 - 1 → CountsWrite old new r bytes → is_lost r ≡ true → old + 1 ≤ new
lost_counts old new (Ok n) bytes few counts is = absurd (cc is)
lost_counts old new (Err e) bytes few counts is = subst (λ n. old + 1 ≤ n) (sym counts) (le-min (omega arith) (omega (arith, few)))
