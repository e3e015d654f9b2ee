-- What is read until the first wanted cell is whole.
use Rattle.std.specs.Prelude.{◌≡◌, ℕ, ◌-◌, ◌^◌, min, List, length}
use Rattle.rq_cells.specs.Wanted.{Wish, NoneBefore, damaged_before, unwanted_before}
use Rattle.rq_cast.specs.declared.seen.Seen.{Seen}

-- as far as a u64 counts
abbrev pub counted : ℕ → ℕ
counted n = min n (2 ^ 64 - 1)

-- What was seen at the first n places, as long as no wanted cell is whole: wanted heads whose cell isn't, and heads that aren't wanted.
pub record SeesBefore (w : Wish) (bytes : List ℕ) (n : ℕ) (seen : Seen) : Type 0 where
  pub no_cells : seen.cells ≡ 0
  pub no_restarts : seen.restarted ≡ 0
  pub none_ahead : seen.ahead ≡ 0
  pub none_behind : seen.behind ≡ 0
  pub damaged : seen.damaged ≡ counted (damaged_before w bytes n)
  pub others : seen.others ≡ counted (unwanted_before w bytes n)

-- No wanted cell is whole in these bytes, in all of which this was seen.
pub record SeesNoWanted (w : Wish) (bytes : List ℕ) (seen : Seen) : Type 0 where
  pub none : NoneBefore w bytes (length bytes)
  pub seen_there : SeesBefore w bytes (length bytes) seen
