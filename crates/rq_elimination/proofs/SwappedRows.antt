-- Rows of which two were exchanged in their list.
use Rattle.std.proofs.Common.{◌≡◌, ℕ, ◌<◌, List, length, refl, inl, inr}
use Rattle.std.specs.List.{SwappedAt}
use Rattle.std.proofs.lemmas.Bool.{cases_eq}
use Rattle.rq_algebra.specs.Arrangements.{exchange}
use Rattle.rq_algebra.specs.Systems.{at}
use Rattle.rq_algebra.proofs.Places.{exchange_left, exchange_right, exchange_other, exchange_are, same_places, places_of_places}
use Rattle.rq_parts.specs.DenseOctetMatrix.{OctetTable}
use Rattle.rq_elimination.specs.RowSteps.{AreRows}

-- two places of a list were exchanged
pub record Exchanges (rows swapped : List ℕ) (p q : ℕ) : Type 0 where
  pub by_index : SwappedAt rows swapped p q
  pub len : length swapped ≡ length rows
  pub left : p < length rows
  pub right : q < length rows

module _ {rows swapped : List ℕ} {p q : ℕ} (exchanges : Exchanges rows swapped p q) where
  pub at-swapped : (i : ℕ) → at swapped i ≡ at rows (exchange p q i)
  at-swapped i = elim (cases_eq i p) [
    | inl e ↦ rw (e, exchange_left p q p refl) (exchanges.by_index.0 0)
    | inr d ↦ elim (cases_eq i q) [ inl e ↦ rw (e, exchange_right p q q refl) (exchanges.by_index.1 0) | inr f ↦ rw (exchange_other p q i d f) (exchanges.by_index.2 i 0 d f) ]
  ]

  pub swapped_rows : (table : OctetTable) → AreRows rows table → AreRows swapped table
  swapped_rows table are =
      rw exchanges.len (same_places (length rows) (length table.rows) (λ i. at rows (exchange p q i)) (at swapped) (λ i l. at-swapped i)
      (places_of_places (length rows) (length rows) (length table.rows) (at rows) (exchange p q) are (exchange_are p q (length rows) exchanges.left exchanges.right)))
