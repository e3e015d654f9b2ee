-- Rows or columns in an order.
use Rattle.std.specs.Prelude.{◌≡◌, ℕ, ◌<◌, List, length, refl}
use Rattle.std.specs.Coded.{Coded, code_by, coded×, coded_list}
use Rattle.rq_algebra.specs.Systems.{at}

-- what stands at each place of an order, and the place of each
pub record Placed (N : Type 0) : Type 0 where
  pub order : List N
  pub places : List N

-- it is stored as the pair of its lists
abbrev pub placed_code : {N : Type 0} → Coded N → Coded (Placed N)
placed_code {N} code =
    code_by (List N × List N) (coded× (coded_list code) (coded_list code)) (λ o. (o.order, o.places)) (λ p. record { order = p.0; places = p.1 }) (λ _. refl)

abbrev pub Order : Type 0
Order = Placed ℕ

-- the numbers below `count` in an order, and the place of each number in it
pub record IsOrderOf (count : ℕ) (order places : List ℕ) : Type 0 where
  pub order_count : length order ≡ count
  pub place_count : length places ≡ count
  pub ordered : (j : ℕ) → j < count → (at order j < count) × (at places (at order j) ≡ j)
  pub placed : (k : ℕ) → k < count → (at places k < count) × (at order (at places k) ≡ k)

-- an order of as many of the first numbers as it has places
abbrev pub IsPlacedOrder : Order → Type 0
IsPlacedOrder o = IsOrderOf (length o.order) o.order o.places
