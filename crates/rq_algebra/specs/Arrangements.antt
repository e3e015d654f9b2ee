-- Places in other orders, and equations that stand among others.
use Rattle.std.specs.Prelude.{◌≡◌, ◌≢◌, ℕ, suc, ◌<◌, cond, ◌==◌, Contains, List}

-- each of the first n places is below the bound, and no two of them are the same
pub record ArePlaces (n bound : ℕ) (places : ℕ → ℕ) : Type 0 where
  pub below : (i : ℕ) → i < n → places i < bound
  pub apart : (i j : ℕ) → i < n → j < n → places i ≡ places j → i ≡ j

-- the place that an exchange of p and q reads
unfoldable pub exchange : ℕ → ℕ → ℕ → ℕ
exchange p q i = cond (i == p) q (cond (i == q) p i)

-- on n + 1 chosen columns all rows are zero but n chosen ones
pub record IsFewOn (height width n : ℕ) (a : ℕ → ℕ → ℕ) (rows columns : ℕ → ℕ) : Type 0 where
  pub rows_below : (p : ℕ) → p < n → rows p < height
  pub columns_are : ArePlaces (suc n) width columns
  pub zeros : (i : ℕ) → i < height → ((p : ℕ) → p < n → rows p ≢ i) → (j : ℕ) → j < suc n → a i (columns j) ≡ 0

-- each row of the old system stands somewhere in the new one
abbrev pub RowsStandIn : ℕ → ℕ → (ℕ → ℕ → ℕ) → ℕ → (ℕ → ℕ → ℕ) → Type 0
RowsStandIn width old_height old new_height new = (i : ℕ) → i < old_height → (j : ℕ) × (j < new_height) × ((k : ℕ) → k < width → new j k ≡ old i k)

-- each equation of the old system, a row with its value, stands somewhere in the new one
abbrev pub EquationsStandIn : ℕ → ℕ → (ℕ → ℕ → ℕ) → (ℕ → ℕ) → ℕ → (ℕ → ℕ → ℕ) → (ℕ → ℕ) → Type 0
EquationsStandIn width old_height old v new_height new w =
    (i : ℕ) → i < old_height → (j : ℕ) × (j < new_height) × ((k : ℕ) → k < width → new j k ≡ old i k) × (w j ≡ v i)

-- each id of the old list is in the new one, in whatever order and however often
abbrev pub IdsStandIn : List ℕ → List ℕ → Type 0
IdsStandIn old new = (id : ℕ) → Contains old id → Contains new id
