-- How many repair packets a loss asks for.
use Rattle.std.specs.Prelude.{◌≡◌, ℕ, ◌+◌, ◌*◌, ◌-◌, ◌<◌, ◌≤◌, List, [], ◌∷◌, slice_index, nat_lt, if◌then◌else◌, Bool, true, false}

-- all cells, in hundred-thousandths
abbrev pub whole : ℕ
whole = 100000

-- ---- below 100 source symbols

-- the column of the next greater loss: of 1, 5, 10, 20, 30 or 50 percent
abbrev pub column_of : ℕ → ℕ
column_of parts =
    if nat_lt 1000 parts then (if nat_lt 5000 parts then (if nat_lt 10000 parts then (if nat_lt 20000 parts then (if nat_lt 30000 parts then 5 else 4)
    else 3) else 2) else 1) else 0

-- the row of the next greater number of source symbols: of 1, 10 or 100
abbrev pub table_row : ℕ → List ℕ
table_row symbols =
    if nat_lt symbols 2 then (5 ∷ 7 ∷ 9 ∷ 13 ∷ 17 ∷ 28 ∷ [])
    else (if nat_lt symbols 11 then (6 ∷ 10 ∷ 13 ∷ 19 ∷ 27 ∷ 49 ∷ []) else (11 ∷ 22 ∷ 34 ∷ 60 ∷ 90 ∷ 183 ∷ []))

-- ---- from 100 on

-- So many packets aren't below (K p + 5 + 5 s) / (1 - p), where s is the root of K p. Both sides of packets * (1 - p) = K p + 5 + rest are taken a
-- hundred thousand times, and the rest isn't below 5 s.
pub record IsEnough (symbols parts packets : ℕ) : Type 0 where
  pub rest : ℕ
  pub cut : packets * (whole - parts) ≡ symbols * parts + 5 * whole + rest
  pub root : 25 * (symbols * parts) * whole ≤ rest * rest

-- They are the fewest.
pub record IsLeastEnough (symbols parts packets : ℕ) : Type 0 where
  pub enough : IsEnough symbols parts packets
  pub fewest : (fewer : ℕ) → fewer < packets → IsEnough symbols parts fewer → ⊥

-- by the table, or by the formula
abbrev pub IsLossRepairWhere : Bool → ℕ → ℕ → ℕ → Type 0
IsLossRepairWhere true symbols parts packets = packets ≡ slice_index (table_row symbols) (column_of parts)
IsLossRepairWhere false symbols parts packets = IsLeastEnough symbols parts packets

abbrev pub IsLossRepair : ℕ → ℕ → ℕ → Type 0
IsLossRepair symbols parts packets = IsLossRepairWhere (nat_lt symbols 100) symbols parts packets
