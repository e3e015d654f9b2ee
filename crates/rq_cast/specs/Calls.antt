-- The calls that begin cells.
use Rattle.std.specs.Prelude.{◌≡◌, ⊤, ℕ, ◌+◌, Bool, List, [], ◌∷◌, ◌++◌, Option, Some, None, if◌then◌else◌}

-- a call that begins a cell: the bytes that it is to write, and whether it loses them
pub record Call : Type 0 where
  pub bytes : List ℕ
  pub is_lost : Bool

-- that call alone
abbrev pub one_call : List ℕ → Bool → List Call
one_call bytes is_lost = record { bytes = bytes; is_lost = is_lost } ∷ []

-- what stands behind it of its cell: nothing where it is lost
abbrev pub kept_of : Call → List ℕ
kept_of call = if call.is_lost then [] else call.bytes

-- how many of some calls lost their cell
abbrev pub lost_by : Call → ℕ
lost_by call = if call.is_lost then 1 else 0

abbrev pub lost_in : List Call → ℕ
lost_in [] = 0
lost_in (call ∷ calls) = lost_by call + lost_in calls

-- Where it is known which calls are told, these more are.
abbrev pub Tells : Option (List Call) → Option (List Call) → List Call → Type 0
Tells None told' calls = ⊤
Tells (Some told) told' calls = told' ≡ Some (told ++ calls)
