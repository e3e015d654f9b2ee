-- The numbers that calls answer, and what they say of a buffer.
use Rattle.std.specs.Prelude.{◌≡◌, ◌≢◌, ◌⊎◌, ℕ, Result, Ok, Err}
use Rattle.rq_bytes.specs.declared.error.Error.{Error}
use Rattle.rq_bytes.specs.Error.{code_of}
use Rattle.raptorq_c.specs.declared.call_end.CallEnd.{CallEnd}
use Rattle.raptorq_c.specs.declared.call_end.CallEnd.TheVariants.{Refused, WrongBuffer, Incomplete}

-- 0 where a call is done, the number of what the codec refuses, or one of the library for C
abbrev pub number_of : {Y : Type 0} → Result Y CallEnd → ℕ
number_of (Ok y) = 0
number_of (Err (Refused e)) = code_of e
number_of (Err WrongBuffer) = 24
number_of (Err Incomplete) = 25

-- 0 where nothing is refused, else the refusal's number
abbrev pub refusal_number : {Y : Type 0} → Result Y Error → ℕ
refusal_number (Ok y) = 0
refusal_number (Err e) = code_of e

-- that number, or 21, that of want of memory
abbrev pub IsNumber : {Y : Type 0} → ℕ → Result Y Error → Type 0
IsNumber number wanted = (number ≡ refusal_number wanted) ⊎ (number ≡ 21)

-- the number of a refusal of which P
pub record IsCodeWhere (P : Error → Type 0) (number : ℕ) : Type 0 where
  pub error : Error
  pub holds : P error
  pub number_is : number ≡ code_of error

-- what is wanted, as a buffer shows it, which isn't refused
pub record IsWritten {Y B : Type 0} (shown : Y → B) (wanted : Result Y Error) (buffer : B) : Type 0 where
  pub value : Y
  pub answered : wanted ≡ Ok value
  pub spelled : buffer ≡ shown value

-- What a call answers and does to a buffer: it shows what is wanted (0), or is as it was.
pub record Fills {Y B : Type 0} (shown : Y → B) (wanted : Result Y Error) (answer : ℕ) (before after : B) : Type 0 where
  pub number : IsNumber answer wanted
  pub written : answer ≡ 0 → IsWritten shown wanted after
  pub kept : answer ≢ 0 → after ≡ before
