-- What multiplies, in one of several ways.
use Rattle.std.specs.Prelude.{ℕ}
use Rattle.rq_bytes.specs.declared.lane_multiples.Multiplier.{Multiplier}
use Rattle.rq_bytes.specs.declared.lane_multiples.Multiplier.TheVariants.{Double, LookUp, Planes}

-- the octet that it multiplies by
abbrev pub octet_of : Multiplier → ℕ
octet_of Double = 2
octet_of (LookUp products) = products.octet
octet_of (Planes octet) = octet
